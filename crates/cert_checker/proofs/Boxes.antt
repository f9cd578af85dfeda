-- Boxes that grow, and what is not in them.
use Rattle.std.proofs.Common.{◌≡◌, ◌+◌, ◌<◌, ℕ, List, [], ◌∷◌, length, get_or, take, subst, arith}
use Rattle.std.specs.Prelude.{All}
use Rattle.std.proofs.lemmas.List.Elements.{All-cons, All-head, All-more, All-nil, All-tail, All-weaker}
use Rattle.grid_exact.specs.Geometry.{Place}
use Rattle.grid_exact.proofs.WholeLaws.{sums}
use Rattle.cert_checker.specs.Runs.{IsInBox, IsLowerLeft}

pub then_lower_left : (a b c : Place) → IsLowerLeft a b → IsLowerLeft b c → IsLowerLeft a c
then_lower_left a b c h k =
    let x = h.across in let y = h.up in let x' = k.across in let y' = k.up in
    record { across = omega (arith, sums); up = omega (arith, sums) }

pub lower_left_itself : (a : Place) → IsLowerLeft a a
lower_left_itself a = record { across = omega (arith, sums); up = omega (arith, sums) }

-- where a box has room for the corners of another, it has room for all that this one has
pub box_grown : (low high low' high' : Place) → IsInBox low' high' low → IsInBox low' high' high → (q : Place) → IsInBox low high q
    → IsInBox low' high' q
box_grown low high low' high' first second q h = record {
  from_low = then_lower_left low' low q first.from_low h.from_low;
  to_high =
      then_lower_left q high high' h.to_high second.to_high;
}

pub box_more : (low high low' high' v : Place) (ps : List Place) (i : ℕ) (p : Place) → i < length ps → p ≡ get_or ps i p
    → IsInBox low' high' low → IsInBox low' high' high → IsInBox low' high' p → All (IsInBox low high) (v ∷ take i ps)
    → All (IsInBox low' high') (v ∷ take (i + 1) ps)
box_more low high low' high' v ps i p within read first second here all =
    let grown = All-weaker (IsInBox low high) (IsInBox low' high') (box_grown low high low' high' first second) (v ∷ take i ps) all in
    All-cons (IsInBox low' high') v (take (i + 1) ps) (All-head (IsInBox low' high') v (take i ps) grown)
    (All-more (IsInBox low' high') ps i p within (All-tail (IsInBox low' high') v (take i ps) grown) (subst (IsInBox low' high') read here))

pub box_start : (v : Place) (ps : List Place) → All (IsInBox v v) (v ∷ take 0 ps)
box_start v ps = All-cons (IsInBox v v) v [] (record { from_low = lower_left_itself v; to_high = lower_left_itself v })
    (All-nil (IsInBox v v))
