-- What boxes and ends of lists of positions tell about the edges that are crossed from a place.
use Rattle.std.proofs.Common.{◌≡◌, ◌∙◌, ℕ, ◌-◌, ◌^◌, ◌<◌, ◌≤◌, true, false, List, All, length, get_or, sym, ap, arith, inl, inr}
use Rattle.std.specs.Prelude.{ℤ, pos, negsuc, ◌+ℤ◌, ◌<ℤ◌, int_lt, nat_lt, nat_le, ◌&&◌}
use Rattle.std.proofs.lemmas.Bool.{and_from, cases_Bool, cases_lt, le-leb, true≢false}
use Rattle.std.proofs.lemmas.Int.{ints}
use Rattle.std.proofs.lemmas.List.Elements.{All-get_or, All-weaker}
use Rattle.grid_exact.specs.Geometry.{Place, IsOnGrid, IsGridNumber}
use Rattle.grid_exact.specs.Walks.{differ}
use Rattle.grid_exact.proofs.Orders.{lt_no, lt_yes}
use Rattle.grid_exact.proofs.Signs.{at_most_or_above}
use Rattle.arc_map.specs.Arcs.{is_list_crossed_oddly}
use Rattle.arc_map.specs.Arranged.{nowhere}
use Rattle.sweep_index.specs.Offsets.{offset_of}
use Rattle.sweep_index.proofs.Orders.{offset_rises}
use Rattle.face_parity.specs.Bounds.{IsEndsOf, IsIn, IsOffsetOf, IsRound, do_part, does_reach}
use Rattle.face_parity.specs.declared.bounds.Bounds.{Bounds}
use Rattle.face_parity.specs.declared.bounds.Ends.{Ends}
use Rattle.face_parity.specs.declared.bounds.Offset.{Offset}
use Rattle.face_parity.proofs.Apart.{above-by-ends, below-is-even, left-is-even, right-is-even}

pub less-from-offsets : (a b : ℤ) → offset_of a < offset_of b → a <ℤ b
less-from-offsets a b less = elim (at_most_or_above b a) [
  | inl back ↦ let rises = offset_rises b a back in absurd (omega (arith, rises, less))
  | inr is ↦ is
]

pub offset-is : (z : ℤ) → IsGridNumber z → pos (offset_of z) ≡ z +ℤ pos (2 ^ 29)
offset-is (pos n) grid = omega (arith, ints)
offset-is (negsuc n) grid = let low = grid.low in omega (arith, ints)

offsets-strict : (a b : ℤ) → IsGridNumber a → IsGridNumber b → a <ℤ b → offset_of a < offset_of b
offsets-strict a b first second less =
    let p = offset-is a first in
    let q = offset-is b second in
    omega (arith, ints)

nat-lt-yes : (a b : ℕ) → a < b → nat_lt a b ≡ true
nat-lt-yes a b less = grind arith

nat-lt-no : (a b : ℕ) → b ≤ a → nat_lt a b ≡ false
nat-lt-no a b more = grind arith

-- the order of offsets is that of the coordinates
lt-offsets : (a b : ℤ) → IsGridNumber a → IsGridNumber b → int_lt a b ≡ nat_lt (offset_of a) (offset_of b)
lt-offsets a b first second = elim (at_most_or_above b a) [
  | inl back ↦ lt_no a b back ∙ sym (nat-lt-no (offset_of a) (offset_of b) (offset_rises b a back))
  | inr less ↦ lt_yes a b less ∙ sym (nat-lt-yes (offset_of a) (offset_of b) (offsets-strict a b first second less))
]

-- ---- boxes

module _ (p : Place) (at : Offset) (here : IsOffsetOf p at) where
  x-here : at.x ≡ offset_of p.x
  x-here = here.x

  y-here : at.y ≡ offset_of p.y
  y-here = here.y

  pub below-box : (ps : List Place) (b : Bounds) → IsRound ps b → b.north < at.y → is_list_crossed_oddly p ps ≡ false
  below-box ps b round less = below-is-even p ps (All-weaker (IsIn b) (λ q. q.y <ℤ p.y) (λ q in_box. let high = in_box.north in
      less-from-offsets q.y p.y (omega (arith, high, less, y-here))) ps round)

  pub left-box : (ps : List Place) (b : Bounds) → IsRound ps b → b.east < at.x → is_list_crossed_oddly p ps ≡ false
  left-box ps b round less = left-is-even p ps (All-weaker (IsIn b) (λ q. q.x <ℤ p.x) (λ q in_box. let high = in_box.east in
      less-from-offsets q.x p.x (omega (arith, high, less, x-here))) ps round)

  pub right-box : (ps : List Place) (b : Bounds) → IsRound ps b → at.x < b.west → is_list_crossed_oddly p ps ≡ false
  right-box ps b round less = right-is-even p ps (All-weaker (IsIn b) (λ q. p.x <ℤ q.x) (λ q in_box. let low = in_box.west in
      less-from-offsets p.x q.x (omega (arith, low, less, x-here))) ps round)

  pub above-ends : (ps : List Place) (south : ℕ) (e : Ends) → 0 < length ps → All (λ q. IsOnGrid q × (south ≤ offset_of q.y)) ps
      → at.y < south → IsEndsOf ps e → is_list_crossed_oddly p ps ≡ do_part e at.x
  above-ends ps south e some high less ends =
      let P : Place → Type 0 = λ q. IsOnGrid q × (south ≤ offset_of q.y) in
      let first = get_or ps 0 nowhere in
      let last = get_or ps (length ps - 1) nowhere in
      let first-grid = (All-get_or P ps 0 nowhere some high).0 in
      let last-grid = (All-get_or P ps (length ps - 1) nowhere (omega (arith, some)) high).0 in
      let left : int_lt first.x p.x ≡ nat_lt e.first at.x = lt-offsets first.x p.x first-grid.across here.on_grid.across
      ∙ ap (λ n. nat_lt n (offset_of p.x)) (sym ends.first) ∙ ap (nat_lt e.first) (sym here.x) in
      let right : int_lt last.x p.x ≡ nat_lt e.last at.x = lt-offsets last.x p.x last-grid.across here.on_grid.across
      ∙ ap (λ n. nat_lt n (offset_of p.x)) (sym ends.last) ∙ ap (nat_lt e.last) (sym here.x) in
      above-by-ends p nowhere ps some (All-weaker P (λ q. p.y <ℤ q.y) (λ q is. let low = is.1 in
      less-from-offsets p.y q.y (omega (arith, low, less, y-here))) ps high)
      ∙ ap (λ b. differ b (int_lt last.x p.x)) left
      ∙ ap (differ (nat_lt e.first at.x)) right

  pub above-box : (ps : List Place) (b : Bounds) (e : Ends) → 0 < length ps → IsRound ps b → at.y < b.south → IsEndsOf ps e
      → is_list_crossed_oddly p ps ≡ do_part e at.x
  above-box ps b e some round less ends = above-ends ps b.south e some
      (All-weaker (IsIn b) (λ q. IsOnGrid q × (b.south ≤ offset_of q.y)) (λ q in_box. (in_box.on_grid, in_box.south)) ps round) less ends

  reached : (b : Bounds) → b.west ≤ at.x → at.x ≤ b.east → at.y ≤ b.north → does_reach b at ≡ true
  reached b west east north = and_from (nat_le b.west at.x && nat_le at.x b.east) (nat_le at.y b.north)
      (and_from (nat_le b.west at.x) (nat_le at.x b.east) (le-leb b.west at.x west) (le-leb at.x b.east east)) (le-leb at.y b.north north)

  -- where an odd number is crossed, the box is not below and not beside the place
  pub odd-reaches : (ps : List Place) (b : Bounds) → IsRound ps b → is_list_crossed_oddly p ps ≡ true
      → (b.west ≤ at.x) × (at.x ≤ b.east) × (at.y ≤ b.north)
  odd-reaches ps b round odd =
      let west : b.west ≤ at.x = elim (cases_lt at.x b.west) [
        | inl less ↦ absurd (true≢false (sym odd ∙ right-box ps b round less))
        | inr is ↦ is
      ] in
      let east : at.x ≤ b.east = elim (cases_lt b.east at.x) [
        | inl less ↦ absurd (true≢false (sym odd ∙ left-box ps b round less))
        | inr is ↦ is
      ] in
      let north : at.y ≤ b.north = elim (cases_lt b.north at.y) [
        | inl less ↦ absurd (true≢false (sym odd ∙ below-box ps b round less))
        | inr is ↦ is
      ] in
      (west, east, north)

  pub unreached-is-even : (ps : List Place) (b : Bounds) → IsRound ps b → does_reach b at ≡ false → is_list_crossed_oddly p ps ≡ false
  unreached-is-even ps b round not = elim (cases_Bool (is_list_crossed_oddly p ps)) [
    | inl odd ↦ let all = odd-reaches ps b round odd in absurd (true≢false (sym (reached b all.0 all.1 all.2) ∙ not))
    | inr even ↦ even
  ]
