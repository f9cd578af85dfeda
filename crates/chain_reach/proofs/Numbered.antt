-- What is close to a walk is near an edge with a number, and in the grown box round the walk.
use mir.Val.{SFits}
use Rattle.std.proofs.Common.{Option, Some, IfSome, w64, to_z, of_z, ◌≡◌, ◌⊎◌, inl, inr, ℕ, suc, ◌+◌, ◌-◌, ◌*◌, ◌<◌, ◌≤◌, ◌↔◌, true}
use Rattle.std.proofs.Common.{IsTrue, List, [], ◌∷◌, length, get_or, take, drop, ℤ, pos, ◌+ℤ◌, ◌≤ℤ◌, refl, sym, ap, ◌∙◌, subst}
use Rattle.std.proofs.Common.{arith}
use Rattle.std.specs.Prelude.{All, false}
use Rattle.std.proofs.lemmas.Bool.{false≢true, cases_lt}
use Rattle.std.proofs.lemmas.Int.{ints, to_z-of_z}
use Rattle.std.proofs.lemmas.List.{get_or-drop, get_or-take, get_or_read, length-drop, length-take-le}
use Rattle.grid_exact.specs.Geometry.{Place, IsGridNumber}
use Rattle.grid_exact.specs.Runs.{IsEdgeOf}
use Rattle.grid_exact.proofs.WholeLaws.{fits, sums}
use Rattle.chain_side.specs.Along.{vertex_at}
use Rattle.chain_reach.specs.Reach.{IsInGrownBox, IsCloseBy, IsHeldBy}
use Rattle.chain_reach.specs.Steps.{AreStepsOf, IsInEdgeBox, IsInSomeEdgeBox, IsNearSegment, IsNearEdge, IsNearSomeEdge}
use Rattle.chain_reach.specs.Extents.{IsInBox, IsLowerLeft, IsWithinSteps}
use Rattle.chain_reach.specs.declared.steps.Steps.{Steps}
use Rattle.chain_reach.proofs.Passing.{by_in_box}
use Rattle.chain_reach.proofs.Pairs.{close_is_in_steps}

-- ---- answers of tests

pub says_no : {P : Type 0} → (P → ⊥) → IsTrue false ↔ P
says_no other = (λ t. absurd (false≢true t), λ p. absurd (other p))

pub says_yes : {P : Type 0} → P → IsTrue true ↔ P
says_yes p = (λ t. p, λ q. refl)

-- ---- steps

pub steps_of : (w b : ℤ) (d n q : ℕ) → w ≡ pos d → b ≡ pos n → d * q ≤ 2 * n → 2 * n < d * (q + 1) → AreStepsOf w b q
steps_of w b d n q e f low high = rw (e, f) (record { held = omega (arith, ints); most = omega (arith, ints) })

pub at_least_one : (w : ℤ) (d : ℕ) → w ≡ pos d → 0 < d → pos 1 ≤ℤ w
at_least_one w d e some = omega (arith, ints)

pub not_below_zero : (b : ℤ) (n : ℕ) → b ≡ pos n → pos 0 ≤ℤ b
not_below_zero b n e = omega (arith, ints)

-- ---- edges by number

-- an edge of a walk is between two vertices with numbers, one after the other
pub record EdgeNumber (v : Place) (ws : List Place) (a b : Place) : Type 0 where
  pub number : ℕ
  pub within : number + 1 < length (v ∷ ws)
  pub start : vertex_at (v ∷ ws) number ≡ a
  pub end : vertex_at (v ∷ ws) (number + 1) ≡ b

pub edge_number : (v : Place) (ws : List Place) (a b : Place) → IsEdgeOf v ws a b → EdgeNumber v ws a b
edge_number v [] a b h = absurd h
edge_number v (w ∷ ws) a b (inl h) = record { number = 0; within = omega arith; start = h.0; end = h.1 }
edge_number v (w ∷ ws) a b (inr h) =
    let k = edge_number w ws a b h in
    let next : suc k.number + 1 ≡ suc (k.number + 1) = omega arith in
    record {
      number = suc k.number;
      within = omega (arith, k.within);
      start = k.start;
      end = ap (vertex_at (v ∷ w ∷ ws)) next ∙ k.end;
    }

-- what is close to a walk is near some edge of it, in steps
pub near_some_edge : (wx wy e : ℤ) (steps : Steps) (p v : Place) (ws : List Place) → pos 1 ≤ℤ wx → pos 1 ≤ℤ wy
    → AreStepsOf wx e steps.across → AreStepsOf wy e steps.up → IsCloseBy wx wy e p v ws → IsNearSomeEdge steps (v ∷ ws) p
near_some_edge wx wy e steps p v ws one_x one_y across up close =
    let h = close_is_in_steps wx wy e (pos steps.across) (pos steps.up) p v ws one_x one_y across.most up.most close in
    let k = edge_number v ws h.start h.end h.edge in
    let end : IsNearSegment steps h.start (vertex_at (v ∷ ws) (k.number + 1)) p
    = subst (λ (b : Place). IsNearSegment steps h.start b p) (sym k.end) h.by in
    record {
      edge = k.number;
      within = k.within;
      near = subst (λ (a : Place). IsNearSegment steps a (vertex_at (v ∷ ws) (k.number + 1)) p) (sym k.start) end;
    }

-- what is near an edge is in its box
pub near_in_box : (steps : Steps) (walk : List Place) (p : Place) (edge : ℕ) → IsNearEdge steps walk p edge → IsInEdgeBox steps walk p edge
near_in_box steps walk p edge near =
    by_in_box (pos steps.across) (pos steps.up) p (vertex_at walk edge) (vertex_at walk (edge + 1)) near

pub near_in_some_box : (steps : Steps) (walk : List Place) (p : Place) → IsNearSomeEdge steps walk p → IsInSomeEdgeBox steps walk p
near_in_some_box steps walk p h = record { edge = h.edge; within = h.within; box = near_in_box steps walk p h.edge h.near }

-- ---- the edge that is looked at, by the place of its end

pub box_here : (steps : Steps) (walk : List Place) (p a b : Place) (end edge : ℕ) → edge + 1 ≡ end → end < length walk
    → a ≡ get_or walk (end - 1) a → b ≡ get_or walk end b → IsInGrownBox (pos steps.across) (pos steps.up) p a b
    ↔ IsInEdgeBox steps walk p edge
box_here steps walk p a b end edge next within first second =
    let before : end - 1 ≡ edge = omega arith in
    let e : a ≡ vertex_at walk edge = get_or_read walk (end - 1) a (omega arith) first _ ∙ ap (vertex_at walk) before in
    let f : b ≡ vertex_at walk (edge + 1) = get_or_read walk end b within second _ ∙ ap (vertex_at walk) (sym next) in
    let Box : Place → Place → Type 0 = λ x y. IsInGrownBox (pos steps.across) (pos steps.up) p x y in (
      λ h. subst (λ (x : Place). Box x (vertex_at walk (edge + 1))) e (subst (λ (y : Place). Box a y) f h),
      λ h. subst (λ (y : Place). Box a y) (sym f) (subst (λ (x : Place). Box x (vertex_at walk (edge + 1))) (sym e) h),
    )

-- p is in the box of no edge that ends before this one
abbrev pub IsInNoBox : Steps → List Place → Place → ℕ → Type 0
IsInNoBox steps walk p end = (edge : ℕ) → edge + 1 < end → ¬ (IsInEdgeBox steps walk p edge)

pub no_box_more : (steps : Steps) (walk : List Place) (p a b : Place) (end : ℕ) → 0 < end → end < length walk
    → a ≡ get_or walk (end - 1) a → b ≡ get_or walk end b → ¬ (IsInGrownBox (pos steps.across) (pos steps.up) p a b)
    → IsInNoBox steps walk p end → IsInNoBox steps walk p (end + 1)
no_box_more steps walk p a b end some within first second out none edge below box =
    elim (cases_lt (edge + 1) end) [
      | inl less ↦ none edge less box
      | inr more ↦
          let next : edge + 1 ≡ end = omega arith in
          out ((box_here steps walk p a b end edge next within first second).1 box)
    ]

pub box_found : (steps : Steps) (walk : List Place) (p a b : Place) (end : ℕ) → 0 < end → end < length walk
    → a ≡ get_or walk (end - 1) a → b ≡ get_or walk end b → IsInGrownBox (pos steps.across) (pos steps.up) p a b
    → IsInSomeEdgeBox steps walk p
box_found steps walk p a b end some within first second box =
    let next : end - 1 + 1 ≡ end = omega arith in
    record { edge = end - 1; within = omega arith; box = (box_here steps walk p a b end (end - 1) next within first second).0 box }

-- ---- boxes

low_held : (l a b z r : ℤ) → l ≤ℤ a → l ≤ℤ b → (a ≤ℤ (z +ℤ r)) ⊎ (b ≤ℤ (z +ℤ r)) → l ≤ℤ (z +ℤ r)
low_held l a b z r h k (inl e) = omega (arith, sums)
low_held l a b z r h k (inr e) = omega (arith, sums)

high_held : (u a b z r : ℤ) → a ≤ℤ u → b ≤ℤ u → (z ≤ℤ (a +ℤ r)) ⊎ (z ≤ℤ (b +ℤ r)) → z ≤ℤ (u +ℤ r)
high_held u a b z r h k (inl e) = omega (arith, sums)
high_held u a b z r h k (inr e) = omega (arith, sums)

held_by_box : (r s : ℤ) (low high p a b : Place) → IsInBox low high a → IsInBox low high b → IsInGrownBox r s p a b
    → IsHeldBy r s (record { low = low; high = high }) p
held_by_box r s low high p a b h k near =
    record {
      left = low_held low.x a.x b.x p.x r h.from_low.across k.from_low.across near.left;
      right = high_held high.x a.x b.x p.x r h.to_high.across k.to_high.across near.right;
      bottom = low_held low.y a.y b.y p.y s h.from_low.up k.from_low.up near.bottom;
      top = high_held high.y a.y b.y p.y s h.to_high.up k.to_high.up near.top;
    }

-- what is near some edge of a walk is in the grown box round the walk
pub near_within : (steps : Steps) (low high p : Place) (walk : List Place) → All (IsInBox low high) walk → IsNearSomeEdge steps walk p
    → IsWithinSteps steps low high p
near_within steps low high p walk all h =
    let none : Place = record { x = pos 0; y = pos 0 } in
    let within = h.within in
    held_by_box (pos steps.across) (pos steps.up) low high p (vertex_at walk h.edge) (vertex_at walk (h.edge + 1))
    (all h.edge (record { x = pos 0; y = pos 0 }) (omega arith)) (all (h.edge + 1) (record { x = pos 0; y = pos 0 }) within)
    (near_in_box steps walk p h.edge h.near)

-- ---- a part of a walk

part_vertex : (walk : List Place) (start end t : ℕ) → start + t ≤ end
    → vertex_at (take (end + 1 - start) (drop start walk)) t ≡ vertex_at walk (start + t)
part_vertex walk start end t within =
    get_or-take (end + 1 - start) (drop start walk) t (record { x = pos 0; y = pos 0 }) (omega arith)
    ∙ get_or-drop start walk t (record { x = pos 0; y = pos 0 })

pub length-part : (walk : List Place) (start end : ℕ) → end < length walk
    → length (take (end + 1 - start) (drop start walk)) ≡ end + 1 - start
length-part walk start end within = length-take-le (end + 1 - start) (drop start walk) (omega (arith, length-drop start walk))

-- what is near an edge of the part is near an edge with a number there
pub near_in_part : (steps : Steps) (walk : List Place) (p : Place) (start end edge : ℕ) → end < length walk → start ≤ edge → edge < end
    → IsNearEdge steps walk p edge → IsNearSomeEdge steps (take (end + 1 - start) (drop start walk)) p
near_in_part steps walk p start end edge within low high near =
    let part = take (end + 1 - start) (drop start walk) in
    let size = length-part walk start end within in
    let here : start + (edge - start) ≡ edge = omega arith in
    let next : start + (edge - start + 1) ≡ edge + 1 = omega arith in
    let first : vertex_at (take (end + 1 - start) (drop start walk)) (edge - start) ≡ vertex_at walk edge =
    part_vertex walk start end (edge - start) (omega arith) ∙ ap (vertex_at walk) here in
    let second : vertex_at (take (end + 1 - start) (drop start walk)) (edge - start + 1) ≡ vertex_at walk (edge + 1) =
    part_vertex walk start end (edge - start + 1) (omega arith) ∙ ap (vertex_at walk) next in
    let Near : Place → Place → Type 0 = λ a b. IsNearSegment steps a b p in
    record {
      edge = edge - start;
      within = omega (arith, size);
      near = subst (λ (a : Place). Near a (vertex_at (take (end + 1 - start) (drop start walk)) (edge - start + 1))) (sym first)
          (subst (λ (b : Place). Near (vertex_at walk edge) b) (sym second) near);
    }

-- ---- corners as they are made

grid_fits : (z : ℤ) → IsGridNumber z → SFits w64 z
grid_fits z h = let low = h.low in let high = h.high in omega (arith, fits)

-- the point that was made of these two numbers
pub point_made : (o : Option Place) (p : Place) (x y : ℤ) → o ≡ Some p
    → IfSome o (λ q. q ≡ record { x = to_z w64 (of_z w64 x); y = to_z w64 (of_z w64 y) }) → IsGridNumber x → IsGridNumber y
    → (p.x ≡ x) × (p.y ≡ y)
point_made o p x y some made gx gy =
    let e : p ≡ record { x = to_z w64 (of_z w64 x); y = to_z w64 (of_z w64 y) } =
    subst (λ (u : Option Place). IfSome u (λ q. q ≡ record { x = to_z w64 (of_z w64 x); y = to_z w64 (of_z w64 y) })) some made in
    (ap (λ (q : Place). q.x) e ∙ to_z-of_z w64 x (grid_fits x gx), ap (λ (q : Place). q.y) e ∙ to_z-of_z w64 y (grid_fits y gy))

-- ---- boxes that grow

pub then_lower_left : (a b c : Place) → IsLowerLeft a b → IsLowerLeft b c → IsLowerLeft a c
then_lower_left a b c h k =
    let x = h.across in let y = h.up in let x' = k.across in let y' = k.up in
    record { across = omega (arith, sums); up = omega (arith, sums) }

-- where corners move outwards, what was in the box still is
pub still_in_box : (low high low' high' q : Place) → IsLowerLeft low' low → IsLowerLeft high high' → IsInBox low high q
    → IsInBox low' high' q
still_in_box low high low' high' q lower upper h =
    record { from_low = then_lower_left low' low q lower h.from_low; to_high = then_lower_left q high high' h.to_high upper }
