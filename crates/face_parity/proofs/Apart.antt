-- Lists of positions that stand wholly on one side of a place: below it, above it, or beside it.
use Rattle.std.proofs.Common.{◌≡◌, ◌∙◌, ◌-◌, ◌<◌, Bool, true, false, List, [], ◌∷◌, All, length, get_or, refl, sym, ap, arith, inl, inr}
use Rattle.std.specs.Prelude.{pos, ◌-ℤ◌, ◌*ℤ◌, ◌≤ℤ◌, ◌<ℤ◌, int_lt, ◌⊎◌}
use Rattle.std.proofs.lemmas.List.Elements.{All-head, All-tail}
use Rattle.grid_exact.specs.Geometry.{Place, IsBefore, area_of}
use Rattle.grid_exact.specs.Geometry.IsBefore.{Left, Below}
use Rattle.grid_exact.specs.Crossing.{is_crossed}
use Rattle.grid_exact.specs.Walks.{count_edges, differ, end_of, is_odd}
use Rattle.grid_exact.proofs.WholeLaws.{sums}
use Rattle.grid_exact.proofs.Signs.{Negative, Zero, Positive, sign_of, times_nonnegative, times_negative, nonnegative_times_nonpositive}
use Rattle.grid_exact.proofs.Signs.{nonpositive_times_nonpositive}
use Rattle.grid_exact.proofs.Areas.{area_about}
use Rattle.grid_exact.proofs.Orders.{lt_no, lt_yes}
use Rattle.grid_exact.proofs.Crossings.{crossed_after, crossed_before, crossed_between, crossed_turned}
use Rattle.arc_map.specs.Arcs.{is_list_crossed_oddly}
use Rattle.grid_exact.proofs.Walks.{is_odd-counted, differ_itself}
use lib.IntN.{*ℤ_comm}

-- ---- one edge

-- both ends below p: p stands above the edge
area-below : (p a b : Place) → a.x ≤ℤ p.x → p.x ≤ℤ b.x → a.y ≤ℤ p.y → b.y ≤ℤ p.y → pos 0 ≤ℤ area_of a b p
area-below p a b left right low second =
    let e = area_about p a b in
    let u : pos 0 ≤ℤ ((a.x -ℤ p.x) *ℤ (b.y -ℤ p.y)) = nonpositive_times_nonpositive (a.x -ℤ p.x) (b.y -ℤ p.y) (omega (arith, sums))
    (omega (arith, sums)) in
    let v : ((b.x -ℤ p.x) *ℤ (a.y -ℤ p.y)) ≤ℤ pos 0 = nonnegative_times_nonpositive (b.x -ℤ p.x) (a.y -ℤ p.y) (omega (arith, sums))
    (omega (arith, sums)) in
    let w = *ℤ_comm (b.x -ℤ p.x) (a.y -ℤ p.y) in
    omega (arith, sums, e, w)

-- both ends above p: p stands below the edge
area-above : (p a b : Place) → a.x <ℤ p.x → p.x ≤ℤ b.x → p.y <ℤ a.y → p.y <ℤ b.y → area_of a b p <ℤ pos 0
area-above p a b left right low second =
    let e = area_about p a b in
    let u : ((b.y -ℤ p.y) *ℤ (a.x -ℤ p.x)) <ℤ pos 0 = times_negative (b.y -ℤ p.y) (a.x -ℤ p.x) (omega (arith, sums)) (omega (arith, sums))
    in
    let v : pos 0 ≤ℤ ((b.x -ℤ p.x) *ℤ (a.y -ℤ p.y)) = times_nonnegative (b.x -ℤ p.x) (a.y -ℤ p.y) (omega (arith, sums))
    (omega (arith, sums)) in
    let w = *ℤ_comm (b.x -ℤ p.x) (a.y -ℤ p.y) in
    let z = *ℤ_comm (b.y -ℤ p.y) (a.x -ℤ p.x) in
    omega (arith, sums, e, w, z)

-- where a place below p, or one above it, stands in the order
before-or-after : (p a : Place) → a.y <ℤ p.y → (IsBefore a p × (a.x ≤ℤ p.x)) ⊎ (IsBefore p a × (p.x <ℤ a.x))
before-or-after p a low = elim (sign_of (a.x -ℤ p.x)) [
  | Negative h ↦ inl (Left (omega (arith, sums)), omega (arith, sums))
  | Zero h ↦ inl (Below (omega (arith, sums)) low, omega (arith, sums))
  | Positive h ↦ inr (Left (omega (arith, sums)), omega (arith, sums))
]

after-or-before : (p a : Place) → p.y <ℤ a.y → (IsBefore a p × (a.x <ℤ p.x)) ⊎ (IsBefore p a × (p.x ≤ℤ a.x))
after-or-before p a high = elim (sign_of (a.x -ℤ p.x)) [
  | Negative h ↦ inl (Left (omega (arith, sums)), omega (arith, sums))
  | Zero h ↦ inr (Below (omega (arith, sums)) high, omega (arith, sums))
  | Positive h ↦ inr (Left (omega (arith, sums)), omega (arith, sums))
]

weak : (a b : Place) → a.y <ℤ b.y → a.y ≤ℤ b.y
weak a b h = omega (arith, sums)

weak-x : (a b : Place) → a.x <ℤ b.x → a.x ≤ℤ b.x
weak-x a b h = omega (arith, sums)

edge-below : (p a b : Place) → a.y <ℤ p.y → b.y <ℤ p.y → is_crossed p a b ≡ false
edge-below p a b low second = elim (before-or-after p a low) [
  | inl first ↦ elim (before-or-after p b second) [
    | inl other ↦ crossed_after p a b first.0 other.0
    | inr other ↦ crossed_between p a b first.0 other.0 ∙ lt_no (area_of a b p) (pos 0)
        (area-below p a b first.1 (weak-x p b other.1) (weak a p low) (weak b p second))
  ]
  | inr first ↦ elim (before-or-after p b second) [
    | inl other ↦ crossed_turned p a b ∙ crossed_between p b a other.0 first.0
        ∙ lt_no (area_of b a p) (pos 0) (area-below p b a other.1 (weak-x p a first.1) (weak b p second) (weak a p low))
    | inr other ↦ crossed_before p a b first.0 other.0
  ]
]

parted : (s t u v : Bool) → s ≡ u → t ≡ v → differ s t ≡ differ u v
parted s t u v e f = ap (λ b. differ b t) e ∙ ap (differ u) f

edge-above : (p a b : Place) → p.y <ℤ a.y → p.y <ℤ b.y → is_crossed p a b ≡ differ (int_lt a.x p.x) (int_lt b.x p.x)
edge-above p a b high second = elim (after-or-before p a high) [
  | inl first ↦ elim (after-or-before p b second) [
    | inl other ↦ crossed_after p a b first.0 other.0
        ∙ sym (parted (int_lt a.x p.x) (int_lt b.x p.x) true true (lt_yes a.x p.x first.1) (lt_yes b.x p.x other.1))
    | inr other ↦ crossed_between p a b first.0 other.0 ∙ lt_yes (area_of a b p) (pos 0) (area-above p a b first.1 other.1 high second)
        ∙ sym (parted (int_lt a.x p.x) (int_lt b.x p.x) true false (lt_yes a.x p.x first.1) (lt_no b.x p.x other.1))
  ]
  | inr first ↦ elim (after-or-before p b second) [
    | inl other ↦ crossed_turned p a b ∙ crossed_between p b a other.0 first.0
        ∙ lt_yes (area_of b a p) (pos 0) (area-above p b a other.1 first.1 second high)
        ∙ sym (parted (int_lt a.x p.x) (int_lt b.x p.x) false true (lt_no a.x p.x first.1) (lt_yes b.x p.x other.1))
    | inr other ↦ crossed_before p a b first.0 other.0
        ∙ sym (parted (int_lt a.x p.x) (int_lt b.x p.x) false false (lt_no a.x p.x first.1) (lt_no b.x p.x other.1))
  ]
]

edge-left : (p a b : Place) → a.x <ℤ p.x → b.x <ℤ p.x → is_crossed p a b ≡ false
edge-left p a b first second = crossed_after p a b (Left first) (Left second)

edge-right : (p a b : Place) → p.x <ℤ a.x → p.x <ℤ b.x → is_crossed p a b ≡ false
edge-right p a b first second = crossed_before p a b (Left first) (Left second)

-- ---- lists

-- no edge between places of this kind is crossed
list-none : (p : Place) (P : Place → Type 0) → ((a b : Place) → P a → P b → is_crossed p a b ≡ false) → (v : Place) (ws : List Place)
    → All P (v ∷ ws) → is_odd (count_edges (is_crossed p) v ws) ≡ false
list-none p P none v [] all = refl
list-none p P none v (w ∷ ws) all =
    let rest = All-tail P v (w ∷ ws) all in
    is_odd-counted (is_crossed p) v w ws
    ∙ ap (λ b. differ b (is_odd (count_edges (is_crossed p) w ws))) (none v w (All-head P v (w ∷ ws) all) (All-head P w ws rest))
    ∙ list-none p P none w ws rest

none-of : (p : Place) (P : Place → Type 0) → ((a b : Place) → P a → P b → is_crossed p a b ≡ false) → (ps : List Place) → All P ps
    → is_list_crossed_oddly p ps ≡ false
none-of p P none [] all = refl
none-of p P none (v ∷ ws) all = list-none p P none v ws all

differ-through : (a b c : Bool) → differ (differ a b) (differ b c) ≡ differ a c
differ-through true true c = refl
differ-through true false c = refl
differ-through false true true = refl
differ-through false true false = refl
differ-through false false c = refl

list-above : (p v : Place) (ws : List Place) → All (λ q. p.y <ℤ q.y) (v ∷ ws)
    → is_odd (count_edges (is_crossed p) v ws) ≡ differ (int_lt v.x p.x) (int_lt (end_of v ws).x p.x)
list-above p v [] all = sym (differ_itself (int_lt v.x p.x))
list-above p v (w ∷ ws) all =
    let rest = All-tail (λ q. p.y <ℤ q.y) v (w ∷ ws) all in
    is_odd-counted (is_crossed p) v w ws
    ∙ parted (is_crossed p v w) (is_odd (count_edges (is_crossed p) w ws)) (differ (int_lt v.x p.x) (int_lt w.x p.x))
    (differ (int_lt w.x p.x) (int_lt (end_of w ws).x p.x))
    (edge-above p v w (All-head (λ q. p.y <ℤ q.y) v (w ∷ ws) all) (All-head (λ q. p.y <ℤ q.y) w ws rest))
    (list-above p w ws rest)
    ∙ differ-through (int_lt v.x p.x) (int_lt w.x p.x) (int_lt (end_of w ws).x p.x)

end-at : (v d : Place) (ws : List Place) → end_of v ws ≡ get_or (v ∷ ws) (length ws) d
end-at v d [] = refl
end-at v d (w ∷ ws) = end-at w d ws

last-is : (v d : Place) (ws : List Place) → end_of v ws ≡ get_or (v ∷ ws) (length (v ∷ ws) - 1) d
last-is v d ws = let e : length ws ≡ length (v ∷ ws) - 1 = omega arith in end-at v d ws ∙ ap (λ n. get_or (v ∷ ws) n d) e

-- below a place an edge is never crossed, and beside it neither
pub below-is-even : (p : Place) (ps : List Place) → All (λ q. q.y <ℤ p.y) ps → is_list_crossed_oddly p ps ≡ false
below-is-even p ps all = none-of p (λ q. q.y <ℤ p.y) (λ a b. edge-below p a b) ps all

pub left-is-even : (p : Place) (ps : List Place) → All (λ q. q.x <ℤ p.x) ps → is_list_crossed_oddly p ps ≡ false
left-is-even p ps all = none-of p (λ q. q.x <ℤ p.x) (λ a b. edge-left p a b) ps all

pub right-is-even : (p : Place) (ps : List Place) → All (λ q. p.x <ℤ q.x) ps → is_list_crossed_oddly p ps ≡ false
right-is-even p ps all = none-of p (λ q. p.x <ℤ q.x) (λ a b. edge-right p a b) ps all

-- above a place an odd number is crossed where just one of the ends is left of it
pub above-by-ends : (p d : Place) (ps : List Place) → 0 < length ps → All (λ q. p.y <ℤ q.y) ps
    → is_list_crossed_oddly p ps ≡ differ (int_lt (get_or ps 0 d).x p.x) (int_lt (get_or ps (length ps - 1) d).x p.x)
above-by-ends p d [] some all = absurd (omega (arith, some))
above-by-ends p d (v ∷ ws) some all = list-above p v ws all ∙ ap (λ (q : Place). differ (int_lt v.x p.x) (int_lt q.x p.x)) (last-is v d ws)
