-- An edge that has no common point with a run keeps to one side of it: edge by edge along the run, in a view of the plane.
use Rattle.std.proofs.Common.{◌≡◌, ◌⊎◌, ◌∙◌, inl, inr, List, [], ◌∷◌, pos, ◌<ℤ◌, refl, sym, ap, subst, arith}
use Rattle.grid_exact.specs.Geometry.{Place, IsBefore, CommonPoint}
use Rattle.grid_exact.specs.Spans.{IsUpTo, start_gap, end_gap, SameSign}
use Rattle.grid_exact.specs.Spans.SameSign.{BothAbove, BothBelow}
use Rattle.grid_exact.specs.Walks.{EachEdge}
use Rattle.grid_exact.specs.Runs.{IsEdgeOf}
use Rattle.grid_exact.proofs.WholeLaws.{sums}
use Rattle.grid_exact.proofs.Orders.{compared, up_to, up_to_same, then_before, up_to_before, before_up_to, not_before_itself, not_tested}
use Rattle.grid_exact.proofs.Orders.Compared.{Before, Same, After}
use Rattle.grid_exact.proofs.Orders.UpTo.{Earlier, There}
use Rattle.grid_exact.proofs.Orders.{UpTo}
use Rattle.grid_exact.proofs.Spans.{one_above, start_gap-no, end_gap-no}

-- places are compared as they are seen in the view
abbrev pub ComesFirst : (Place → Place) → Place → Place → Type 0
ComesFirst view a b = IsBefore (view a) (view b)

-- an edge of a run starts at or after the run's start

rising_from : (view : Place → Place) (v : Place) (ws : List Place) (a b : Place) → EachEdge (ComesFirst view) v ws → IsEdgeOf v ws a b
    → UpTo (view v) (view a)
rising_from view v [] a b rising e = absurd e
rising_from view v (w ∷ ws) a b rising (inl e) = There (ap view e.0)
rising_from view v (w ∷ ws) a b rising (inr e) =
    elim (rising_from view w ws a b rising.1 e) [
      | Earlier h ↦ Earlier (then_before (view v) (view w) (view a) rising.0 h)
      | There h ↦ Earlier (subst (λ (x : Place). IsBefore (view v) x) h rising.0)
    ]

falling_from : (view : Place → Place) (v : Place) (ws : List Place) (a b : Place) → EachEdge (λ a b. ComesFirst view b a) v ws
    → IsEdgeOf v ws a b → UpTo (view a) (view v)
falling_from view v [] a b falling e = absurd e
falling_from view v (w ∷ ws) a b falling (inl e) = There (ap view (sym e.0))
falling_from view v (w ∷ ws) a b falling (inr e) =
    elim (falling_from view w ws a b falling.1 e) [
      | Earlier h ↦ Earlier (then_before (view a) (view w) (view v) h falling.0)
      | There h ↦ Earlier (subst (λ (x : Place). IsBefore x (view v)) (sym h) falling.0)
    ]

pub not_behind : (a b : Place) → IsUpTo a b → IsBefore b a → ⊥
not_behind a b h k = not_before_itself a a refl (up_to_before a b a h k)

up_to_of : (a b : Place) → UpTo a b → IsUpTo a b
up_to_of a b (Earlier h) = up_to a b h
up_to_of a b (There e) = up_to_same a b e

-- the edge ab is under cd at both ends of the span that they share, or over it
abbrev pub Over : (Place → Place) → Place → Place → Place → Place → Type 0
Over view c d a b = (pos 0 <ℤ start_gap (view a) (view b) (view c) (view d)) × (pos 0 <ℤ end_gap (view a) (view b) (view c) (view d))

abbrev pub Under : (Place → Place) → Place → Place → Place → Place → Type 0
Under view c d a b = (start_gap (view a) (view b) (view c) (view d) <ℤ pos 0) × (end_gap (view a) (view b) (view c) (view d) <ℤ pos 0)

-- where cd has begun at w and has not ended before it, its gap there is the same to the edge that ends at w and to the one that starts
same_gap : (v w x c d : Place) → IsUpTo c w → IsUpTo w d → end_gap v w c d ≡ start_gap w x c d
same_gap v w x c d cw wd = end_gap-no v w c d (not_tested d w wd) ∙ sym (start_gap-no w x c d (not_tested w c cw))

-- ---- a run that rises

abbrev pub EachUp : (Place → Place) → (Place → Place → Type 0) → Place → Place → Place → List Place → Type 0
EachUp view G c d v ws = (a b : Place) → IsEdgeOf v ws a b → IsUpTo (view c) (view b) → IsUpTo (view a) (view d) → G a b

abbrev pub OneSidedUp : (Place → Place) → Place → Place → Place → List Place → Type 0
OneSidedUp view c d v ws = EachUp view (Over view c d) c d v ws ⊎ EachUp view (Under view c d) c d v ws

more_up : (view : Place → Place) (G : Place → Place → Type 0) (c d v w : Place) (ws : List Place)
    → (IsUpTo (view c) (view w) → IsUpTo (view v) (view d) → G v w) → EachUp view G c d w ws → EachUp view G c d v (w ∷ ws)
more_up view G c d v w ws first rest a b (inl e) cb ad =
    subst (λ x. G x b) e.0 (subst (λ y. G v y) e.1 (first (subst (λ y. IsUpTo (view c) (view y)) (sym e.1) cb)
    (subst (λ x. IsUpTo (view x) (view d)) (sym e.0) ad)))
more_up view G c d v w ws first rest a b (inr e) cb ad = rest a b e cb ad

skip_up : (view : Place → Place) (c d v w : Place) (ws : List Place) → (IsUpTo (view c) (view w) → IsUpTo (view v) (view d) → ⊥)
    → OneSidedUp view c d w ws → OneSidedUp view c d v (w ∷ ws)
skip_up view c d v w ws none (inl over) = inl (more_up view (Over view c d) c d v w ws (λ h k. absurd (none h k)) over)
skip_up view c d v w ws none (inr under) = inr (more_up view (Under view c d) c d v w ws (λ h k. absurd (none h k)) under)

-- no later edge meets, where cd has ended before w
past_up : (view : Place → Place) (G : Place → Place → Type 0) (c d w : Place) (ws : List Place) → EachEdge (ComesFirst view) w ws
    → IsBefore (view d) (view w) → EachUp view G c d w ws
past_up view G c d w ws rising dw a b e cb ad =
    absurd (not_behind (view w) (view a) (up_to_of (view w) (view a) (rising_from view w ws a b rising e)) (not_after ad))
  where
    not_after : IsUpTo (view a) (view d) → IsBefore (view a) (view w)
    not_after h = up_to_before (view a) (view d) (view w) h dw

alone_up : (view : Place → Place) (c d v w : Place) (ws : List Place)
    → SameSign (start_gap (view v) (view w) (view c) (view d)) (end_gap (view v) (view w) (view c) (view d))
    → ((G : Place → Place → Type 0) → EachUp view G c d w ws) → OneSidedUp view c d v (w ∷ ws)
alone_up view c d v w ws (BothAbove h k) none = inl (more_up view (Over view c d) c d v w ws (λ _ _. (h, k)) (none (Over view c d)))
alone_up view c d v w ws (BothBelow h k) none = inr (more_up view (Under view c d) c d v w ws (λ _ _. (h, k)) (none (Under view c d)))

onward_up : (view : Place → Place) (c d v w : Place) (ws : List Place) → EachEdge (ComesFirst view) w ws → IsUpTo (view c) (view w)
    → IsUpTo (view w) (view d) → SameSign (start_gap (view v) (view w) (view c) (view d)) (end_gap (view v) (view w) (view c) (view d))
    → OneSidedUp view c d w ws → OneSidedUp view c d v (w ∷ ws)
onward_up view c d v w [] rising cw wd order rest = alone_up view c d v w [] order (λ G a b e. absurd e)
onward_up view c d v w (x ∷ xs) rising cw wd order (inl over) =
    let first = over w x (inl (refl, refl)) (up_to (view c) (view x) (up_to_before (view c) (view w) (view x) cw rising.0)) wd in
    let same = same_gap (view v) (view w) (view x) (view c) (view d) cw wd in
    let start = first.0 in
    elim order [
      | BothAbove h k ↦ inl (more_up view (Over view c d) c d v w (x ∷ xs) (λ _ _. (h, k)) over)
      | BothBelow h k ↦ absurd (omega (arith, sums))
    ]
onward_up view c d v w (x ∷ xs) rising cw wd order (inr under) =
    let first = under w x (inl (refl, refl)) (up_to (view c) (view x) (up_to_before (view c) (view w) (view x) cw rising.0)) wd in
    let same = same_gap (view v) (view w) (view x) (view c) (view d) cw wd in
    let start = first.0 in
    elim order [
      | BothAbove h k ↦ absurd (omega (arith, sums))
      | BothBelow h k ↦ inr (more_up view (Under view c d) c d v w (x ∷ xs) (λ _ _. (h, k)) under)
    ]

meets_up : (view : Place → Place) (c d v w : Place) (ws : List Place) → EachEdge (ComesFirst view) v (w ∷ ws)
    → ¬ (CommonPoint (view v) (view w) (view c) (view d)) → IsBefore (view c) (view d) → IsUpTo (view c) (view w) → IsUpTo (view v) (view d)
    → OneSidedUp view c d w ws → OneSidedUp view c d v (w ∷ ws)
meets_up view c d v w ws rising apart cd cw vd rest =
    let order = one_above (view v) (view w) (view c) (view d) (up_to (view v) (view w) rising.0) (up_to (view c) (view d) cd) cw vd apart in
    elim (compared (view d) (view w)) [
      | Before dw ↦ alone_up view c d v w ws order (λ G. past_up view G c d w ws rising.1 dw)
      | Same e ↦ onward_up view c d v w ws rising.1 cw (up_to_same (view w) (view d) (sym e)) order rest
      | After wd ↦ onward_up view c d v w ws rising.1 cw (up_to (view w) (view d) wd) order rest
    ]

-- whether the edge vw meets cd in span
from_start_up : (view : Place → Place) (c d v w : Place) (ws : List Place) → EachEdge (ComesFirst view) v (w ∷ ws)
    → ¬ (CommonPoint (view v) (view w) (view c) (view d)) → IsBefore (view c) (view d) → IsUpTo (view c) (view w) → OneSidedUp view c d w ws
    → OneSidedUp view c d v (w ∷ ws)
from_start_up view c d v w ws rising apart cd cw rest =
    elim (compared (view d) (view v)) [
      | Before dv ↦ skip_up view c d v w ws (λ _ vd. not_behind (view v) (view d) vd dv) rest
      | Same e ↦ meets_up view c d v w ws rising apart cd cw (up_to_same (view v) (view d) (sym e)) rest
      | After vd ↦ meets_up view c d v w ws rising apart cd cw (up_to (view v) (view d) vd) rest
    ]

pub one_sided_up : (view : Place → Place) (c d v : Place) (ws : List Place) → EachEdge (ComesFirst view) v ws
    → EachEdge (λ a b. ¬ (CommonPoint (view a) (view b) (view c) (view d))) v ws → IsBefore (view c) (view d) → OneSidedUp view c d v ws
one_sided_up view c d v [] rising apart cd = inl (λ a b e. absurd e)
one_sided_up view c d v (w ∷ ws) rising apart cd =
    let rest = one_sided_up view c d w ws rising.1 apart.1 cd in
    elim (compared (view w) (view c)) [
      | Before wc ↦ skip_up view c d v w ws (λ cw _. not_behind (view c) (view w) cw wc) rest
      | Same e ↦ from_start_up view c d v w ws rising apart.0 cd (up_to_same (view c) (view w) (sym e)) rest
      | After cw ↦ from_start_up view c d v w ws rising apart.0 cd (up_to (view c) (view w) cw) rest
    ]

-- ---- a run that falls: each edge is taken from its end to its start

abbrev pub EachDown : (Place → Place) → (Place → Place → Type 0) → Place → Place → Place → List Place → Type 0
EachDown view G c d v ws = (a b : Place) → IsEdgeOf v ws a b → IsUpTo (view c) (view a) → IsUpTo (view b) (view d) → G b a

abbrev pub OneSidedDown : (Place → Place) → Place → Place → Place → List Place → Type 0
OneSidedDown view c d v ws = EachDown view (Over view c d) c d v ws ⊎ EachDown view (Under view c d) c d v ws

more_down : (view : Place → Place) (G : Place → Place → Type 0) (c d v w : Place) (ws : List Place)
    → (IsUpTo (view c) (view v) → IsUpTo (view w) (view d) → G w v) → EachDown view G c d w ws → EachDown view G c d v (w ∷ ws)
more_down view G c d v w ws first rest a b (inl e) ca bd =
    subst (λ x. G b x) e.0 (subst (λ y. G y v) e.1 (first (subst (λ x. IsUpTo (view c) (view x)) (sym e.0) ca)
    (subst (λ y. IsUpTo (view y) (view d)) (sym e.1) bd)))
more_down view G c d v w ws first rest a b (inr e) ca bd = rest a b e ca bd

skip_down : (view : Place → Place) (c d v w : Place) (ws : List Place) → (IsUpTo (view c) (view v) → IsUpTo (view w) (view d) → ⊥)
    → OneSidedDown view c d w ws → OneSidedDown view c d v (w ∷ ws)
skip_down view c d v w ws none (inl over) = inl (more_down view (Over view c d) c d v w ws (λ h k. absurd (none h k)) over)
skip_down view c d v w ws none (inr under) = inr (more_down view (Under view c d) c d v w ws (λ h k. absurd (none h k)) under)

past_down : (view : Place → Place) (G : Place → Place → Type 0) (c d w : Place) (ws : List Place)
    → EachEdge (λ a b. ComesFirst view b a) w ws → IsBefore (view w) (view c) → EachDown view G c d w ws
past_down view G c d w ws falling wc a b e ca bd =
    absurd (not_behind (view c) (view a) ca (not_after (up_to_of (view a) (view w) (falling_from view w ws a b falling e))))
  where
    not_after : IsUpTo (view a) (view w) → IsBefore (view a) (view c)
    not_after h = up_to_before (view a) (view w) (view c) h wc

alone_down : (view : Place → Place) (c d v w : Place) (ws : List Place)
    → SameSign (start_gap (view w) (view v) (view c) (view d)) (end_gap (view w) (view v) (view c) (view d))
    → ((G : Place → Place → Type 0) → EachDown view G c d w ws) → OneSidedDown view c d v (w ∷ ws)
alone_down view c d v w ws (BothAbove h k) none = inl (more_down view (Over view c d) c d v w ws (λ _ _. (h, k)) (none (Over view c d)))
alone_down view c d v w ws (BothBelow h k) none = inr (more_down view (Under view c d) c d v w ws (λ _ _. (h, k)) (none (Under view c d)))

onward_down : (view : Place → Place) (c d v w : Place) (ws : List Place) → EachEdge (λ a b. ComesFirst view b a) w ws
    → IsUpTo (view c) (view w) → IsUpTo (view w) (view d)
    → SameSign (start_gap (view w) (view v) (view c) (view d)) (end_gap (view w) (view v) (view c) (view d)) → OneSidedDown view c d w ws
    → OneSidedDown view c d v (w ∷ ws)
onward_down view c d v w [] falling cw wd order rest = alone_down view c d v w [] order (λ G a b e. absurd e)
onward_down view c d v w (x ∷ xs) falling cw wd order (inl over) =
    let first = over w x (inl (refl, refl)) cw (up_to (view x) (view d) (before_up_to (view x) (view w) (view d) falling.0 wd)) in
    let same = same_gap (view x) (view w) (view v) (view c) (view d) cw wd in
    let end = first.1 in
    elim order [
      | BothAbove h k ↦ inl (more_down view (Over view c d) c d v w (x ∷ xs) (λ _ _. (h, k)) over)
      | BothBelow h k ↦ absurd (omega (arith, sums))
    ]
onward_down view c d v w (x ∷ xs) falling cw wd order (inr under) =
    let first = under w x (inl (refl, refl)) cw (up_to (view x) (view d) (before_up_to (view x) (view w) (view d) falling.0 wd)) in
    let same = same_gap (view x) (view w) (view v) (view c) (view d) cw wd in
    let end = first.1 in
    elim order [
      | BothAbove h k ↦ absurd (omega (arith, sums))
      | BothBelow h k ↦ inr (more_down view (Under view c d) c d v w (x ∷ xs) (λ _ _. (h, k)) under)
    ]

meets_down : (view : Place → Place) (c d v w : Place) (ws : List Place) → EachEdge (λ a b. ComesFirst view b a) v (w ∷ ws)
    → ¬ (CommonPoint (view w) (view v) (view c) (view d)) → IsBefore (view c) (view d) → IsUpTo (view c) (view v) → IsUpTo (view w) (view d)
    → OneSidedDown view c d w ws → OneSidedDown view c d v (w ∷ ws)
meets_down view c d v w ws falling apart cd cv wd rest =
    let order = one_above (view w) (view v) (view c) (view d) (up_to (view w) (view v) falling.0) (up_to (view c) (view d) cd) cv wd apart
    in
    elim (compared (view w) (view c)) [
      | Before wc ↦ alone_down view c d v w ws order (λ G. past_down view G c d w ws falling.1 wc)
      | Same e ↦ onward_down view c d v w ws falling.1 (up_to_same (view c) (view w) (sym e)) wd order rest
      | After cw ↦ onward_down view c d v w ws falling.1 (up_to (view c) (view w) cw) wd order rest
    ]

from_start_down : (view : Place → Place) (c d v w : Place) (ws : List Place) → EachEdge (λ a b. ComesFirst view b a) v (w ∷ ws)
    → ¬ (CommonPoint (view w) (view v) (view c) (view d)) → IsBefore (view c) (view d) → IsUpTo (view c) (view v)
    → OneSidedDown view c d w ws → OneSidedDown view c d v (w ∷ ws)
from_start_down view c d v w ws falling apart cd cv rest =
    elim (compared (view d) (view w)) [
      | Before dw ↦ skip_down view c d v w ws (λ _ wd. not_behind (view w) (view d) wd dw) rest
      | Same e ↦ meets_down view c d v w ws falling apart cd cv (up_to_same (view w) (view d) (sym e)) rest
      | After wd ↦ meets_down view c d v w ws falling apart cd cv (up_to (view w) (view d) wd) rest
    ]

pub one_sided_down : (view : Place → Place) (c d v : Place) (ws : List Place) → EachEdge (λ a b. ComesFirst view b a) v ws
    → EachEdge (λ a b. ¬ (CommonPoint (view b) (view a) (view c) (view d))) v ws → IsBefore (view c) (view d) → OneSidedDown view c d v ws
one_sided_down view c d v [] falling apart cd = inl (λ a b e. absurd e)
one_sided_down view c d v (w ∷ ws) falling apart cd =
    let rest = one_sided_down view c d w ws falling.1 apart.1 cd in
    elim (compared (view v) (view c)) [
      | Before vc ↦ skip_down view c d v w ws (λ cv _. not_behind (view c) (view v) cv vc) rest
      | Same e ↦ from_start_down view c d v w ws falling apart.0 cd (up_to_same (view c) (view v) (sym e)) rest
      | After cv ↦ from_start_down view c d v w ws falling apart.0 cd (up_to (view c) (view v) cv) rest
    ]
