-- Positions that are no junctions: the rings pass them in one way.
use Rattle.std.proofs.Common.{◌≡◌, ◌≢◌, ◌⊎◌, ◌∙◌, ◌<◌, ℕ, List, All, AllPairs, Contains, get_or, length, ap, inl, inr, refl, subst, sym}
use Rattle.std.proofs.Common.{arith}
use Rattle.std.proofs.lemmas.Bool.{cases_lt}
use Rattle.std.proofs.lemmas.List.{get_or_default}
use Rattle.std.proofs.lemmas.List.Elements.{All-contains}
use Rattle.grid_exact.specs.Geometry.{Place}
use Rattle.grid_exact.specs.Segments.{SameEnds}
use Rattle.arc_map.proofs.Listing.{compared_places}
use Rattle.arc_map.proofs.Listing.Same.{Yes, No}
use Rattle.topo_build.specs.Junctions.{IsJunction, IsPlain, Turn}

-- ---- the same two ends

pub ends-turned : (a b c d : Place) → SameEnds a b c d → SameEnds c d a b
ends-turned a b c d (inl (x, y)) = inl (sym x, sym y)
ends-turned a b c d (inr (x, y)) = inr (sym y, sym x)

pub ends-joined : (a b c d e f : Place) → SameEnds a b c d → SameEnds c d e f → SameEnds a b e f
ends-joined a b c d e f (inl (x, y)) (inl (z, w)) = inl (x ∙ z, y ∙ w)
ends-joined a b c d e f (inl (x, y)) (inr (z, w)) = inr (x ∙ z, y ∙ w)
ends-joined a b c d e f (inr (x, y)) (inl (z, w)) = inr (x ∙ w, y ∙ z)
ends-joined a b c d e f (inr (x, y)) (inr (z, w)) = inl (x ∙ w, y ∙ z)

-- ---- turns of one position

-- of two elements of a list the one is before the other, or they are one
pub in_order : {X : Type 0} (R : X → X → Type 0) (xs : List X) (x y : X) → AllPairs R xs → Contains xs x → Contains xs y
    → (R x y ⊎ R y x) ⊎ (x ≡ y)
in_order R xs x y pairs (i, inside, there) (j, within, here) =
    elim (cases_lt i j) [
      | inl before ↦ inl
          (inl (subst (λ z. R z y) there (subst (R (get_or xs i x)) (get_or_default xs j x y within ∙ here) (pairs i j x before within))))
      | inr not_before ↦ elim (cases_lt j i) [
        | inl behind ↦ inl
            (inr (subst (λ z. R z x) here (subst (R (get_or xs j y)) (get_or_default xs i y x inside ∙ there) (pairs j i y behind inside))))
        | inr not_behind ↦
            let same : i ≡ j = omega arith in
            inr (sym there ∙ ap (λ k. get_or xs k x) same ∙ get_or_default xs j x y within ∙ here)
      ]
    ]

same_turns : (turns : List Turn) (p : Place) (t u : Turn) → IsPlain turns p → Contains turns t → Contains turns u → t.at ≡ p → u.at ≡ p
    → SameEnds t.before t.after u.before u.after
same_turns turns p t u plain has_t has_u at_t at_u =
    elim (in_order (λ v w. v.at ≡ p → w.at ≡ p → (v.ring ≢ w.ring) × SameEnds v.before v.after w.before w.after) turns t u plain.one_way
    has_t has_u) [
      | inl ordered ↦ elim ordered [
        | inl first ↦ (first at_t at_u).1
        | inr second ↦ ends-turned u.before u.after t.before t.after (second at_u at_t).1
      ]
      | inr same ↦ inl (ap (λ (v : Turn). v.before) same, ap (λ (v : Turn). v.after) same)
    ]

-- some ring passes p from a to b, or from b to a
pub data IsPassed (turns : List Turn) (a p b : Place) : Type 0 where
  Ahead : (t : Turn) → Contains turns t → t.before ≡ a → t.at ≡ p → t.after ≡ b → IsPassed turns a p b
  Back : (t : Turn) → Contains turns t → t.before ≡ b → t.at ≡ p → t.after ≡ a → IsPassed turns a p b

pub passed-turned : (turns : List Turn) (a p b : Place) → IsPassed turns a p b → IsPassed turns b p a
passed-turned turns a p b (Ahead t has x y z) = Back t has x y z
passed-turned turns a p b (Back t has x y z) = Ahead t has x y z

-- the turn by which it is passed
record PassedBy (turns : List Turn) (a p b : Place) : Type 0 where
  pub turn : Turn
  pub has : Contains turns turn
  pub at : turn.at ≡ p
  pub ends : SameEnds a b turn.before turn.after

by_turn : (turns : List Turn) (a p b : Place) → IsPassed turns a p b → PassedBy turns a p b
by_turn turns a p b (Ahead t has x y z) = record { turn = t; has = has; at = y; ends = inl (sym x, sym z) }
by_turn turns a p b (Back t has x y z) = record { turn = t; has = has; at = y; ends = inr (sym z, sym x) }

-- what is passed is passed between two different positions
pub apart : (turns : List Turn) (a p b : Place) → ¬ (IsJunction turns p) → IsPassed turns a p b → a ≢ b
apart turns a p b smooth passed same =
    let w = by_turn turns a p b passed in
    smooth (λ plain.
    let differ : w.turn.before ≢ w.turn.after = All-contains (λ t. t.at ≡ p → t.before ≢ t.after) turns w.turn plain.apart w.has w.at in
    elim w.ends [
      | inl e ↦ differ (sym e.0 ∙ same ∙ e.1)
      | inr e ↦ differ (sym e.1 ∙ sym same ∙ e.0)
    ])

plain_way : (turns : List Turn) (a c p b : Place) → IsPlain turns p → a ≢ b → IsPassed turns a p b → IsPassed turns c p b → a ≡ c
plain_way turns a c p b plain differ first second =
    let v = by_turn turns a p b first in
    let w = by_turn turns c p b second in
    let same = same_turns turns p v.turn w.turn plain v.has w.has v.at w.at in
    let ends : SameEnds a b c b = ends-joined a b v.turn.before v.turn.after c b v.ends
    (ends-joined v.turn.before v.turn.after w.turn.before w.turn.after c b same (ends-turned c b w.turn.before w.turn.after w.ends)) in
    elim ends [
      | inl e ↦ e.0
      | inr e ↦ absurd (differ e.0)
    ]

-- from b there is one way on past p
pub one_way_back : (turns : List Turn) (a c p b : Place) → ¬ (IsJunction turns p) → IsPassed turns a p b → IsPassed turns c p b → a ≡ c
one_way_back turns a c p b smooth first second =
    elim (compared_places a c) [
      | Yes alike e ↦ e
      | No unlike e ↦ absurd (smooth (λ plain. e (plain_way turns a c p b plain (apart turns a p b smooth first) first second)))
    ]

pub one_way : (turns : List Turn) (a p b c : Place) → ¬ (IsJunction turns p) → IsPassed turns a p b → IsPassed turns a p c → b ≡ c
one_way turns a p b c smooth first second = one_way_back turns b c p a smooth (passed-turned turns a p b first)
    (passed-turned turns a p c second)
