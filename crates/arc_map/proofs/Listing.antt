-- Lists that stand beside places in a table: what is found there, and what changes where a place or a number is added.
use Rattle.std.proofs.Common.{◌≡◌, ◌⊎◌, ◌∙◌, ℕ, zero, suc, ◌<◌, Bool, true, false, ◌&&◌, ◌||◌, cond, List, [], ◌∷◌, ◌++◌, length, get_or}
use Rattle.std.proofs.Common.{set, refl, sym, ap, subst, inl, inr, arith, Some, position}
use Rattle.std.specs.Ordering.{int_eq}
use Rattle.std.specs.List.{list_any}
use Rattle.std.proofs.lemmas.Bool.{false≢true}
use Rattle.std.proofs.lemmas.List.Quantifiers.{position-Some}
use Rattle.std.proofs.lemmas.Bool.Decides.{Decides-int_eq}
use Rattle.grid_exact.specs.Geometry.{Place}
use Rattle.grid_exact.proofs.Commons.{same_place}
use Rattle.arc_map.specs.Ends.{is_same, listed}

-- the test says whether the places are one
pub data Same (p q : Place) : Type 0 where
  Yes : is_same p q ≡ true → p ≡ q → Same p q
  No : is_same p q ≡ false → ¬ (p ≡ q) → Same p q

pub both_true : (a b : Bool) → (a && b) ≡ true → (a ≡ true) × (b ≡ true)
both_true true true e = (refl, refl)
both_true true false e = absurd (false≢true e)
both_true false b e = absurd (false≢true e)

same_if : (p q : Place) → is_same p q ≡ true → p ≡ q
same_if p q e =
    let both = both_true (int_eq p.x q.x) (int_eq p.y q.y) e in
    let x : p.x ≡ q.x = (Decides-int_eq p.x q.x).0 both.0 in
    let y : p.y ≡ q.y = (Decides-int_eq p.y q.y).0 both.1 in
    same_place p q x y

same_only_if : (p q : Place) → p ≡ q → is_same p q ≡ true
same_only_if p q e =
    let x = (Decides-int_eq p.x q.x).1 (ap (λ (v : Place). v.x) e) in
    let y = (Decides-int_eq p.y q.y).1 (ap (λ (v : Place). v.y) e) in
    rw (x, y)

pub either : (b : Bool) → (b ≡ true) ⊎ (b ≡ false)
either true = inl refl
either false = inr refl

pub compared_places : (p q : Place) → Same p q
compared_places p q =
    elim (either (is_same p q)) [
      | inl alike ↦ Yes alike (same_if p q alike)
      | inr unlike ↦ No unlike (λ e. false≢true (sym unlike ∙ same_only_if p q e))
    ]

-- ---- what is found

pub listed-absent : (places : List Place) (lists : List (List ℕ)) (p : Place) → list_any (is_same p) places ≡ false
    → listed places lists p ≡ []
listed-absent [] lists p none = refl
listed-absent (q ∷ places) [] p none = refl
listed-absent (q ∷ places) (numbers ∷ lists) p none =
    elim (compared_places p q) [
      | Yes alike e ↦ absurd (false≢true (sym none ∙ ap (λ b. b || list_any (is_same p) places) alike))
      | No unlike e ↦ ap (λ b. cond b numbers (listed places lists p)) unlike
          ∙ listed-absent places lists p (sym (ap (λ b. b || list_any (is_same p) places) unlike) ∙ none)
    ]

-- the place stands at this index, and at none before it
pub record StandsAt (places : List Place) (place : Place) (at : ℕ) : Type 0 where
  pub inside : at < length places
  pub there : (d : Place) → is_same place (get_or places at d) ≡ true
  pub first : (k : ℕ) (d : Place) → k < at → is_same place (get_or places k d) ≡ false

rest_stands : (q : Place) (places : List Place) (place : Place) (at : ℕ) → StandsAt (q ∷ places) place (suc at) → StandsAt places place at
rest_stands q places place at stands = record {
  inside = let inside = stands.inside in omega arith;
  there = stands.there;
  first = λ k d below. stands.first (suc k) d (omega arith);
}

pub listed-at : (places : List Place) (lists : List (List ℕ)) (place : Place) (at : ℕ) → length lists ≡ length places
    → StandsAt places place at → listed places lists place ≡ get_or lists at []
listed-at [] lists place at same stands = let inside = stands.inside in absurd (omega arith)
listed-at (q ∷ places) [] place at same stands = absurd (omega arith)
listed-at (q ∷ places) (numbers ∷ lists) place zero same stands =
    ap (λ b. cond b numbers (listed places lists place)) (stands.there q)
listed-at (q ∷ places) (numbers ∷ lists) place (suc at) same stands =
    ap (λ b. cond b numbers (listed places lists place)) (stands.first 0 q (omega arith))
    ∙ listed-at places lists place at (omega arith) (rest_stands q places place at stands)

-- ---- what changes

-- a new place has no numbers
pub listed-new_place : (places : List Place) (lists : List (List ℕ)) (place : Place) → length lists ≡ length places → (p : Place)
    → listed (places ++ place ∷ []) (lists ++ [] ∷ []) p ≡ listed places lists p
listed-new_place [] [] place same p =
    elim (compared_places p place) [
      | Yes alike e ↦ ap (λ b. cond b [] []) alike
      | No unlike e ↦ ap (λ b. cond b [] []) unlike
    ]
listed-new_place [] (numbers ∷ lists) place same p = absurd (omega arith)
listed-new_place (q ∷ places) [] place same p = absurd (omega arith)
listed-new_place (q ∷ places) (numbers ∷ lists) place same p =
    ap (cond (is_same p q) numbers) (listed-new_place places lists place (omega arith) p)

-- the list of one place is replaced
pub listed-set : (places : List Place) (lists : List (List ℕ)) (place : Place) (at : ℕ) (new : List ℕ) → length lists ≡ length places
    → StandsAt places place at → (p : Place) → listed places (set lists at new) p ≡ cond (is_same p place) new (listed places lists p)
listed-set [] lists place at new same stands p = let inside = stands.inside in absurd (omega arith)
listed-set (q ∷ places) [] place at new same stands p = absurd (omega arith)
listed-set (q ∷ places) (numbers ∷ lists) place zero new same stands p =
    elim (compared_places place q) [
      | Yes alike e ↦ elim (compared_places p q) [
        | Yes p_alike p_is ↦
            ap (λ b. cond b new (listed places lists p)) p_alike
            ∙ sym (ap (λ b. cond b new (cond (is_same p q) numbers (listed places lists p)))
            (subst (λ r. is_same p r ≡ true) (sym e) p_alike))
        | No p_unlike p_is ↦
            ap (λ b. cond b new (listed places lists p)) p_unlike
            ∙ sym (ap (λ b. cond b new (cond (is_same p q) numbers (listed places lists p)))
            (subst (λ r. is_same p r ≡ false) (sym e) p_unlike) ∙ ap (λ b. cond b numbers (listed places lists p)) p_unlike)
      ]
      | No unlike e ↦ absurd (false≢true (sym unlike ∙ stands.there q))
    ]
listed-set (q ∷ places) (numbers ∷ lists) place (suc at) new same stands p =
    let rest = listed-set places lists place at new (omega arith) (rest_stands q places place at stands) p in
    let other = stands.first 0 q (omega arith) in
    elim (compared_places p q) [
      | Yes alike p_is ↦
          elim (compared_places p place) [
            | Yes p_alike e ↦ absurd (false≢true (sym other ∙ subst (λ r. is_same r q ≡ true) e alike))
            | No p_unlike e ↦ ap (λ b. cond b numbers (listed places (set lists at new) p)) alike
                ∙ sym (ap (λ b. cond b new (cond (is_same p q) numbers (listed places lists p))) p_unlike
                ∙ ap (λ b. cond b numbers (listed places lists p)) alike)
          ]
      | No unlike p_is ↦
          ap (λ b. cond b numbers (listed places (set lists at new) p)) unlike ∙ rest
          ∙ sym (ap (λ b. cond (is_same p place) new (cond b numbers (listed places lists p))) unlike)
    ]

-- a number is put at the end of the list of one place
pub listed-added : (places : List Place) (lists : List (List ℕ)) (place : Place) (at : ℕ) (old : List ℕ) (number : ℕ)
    → length lists ≡ length places → StandsAt places place at → get_or lists at [] ≡ old → (p : Place)
    → listed places (set lists at (old ++ number ∷ [])) p ≡ cond (is_same p place) (listed places lists p ++ number ∷ [])
    (listed places lists p)
listed-added places lists place at old number same stands is p =
    elim (compared_places p place) [
      | Yes alike e ↦
          let here = listed-at places lists place at same stands ∙ is in
          listed-set places lists place at (old ++ number ∷ []) same stands p
          ∙ ap (λ b. cond b (old ++ number ∷ []) (listed places lists p)) alike
          ∙ sym (ap (λ b. cond b (listed places lists p ++ number ∷ []) (listed places lists p)) alike
          ∙ ap (λ ns. ns ++ number ∷ []) (ap (listed places lists) e ∙ here))
      | No unlike e ↦
          listed-set places lists place at (old ++ number ∷ []) same stands p
          ∙ ap (λ b. cond b (old ++ number ∷ []) (listed places lists p)) unlike
          ∙ sym (ap (λ b. cond b (listed places lists p ++ number ∷ []) (listed places lists p)) unlike)
    ]

pub stands-position : (places : List Place) (place : Place) (at : ℕ) → position (is_same place) places ≡ Some at → StandsAt places place at
stands-position places place at is = record {
  inside = (position-Some (is_same place) places at place is).0;
  there = λ d. (position-Some (is_same place) places at d is).1;
  first = λ k d below. (position-Some (is_same place) places at d is).2 k below;
}
