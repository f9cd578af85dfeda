-- The places of the ends of spans, as they are gathered.
use Rattle.std.proofs.Common.{◌≡◌, ◌⊎◌, ◌==◌, inl, inr, true, Result, Ok, Err, refl, List, [], ◌∷◌, ◌++◌, length, sym, subst, arith}
use Rattle.std.specs.Prelude.{Contains, IfOk}
use Rattle.std.proofs.lemmas.Bool.{eqb-true}
use Rattle.std.specs.List.Sorted.{IsPermutation}
use Rattle.std.proofs.lemmas.List.Elements.{Contains-append_left, Contains-push}
use Rattle.std.proofs.lemmas.List.Sorted.{Contains-permutation}
use Rattle.grid_exact.specs.Geometry.{Place}
use Rattle.plane_sweep.specs.declared.spans.Span.{Span}
use Rattle.plane_sweep.specs.Places.{ContainsAll, HasHighs}
use Rattle.plane_sweep.proofs.Lists.{contains_cases}

pub ends_more : (spans rest others : List Span) (x : Span) (places items : List Place) → rest ≡ x ∷ others
    → items ≡ (places ++ x.low.place ∷ []) ++ x.high.place ∷ []
    → ((s : Span) → Contains spans s → Contains rest s ⊎ Contains places s.high.place) → (s : Span) → Contains spans s
    → Contains others s ⊎ Contains items s.high.place
ends_more spans rest others x places items step grown before s member =
    subst (λ ps. Contains others s ⊎ Contains ps s.high.place) (sym grown)
    (moved (subst (λ xs. Contains xs s ⊎ Contains places s.high.place) step (before s member)))
  where
    moved : Contains (x ∷ others) s ⊎ Contains places s.high.place
        → Contains others s ⊎ Contains ((places ++ x.low.place ∷ []) ++ x.high.place ∷ []) s.high.place
    moved (inr done) = inr (Contains-append_left (places ++ x.low.place ∷ []) (x.high.place ∷ []) s.high.place
        (Contains-append_left places (x.low.place ∷ []) s.high.place done))
    moved (inl here) = elim (contains_cases x others s here) [
      | inl same ↦ inr (subst (λ (t : Span). Contains ((places ++ x.low.place ∷ []) ++ x.high.place ∷ []) t.high.place) same
          (Contains-push (places ++ x.low.place ∷ []) x.high.place))
      | inr later ↦ inl later
    ]

pub places_more : (places rest others : List Place) (x : Place) (old new : List Place) → rest ≡ x ∷ others → ContainsAll old new
    → Contains new x → ((p : Place) → Contains places p → Contains rest p ⊎ Contains old p) → (p : Place) → Contains places p
    → Contains others p ⊎ Contains new p
places_more places rest others x old new step kept added before p member =
    moved (subst (λ xs. Contains xs p ⊎ Contains old p) step (before p member))
  where
    moved : Contains (x ∷ others) p ⊎ Contains old p → Contains others p ⊎ Contains new p
    moved (inr done) = inr (kept p done)
    moved (inl here) = elim (contains_cases x others p here) [
      | inl same ↦ inr (subst (Contains new) same added)
      | inr later ↦ inl later
    ]

-- nothing is left
pub at_end : {X : Type 0} (rest : List X) (x : X) (P : Type 0) → length rest ≡ 0 → Contains rest x ⊎ P → P
at_end rest x P none (inl (k, within, is)) = absurd (omega (arith, none, within))
at_end rest x P none (inr done) = done

pub highs_sorted : (spans : List Span) (places sorted kept : List Place) → IsPermutation places sorted → ContainsAll sorted kept
    → HasHighs spans places → HasHighs spans kept
highs_sorted spans places sorted kept moved all has s member = all s.high.place
    (Contains-permutation places sorted s.high.place moved (has s member))

pub empty_list : {X : Type 0} (xs : List X) → length xs ≡ 0 → xs ≡ []
empty_list [] none = refl
empty_list (x ∷ xs) none = absurd (omega (arith, none))

pub empty_tested : {X : Type 0} (xs : List X) → (length xs == 0) ≡ true → xs ≡ []
empty_tested xs none = empty_list xs (eqb-true (length xs) 0 none)

pub ok_then : {A E : Type 0} {P Q : A → Type 0} (r : Result A E) → IfOk r P → ((x : A) → P x → Q x) → IfOk r Q
ok_then (Ok x) p f = f x p
ok_then (Err e) p f = tt
