-- How far a sweep has come: the spans and places that are left, and what holds of those before.
use Rattle.std.proofs.Common.{◌≡◌, ◌⊎◌, ◌∙◌, inl, inr, List, [], ◌∷◌, ◌++◌, refl, sym, ap, subst}
use Rattle.std.specs.Prelude.{Contains}
use Rattle.std.proofs.lemmas.List.{append-nil, append_assoc}
use Rattle.std.proofs.lemmas.List.Elements.{Contains-append_left, Contains-append_right}
use Rattle.grid_exact.specs.Geometry.{Place, IsBefore}
use Rattle.grid_exact.proofs.Orders.{not_both_ways, not_before_itself, then_before}
use Rattle.plane_sweep.specs.declared.spans.Span.{Span}
use Rattle.plane_sweep.specs.Passage.{Chained, FirstHas, IsPassage}
use Rattle.plane_sweep.specs.Places.{AllMeetLawfully, AllRise, HasHighs}
use Rattle.plane_sweep.proofs.Lists.{contains_cases, contains_none, contains_first, contains_later, of_each}
use Rattle.plane_sweep.proofs.Passing.{Holds, IsAhead, holds_first, holds_last, holds_passed}

-- a place is before all that come after one that it is before
pub ahead_of : (p : Place) (rest : List Place) → FirstHas (IsBefore p) rest → Chained IsBefore rest → IsAhead p rest
ahead_of p [] first chain v member = absurd (contains_none v member)
ahead_of p (q ∷ rest) first chain v member = elim (contains_cases q rest v member) [
  | inl same ↦ subst (λ w. IsBefore p w) same first
  | inr later ↦ then_before p q v first (ahead_of q rest chain.0 chain.1 v later)
]

-- `left` of the spans and `rest` of the places are to come; each other place is before all of the rest
pub record Sweeps (spans : List Span) (places : List Place) (left : List Span) (rest : List Place) (active : List Span) : Type 0 where
  pub done : List Span
  pub parts : spans ≡ done ++ left
  pub chain : Chained IsBefore rest
  pub passed : (v : Place) → Contains places v → Contains rest v ⊎ IsAhead v rest
  pub holds : Holds done rest active

pub sweeps_first : (spans : List Span) (places : List Place) (active : List Span) → active ≡ [] → Chained IsBefore places
    → Sweeps spans places spans places active
sweeps_first spans places active none chain = record {
  done = [];
  parts = refl;
  chain = chain;
  passed = λ v member. inl member;
  holds = subst (Holds [] places) (sym none) (holds_first places);
}

module _ (spans : List Span) (places : List Place) (left : List Span) (rest : List Place) (old : List Span) (q : Place) (others :
    List Place) (new behind now : List Span) (rises : AllRise spans) (ends : HasHighs spans places) (step : rest ≡ q ∷ others) (cut :
    left ≡ new ++ behind) (begin : (s : Span) → Contains new s → s.low.place ≡ q) (before : Sweeps spans places left rest old) where
  chain_here : Chained IsBefore (q ∷ others)
  chain_here = subst (Chained IsBefore) step before.chain

  ahead_here : IsAhead q others
  ahead_here = ahead_of q others chain_here.0 chain_here.1

  new_is : (s : Span) → Contains new s → Contains spans s
  new_is s member = subst (λ xs. Contains xs s) (sym before.parts)
      (Contains-append_right before.done left s (subst (λ xs. Contains xs s) (sym cut) (Contains-append_left new behind s member)))

  passed_here : (v : Place) → Contains places v → Contains (q ∷ others) v ⊎ IsAhead v (q ∷ others)
  passed_here v member = subst (λ xs. Contains xs v ⊎ IsAhead v xs) step (before.passed v member)

  new_end : (s : Span) → Contains new s → Contains others s.high.place
  new_end s member =
      let rise = subst (λ p. IsBefore p s.high.place) (begin s member) (rises s (new_is s member)) in
      elim (passed_here s.high.place (ends s (new_is s member))) [
        | inl here ↦ elim (contains_cases q others s.high.place here) [
          | inl same ↦ absurd (not_before_itself q s.high.place same rise)
          | inr later ↦ later
        ]
        | inr past ↦ absurd (not_both_ways q s.high.place rise (past q (contains_first q others)))
      ]

  passed_next : (v : Place) → Contains places v → Contains others v ⊎ IsAhead v others
  passed_next v member = elim (passed_here v member) [
    | inl here ↦ elim (contains_cases q others v here) [
      | inl same ↦ inr (subst (λ p. IsAhead p others) same ahead_here)
      | inr later ↦ inl later
    ]
    | inr past ↦ inr (λ w later. past w (contains_later q others w later))
  ]

  pub sweeps_by : IsPassage q new old now → Sweeps spans places behind others now
  sweeps_by passage = record {
    done = before.done ++ new;
    parts = before.parts ∙ ap (λ xs. before.done ++ xs) cut ∙ sym (append_assoc before.done new behind);
    chain = chain_here.1;
    passed = passed_next;
    holds = holds_passed q before.done others new old now ahead_here
        (record { rising = λ s member. rises s (new_is s member); ends = new_end }) passage
        (subst (λ xs. Holds before.done xs old) step before.holds);
  }

pub sweeps_next : (spans : List Span) (places : List Place) (left : List Span) (rest : List Place) (old : List Span) (q : Place) (others :
    List Place) (new behind now : List Span) → AllRise spans → HasHighs spans places → rest ≡ q ∷ others → left ≡ new ++ behind
    → IsPassage q new old now → Sweeps spans places left rest old → Sweeps spans places behind others now
sweeps_next spans places left rest old q others new behind now rises ends step cut passage before =
    sweeps_by spans places left rest old q others new behind now rises ends step cut (λ s member.
    (of_each _ new passage.passes.begins s member).0) before passage

pub sweeps_last : (spans : List Span) (places : List Place) (left : List Span) (rest : List Place) (active : List Span) → rest ≡ []
    → left ≡ [] → Sweeps spans places left rest active → AllMeetLawfully spans
sweeps_last spans places left rest active no_place no_span sweeps e f first second apart =
    let all : spans ≡ sweeps.done = sweeps.parts ∙ ap (λ xs. sweeps.done ++ xs) no_span ∙ append-nil sweeps.done in
    holds_last sweeps.done active (subst (λ xs. Holds sweeps.done xs active) no_place sweeps.holds) e f
    (subst (λ xs. Contains xs e) all first) (subst (λ xs. Contains xs f) all second) apart
