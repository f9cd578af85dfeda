-- One walk along a run of items beside the places that are kept of it.
use Rattle.std.proofs.Common.{◌≡◌, ◌≢◌, ◌∙◌, ℕ, ◌+◌, ◌<◌, ◌≤◌, Bool, IsTrue, false, List, length, get_or, set, Contains, inl, inr, sym}
use Rattle.std.proofs.Common.{subst, arith, get_or-set_other, get_or-set_same}
use Rattle.std.specs.List.Sorted.{IsStrictlyIncreasing}
use Rattle.std.proofs.lemmas.Bool.{cases_lt, false≢true}
use Rattle.std.proofs.lemmas.List.{get_or_default}
use Rattle.std.proofs.lemmas.List.Kept.{AllPairs-from_increasing}
use Rattle.arc_map.proofs.Rising.{rising_order}
use Rattle.map_index.specs.Drops.{AreDropped}

-- ---- the walk along the places

-- the places before the number next are less than i, and the others are not
pub record IsWalkedTo (kept : List ℕ) (i next : ℕ) : Type 0 where
  pub within : next ≤ length kept
  pub behind : (j : ℕ) → j < next → get_or kept j 0 < i
  pub ahead : (j : ℕ) → next ≤ j → j < length kept → i ≤ get_or kept j 0

pub walk_passes : (kept : List ℕ) (i next : ℕ) → IsStrictlyIncreasing kept → IsWalkedTo kept i next → next < length kept
    → get_or kept next 0 ≡ i → IsWalkedTo kept (i + 1) (next + 1)
walk_passes kept i next rising walked inside here = record {
  within = omega arith;
  behind = λ j below. elim (cases_lt j next) [
    | inl lt ↦ let less = walked.behind j lt in omega arith
    | inr not_lt ↦ let same : j ≡ next = omega arith in rw (same, here) (omega arith)
  ];
  ahead = λ j past below. let less = AllPairs-from_increasing kept rising next j 0 (omega arith) below in omega arith;
}

pub walk_waits : (kept : List ℕ) (i next : ℕ) → IsStrictlyIncreasing kept → IsWalkedTo kept i next
    → (next < length kept → get_or kept next 0 ≢ i) → IsWalkedTo kept (i + 1) next
walk_waits kept i next rising walked other = record {
  within = walked.within;
  behind = λ j below. let less = walked.behind j below in omega arith;
  ahead = λ j past below.
      let inside : next < length kept = omega arith in
      let there = walked.ahead next (omega arith) inside in
      let apart = other inside in
      let order = rising_order kept rising next j past below in
      omega arith;
}

pub not_kept : (kept : List ℕ) (i next : ℕ) → IsStrictlyIncreasing kept → IsWalkedTo kept i next
    → (next < length kept → get_or kept next 0 ≢ i) → ¬ (Contains kept i)
not_kept kept i next rising walked other has =
    let here : get_or kept has.0 0 ≡ i = get_or_default kept has.0 0 i has.1 ∙ has.2 in
    elim (cases_lt has.0 next) [
      | inl before ↦ let less = walked.behind has.0 before in omega arith
      | inr behind ↦
          let more = (walk_waits kept i next rising walked other).ahead has.0 (omega arith) has.1 in
          omega arith
    ]

-- ---- the items

pub one_kept : (kept : List ℕ) (first i : ℕ) (before now : List Bool) → Contains kept i → AreDropped kept first i before now
    → AreDropped kept first (i + 1) before now
one_kept kept first i before now has so_far = record {
  only = λ at below is. elim (cases_lt at i) [
    | inl lt ↦ so_far.only at lt is
    | inr not_lt ↦ let same : i ≡ at = omega arith in subst (λ n. Contains kept n) same has
  ];
  others = λ n keep. so_far.others n (λ at below. keep at (omega arith));
}

pub one_dropped : (kept : List ℕ) (first i : ℕ) (before now : List Bool) → first + i < length now → ¬ (Contains kept i)
    → AreDropped kept first i before now → AreDropped kept first (i + 1) before (set now (first + i) false)
one_dropped kept first i before now within missing so_far = record {
  only = λ at below is. elim (cases_lt at i) [
    | inl lt ↦
        let other : first + at ≢ first + i = omega arith in
        so_far.only at lt (rw get_or-set_other at is)
    | inr not_lt ↦
        let same : at ≡ i = omega arith in
        let now_false = get_or-set_same now (first + i) false false within in
        absurd (false≢true (sym now_false ∙ subst (λ a. IsTrue (get_or (set now (first + i) false) (first + a) false)) same is))
  ];
  others = λ n keep.
      let other : n ≢ first + i = λ same. missing (keep i (omega arith) same) in
      rw get_or-set_other (so_far.others n (λ at below. keep at (omega arith)));
}
