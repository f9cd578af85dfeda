-- A search in the order of layers: what comes before the candidate is refused.
use Rattle.std.proofs.Common.{◌≡◌, ◌⊎◌, inl, inr, ℕ, ◌+◌, ◌-◌, ◌*◌, ◌<◌, ◌≤◌, ℤ, List, length, slice_index, sym, ap, subst, arith}
use Rattle.std.proofs.lemmas.Bool.{cases_lt}
use Rattle.arc_map.specs.Work.{Work}
use Rattle.layer_paths.specs.Order.{ComesBefore, IsForemost, IsFollowing}
use Rattle.layer_paths.specs.Steps.{IsFirstStep}
use Rattle.shortcut_graph.specs.Weighed.{IsNearRun}
use Rattle.shortcut_graph.specs.Pairs.{AllowedBy, IsReach}

-- the candidate is past i and comes no later than the vertex after i, and no vertex that comes before it is a step
pub record IsCandidate (Pair : ℕ → ℕ → Type 0) (m i : ℕ) (layers : List ℕ) (next : ℕ) : Type 0 where
  pub after : i < next
  pub within : next ≤ m
  pub high : slice_index layers next ≤ slice_index layers (i + 1)
  pub refused : (j : ℕ) → i < j → j ≤ m → ComesBefore layers j next → ¬ (Pair i j)

pub candidate_start : (Pair : ℕ → ℕ → Type 0) (m i front : ℕ) (layers : List ℕ) (next : ℕ) → front ≡ i + 1
    → IsForemost layers front m 0 next → IsCandidate Pair m i layers next
candidate_start Pair m i front layers next at first =
    let up = first.after in
    let high = first.high in
    let value : slice_index layers front ≡ slice_index layers (i + 1) = ap (slice_index layers) at in
    record {
      after = omega arith;
      within = first.within;
      high = omega arith;
      refused = λ j past down before pair. first.none j (omega arith) down (omega arith) before;
    }

-- a candidate that is refused is not the vertex after i, so it comes before that one
pub not_last : (Pair : ℕ → ℕ → Type 0) (m i front : ℕ) (layers : List ℕ) (next : ℕ) → front ≡ i + 1 → i < m → Pair i (i + 1)
    → ¬ (Pair i next) → IsCandidate Pair m i layers next → slice_index layers next < slice_index layers front
not_last Pair m i front layers next at within neighbours refused c =
    let up = c.after in
    let high = c.high in
    let value : slice_index layers front ≡ slice_index layers (i + 1) = ap (slice_index layers) at in
    elim (cases_lt (slice_index layers next) (slice_index layers front)) [
      | inl less ↦ less
      | inr as_much ↦ elim (cases_lt (i + 1) next) [
        | inl past ↦ absurd (c.refused (i + 1) (omega arith) (omega arith) (inr (omega arith, past)) neighbours)
        | inr not_past ↦ let same : next ≡ i + 1 = omega arith in absurd (refused (subst (λ (n : ℕ). Pair i n) (sym same) neighbours))
      ]
    ]

pub candidate_more : (Pair : ℕ → ℕ → Type 0) (m i front reach : ℕ) (layers : List ℕ) (next after : ℕ) → front ≡ i + 1 → reach ≤ m
    → ¬ (Pair i next) → ((j : ℕ) → reach < j → j ≤ m → ¬ (Pair i j)) → IsFollowing layers front reach next after
    → IsCandidate Pair m i layers next → IsCandidate Pair m i layers after
candidate_more Pair m i front reach layers next after at low refused far following c =
    let up = following.after in
    let down = following.within in
    let high = following.high in
    let value : slice_index layers front ≡ slice_index layers (i + 1) = ap (slice_index layers) at in
    record {
      after = omega arith;
      within = omega arith;
      high = omega arith;
      refused = λ j past below before pair. elim (cases_lt reach j) [
        | inl beyond ↦ far j beyond below pair
        | inr near ↦ elim (following.between j (omega arith) (omega arith) before) [
          | inl earlier ↦ c.refused j past below earlier pair
          | inr same ↦ refused (subst (λ (n : ℕ). Pair i n) same pair)
        ]
      ];
    }

pub candidate_found : (Pair : ℕ → ℕ → Type 0) (m i : ℕ) (layers : List ℕ) (next : ℕ) → Pair i next → IsCandidate Pair m i layers next
    → IsFirstStep Pair m i next layers
candidate_found Pair m i layers next on c = record {
  after = c.after;
  within = c.within;
  on = on;
  first = λ j past down pair. elim (cases_lt (slice_index layers next) (slice_index layers j)) [
    | inl less ↦ inl less
    | inr not_less ↦ elim (cases_lt (slice_index layers j) (slice_index layers next)) [
      | inl more ↦ absurd (c.refused j past down (inl more) pair)
      | inr as_much ↦ elim (cases_lt j next) [
        | inl earlier ↦ absurd (c.refused j past down (inr (omega arith, earlier)) pair)
        | inr later ↦ inr (omega arith, later)
      ]
    ]
  ];
}

-- how many candidates may still come
abbrev pub left_after : List ℕ → ℕ → ℕ → ℕ
left_after layers front next = (slice_index layers front - slice_index layers next) * 1024 + (1024 - next)

pub fewer_left : (layers : List ℕ) (front reach next after : ℕ) → reach < 1024 → next < 1024 → IsFollowing layers front reach next after
    → left_after layers front after < left_after layers front next
fewer_left layers front reach next after small low following =
    let down = following.within in
    let high = following.high in
    elim following.rises [
      | inl less ↦ omega arith
      | inr same ↦ let e = same.0 in let l = same.1 in omega arith
    ]

-- no pair past the reach is allowed
pub far_past : (w : Work) (k : ℕ) (xs ys : List ℤ) (bound : ℤ) (i reach m : ℕ) → m + 1 ≡ length xs → IsReach xs ys bound i reach → (j : ℕ)
    → reach < j → j ≤ m → ¬ (AllowedBy w k xs ys bound i j)
far_past w k xs ys bound i reach m size is j past down allowed =
    let after = is.after in
    elim allowed [ inl e ↦ omega arith | inr h ↦ is.far j past (omega arith) h.1 ]

pub reach_start : (xs ys : List ℤ) (bound : ℤ) (i m : ℕ) → m + 1 ≡ length xs → i < m → IsReach xs ys bound i m
reach_start xs ys bound i m size within = record { after = within; within = omega arith; far = λ j past down near. omega arith }

-- ---- two sets with the same pairs from one vertex

pub first_alike : (P Q : ℕ → ℕ → Type 0) (m i next : ℕ) (layers : List ℕ) → ((j : ℕ) → i < j → j ≤ m → P i j → Q i j)
    → ((j : ℕ) → i < j → j ≤ m → Q i j → P i j) → IsFirstStep P m i next layers → IsFirstStep Q m i next layers
first_alike P Q m i next layers there back first =
    record {
      after = first.after;
      within = first.within;
      on = there next first.after first.within first.on;
      first = λ j past down pair. first.first j past down (back j past down pair);
    }
