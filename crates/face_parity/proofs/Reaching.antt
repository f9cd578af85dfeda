-- Runs are added to the cells that they reach, row by row.
use Rattle.std.proofs.Common.{◌≡◌, ◌≢◌, ◌⊎◌, ◌∙◌, ℕ, ◌+◌, ◌-◌, ◌/◌, ◌<◌, ◌≤◌, true, false, List, [], ◌∷◌, ◌++◌, All, Contains, length, refl}
use Rattle.std.proofs.Common.{ap, sym, subst, arith, inl, inr}
use Rattle.std.specs.List.Sorted.{IsPermutation}
use Rattle.std.proofs.Math.Nat.{div-le_self}
use Rattle.std.proofs.lemmas.Bool.{cases_eq, true≢false}
use Rattle.std.proofs.lemmas.List.Elements.{All-get_or, All-nil, All-push, All-weaker, Contains-append_left, Contains-push}
use Rattle.std.proofs.lemmas.List.Quantifiers.{all_pairs_push}
use Rattle.sweep_index.specs.Gathered.{made_over}
use Rattle.sweep_index.proofs.Distinct.{pairs_nil}
use Rattle.sweep_index.proofs.Gathering.{none_gathered, reordered, reworded, with_thing}
use Rattle.sweep_index.proofs.Orders.{div_rises}
use Rattle.face_parity.specs.Celled.{AreCelled, AreCelledBefore, AreWideTo, DoesReach, HasBox, InRow, IsInRowBefore, IsOfRow, cell_in}
use Rattle.face_parity.specs.Celled.{first_cell, is_wide, last_cell, run_at, spot_of}
use Rattle.face_parity.specs.declared.cells.Celled.{Celled}
use Rattle.face_parity.specs.declared.cells.Limits.{Limits}
use Rattle.face_parity.specs.declared.runs.Run.{Run}

same-in-row : (k : InRow) (number row : ℕ) → k.run ≡ number → k.row ≡ row → k ≡ record { run = number; row = row }
same-in-row k number row runs rows = ap (λ n. record { run = n; row = k.row }) runs ∙ ap (λ n. record { run = number; row = n }) rows

not-itself : (number row : ℕ) → (number < number) ⊎ ((number ≡ number) × (row < row)) → ⊥
not-itself number row (inl less) = omega (arith, less)
not-itself number row (inr both) = let less = both.1 in omega (arith, less)

row-more : (number row : ℕ) (k : InRow) → IsInRowBefore number row k → IsInRowBefore number (row + 1) k
row-more number row k (inl less) = inl less
row-more number row k (inr both) = inr (both.0, let less = both.1 in omega (arith, less))

row-last : (number row : ℕ) (k : InRow) → IsInRowBefore number (row + 1) k
    → IsInRowBefore number row k ⊎ (k ≡ record { run = number; row = row })
row-last number row k (inl less) = inl (inl less)
row-last number row k (inr both) = elim (cases_eq k.row row) [
  | inl here ↦ inr (same-in-row k number row both.0 here)
  | inr elsewhere ↦ inl (inr (both.0, let less = both.1 in omega (arith, less, elsewhere)))
]

module _ (runs : List Run) (limits : Limits) (width height : ℕ) where
  -- no row of a run before its first one
  pub rows-start : (number : ℕ) (celled : List Celled) → AreCelledBefore runs limits width height number 0 celled
      → AreCelledBefore runs limits width height number ((run_at runs number).floor / height) celled
  rows-start number celled are =
      reworded spot_of IsOfRow (first_cell runs width) (last_cell runs width)
      (λ k. DoesReach runs limits height k × IsInRowBefore number 0 k) (λ k. DoesReach runs limits height k
      × IsInRowBefore number ((run_at runs number).floor / height) k) celled
      (λ k old. (old.0, there k old.1))
      (λ k new. (new.0, back k new.0 new.1)) are
    where
      there : (k : InRow) → IsInRowBefore number 0 k → IsInRowBefore number ((run_at runs number).floor / height) k
      there k (inl less) = inl less
      there k (inr both) = let less = both.1 in absurd (omega (arith, less))

      back : (k : InRow) → DoesReach runs limits height k → IsInRowBefore number ((run_at runs number).floor / height) k
          → IsInRowBefore number 0 k
      back k reach (inl less) = inl less
      back k reach (inr both) =
          let less = both.1 in
          let low = reach.low in
          let same : (run_at runs k.run).floor / height ≡ (run_at runs number).floor / height =
          ap (λ n. (run_at runs n).floor / height) both.0 in
          absurd (omega (arith, less, low, same))

  -- and none behind its last one
  pub rows-end : (number row : ℕ) (celled : List Celled) → (run_at runs number).bounds.north / height + 1 ≤ row
      → AreCelledBefore runs limits width height number row celled → AreCelledBefore runs limits width height (number + 1) 0 celled
  rows-end number row celled done are =
      reworded spot_of IsOfRow (first_cell runs width) (last_cell runs width)
      (λ k. DoesReach runs limits height k × IsInRowBefore number row k) (λ k. DoesReach runs limits height k
      × IsInRowBefore (number + 1) 0 k) celled
      (λ k old. (old.0, there k old.1))
      (λ k new. (new.0, back k new.0 new.1)) are
    where
      there : (k : InRow) → IsInRowBefore number row k → IsInRowBefore (number + 1) 0 k
      there k (inl less) = inl (omega (arith, less))
      there k (inr both) = inl (let same = both.0 in omega (arith, same))

      back : (k : InRow) → DoesReach runs limits height k → IsInRowBefore (number + 1) 0 k → IsInRowBefore number row k
      back k reach (inl less) = elim (cases_eq k.run number) [
        | inl here ↦
            let high = reach.high in
            let same : (run_at runs k.run).bounds.north / height ≡ (run_at runs number).bounds.north / height =
            ap (λ n. (run_at runs n).bounds.north / height) here in
            inr (here, omega (arith, high, same, done))
        | inr elsewhere ↦ inl (omega (arith, less, elsewhere))
      ]
      back k reach (inr both) = let less = both.1 in absurd (omega (arith, less))

  -- a row more
  pub rows-more : (number row : ℕ) (celled : List Celled) → 0 < width → All HasBox runs → number < length runs
      → is_wide limits (run_at runs number) ≡ false → (run_at runs number).floor / height ≤ row
      → row ≤ (run_at runs number).bounds.north / height → AreCelledBefore runs limits width height number row celled
      → AreCelledBefore runs limits width height number (row + 1)
      (celled ++ made_over (λ cell. record { cell = cell; row = row; run = number })
      (cell_in row ((run_at runs number).bounds.west / width)) (cell_in row ((run_at runs number).bounds.east / width) + 1 - cell_in row
      ((run_at runs number).bounds.west / width)))
  rows-more number row celled wide boxes within narrow low high so_far =
      let r = run_at runs number in
      let box = All-get_or HasBox runs number (run_at [] 0) within boxes in
      let rises : r.bounds.west / width ≤ r.bounds.east / width = div_rises r.bounds.west r.bounds.east width wide box.across in
      let most = box.small.0 in
      let least : r.bounds.east / width ≤ r.bounds.east = div-le_self r.bounds.east width in
      with_thing spot_of IsOfRow (first_cell runs width) (last_cell runs width)
      (λ k. DoesReach runs limits height k × IsInRowBefore number row k) (λ k. DoesReach runs limits height k
      × IsInRowBefore number (row + 1) k) celled
      (record { run = number; row = row }) (λ cell. record { cell = cell; row = row; run = number })
      (cell_in row (r.bounds.west / width)) (cell_in row (r.bounds.east / width)) so_far (λ slot. refl)
      refl refl (omega (arith, rises))
      (λ slot from to. record { low = omega (arith, from); high = omega (arith, to, most, least) })
      (λ old. not-itself number row old.1)
      (record { run = within; narrow = narrow; low = low; high = high }, inr (refl, omega arith))
      (λ k old. (old.0, row-more number row k old.1))
      (λ k new. elim (row-last number row k new.1) [ inl old ↦ inl (new.0, old) | inr same ↦ inr same ])

  -- a wide run is in no cell
  pub rows-wide : (number : ℕ) (celled : List Celled) → is_wide limits (run_at runs number) ≡ true
      → AreCelledBefore runs limits width height number 0 celled → AreCelledBefore runs limits width height (number + 1) 0 celled
  rows-wide number celled wide are =
      reworded spot_of IsOfRow (first_cell runs width) (last_cell runs width)
      (λ k. DoesReach runs limits height k × IsInRowBefore number 0 k) (λ k. DoesReach runs limits height k
      × IsInRowBefore (number + 1) 0 k) celled
      (λ k old. (old.0, there k old.1))
      (λ k new. (new.0, back k new.0 new.1)) are
    where
      there : (k : InRow) → IsInRowBefore number 0 k → IsInRowBefore (number + 1) 0 k
      there k (inl less) = inl (omega (arith, less))
      there k (inr both) = let less = both.1 in absurd (omega (arith, less))

      back : (k : InRow) → DoesReach runs limits height k → IsInRowBefore (number + 1) 0 k → IsInRowBefore number 0 k
      back k reach (inl less) = elim (cases_eq k.run number) [
        | inl here ↦ absurd (true≢false (sym (ap (λ n. is_wide limits (run_at runs n)) here ∙ wide) ∙ reach.narrow))
        | inr elsewhere ↦ inl (omega (arith, less, elsewhere))
      ]
      back k reach (inr both) = let less = both.1 in absurd (omega (arith, less))

  pub none-celled : AreCelledBefore runs limits width height 0 0 []
  none-celled = none_gathered spot_of IsOfRow (first_cell runs width) (last_cell runs width) (λ k. DoesReach runs limits height k
      × IsInRowBefore 0 0 k) (λ k wanted. none k wanted.1)
    where
      none : (k : InRow) → IsInRowBefore 0 0 k → ⊥
      none k (inl less) = omega (arith, less)
      none k (inr both) = let less = both.1 in omega (arith, less)

  pub all-celled : (number : ℕ) (celled : List Celled) → length runs ≤ number → AreCelledBefore runs limits width height number 0 celled
      → AreCelled runs limits width height celled
  all-celled number celled all are =
      reworded spot_of IsOfRow (first_cell runs width) (last_cell runs width)
      (λ k. DoesReach runs limits height k × IsInRowBefore number 0 k) (DoesReach runs limits height) celled
      (λ k old. old.0) (λ k reach. (reach, let within = reach.run in inl (omega (arith, within, all)))) are

  pub celled-reordered : (xs ys : List Celled) → IsPermutation xs ys → AreCelled runs limits width height xs
      → AreCelled runs limits width height ys
  celled-reordered xs ys moves are = reordered spot_of IsOfRow (first_cell runs width) (last_cell runs width) (DoesReach runs limits height)
      xs ys moves are

-- ---- the wide runs

module _ (runs : List Run) (limits : Limits) where
  pub none-wide : AreWideTo runs limits 0 []
  none-wide = record {
    only = All-nil (λ n. (n < 0) × (is_wide limits (run_at runs n) ≡ true));
    all = λ n none wide. absurd (omega (arith, none));
    once = pairs_nil (λ i j. i ≢ j);
  }

  pub wide-more : (number : ℕ) (wides : List ℕ) → is_wide limits (run_at runs number) ≡ true → AreWideTo runs limits number wides
      → AreWideTo runs limits (number + 1) (wides ++ number ∷ [])
  wide-more number wides wide are = record {
    only = All-push (λ n. (n < number + 1) × (is_wide limits (run_at runs n) ≡ true)) wides number
        (All-weaker (λ n. (n < number) × (is_wide limits (run_at runs n) ≡ true)) (λ n. (n < number + 1)
        × (is_wide limits (run_at runs n) ≡ true)) (λ n is. (let less = is.0 in omega (arith, less), is.1)) wides are.only)
        (omega arith, wide);
    all = λ n less is. elim (cases_eq n number) [
      | inl here ↦ subst (Contains (wides ++ number ∷ [])) (sym here) (Contains-push wides number)
      | inr elsewhere ↦ Contains-append_left wides (number ∷ []) n (are.all n (omega (arith, less, elsewhere)) is)
    ];
    once = all_pairs_push (λ i j. i ≢ j) wides number are.once (λ n d within same. let less = (are.only n d within).0 in
        omega (arith, less, same));
  }

  pub wide-skip : (number : ℕ) (wides : List ℕ) → is_wide limits (run_at runs number) ≡ false → AreWideTo runs limits number wides
      → AreWideTo runs limits (number + 1) wides
  wide-skip number wides narrow are = record {
    only = All-weaker (λ n. (n < number) × (is_wide limits (run_at runs n) ≡ true)) (λ n. (n < number + 1)
        × (is_wide limits (run_at runs n) ≡ true)) (λ n is. (let less = is.0 in omega (arith, less), is.1)) wides are.only;
    all = λ n less is. elim (cases_eq n number) [
      | inl here ↦ absurd (true≢false (sym is ∙ ap (λ k. is_wide limits (run_at runs k)) here ∙ narrow))
      | inr elsewhere ↦ are.all n (omega (arith, less, elsewhere)) is
    ];
    once = are.once;
  }
