-- The least number of steps from a vertex, and its next vertex, out of those behind it.
use Rattle.std.proofs.Common.{◌≡◌, ℕ, ◌+◌, ◌<◌, ◌≤◌, ◌≢◌, List, [], ◌∷◌, length, take, slice_index, slice_set, arith, ◌∙◌, ap, sym, subst}
use Rattle.std.proofs.Common.{inl, inr, refl}
use Rattle.std.proofs.lemmas.Bool.{cases_lt}
use Rattle.std.proofs.lemmas.List.{get_or-take, length-set, length-take-le}
use Rattle.grid_exact.specs.Paths.{LeadsTo, IsLeastSteps, AreLayers}
use Rattle.grid_exact.proofs.Certificates.{LeadsTo-below}
use Rattle.layer_paths.specs.Steps.{IsFirstStep, IsNext}
use Rattle.layer_paths.specs.Lay.{Lay, IsLayered, IsSingle}
use Rattle.layer_paths.proofs.Threads.{here, there}

-- at m itself no step is left
pub layered_start : (Pair : ℕ → ℕ → Type 0) (m : ℕ) (l : Lay) → l.last ≡ m → l.front ≡ m → slice_index l.layers m ≡ 0 → m < length l.layers
    → m < length l.nexts → IsLayered Pair m l
layered_start Pair m l last front zero_there room next_room =
    record { last = last; room = room; next_room = next_room; layer = at_end; next = λ k up down. absurd (omega arith) }
  where
    at_end : (k : ℕ) → l.front ≤ k → k ≤ m → IsLeastSteps Pair m k (slice_index l.layers k)
    at_end k up down =
        let same : k ≡ m = omega arith in
        let none : slice_index l.layers k ≡ 0 = ap (slice_index l.layers) same ∙ zero_there in
        record { some = ([], same, sym none); least = λ rest leads. omega (arith, none) }

-- one step more than from the first vertex to which one leads
least_steps_more : (Pair : ℕ → ℕ → Type 0) (m i j : ℕ) (layers : List ℕ)
    → ((k : ℕ) → i < k → k ≤ m → IsLeastSteps Pair m k (slice_index layers k)) → IsFirstStep Pair m i j layers → i < m
    → IsLeastSteps Pair m i (slice_index layers j + 1)
least_steps_more Pair m i j layers known first before =
    let behind = known j first.after first.within in
    record {
      some = (j ∷ behind.some.0, (first.after, first.on, behind.some.1), omega (arith, behind.some.2));
      least = no_fewer;
    }
  where
    no_fewer : (rest : List ℕ) → LeadsTo Pair m i rest → slice_index layers j + 1 ≤ length rest
    no_fewer [] same = absurd (omega arith)
    no_fewer (next ∷ rest) (after, on, leads) =
        let below = LeadsTo-below Pair m next rest leads in
        let steps = (known next after below).least rest leads in
        elim (first.first next after below on) [ inl less ↦ omega arith | inr same ↦ let e = same.0 in omega arith ]

-- a vertex before these is written
next_kept : (Pair : ℕ → ℕ → Type 0) (m k next i n : ℕ) (layers : List ℕ) → i < k → IsNext Pair m k next layers
    → IsNext Pair m k next (slice_set layers i n)
next_kept Pair m k next i n layers before is =
    let up = is.after in
    let stays : (j : ℕ) → i < j → slice_index (slice_set layers i n) j ≡ slice_index layers j = λ j past.
    (let ne : j ≢ i = (λ e. absurd (omega arith)) in there layers i j n ne) in
    record {
      after = is.after;
      within = is.within;
      on = is.on;
      nearer = let a = stays next (omega arith) in let b = stays k before in let less = is.nearer in omega arith;
      least = λ j past down on less. is.least j past down on (let a = stays j (omega arith) in let b = stays k before in omega arith);
    }

next_found : (Pair : ℕ → ℕ → Type 0) (m i j : ℕ) (layers : List ℕ) → i < length layers → IsFirstStep Pair m i j layers
    → IsNext Pair m i j (slice_set layers i (slice_index layers j + 1))
next_found Pair m i j layers room first =
    let n = slice_index layers j + 1 in
    let up = first.after in
    let stays : (k : ℕ) → i < k → slice_index (slice_set layers i n) k ≡ slice_index layers k = λ k past.
    (let ne : k ≢ i = (λ e. absurd (omega arith)) in there layers i k n ne) in
    let written = here layers i n room in
    record {
      after = first.after;
      within = first.within;
      on = first.on;
      nearer = let a = stays j up in omega arith;
      least = λ k past down on less.
          let a = stays k past in
          elim (first.first k past down on) [ inl more ↦ absurd (omega arith) | inr same ↦ same.1 ];
    }

-- the vertex before the front one is put in front, with its first step
pub layered_more : (Pair : ℕ → ℕ → Type 0) (m i j : ℕ) (old new : Lay) → new.last ≡ old.last → i + 1 ≡ old.front → new.front + 1 ≡ old.front
    → i < m → new.layers ≡ slice_set old.layers new.front (slice_index old.layers j + 1) → new.nexts ≡ slice_set old.nexts new.front j
    → IsFirstStep Pair m i j old.layers → IsLayered Pair m old → IsLayered Pair m new
layered_more Pair m i j old new last up front before layers nexts first known =
    record {
      last = last ∙ known.last;
      room = let r = known.room in let e = ap length is_layers in let s = length-set old.layers i n in omega arith;
      next_room = let r = known.next_room in let e = ap length is_nexts in let s = length-set old.nexts i j in omega arith;
      layer = layer;
      next = next;
    }
  where
    n : ℕ
    n = slice_index old.layers j + 1

    same : new.front ≡ i
    same = omega arith

    is_layers : new.layers ≡ slice_set old.layers i n
    is_layers = layers ∙ ap (λ (x : ℕ). slice_set old.layers x n) same

    is_nexts : new.nexts ≡ slice_set old.nexts i j
    is_nexts = nexts ∙ ap (λ (x : ℕ). slice_set old.nexts x j) same

    layer : (k : ℕ) → new.front ≤ k → k ≤ m → IsLeastSteps Pair m k (slice_index new.layers k)
    layer k above below =
        subst (λ (xs : List ℕ). IsLeastSteps Pair m k (slice_index xs k)) (sym is_layers) (elim (cases_lt i k) [
          | inl past ↦
              let ne : k ≢ i = (λ e. absurd (omega arith)) in
              subst (λ (x : ℕ). IsLeastSteps Pair m k x) (sym (there old.layers i k n ne)) (known.layer k (omega arith) below)
          | inr not_past ↦
              let it : k ≡ i = omega arith in
              subst (λ (x : ℕ). IsLeastSteps Pair m x (slice_index (slice_set old.layers i n) x)) (sym it)
              (subst (λ (x : ℕ). IsLeastSteps Pair m i x) (sym (here old.layers i n (let r = known.room in omega arith)))
              (least_steps_more Pair m i j old.layers (λ k past down. known.layer k (omega arith) down) first before))
        ])

    next : (k : ℕ) → new.front ≤ k → k < m → IsNext Pair m k (slice_index new.nexts k) new.layers
    next k above below =
        subst (λ (xs : List ℕ). IsNext Pair m k (slice_index new.nexts k) xs) (sym is_layers)
        (subst (λ (xs : List ℕ). IsNext Pair m k (slice_index xs k) (slice_set old.layers i n)) (sym is_nexts) (elim (cases_lt i k) [
          | inl past ↦
              let ne : k ≢ i = (λ e. absurd (omega arith)) in
              subst (λ (x : ℕ). IsNext Pair m k x (slice_set old.layers i n)) (sym (there old.nexts i k j ne))
              (next_kept Pair m k (slice_index old.nexts k) i n old.layers past (known.next k (omega arith) below))
          | inr not_past ↦
              let it : k ≡ i = omega arith in
              subst (λ (x : ℕ). IsNext Pair m x (slice_index (slice_set old.nexts i j) x) (slice_set old.layers i n)) (sym it)
              (subst (λ (x : ℕ). IsNext Pair m i x (slice_set old.layers i n))
              (sym (here old.nexts i j (let r = known.next_room in omega arith)))
              (next_found Pair m i j old.layers (let r = known.room in omega arith) first))
        ]))

-- one step from 0 to 1
pub single_layered : (Pair : ℕ → ℕ → Type 0) (l : Lay) → Pair 0 1 → IsSingle l → IsLayered Pair 1 l
single_layered Pair l on is = record { last = is.last; room = is.room; next_room = is.next_room; layer = layer; next = next }
  where
    some_step : (rest : List ℕ) → LeadsTo Pair 1 0 rest → 1 ≤ length rest
    some_step [] there_it_is = absurd (omega arith)
    some_step (k ∷ rest) leads = omega arith

    layer : (k : ℕ) → l.front ≤ k → k ≤ 1 → IsLeastSteps Pair 1 k (slice_index l.layers k)
    layer k up down = elim (cases_lt 0 k) [
      | inl more ↦
          let same : k ≡ 1 = omega arith in
          let none : slice_index l.layers k ≡ 0 = ap (slice_index l.layers) same ∙ is.last_layer in
          record { some = ([], same, sym none); least = λ rest leads. omega arith }
      | inr not_more ↦
          let same : k ≡ 0 = omega arith in
          let one : slice_index l.layers k ≡ 1 = ap (slice_index l.layers) same ∙ is.first_layer in
          subst (λ (n : ℕ). IsLeastSteps Pair 1 n (slice_index l.layers n)) (sym same)
          (subst (λ (n : ℕ). IsLeastSteps Pair 1 0 n) (sym is.first_layer)
          (record { some = (1 ∷ [], (omega arith, on, refl), refl); least = some_step }))
    ]

    next : (k : ℕ) → l.front ≤ k → k < 1 → IsNext Pair 1 k (slice_index l.nexts k) l.layers
    next k up down =
        let same : k ≡ 0 = omega arith in
        subst (λ (n : ℕ). IsNext Pair 1 n (slice_index l.nexts n) l.layers) (sym same)
        (subst (λ (n : ℕ). IsNext Pair 1 0 n l.layers) (sym is.first_next) (record {
          after = omega arith;
          within = omega arith;
          on = on;
          nearer = let a = is.first_layer in let b = is.last_layer in omega arith;
          least = λ j past below pair less. past;
        }))

-- the layers from 0 on are all layers
pub all_layers : (Pair : ℕ → ℕ → Type 0) (m : ℕ) (l : Lay) → l.front ≡ 0 → IsLayered Pair m l → AreLayers Pair m (take (m + 1) l.layers)
all_layers Pair m l whole known = record {
  count = length-take-le (m + 1) l.layers (let r = known.room in omega arith);
  each = λ i below.
      let inside : i < m + 1 = omega arith in
      rw get_or-take (known.layer i (omega arith) below);
}
