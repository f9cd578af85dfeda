-- Best paths and layers: there is one of each, layers certify the best path, and a path's numbers rise from the first vertex to the last.
use Rattle.std.proofs.Common.{◌≡◌, ◌∙◌, ℕ, zero, suc, ◌+◌, ◌-◌, ◌<◌, ◌≤◌, List, [], ◌∷◌, inl, inr, length, get_or, slice_index, drop, refl}
use Rattle.std.proofs.Common.{sym, ap, subst, arith}
use Rattle.std.specs.List.Sorted.{IsStrictlyIncreasing}
use Rattle.std.proofs.lemmas.Grind.{same_number_lists}
use Rattle.grid_exact.specs.Paths.{LeadsTo, IsPath, IsLeastSteps, AreLayers, Precedes, IsBestPath, Certifies}
use Rattle.grid_exact.proofs.Certificates.{certify, LeadsTo-below}
use Rattle.arc_map.specs.Chains.{Chain}
use Rattle.arc_map.specs.Work.{AreKeptIn}

-- ---- there is one of each

both_precede : (xs ys : List ℕ) → length xs ≡ length ys → Precedes xs ys → Precedes ys xs → xs ≡ ys
both_precede [] [] same first second = refl
both_precede [] (y ∷ ys) same first second = absurd (omega arith)
both_precede (x ∷ xs) [] same first second = absurd (omega arith)
both_precede (x ∷ xs) (y ∷ ys) same (inl less) (inl more) = absurd (omega arith)
both_precede (x ∷ xs) (y ∷ ys) same (inl less) (inr back) = let e = back.0 in absurd (omega arith)
both_precede (x ∷ xs) (y ∷ ys) same (inr on) (inl more) = let e = on.0 in absurd (omega arith)
both_precede (x ∷ xs) (y ∷ ys) same (inr on) (inr back) =
    let first = on.0 in
    let rest = both_precede xs ys (omega arith) on.1 back.1 in
    cc

pub best_path_is_one : (Pair : ℕ → ℕ → Type 0) (m : ℕ) (path other : List ℕ) → IsBestPath Pair m path → IsBestPath Pair m other
    → path ≡ other
best_path_is_one Pair m path other best as_good =
    let same : length path ≡ length other = omega (arith, best.fewest other as_good.leads, as_good.fewest path best.leads) in
    both_precede path other same (best.first other as_good.leads (sym same)) (as_good.first path best.leads same)

least_is_one : (Pair : ℕ → ℕ → Type 0) (m i n k : ℕ) → IsLeastSteps Pair m i n → IsLeastSteps Pair m i k → n ≡ k
least_is_one Pair m i n k first second =
    omega (arith, first.least second.some.0 second.some.1, second.least first.some.0 first.some.1, first.some.2, second.some.2)

pub layers_are_one : (Pair : ℕ → ℕ → Type 0) (m : ℕ) (layers others : List ℕ) → AreLayers Pair m layers → AreLayers Pair m others
    → layers ≡ others
layers_are_one Pair m layers others first second =
    same_number_lists layers others (first.count ∙ sym second.count) (λ k below.
    let within : k ≤ m = omega (arith, first.count) in
    least_is_one Pair m k (slice_index layers k) (slice_index others k) (first.each k within) (second.each k within))

-- ---- layers certify the best path

-- what a path has after its first vertex
pub path_leads : (Pair : ℕ → ℕ → Type 0) (m : ℕ) (path : List ℕ) → IsPath Pair m path
    → LeadsTo Pair m 0 (drop 1 path) × (length path ≡ suc (length (drop 1 path)))
path_leads Pair m [] none = absurd none
path_leads Pair m (start ∷ rest) path = (path.1, refl)

path_from : (Pair : ℕ → ℕ → Type 0) (m : ℕ) (rest : List ℕ) → LeadsTo Pair m 0 rest → IsPath Pair m (0 ∷ rest)
path_from Pair m rest leads = (refl, leads)

pub best_is_certified : (Pair : ℕ → ℕ → Type 0) (m : ℕ) (path layers : List ℕ) → IsBestPath Pair m path → AreLayers Pair m layers
    → Certifies Pair m (length path - 1) layers
best_is_certified Pair m path layers best known =
    let sure = certify Pair m layers known in
    let start = known.each 0 (omega arith) in
    let own = path_leads Pair m path best.leads in
    let steps : slice_index layers 0 ≡ length path - 1 =
    omega (
      arith,
      start.least (drop 1 path) own.0,
      own.1,
      start.some.2,
      best.fewest (0 ∷ start.some.0)
          (path_from Pair m start.some.0 start.some.1),
    ) in
    subst (λ (r : ℕ). Certifies Pair m r layers) steps sure

-- ---- a path's numbers

pub rising_from : (Pair : ℕ → ℕ → Type 0) (m i : ℕ) (rest : List ℕ) → LeadsTo Pair m i rest → IsStrictlyIncreasing (i ∷ rest)
rising_from Pair m i [] leads k below = absurd (omega arith)
rising_from Pair m i (next ∷ rest) leads zero below = leads.0
rising_from Pair m i (next ∷ rest) leads (suc k) below =
    let place : suc k + 1 ≡ suc (k + 1) = omega arith in
    rw place (rising_from Pair m next rest leads.2 k (omega arith))

pub last_is : (Pair : ℕ → ℕ → Type 0) (m i : ℕ) (rest : List ℕ) → LeadsTo Pair m i rest → get_or (i ∷ rest) (length rest) 0 ≡ m
last_is Pair m i [] leads = leads
last_is Pair m i (next ∷ rest) leads = last_is Pair m next rest leads.2

pub path_is_kept : (Pair : ℕ → ℕ → Type 0) (k : Chain) (path : List ℕ) → IsPath Pair (length k.rest) path → AreKeptIn k path
path_is_kept Pair k [] none = absurd none
path_is_kept Pair k (start ∷ rest) path =
    let leads = subst (λ (i : ℕ). LeadsTo Pair (length k.rest) i rest) (sym path.0) path.1 in
    let place : suc (length rest) - 1 ≡ length rest = omega arith in
    record {
      rising = rising_from Pair (length k.rest) start rest leads;
      some = omega arith;
      first = path.0;
      last = rw place (last_is Pair (length k.rest) start rest leads);
    }

-- ---- how long a path is

pub steps_left : (Pair : ℕ → ℕ → Type 0) (m i : ℕ) (rest : List ℕ) → LeadsTo Pair m i rest → i + length rest ≤ m
steps_left Pair m i [] leads = omega arith
steps_left Pair m i (next ∷ rest) leads = let up = leads.0 in omega (arith, steps_left Pair m next rest leads.2)

pub path_short : (Pair : ℕ → ℕ → Type 0) (m : ℕ) (path : List ℕ) → IsPath Pair m path → length path ≤ m + 1
path_short Pair m path leads =
    let parts = path_leads Pair m path leads in
    omega (arith, parts.1, steps_left Pair m 0 (drop 1 path) parts.0)
