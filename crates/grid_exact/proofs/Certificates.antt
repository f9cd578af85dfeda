-- What layers show of the paths over a set of pairs.
use Rattle.std.proofs.Common.{◌≡◌, ℕ, ◌+◌, ◌<◌, ◌≤◌, List, [], ◌∷◌, length, slice_index, arith, refl, ap, inl, inr}
use Rattle.std.proofs.lemmas.Bool.{cases_lt}
use Rattle.grid_exact.specs.Paths.{LeadsTo, IsPath, AreLayers, Certifies}

-- what leads to m begins at or before it
pub LeadsTo-below : (Pair : ℕ → ℕ → Type 0) (m i : ℕ) (rest : List ℕ) → LeadsTo Pair m i rest → i ≤ m
LeadsTo-below Pair m i [] same = omega arith
LeadsTo-below Pair m i (next ∷ rest) (after, on, leads) = omega (arith, LeadsTo-below Pair m next rest leads)

-- the least numbers of steps certify
pub certify : (Pair : ℕ → ℕ → Type 0) (m : ℕ) (layers : List ℕ) → AreLayers Pair m layers → Certifies Pair m (slice_index layers 0) layers
certify Pair m layers known = record { count = known.count; last = last; start = refl; falls = falls }
  where
    last : slice_index layers m ≡ 0
    last = omega (arith, (known.each m (omega arith)).least [] refl)

    falls : (i j : ℕ) → i < j → j ≤ m → slice_index layers j + 1 < slice_index layers i → Pair i j → ⊥
    falls i j after below gap on =
        let there = (known.each j below).some in
        omega (arith, (known.each i (omega arith)).least (j ∷ there.0) (after, on, there.1), there.2)

-- one step falls by 1 at most
pub step_falls : (Pair : ℕ → ℕ → Type 0) (m r i j : ℕ) (layers : List ℕ) → Certifies Pair m r layers → i < j → j ≤ m → Pair i j
    → slice_index layers i ≤ slice_index layers j + 1
step_falls Pair m r i j layers sure after below on = elim (cases_lt (slice_index layers j + 1) (slice_index layers i)) [
  | inl gap ↦ absurd (sure.falls i j after below gap on)
  | inr near ↦ near
]

-- along a way the numbers fall to 0
down : (Pair : ℕ → ℕ → Type 0) (m r i : ℕ) (layers rest : List ℕ) → Certifies Pair m r layers → LeadsTo Pair m i rest
    → slice_index layers i ≤ length rest
down Pair m r i layers [] sure same = omega (arith, sure.last, ap (λ (k : ℕ). slice_index layers k) same)
down Pair m r i layers (next ∷ rest) sure (after, on, leads) =
    omega (
      arith,
      step_falls Pair m r i next layers sure after (LeadsTo-below Pair m next rest leads) on,
      down Pair m r next layers rest
          sure leads,
    )

-- a path has at least as many steps as a certificate says
pub no_shorter : (Pair : ℕ → ℕ → Type 0) (m r : ℕ) (layers path : List ℕ) → Certifies Pair m r layers → IsPath Pair m path
    → r + 1 ≤ length path
no_shorter Pair m r layers [] sure none = absurd none
no_shorter Pair m r layers (start ∷ rest) sure (zero_start, leads) = omega (arith, sure.start, down Pair m r 0 layers rest sure leads)
