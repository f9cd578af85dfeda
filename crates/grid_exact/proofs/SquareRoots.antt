-- Square roots, rounded down: Newton's step stays above the root, and what a greatest root says of squares.
--
-- `above_next`, `next_below`, `above_start` and those behind it serve the loop that finds a root, and `greatest_root` says that it found
-- one. `within_root` turns a comparison of squares into one of numbers: use it where a test goes by a threshold.
use Rattle.std.proofs.Common.{◌≡◌, ◌↔◌, ℕ, ◌+◌, ◌*◌, ◌/◌, ◌%◌, ◌^◌, ◌<◌, ◌≤◌, ◌-◌, zero, suc, inl, inr, arith, ℤ, pos, negsuc, ◌+ℤ◌, ◌-ℤ◌}
use Rattle.std.proofs.Common.{◌*ℤ◌, neg_ℤ, ◌≤ℤ◌, refl}
use Rattle.std.proofs.lemmas.Int.{ints}
use Rattle.std.proofs.Math.Nat.{div-mul-le_self, div-le_of_le-mul}
use Rattle.std.proofs.lemmas.Nat.{mul-le, pow-add, shl_whole}
use Rattle.std.proofs.lemmas.Bool.{cases_lt}
use Rattle.std.proofs.Math.Pow.{pow_mono}
use Rattle.grid_exact.specs.Geometry.{square_of}
use Rattle.grid_exact.specs.Near.{IsGreatestRoot}
use Rattle.grid_exact.proofs.WholeLaws.{sums}
use Rattle.grid_exact.proofs.Signs.{times_nonnegative}
use Rattle.grid_exact.proofs.Polynomial.{Whole, ◌⊕◌, ◌⊖◌, ◌⊗◌, ◌≈◌, identity_1, identity_2}

-- ---- finding a root

product_by_gap : (a b gap : ℕ) → b ≡ a + gap → 4 * (a * b) ≤ (a + b) * (a + b)
product_by_gap a b gap e = rw e (omega arith)

product_by_gap_below : (a b gap : ℕ) → a ≡ b + gap → 4 * (a * b) ≤ (a + b) * (a + b)
product_by_gap_below a b gap e = rw e (omega arith)

-- four times a product is at most the square of the sum
product_in_square : (a b : ℕ) → 4 * (a * b) ≤ (a + b) * (a + b)
product_in_square a b = elim (cases_lt a b) [
  | inl h ↦ product_by_gap a b (b - a) (omega arith)
  | inr h ↦ product_by_gap_below a b (a - b) (omega arith)
]

quotient_below : (n root : ℕ) → n < root * root → n / root < root
quotient_below n root high =
    elim (cases_lt (n / root) root) [
      | inl below ↦ below
      | inr over ↦ (let square = mul-le root root (n / root) root over (omega arith) in let part = div-mul-le_self n root in
          absurd (omega arith))
    ]

-- Newton's step from above the root of n falls
pub next_below : (n root : ℕ) → n < root * root → (root + n / root) / 2 < root
next_below n root high = let below = quotient_below n root high in omega arith

some_root : (n root : ℕ) → n < root * root → 1 ≤ root
some_root n zero high = absurd (omega arith)
some_root n (suc root) high = omega arith

-- it leads no further than to the root
pub above_next : (n root : ℕ) → n < root * root → n < ((root + n / root) / 2 + 1) * ((root + n / root) / 2 + 1)
above_next n root high =
    let some : 1 ≤ root = some_root n root high in
    let q = n / root in
    let next = (root + n / root) / 2 in
    let below : n < (q + 1) * root = omega arith in
    let half : q + 1 + root ≤ 2 * (next + 1) = omega arith in
    let square = mul-le (q + 1 + root) (q + 1 + root) (2 * (next + 1)) (2 * (next + 1)) half half in
    let four : 4 * ((q + 1) * root) ≤ (q + 1 + root) * (q + 1 + root) = product_in_square (q + 1) root in
    omega arith

-- the line (6 + 3 * m) / 8 is above the root of m
pub above_start : (n p : ℕ) → 1 ≤ p → n < (3 * (2 * p + n / p) / 8 + 1 + 1) * (3 * (2 * p + n / p) / 8 + 1 + 1)
above_start n p some =
    let q = n / p in
    let start = 3 * (2 * p + q) / 8 + 1 in
    let below : n < (q + 1) * p = omega arith in
    let eighth : 3 * (2 * p + (q + 1)) ≤ 8 * (start + 1) = omega arith in
    let square = mul-le (3 * (2 * p + (q + 1))) (3 * (2 * p + (q + 1))) (8 * (start + 1)) (8 * (start + 1)) eighth eighth in
    let four : 4 * ((2 * p) * (q + 1)) ≤ (2 * p + (q + 1)) * (2 * p + (q + 1)) = product_in_square (2 * p) (q + 1) in
    omega arith

-- a number has at most two more digits than twice half its digits
pub quotient_low : (n k : ℕ) → n < 2 * 2 ^ k → n / 2 ^ (k / 2) ≤ 4 * 2 ^ (k / 2)
quotient_low n k high =
    let twice : k + 1 ≤ (k / 2 + k / 2) + 2 = omega arith in
    let more : 2 ^ (k + 1) ≤ 2 ^ ((k / 2 + k / 2) + 2) = pow_mono twice in
    let next : 2 ^ (k + 1) ≡ 2 ^ k * 2 ^ 1 = pow-add 2 k 1 in
    let four : 2 ^ ((k / 2 + k / 2) + 2) ≡ 2 ^ (k / 2 + k / 2) * 2 ^ 2 = pow-add 2 (k / 2 + k / 2) 2 in
    let square : 2 ^ (k / 2 + k / 2) ≡ 2 ^ (k / 2) * 2 ^ (k / 2) = pow-add 2 (k / 2) (k / 2) in
    div-le_of_le-mul (2 ^ (k / 2)) (omega arith)

pub half_low : (n k : ℕ) → 2 ^ k ≤ n → n ≤ 2 ^ 121 → k / 2 ≤ 60
half_low n k low high = elim (cases_lt 121 k) [
  | inl h ↦ (let past : 122 ≤ k = omega arith in let more : 2 ^ 122 ≤ 2 ^ k = pow_mono past in
      absurd (omega arith))
  | inr h ↦ omega arith
]

-- a power of 2 times 2, as it is computed
pub doubled : (k : ℕ) → k ≤ 60 → (2 * 2 ^ k) % 2 ^ 128 ≡ 2 * 2 ^ k
doubled k low = shl_whole 2 2 k 128 (omega arith) (omega arith)

-- ---- what a greatest root says

below_root : (n r : ℕ) (u : ℤ) → n < (r + 1) * (r + 1) → square_of u ≤ℤ pos n → u ≤ℤ pos r
below_root n r (negsuc u) next small = omega (arith, ints)
below_root n r (pos u) next small =
    elim (cases_lt r u) [
      | inl h ↦ (let more : r + 1 ≤ u = omega arith in let square = mul-le (r + 1) (r + 1) u u more more in absurd (omega (arith, ints)))
      | inr h ↦ omega (arith, ints)
    ]

pub greatest_root : (n r : ℕ) (z t : ℤ) → z ≡ pos n → t ≡ pos r → r * r ≤ n → n < (r + 1) * (r + 1) → IsGreatestRoot z t
greatest_root n r z t e f square next = record {
  nonnegative = rw f (omega (arith, ints));
  square = rw (e, f) (omega (arith, ints));
  greatest = λ u small. rw f (below_root n r u next (rw e at small));
}

pub within_root : (n t v : ℤ) → IsGreatestRoot n t → (square_of v ≤ℤ n) ↔ ((neg_ℤ t ≤ℤ v) × (v ≤ℤ t))
within_root n t v root = (
  λ small.
      let same : square_of (pos 0 -ℤ v) ≡ square_of v = identity_1 v (λ v. (Whole (pos 0) ⊖ v) ⊗ (Whole (pos 0) ⊖ v) ≈ v ⊗ v) refl in
      let high : v ≤ℤ t = root.greatest v small in
      let low : (pos 0 -ℤ v) ≤ℤ t = root.greatest (pos 0 -ℤ v) (omega (arith, sums, same)) in
      (omega (arith, sums), high),
  λ between.
      let low = between.0 in
      let high = between.1 in
      let square = root.square in
      let room : pos 0 ≤ℤ ((t -ℤ v) *ℤ (t +ℤ v)) = times_nonnegative (t -ℤ v) (t +ℤ v) (omega (arith, sums)) (omega (arith, sums)) in
      let same = identity_2 t v (λ t v. (t ⊖ v) ⊗ (t ⊕ v) ≈ t ⊗ t ⊖ v ⊗ v) refl in
      omega (arith, sums, same),
)
