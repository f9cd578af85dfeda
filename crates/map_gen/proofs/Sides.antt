-- Edges of wavy sides, over plain whole numbers, and the common points of two such edges.
--
-- Along its side an edge goes from 8 n to 8 (n + 1); its ends are o and p off the line at 64 l. The point that is the fraction
-- s / d of the way is 8 (d n + s) / d along, and `off_of d s o p` / d off the line.
use Rattle.std.proofs.Common.{◌≡◌, ◌⊎◌, inl, inr, [], ◌∷◌, ℤ, pos, negsuc, ◌+ℤ◌, ◌-ℤ◌, ◌*ℤ◌, ◌≤ℤ◌, refl, ap, ◌∙◌, arith}
use Rattle.std.proofs.lemmas.Int.{ints}
use lib.IntN.{*ℤ-zero}
use Rattle.grid_exact.proofs.WholeLaws.{sums}
use Rattle.grid_exact.proofs.Signs.SignOf.{Negative, Zero, Positive}
use Rattle.grid_exact.proofs.Signs.{sign_of, times_nonnegative, zero_from_times}
use Rattle.grid_exact.proofs.Polynomial.{Whole, ◌⊕◌, ◌⊖◌, ◌⊗◌, ◌≈◌, ◌times◌, Variable, by_multiples, identity_2, identity_5, identity_6}

-- how far off its line the point is, times d
abbrev pub off_of : ℤ → ℤ → ℤ → ℤ → ℤ
off_of d s o p = (d -ℤ s) *ℤ o +ℤ s *ℤ p

-- ---- one coordinate of a common point, where it is along or off for each of the two edges

pub along_along : (d s t a b c e n m : ℤ) → a ≡ pos 8 *ℤ n → b ≡ pos 8 *ℤ (n +ℤ pos 1) → c ≡ pos 8 *ℤ m → e ≡ pos 8 *ℤ (m +ℤ pos 1)
    → d *ℤ a +ℤ s *ℤ (b -ℤ a) ≡ d *ℤ c +ℤ t *ℤ (e -ℤ c) → pos 8 *ℤ (d *ℤ (n -ℤ m) +ℤ s) ≡ pos 8 *ℤ t
along_along d s t a b c e n m at_a at_b at_c at_e common =
    let x = Variable in
    let eight = Whole (pos 8) in
    by_multiples (d ∷ s ∷ t ∷ a ∷ b ∷ c ∷ e ∷ n ∷ m ∷ []) (eight ⊗ (x 0 ⊗ (x 7 ⊖ x 8) ⊕ x 1) ≈ eight ⊗ x 2)
    ((Whole (pos 1) times (x 0 ⊗ x 3 ⊕ x 1 ⊗ (x 4 ⊖ x 3) ≈ x 0 ⊗ x 5 ⊕ x 2 ⊗ (x 6 ⊖ x 5))) ∷ ((x 1 ⊖ x 0) times (x 3 ≈ eight ⊗ x 7))
    ∷ ((Whole (negsuc 0) ⊗ x 1) times (x 4 ≈ eight ⊗ (x 7 ⊕ Whole (pos 1)))) ∷ ((x 0 ⊖ x 2) times (x 5 ≈ eight ⊗ x 8))
    ∷ (x 2 times (x 6 ≈ eight ⊗ (x 8 ⊕ Whole (pos 1)))) ∷ []) (common, (at_a, (at_b, (at_c, (at_e, tt))))) refl

pub off_off : (d s t a b c e l k o p q r : ℤ) → a ≡ pos 64 *ℤ l +ℤ o → b ≡ pos 64 *ℤ l +ℤ p → c ≡ pos 64 *ℤ k +ℤ q → e ≡ pos 64 *ℤ k +ℤ r
    → d *ℤ a +ℤ s *ℤ (b -ℤ a) ≡ d *ℤ c +ℤ t *ℤ (e -ℤ c) → pos 64 *ℤ (d *ℤ (l -ℤ k)) +ℤ off_of d s o p ≡ off_of d t q r
off_off d s t a b c e l k o p q r at_a at_b at_c at_e common =
    let x = Variable in
    let step = Whole (pos 64) in
    by_multiples (d ∷ s ∷ t ∷ a ∷ b ∷ c ∷ e ∷ l ∷ k ∷ o ∷ p ∷ q ∷ r ∷ [])
    (step ⊗ (x 0 ⊗ (x 7 ⊖ x 8)) ⊕ ((x 0 ⊖ x 1) ⊗ x 9 ⊕ x 1 ⊗ x 10) ≈ (x 0 ⊖ x 2) ⊗ x 11 ⊕ x 2 ⊗ x 12)
    ((Whole (pos 1) times (x 0 ⊗ x 3 ⊕ x 1 ⊗ (x 4 ⊖ x 3) ≈ x 0 ⊗ x 5 ⊕ x 2 ⊗ (x 6 ⊖ x 5)))
    ∷ ((x 1 ⊖ x 0) times (x 3 ≈ step ⊗ x 7 ⊕ x 9)) ∷ ((Whole (negsuc 0) ⊗ x 1) times (x 4 ≈ step ⊗ x 7 ⊕ x 10))
    ∷ ((x 0 ⊖ x 2) times (x 5 ≈ step ⊗ x 8 ⊕ x 11)) ∷ (x 2 times (x 6 ≈ step ⊗ x 8 ⊕ x 12)) ∷ [])
    (common, (at_a, (at_b, (at_c, (at_e, tt))))) refl

pub along_off : (d s t a b c e n k q r : ℤ) → a ≡ pos 8 *ℤ n → b ≡ pos 8 *ℤ (n +ℤ pos 1) → c ≡ pos 64 *ℤ k +ℤ q → e ≡ pos 64 *ℤ k +ℤ r
    → d *ℤ a +ℤ s *ℤ (b -ℤ a) ≡ d *ℤ c +ℤ t *ℤ (e -ℤ c) → pos 8 *ℤ (d *ℤ (n -ℤ pos 8 *ℤ k) +ℤ s) ≡ off_of d t q r
along_off d s t a b c e n k q r at_a at_b at_c at_e common =
    let x = Variable in
    let eight = Whole (pos 8) in
    let step = Whole (pos 64) in
    by_multiples (d ∷ s ∷ t ∷ a ∷ b ∷ c ∷ e ∷ n ∷ k ∷ q ∷ r ∷ [])
    (eight ⊗ (x 0 ⊗ (x 7 ⊖ eight ⊗ x 8) ⊕ x 1) ≈ (x 0 ⊖ x 2) ⊗ x 9 ⊕ x 2 ⊗ x 10)
    ((Whole (pos 1) times (x 0 ⊗ x 3 ⊕ x 1 ⊗ (x 4 ⊖ x 3) ≈ x 0 ⊗ x 5 ⊕ x 2 ⊗ (x 6 ⊖ x 5))) ∷ ((x 1 ⊖ x 0) times (x 3 ≈ eight ⊗ x 7))
    ∷ ((Whole (negsuc 0) ⊗ x 1) times (x 4 ≈ eight ⊗ (x 7 ⊕ Whole (pos 1)))) ∷ ((x 0 ⊖ x 2) times (x 5 ≈ step ⊗ x 8 ⊕ x 9))
    ∷ (x 2 times (x 6 ≈ step ⊗ x 8 ⊕ x 10)) ∷ []) (common, (at_a, (at_b, (at_c, (at_e, tt))))) refl

-- ---- a multiple of d

-- g is 0, or z, which is d times g, is at least d away from 0
pub data Multiple (d g z : ℤ) : Type 0 where
  Nought : g ≡ pos 0 → z ≡ pos 0 → Multiple d g z
  Above : d ≤ℤ z → Multiple d g z
  Below : z ≤ℤ (pos 0 -ℤ d) → Multiple d g z

pub multiple_of : (d g : ℤ) → pos 1 ≤ℤ d → Multiple d g (d *ℤ g)
multiple_of d g one =
    elim (sign_of g) [
      | Negative h ↦
          let more : pos 0 ≤ℤ (d *ℤ (pos 0 -ℤ g -ℤ pos 1)) = times_nonnegative d (pos 0 -ℤ g -ℤ pos 1) (omega (arith, sums))
          (omega (arith, sums)) in
          let same = identity_2 d g (λ d g. d ⊗ (Whole (pos 0) ⊖ g ⊖ Whole (pos 1)) ≈ Whole (pos 0) ⊖ d ⊗ g ⊖ d) refl in
          Below (omega (arith, sums, same))
      | Zero h ↦ Nought h (ap (λ z. d *ℤ z) h ∙ *ℤ-zero d)
      | Positive h ↦
          let more : pos 0 ≤ℤ (d *ℤ (g -ℤ pos 1)) = times_nonnegative d (g -ℤ pos 1) (omega (arith, sums)) (omega (arith, sums)) in
          let same = identity_2 d g (λ d g. d ⊗ (g ⊖ Whole (pos 1)) ≈ d ⊗ g ⊖ d) refl in
          Above (omega (arith, sums, same))
    ]

-- the fraction s / d of the way of one step is the fraction t / d of the way of a step g before it
pub data Meets (d g s t : ℤ) : Type 0 where
  Level : g ≡ pos 0 → s ≡ t → Meets d g s t
  Later : g ≡ pos 1 → s ≡ pos 0 → t ≡ d → Meets d g s t
  Earlier : g ≡ negsuc 0 → s ≡ d → t ≡ pos 0 → Meets d g s t

one_step : (d g : ℤ) → pos 1 ≤ℤ d → d *ℤ g ≡ d → g ≡ pos 1
one_step d g one e =
    let same = identity_2 d g (λ d g. d ⊗ (g ⊖ Whole (pos 1)) ≈ d ⊗ g ⊖ d) refl in
    let none : g -ℤ pos 1 ≡ pos 0 = zero_from_times d (g -ℤ pos 1) (omega (arith, sums)) (omega (arith, sums, same)) in
    omega (arith, sums)

one_step_back : (d g : ℤ) → pos 1 ≤ℤ d → d *ℤ g ≡ pos 0 -ℤ d → g ≡ negsuc 0
one_step_back d g one e =
    let same = identity_2 d g (λ d g. d ⊗ (g ⊕ Whole (pos 1)) ≈ d ⊗ g ⊕ d) refl in
    let none : g +ℤ pos 1 ≡ pos 0 = zero_from_times d (g +ℤ pos 1) (omega (arith, sums)) (omega (arith, sums, same)) in
    omega (arith, ints)

pub meets : (d g s t : ℤ) → pos 1 ≤ℤ d → pos 0 ≤ℤ s → s ≤ℤ d → pos 0 ≤ℤ t → t ≤ℤ d → d *ℤ g +ℤ s ≡ t → Meets d g s t
meets d g s t one from_s to_s from_t to_t e =
    elim (multiple_of d g one) [
      | Nought h k ↦ Level h (omega (arith, sums))
      | Above h ↦ Later (one_step d g one (omega (arith, sums))) (omega (arith, sums)) (omega (arith, sums))
      | Below h ↦ Earlier (one_step_back d g one (omega (arith, sums))) (omega (arith, sums)) (omega (arith, sums))
    ]

-- ---- bounds at both ends of an edge hold between them

between : (d s y z : ℤ) → pos 0 ≤ℤ s → s ≤ℤ d → pos 0 ≤ℤ y → pos 0 ≤ℤ z → pos 0 ≤ℤ off_of d s y z
between d s y z low high at_start at_end =
    let first : pos 0 ≤ℤ ((d -ℤ s) *ℤ y) = times_nonnegative (d -ℤ s) y (omega (arith, sums)) at_start in
    let second : pos 0 ≤ℤ (s *ℤ z) = times_nonnegative s z low at_end in
    omega (arith, sums)

pub off_below : (d s o p c : ℤ) → pos 0 ≤ℤ s → s ≤ℤ d → o ≤ℤ c → p ≤ℤ c → off_of d s o p ≤ℤ (c *ℤ d)
off_below d s o p c low high at_start at_end =
    let more = between d s (c -ℤ o) (c -ℤ p) low high (omega (arith, sums)) (omega (arith, sums)) in
    let same = identity_5 d s o p c (λ d s o p c. (d ⊖ s) ⊗ (c ⊖ o) ⊕ s ⊗ (c ⊖ p) ≈ c ⊗ d ⊖ ((d ⊖ s) ⊗ o ⊕ s ⊗ p)) refl in
    omega (arith, sums, same)

pub off_above : (d s o p c : ℤ) → pos 0 ≤ℤ s → s ≤ℤ d → c ≤ℤ o → c ≤ℤ p → (c *ℤ d) ≤ℤ off_of d s o p
off_above d s o p c low high at_start at_end =
    let more = between d s (o -ℤ c) (p -ℤ c) low high (omega (arith, sums)) (omega (arith, sums)) in
    let same = identity_5 d s o p c (λ d s o p c. (d ⊖ s) ⊗ (o ⊖ c) ⊕ s ⊗ (p ⊖ c) ≈ ((d ⊖ s) ⊗ o ⊕ s ⊗ p) ⊖ c ⊗ d) refl in
    omega (arith, sums, same)

below_slope : (d s o p c m : ℤ) → pos 0 ≤ℤ s → s ≤ℤ d → o ≤ℤ (c *ℤ m) → p ≤ℤ (c *ℤ (m +ℤ pos 1)) → off_of d s o p ≤ℤ (c *ℤ (d *ℤ m +ℤ s))
below_slope d s o p c m low high at_start at_end =
    let more = between d s (c *ℤ m -ℤ o) (c *ℤ (m +ℤ pos 1) -ℤ p) low high (omega (arith, sums)) (omega (arith, sums)) in
    let same = identity_6 d s o p c m (λ d s o p c m. (d ⊖ s) ⊗ (c ⊗ m ⊖ o) ⊕ s ⊗ (c ⊗ (m ⊕ Whole (pos 1)) ⊖ p) ≈ c ⊗ (d ⊗ m ⊕ s)
    ⊖ ((d ⊖ s) ⊗ o ⊕ s ⊗ p)) refl in
    omega (arith, sums, same)

above_slope : (d s o p c m : ℤ) → pos 0 ≤ℤ s → s ≤ℤ d → (c *ℤ m) ≤ℤ o → (c *ℤ (m +ℤ pos 1)) ≤ℤ p → (c *ℤ (d *ℤ m +ℤ s)) ≤ℤ off_of d s o p
above_slope d s o p c m low high at_start at_end =
    let more = between d s (o -ℤ c *ℤ m) (p -ℤ c *ℤ (m +ℤ pos 1)) low high (omega (arith, sums)) (omega (arith, sums)) in
    let same = identity_6 d s o p c m (λ d s o p c m. (d ⊖ s) ⊗ (o ⊖ c ⊗ m) ⊕ s ⊗ (p ⊖ c ⊗ (m ⊕ Whole (pos 1))) ≈ ((d ⊖ s) ⊗ o ⊕ s ⊗ p) ⊖ c
    ⊗ (d ⊗ m ⊕ s)) refl in
    omega (arith, sums, same)

-- ---- two edges along different lines

pub apart : (d z v w : ℤ) → pos 1 ≤ℤ d → (d ≤ℤ z) ⊎ (z ≤ℤ (pos 0 -ℤ d)) → (negsuc 7 *ℤ d) ≤ℤ v → v ≤ℤ (pos 8 *ℤ d) → (negsuc 7 *ℤ d) ≤ℤ w
    → w ≤ℤ (pos 8 *ℤ d) → pos 64 *ℤ z +ℤ v ≡ w → ⊥
apart d z v w one (inl far) from_v to_v from_w to_w e = omega (arith, ints)
apart d z v w one (inr far) from_v to_v from_w to_w e = omega (arith, ints)

pub one_line : (d l k v w : ℤ) → pos 1 ≤ℤ d → (negsuc 7 *ℤ d) ≤ℤ v → v ≤ℤ (pos 8 *ℤ d) → (negsuc 7 *ℤ d) ≤ℤ w → w ≤ℤ (pos 8 *ℤ d)
    → pos 64 *ℤ (d *ℤ (l -ℤ k)) +ℤ v ≡ w → l ≡ k
one_line d l k v w one from_v to_v from_w to_w e =
    elim (multiple_of d (l -ℤ k) one) [
      | Nought h k ↦ omega (arith, sums)
      | Above h ↦ absurd (apart d (d *ℤ (l -ℤ k)) v w one (inl h) from_v to_v from_w to_w e)
      | Below h ↦ absurd (apart d (d *ℤ (l -ℤ k)) v w one (inr h) from_v to_v from_w to_w e)
    ]

-- ---- an edge beside a node of the lattice

-- an edge from m to m + 1 steps past the node keeps, at its ends, less off its line than 7 for each step
pub data IsWave (m o p : ℤ) : Type 0 where
  Rising : pos 0 ≤ℤ m → (negsuc 6 *ℤ m) ≤ℤ o → o ≤ℤ (pos 7 *ℤ m) → (negsuc 6 *ℤ (m +ℤ pos 1)) ≤ℤ p → p ≤ℤ (pos 7 *ℤ (m +ℤ pos 1))
      → IsWave m o p
  Falling : (m +ℤ pos 1) ≤ℤ pos 0 → (pos 7 *ℤ m) ≤ℤ o → o ≤ℤ (negsuc 6 *ℤ m) → (pos 7 *ℤ (m +ℤ pos 1)) ≤ℤ p
      → p ≤ℤ (negsuc 6 *ℤ (m +ℤ pos 1)) → IsWave m o p

-- the same of a point w steps past the node and v off the line
pub data IsFlat (w v : ℤ) : Type 0 where
  Beyond : pos 0 ≤ℤ w → (negsuc 6 *ℤ w) ≤ℤ v → v ≤ℤ (pos 7 *ℤ w) → IsFlat w v
  Before : w ≤ℤ pos 0 → (pos 7 *ℤ w) ≤ℤ v → v ≤ℤ (negsuc 6 *ℤ w) → IsFlat w v

past_node : (d s m : ℤ) → pos 1 ≤ℤ d → pos 0 ≤ℤ s → pos 0 ≤ℤ m → pos 0 ≤ℤ (d *ℤ m +ℤ s)
past_node d s m one low h =
    let more : pos 0 ≤ℤ (d *ℤ m) = times_nonnegative d m (omega (arith, sums)) h in
    omega (arith, sums)

before_node : (d s m : ℤ) → pos 1 ≤ℤ d → s ≤ℤ d → (m +ℤ pos 1) ≤ℤ pos 0 → (d *ℤ m +ℤ s) ≤ℤ pos 0
before_node d s m one high h =
    let more : pos 0 ≤ℤ (d *ℤ (pos 0 -ℤ (m +ℤ pos 1))) = times_nonnegative d (pos 0 -ℤ (m +ℤ pos 1)) (omega (arith, sums))
    (omega (arith, sums)) in
    let same = identity_2 d m (λ d m. d ⊗ (Whole (pos 0) ⊖ (m ⊕ Whole (pos 1))) ≈ Whole (pos 0) ⊖ d ⊗ m ⊖ d) refl in
    omega (arith, sums, same)

pub flat : (d s m o p : ℤ) → pos 1 ≤ℤ d → pos 0 ≤ℤ s → s ≤ℤ d → IsWave m o p → IsFlat (d *ℤ m +ℤ s) (off_of d s o p)
flat d s m o p one low high (Rising h a b c e) = Beyond (past_node d s m one low h) (above_slope d s o p (negsuc 6) m low high a c)
    (below_slope d s o p (pos 7) m low high b e)
flat d s m o p one low high (Falling h a b c e) = Before (before_node d s m one high h) (above_slope d s o p (pos 7) m low high a c)
    (below_slope d s o p (negsuc 6) m low high b e)

-- a point of two flat edges, each of which runs along the line of the other, is the node
pub node_of_first : (w v x y : ℤ) → IsFlat w v → IsFlat x y → pos 8 *ℤ w ≡ y → pos 8 *ℤ x ≡ v → w ≡ pos 0
node_of_first w v x y (Beyond h a b) (Beyond k c e) p q = omega (arith, ints)
node_of_first w v x y (Beyond h a b) (Before k c e) p q = omega (arith, ints)
node_of_first w v x y (Before h a b) (Beyond k c e) p q = omega (arith, ints)
node_of_first w v x y (Before h a b) (Before k c e) p q = omega (arith, ints)
