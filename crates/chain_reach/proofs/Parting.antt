-- What is in a part of a segment, and what is near it, on one axis.
use Rattle.std.proofs.Common.{◌≡◌, inl, inr, [], ◌∷◌, ℕ, zero, suc, ◌+◌, ◌-◌, ◌*◌, ◌<◌, ◌≤◌, ℤ, pos, ◌+ℤ◌, ◌-ℤ◌, ◌*ℤ◌, ◌≤ℤ◌, ◌<ℤ◌, refl}
use Rattle.std.proofs.Common.{sym, ap, subst, arith}
use Rattle.std.proofs.lemmas.Int.{ints}
use Rattle.grid_exact.proofs.WholeLaws.{sums}
use Rattle.grid_exact.proofs.Signs.{at_most_or_above, times_nonnegative, nonnegative_from_times, positive_from_times}
use Rattle.grid_exact.proofs.Polynomial.{Whole, ◌⊕◌, ◌⊖◌, ◌⊗◌, ◌≈◌, Variable, by_identity, identity_1, identity_3, identity_4, identity_6}
use Rattle.chain_reach.specs.Parts.{IsInPart, IsLowOfPart, IsHighOfPart}

-- where q is at most the share k / p of d, and i / n is at least that share, n times q is at most i times d
gone_share : (p q d k n i : ℤ) → pos 0 <ℤ p → pos 0 ≤ℤ d → pos 0 <ℤ n → (p *ℤ q) ≤ℤ (d *ℤ k) → (k *ℤ n) ≤ℤ (p *ℤ i) → (n *ℤ q) ≤ℤ (i *ℤ d)
gone_share p q d k n i some far whole low gone =
    let e = identity_6 p q d k n i (λ p q d k n i. p ⊗ (i ⊗ d ⊖ n ⊗ q) ≈ d ⊗ (p ⊗ i ⊖ k ⊗ n) ⊕ n ⊗ (d ⊗ k ⊖ p ⊗ q)) refl in
    let a : pos 0 ≤ℤ (d *ℤ (p *ℤ i -ℤ k *ℤ n)) = times_nonnegative d (p *ℤ i -ℤ k *ℤ n) far (omega (arith, sums)) in
    let b : pos 0 ≤ℤ (n *ℤ (d *ℤ k -ℤ p *ℤ q)) = times_nonnegative n (d *ℤ k -ℤ p *ℤ q) (omega (arith, sums)) (omega (arith, sums)) in
    let r : pos 0 ≤ℤ (i *ℤ d -ℤ n *ℤ q) = nonnegative_from_times p (i *ℤ d -ℤ n *ℤ q) some (omega (arith, sums, e)) in
    omega (arith, sums)

-- where it is at most the share that is left behind c / p, and i / n is at most c / p
left_share : (p q d k c n i : ℤ) → p ≡ k +ℤ c → pos 0 <ℤ p → pos 0 ≤ℤ d → pos 0 <ℤ n → (p *ℤ q) ≤ℤ (d *ℤ k) → (p *ℤ i) ≤ℤ (c *ℤ n)
    → (n *ℤ q) ≤ℤ ((n -ℤ i) *ℤ d)
left_share p q d k c n i parts some far whole low left =
    let e = identity_4 k c n i (λ k c n i. (k ⊕ c) ⊗ (n ⊖ i) ≈ k ⊗ n ⊕ (c ⊗ n ⊖ (k ⊕ c) ⊗ i)) refl in
    let same : p *ℤ (n -ℤ i) ≡ k *ℤ n +ℤ (c *ℤ n -ℤ p *ℤ i) = subst (λ z. z *ℤ (n -ℤ i) ≡ k *ℤ n +ℤ (c *ℤ n -ℤ z *ℤ i)) (sym parts) e in
    gone_share p q d k n (n -ℤ i) some far whole low (omega (arith, sums, same))

-- ---- the limits of a part

pub low_rising : (a b : ℤ) (d q parts part : ℕ) → b ≡ a +ℤ pos d → parts * q ≤ d * part → part < parts
    → IsLowOfPart a b parts part (a +ℤ pos q)
low_rising a b d q parts part far share some n i whole in_part =
    let below = gone_share (pos parts) (pos q) (pos d) (pos part) n i (omega (arith, ints)) (omega (arith, ints)) whole
    (omega (arith, ints))
    in_part.from_start in
    let way : b -ℤ a ≡ pos d = omega (arith, sums) in
    let e = identity_3 n a (pos q) (λ n a q. n ⊗ (a ⊕ q) ≈ n ⊗ a ⊕ n ⊗ q) refl in
    let f : i *ℤ (b -ℤ a) ≡ i *ℤ pos d = ap (λ z. i *ℤ z) way in
    omega (arith, sums, e, f, below)

pub low_falling : (a b : ℤ) (d q parts part : ℕ) → a ≡ b +ℤ pos d → parts * q ≤ d * (parts - part - 1) → part < parts
    → IsLowOfPart a b parts part (b +ℤ pos q)
low_falling a b d q parts part far share some n i whole in_part =
    let below = left_share (pos parts) (pos q) (pos d) (pos (parts - part - 1)) (pos (part + 1)) n i (omega (arith, ints))
    (omega (arith, ints))
    (omega (arith, ints)) whole (omega (arith, ints)) in_part.to_end in
    let way : a -ℤ b ≡ pos d = omega (arith, sums) in
    let e = identity_4 n i b (pos q) (λ n i b q. n ⊗ (b ⊕ q) ≈ n ⊗ b ⊕ n ⊗ q) refl in
    let f : (n -ℤ i) *ℤ (a -ℤ b) ≡ (n -ℤ i) *ℤ pos d = ap (λ z. (n -ℤ i) *ℤ z) way in
    let g = identity_4 n i a b (λ n i a b. n ⊗ a ⊕ i ⊗ (b ⊖ a) ≈ n ⊗ b ⊕ (n ⊖ i) ⊗ (a ⊖ b)) refl in
    omega (arith, sums, e, f, g, below)

pub high_rising : (a b u : ℤ) (d q parts part : ℕ) → b ≡ a +ℤ pos d → parts * q ≤ d * (parts - part - 1) → part < parts → b ≡ u +ℤ pos q
    → IsHighOfPart a b parts part u
high_rising a b u d q parts part far share some is n i whole in_part =
    let below = left_share (pos parts) (pos q) (pos d) (pos (parts - part - 1)) (pos (part + 1)) n i (omega (arith, ints))
    (omega (arith, ints))
    (omega (arith, ints)) whole (omega (arith, ints)) in_part.to_end in
    let way : b -ℤ a ≡ pos d = omega (arith, sums) in
    let step : b -ℤ u ≡ pos q = omega (arith, sums) in
    let f : (n -ℤ i) *ℤ (b -ℤ a) ≡ (n -ℤ i) *ℤ pos d = ap (λ z. (n -ℤ i) *ℤ z) way in
    let h : n *ℤ (b -ℤ u) ≡ n *ℤ pos q = ap (λ z. n *ℤ z) step in
    let e = identity_3 n b u (λ n b u. n ⊗ (b ⊖ u) ≈ n ⊗ b ⊖ n ⊗ u) refl in
    let g = identity_4 n i a b (λ n i a b. n ⊗ a ⊕ i ⊗ (b ⊖ a) ≈ n ⊗ b ⊖ (n ⊖ i) ⊗ (b ⊖ a)) refl in
    omega (arith, sums, e, f, g, h, below)

pub high_falling : (a b u : ℤ) (d q parts part : ℕ) → a ≡ b +ℤ pos d → parts * q ≤ d * part → part < parts → a ≡ u +ℤ pos q
    → IsHighOfPart a b parts part u
high_falling a b u d q parts part far share some is n i whole in_part =
    let below = gone_share (pos parts) (pos q) (pos d) (pos part) n i (omega (arith, ints)) (omega (arith, ints)) whole
    (omega (arith, ints))
    in_part.from_start in
    let way : a -ℤ b ≡ pos d = omega (arith, sums) in
    let step : a -ℤ u ≡ pos q = omega (arith, sums) in
    let f : i *ℤ (a -ℤ b) ≡ i *ℤ pos d = ap (λ z. i *ℤ z) way in
    let h : n *ℤ (a -ℤ u) ≡ n *ℤ pos q = ap (λ z. n *ℤ z) step in
    let e = identity_3 n a u (λ n a u. n ⊗ (a ⊖ u) ≈ n ⊗ a ⊖ n ⊗ u) refl in
    let g = identity_4 n i a b (λ n i a b. n ⊗ a ⊕ i ⊗ (b ⊖ a) ≈ n ⊗ a ⊖ i ⊗ (a ⊖ b)) refl in
    omega (arith, sums, e, f, g, h, below)

-- ---- near a place that is not past the limit

pub past_low : (n i r l z a b : ℤ) → pos 0 <ℤ n → (n *ℤ l) ≤ℤ (n *ℤ a +ℤ i *ℤ (b -ℤ a))
    → (pos 0 -ℤ n *ℤ (r +ℤ pos 1)) <ℤ (n *ℤ (z -ℤ a) -ℤ i *ℤ (b -ℤ a)) → l ≤ℤ (z +ℤ r)
past_low n i r l z a b whole low near =
    let x = Variable in
    let e = by_identity (n ∷ i ∷ r ∷ l ∷ z ∷ a ∷ b ∷ []) (x 0 ⊗ (x 4 ⊕ x 2 ⊕ Whole (pos 1) ⊖ x 3)
    ≈ (x 0 ⊗ (x 4 ⊖ x 5) ⊖ x 1 ⊗ (x 6 ⊖ x 5) ⊕ x 0 ⊗ (x 2 ⊕ Whole (pos 1))) ⊕ (x 0 ⊗ x 5 ⊕ x 1 ⊗ (x 6 ⊖ x 5) ⊖ x 0 ⊗ x 3)) refl in
    let h : pos 0 <ℤ (z +ℤ r +ℤ pos 1 -ℤ l) = positive_from_times n (z +ℤ r +ℤ pos 1 -ℤ l) whole (omega (arith, sums, e)) in
    omega (arith, sums)

pub before_high : (n i r u z a b : ℤ) → pos 0 <ℤ n → (n *ℤ a +ℤ i *ℤ (b -ℤ a)) ≤ℤ (n *ℤ u)
    → (n *ℤ (z -ℤ a) -ℤ i *ℤ (b -ℤ a)) <ℤ (n *ℤ (r +ℤ pos 1)) → z ≤ℤ (u +ℤ r)
before_high n i r u z a b whole high near =
    let x = Variable in
    let e = by_identity (n ∷ i ∷ r ∷ u ∷ z ∷ a ∷ b ∷ []) (x 0 ⊗ (x 3 ⊕ x 2 ⊕ Whole (pos 1) ⊖ x 4)
    ≈ (x 0 ⊗ (x 2 ⊕ Whole (pos 1)) ⊖ (x 0 ⊗ (x 4 ⊖ x 5) ⊖ x 1 ⊗ (x 6 ⊖ x 5))) ⊕ (x 0 ⊗ x 3 ⊖ (x 0 ⊗ x 5 ⊕ x 1 ⊗ (x 6 ⊖ x 5)))) refl in
    let h : pos 0 <ℤ (u +ℤ r +ℤ pos 1 -ℤ z) = positive_from_times n (u +ℤ r +ℤ pos 1 -ℤ z) whole (omega (arith, sums, e)) in
    omega (arith, sums)

-- ---- each place of a way is in a part

part_up_to : (n i : ℤ) (parts c : ℕ) → pos 1 ≤ℤ n → pos 0 ≤ℤ i → (pos parts *ℤ i) ≤ℤ (pos c *ℤ n) → 0 < c
    → (part : ℕ) × (part < c) × IsInPart n i parts part
part_up_to n i parts zero whole low up some = absurd (omega arith)
part_up_to n i parts (suc zero) whole low up some =
    let none = identity_1 n (λ n. Whole (pos 0) ⊗ n ≈ Whole (pos 0)) refl in
    let gone : pos 0 ≤ℤ (pos parts *ℤ i) = times_nonnegative (pos parts) i (omega (arith, ints)) low in
    (0, omega arith, record { from_start = omega (arith, sums, none); to_end = up })
part_up_to n i parts (suc (suc c)) whole low up some =
    elim (at_most_or_above (pos parts *ℤ i) (pos (suc c) *ℤ n)) [
      | inl h ↦ let before = part_up_to n i parts (suc c) whole low h (omega arith) in (before.0, omega (arith, before.1), before.2)
      | inr h ↦
          let next : suc c + 1 ≡ suc (suc c) = omega arith in (
            suc c,
            omega arith,
            record {
              from_start = omega (arith, sums);
              to_end = subst (λ (k : ℕ). (pos parts *ℤ i) ≤ℤ (pos k *ℤ n)) (sym next) up;
            },
          )
    ]

pub part_of : (n i : ℤ) (parts : ℕ) → pos 1 ≤ℤ n → pos 0 ≤ℤ i → i ≤ℤ n → 0 < parts → (part : ℕ) × (part < parts) × IsInPart n i parts part
part_of n i parts whole low high some =
    let e = identity_3 (pos parts) i n (λ p i n. p ⊗ (n ⊖ i) ≈ p ⊗ n ⊖ p ⊗ i) refl in
    let r : pos 0 ≤ℤ (pos parts *ℤ (n -ℤ i)) = times_nonnegative (pos parts) (n -ℤ i) (omega (arith, ints)) (omega (arith, sums)) in
    part_up_to n i parts parts whole low (omega (arith, sums, e)) some
