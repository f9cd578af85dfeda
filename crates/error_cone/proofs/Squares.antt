-- The limit that a square sets: its corner that is steepest from the start.
use Rattle.std.proofs.Common.{◌≡◌, ◌↔◌, inl, inr, ℤ, pos, ◌+ℤ◌, ◌-ℤ◌, ◌*ℤ◌, ◌≤ℤ◌, ◌<ℤ◌, refl, ap, arith}
use lib.IntN.{*ℤ_comm}
use Rattle.grid_exact.proofs.WholeLaws.{sums, fits}
use Rattle.grid_exact.proofs.Signs.{at_most_or_above, times_nonnegative, times_positive, times_negative, nonnegative_times_nonpositive}
use Rattle.grid_exact.proofs.Polynomial.{◌⊕◌, ◌⊖◌, ◌⊗◌, ◌≈◌, identity_5}
use Rattle.error_cone.specs.Ways.{length_of, IsUnder, IsUnderSquare}
use Rattle.error_cone.specs.declared.ways.Way.{Way}

length_rising : (d : Way) → pos 0 ≤ℤ d.across → pos 0 ≤ℤ d.up → length_of d ≡ d.across +ℤ d.up
length_rising d across up = omega (arith, fits)

length_falling : (d : Way) → pos 0 ≤ℤ d.across → d.up ≤ℤ pos 0 → length_of d ≡ d.across -ℤ d.up
length_falling d across up = omega (arith, fits)

-- the nearer upper corner, where it is not below the start
pub near_corner : (e : ℤ) (a d : Way) → pos 0 ≤ℤ e → e <ℤ a.across → pos 0 ≤ℤ (a.up +ℤ e) → pos 0 ≤ℤ d.across
    → IsUnder (record { across = a.across -ℤ e; up = a.up +ℤ e }) d ↔ IsUnderSquare e a d
near_corner e a d some past high low =
    elim (at_most_or_above (pos 0) d.up) [
      | inl rising ↦
          let len = ap (λ z. e *ℤ z) (length_rising d low rising) in
          let same = identity_5 e a.across a.up d.across d.up (λ e x u k m. k ⊗ (u ⊕ e) ⊖ m ⊗ (x ⊖ e) ≈ k ⊗ u ⊕ e ⊗ (k ⊕ m) ⊖ m ⊗ x) refl in
          (λ h. omega (arith, sums, len, same, h), λ h. omega (arith, sums, len, same, h))
      | inr falling ↦
          let len = ap (λ z. e *ℤ z) (length_falling d low (omega (arith, sums))) in
          let same = identity_5 e a.across a.up d.across d.up (λ e x u k m. k ⊗ (u ⊕ e) ⊖ m ⊗ (x ⊕ e) ≈ k ⊗ u ⊕ e ⊗ (k ⊖ m) ⊖ m ⊗ x) refl in
          let up : pos 0 ≤ℤ (d.across *ℤ (a.up +ℤ e)) = times_nonnegative d.across (a.up +ℤ e) low high in
          let down : ((a.across -ℤ e) *ℤ d.up) <ℤ pos 0 = times_negative (a.across -ℤ e) d.up (omega (arith, sums)) falling in
          let far : ((a.across +ℤ e) *ℤ d.up) <ℤ pos 0 = times_negative (a.across +ℤ e) d.up (omega (arith, sums)) falling in
          let turn = *ℤ_comm (a.across -ℤ e) d.up in
          let back = *ℤ_comm (a.across +ℤ e) d.up in
          (λ h. omega (arith, sums, len, same, back), λ h. omega (arith, sums, turn))
    ]

-- the farther upper corner, where it is below the start
pub far_corner : (e : ℤ) (a d : Way) → pos 0 ≤ℤ e → e <ℤ a.across → (a.up +ℤ e) <ℤ pos 0 → pos 0 ≤ℤ d.across
    → IsUnder (record { across = a.across +ℤ e; up = a.up +ℤ e }) d ↔ IsUnderSquare e a d
far_corner e a d some past deep low =
    elim (at_most_or_above d.up (pos 0)) [
      | inl falling ↦
          let len = ap (λ z. e *ℤ z) (length_falling d low falling) in
          let same = identity_5 e a.across a.up d.across d.up (λ e x u k m. k ⊗ (u ⊕ e) ⊖ m ⊗ (x ⊕ e) ≈ k ⊗ u ⊕ e ⊗ (k ⊖ m) ⊖ m ⊗ x) refl in
          (λ h. omega (arith, sums, len, same, h), λ h. omega (arith, sums, len, same, h))
      | inr rising ↦
          let len = ap (λ z. e *ℤ z) (length_rising d low (omega (arith, sums))) in
          let same = identity_5 e a.across a.up d.across d.up (λ e x u k m. k ⊗ (u ⊕ e) ⊖ m ⊗ (x ⊖ e) ≈ k ⊗ u ⊕ e ⊗ (k ⊕ m) ⊖ m ⊗ x) refl in
          let down : (d.across *ℤ (a.up +ℤ e)) ≤ℤ pos 0 = nonnegative_times_nonpositive d.across (a.up +ℤ e) low (omega (arith, sums)) in
          let near : pos 0 <ℤ (d.up *ℤ (a.across -ℤ e)) = times_positive d.up (a.across -ℤ e) rising (omega (arith, sums)) in
          let far : pos 0 <ℤ (d.up *ℤ (a.across +ℤ e)) = times_positive d.up (a.across +ℤ e) rising (omega (arith, sums)) in
          (λ h. absurd (omega (arith, sums, h)), λ h. absurd (omega (arith, sums, len, same, h)))
    ]
