-- Numbers of the grid, moved by the bound as far as the grid goes.
use Rattle.std.proofs.Common.{◌≡◌, inl, inr, ◌^◌, ℤ, pos, ◌+ℤ◌, ◌-ℤ◌, neg_ℤ, ◌≤ℤ◌, w64, to_z, of_z, FitsSigned, refl, sym, ap, subst, ◌∙◌}
use Rattle.std.proofs.Common.{arith}
use Rattle.std.specs.Int.{int_min, int_max}
use Rattle.std.proofs.lemmas.Int.{ints, to_z-of_z}
use Rattle.grid_exact.specs.Geometry.{IsGridNumber}
use Rattle.grid_exact.proofs.WholeLaws.{sums, fits}
use Rattle.grid_exact.proofs.Signs.{at_most_or_above}
use Rattle.grid_exact.proofs.Orders.{lt_yes, lt_no}
use Rattle.side_wedge.proofs.Boxed.{passed}

top : IsGridNumber (pos (2 ^ 29))
top = record { low = omega (arith, ints); high = omega (arith, ints) }

bottom : IsGridNumber (neg_ℤ (pos (2 ^ 29)))
bottom = record { low = omega (arith, ints); high = omega (arith, ints) }

least_on_grid : (z m : ℤ) → m ≡ int_min z (pos (2 ^ 29)) → neg_ℤ (pos (2 ^ 29)) ≤ℤ z → IsGridNumber m
least_on_grid z m e low = subst IsGridNumber (sym e) (elim (at_most_or_above z (pos (2 ^ 29)))
    [ inl k ↦ rw (lt_no (pos (2 ^ 29)) z k) (record { low = low; high = k }) | inr k ↦ rw (lt_yes (pos (2 ^ 29)) z k) top ])

greatest_on_grid : (z m : ℤ) → m ≡ int_max z (neg_ℤ (pos (2 ^ 29))) → z ≤ℤ pos (2 ^ 29) → IsGridNumber m
greatest_on_grid z m e high =
    subst IsGridNumber (sym e) (elim (at_most_or_above z (neg_ℤ (pos (2 ^ 29)))) [
      | inl k ↦ rw (lt_no (neg_ℤ (pos (2 ^ 29))) z k) bottom
      | inr k ↦ rw (lt_yes (neg_ℤ (pos (2 ^ 29))) z k) (record { low = omega (arith, sums); high = high })
    ])

pub sum_passed : (y e : ℤ) → IsGridNumber y → pos 0 ≤ℤ e → e ≤ℤ pos (2 ^ 30)
    → to_z w64 (of_z w64 (to_z w64 (of_z w64 y) +ℤ to_z w64 (of_z w64 e))) ≡ y +ℤ e
sum_passed y e g some few =
    let low = g.low in let high = g.high in
    let e_fits : FitsSigned w64 e = omega (arith, fits) in
    let sum_fits : FitsSigned w64 (y +ℤ e) = omega (arith, fits) in
    rw (passed y g, to_z-of_z w64 e e_fits, to_z-of_z w64 (y +ℤ e) sum_fits) refl

pub difference_passed : (y e : ℤ) → IsGridNumber y → pos 0 ≤ℤ e → e ≤ℤ pos (2 ^ 30)
    → to_z w64 (of_z w64 (to_z w64 (of_z w64 y) -ℤ to_z w64 (of_z w64 e))) ≡ y -ℤ e
difference_passed y e g some few =
    let low = g.low in let high = g.high in
    let e_fits : FitsSigned w64 e = omega (arith, fits) in
    let difference_fits : FitsSigned w64 (y -ℤ e) = omega (arith, fits) in
    rw (passed y g, to_z-of_z w64 e e_fits, to_z-of_z w64 (y -ℤ e) difference_fits) refl

pub high_on_grid : (y e m : ℤ) → IsGridNumber y → pos 0 ≤ℤ e → e ≤ℤ pos (2 ^ 30)
    → m ≡ int_min (to_z w64 (of_z w64 (to_z w64 (of_z w64 y) +ℤ to_z w64 (of_z w64 e)))) (pos (2 ^ 29)) → IsGridNumber m
high_on_grid y e m g some few is =
    let low = g.low in
    least_on_grid (y +ℤ e) m (is ∙ ap (λ z. int_min z (pos (2 ^ 29))) (sum_passed y e g some few)) (omega (arith, sums))

pub low_on_grid : (y e m : ℤ) → IsGridNumber y → pos 0 ≤ℤ e → e ≤ℤ pos (2 ^ 30)
    → m ≡ int_max (to_z w64 (of_z w64 (to_z w64 (of_z w64 y) -ℤ to_z w64 (of_z w64 e)))) (neg_ℤ (pos (2 ^ 29))) → IsGridNumber m
low_on_grid y e m g some few is =
    let high = g.high in
    greatest_on_grid (y -ℤ e) m (is ∙ ap (λ z. int_max z (neg_ℤ (pos (2 ^ 29)))) (difference_passed y e g some few)) (omega (arith, sums))
