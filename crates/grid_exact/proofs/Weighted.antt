-- Weights and points: to be near with weights is to be within the bound at the weighted places.
use Rattle.std.proofs.Common.{◌≡◌, ◌↔◌, ℤ, pos, ◌+ℤ◌, ◌-ℤ◌, ◌*ℤ◌, ◌≤ℤ◌, ◌^◌, ◌≤◌, w64, arith, refl, subst, sym}
use Rattle.std.specs.Prelude.{unsigned_abs}
use Rattle.std.proofs.lemmas.Int.{to_z-of_z, fits_signed_mul}
use mir.Val.{SFits, to_z, of_z}
use Rattle.grid_exact.specs.Geometry.{Place, IsGridNumber, IsOnGrid, IsWithin, square_of}
use Rattle.grid_exact.specs.Near.{IsNear, weighted}
use Rattle.grid_exact.specs.Weights.{IsWeight}
use Rattle.grid_exact.proofs.WholeLaws.{fits, one-*ℤ}
use Rattle.grid_exact.proofs.Polynomial.{◌⊖◌, ◌⊗◌, ◌≈◌, identity_6}

-- a weight on an offset is a weight on the coordinates
offset_weighted : (w n s a b p : ℤ) → w *ℤ (n *ℤ (p -ℤ a) -ℤ s *ℤ (b -ℤ a)) ≡ n *ℤ (w *ℤ p -ℤ w *ℤ a) -ℤ s *ℤ (w *ℤ b -ℤ w *ℤ a)
offset_weighted w n s a b p = identity_6 w n s a b p (λ w n s a b p.
    w ⊗ (n ⊗ (p ⊖ a) ⊖ s ⊗ (b ⊖ a)) ≈ n ⊗ (w ⊗ p ⊖ w ⊗ a) ⊖ s ⊗ (w ⊗ b ⊖ w ⊗ a)) refl

squares_moved : (a b c d r : ℤ) → a ≡ c → b ≡ d → (square_of a +ℤ square_of b) ≤ℤ r → (square_of c +ℤ square_of d) ≤ℤ r
squares_moved a b c d r e f h = subst (λ (z : ℤ). (square_of z +ℤ square_of d) ≤ℤ r) e
    (subst (λ (z : ℤ). (square_of a +ℤ square_of z) ≤ℤ r) f h)

pub near_is_within : (wx wy : ℤ) (a b p : Place) (e : ℤ) → IsNear wx wy a b p e
    ↔ IsWithin (weighted wx wy a) (weighted wx wy b) (weighted wx wy p) e
near_is_within wx wy a b p e = (
  λ h. record {
    denominator = h.denominator;
    numerator = h.numerator;
    whole = h.whole;
    from_start = h.from_start;
    to_end = h.to_end;
    near = squares_moved _ _ _ _ _ (offset_weighted wx h.denominator h.numerator a.x b.x p.x)
        (offset_weighted wy h.denominator h.numerator a.y b.y p.y) h.near;
  },
  λ h. record {
    denominator = h.denominator;
    numerator = h.numerator;
    whole = h.whole;
    from_start = h.from_start;
    to_end = h.to_end;
    near = squares_moved _ _ _ _ _ (sym (offset_weighted wx h.denominator h.numerator a.x b.x p.x))
        (sym (offset_weighted wy h.denominator h.numerator a.y b.y p.y)) h.near;
  },
)

pub near_by_one : (a b p : Place) (e : ℤ) → IsNear (pos 1) (pos 1) a b p e ↔ IsWithin a b p e
near_by_one a b p e = (
  λ h. record {
    denominator = h.denominator;
    numerator = h.numerator;
    whole = h.whole;
    from_start = h.from_start;
    to_end = h.to_end;
    near = squares_moved _ _ _ _ _ (one-*ℤ _) (one-*ℤ _) h.near;
  },
  λ h. record {
    denominator = h.denominator;
    numerator = h.numerator;
    whole = h.whole;
    from_start = h.from_start;
    to_end = h.to_end;
    near = squares_moved _ _ _ _ _ (sym (one-*ℤ _)) (sym (one-*ℤ _)) h.near;
  },
)

-- what the product of a passed weight and a passed coordinate is
pub weight_passed : (weight z weight' z' : ℤ) → IsWeight weight → IsGridNumber z → weight ≡ weight' → z ≡ z'
    → to_z w64 (of_z w64 (to_z w64 (of_z w64 weight) *ℤ to_z w64 (of_z w64 z))) ≡ weight' *ℤ z'
weight_passed weight z weight' z' in_range on_grid e f =
    let weight_fits : SFits w64 weight = omega (arith, fits) in
    let z_fits : SFits w64 z = omega (arith, fits) in
    let weight_size : unsigned_abs weight ≤ 65536 = omega (arith, fits) in
    let z_size : unsigned_abs z ≤ 2 ^ 29 = omega (arith, fits) in
    let product_fits = fits_signed_mul w64 weight z 65536 (2 ^ 29) weight_size z_size (omega arith) in
    rw (← e, ← f) (simp to_z-of_z)

-- what a test of two numbers says, where these are known to be the weighted coordinates
pub on_grid_passed : {P : Type 0} (wx wy : ℤ) (p : Place) (across up : ℤ) → across ≡ wx *ℤ p.x → up ≡ wy *ℤ p.y
    → (P ↔ (IsGridNumber across × IsGridNumber up)) → P ↔ IsOnGrid (weighted wx wy p)
on_grid_passed wx wy p across up e f both = (
  λ h. record { across = subst IsGridNumber e (both.0 h).0; up = subst IsGridNumber f (both.0 h).1 },
  λ h. both.1 (subst IsGridNumber (sym e) h.across, subst IsGridNumber (sym f) h.up),
)
