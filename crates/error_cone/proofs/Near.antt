-- A place that is within the bound of a segment has its square met by the line of the segment.
use Rattle.std.proofs.Common.{◌≡◌, inl, inr, Bool, true, false, [], ◌∷◌, ℤ, pos, ◌+ℤ◌, ◌-ℤ◌, ◌*ℤ◌, ◌≤ℤ◌, ◌<ℤ◌, refl, ap, arith}
use Rattle.std.specs.Prelude.{unsigned_abs}
use Rattle.grid_exact.specs.Geometry.{Place, square_of, IsWithin}
use Rattle.grid_exact.specs.declared.frame.Frame.{Frame}
use Rattle.grid_exact.specs.declared.frame.Frame.TheVariants.{Plain, Turned}
use Rattle.grid_exact.proofs.WholeLaws.{sums, fits}
use Rattle.grid_exact.proofs.Signs.{at_most_or_above, times_nonnegative, times_positive, square_nonnegative, nonnegative_from_times}
use Rattle.grid_exact.proofs.Polynomial.{Variable, Whole, ◌⊕◌, ◌⊖◌, ◌⊗◌, ◌≈◌, by_identity, identity_2, identity_3, identity_4, identity_5}
use Rattle.error_cone.specs.Ways.{way_of, mirrored, length_of, IsUnderSquare, MeetsSquare}
use Rattle.error_cone.specs.declared.ways.Way.{Way}

root_at_most : (x t : ℤ) → pos 0 ≤ℤ t → (x *ℤ x) ≤ℤ (t *ℤ t) → x ≤ℤ t
root_at_most x t low small =
    elim (at_most_or_above x t) [
      | inl h ↦ h
      | inr above ↦
          let e = identity_2 x t (λ x t. (x ⊖ t) ⊗ (x ⊕ t) ≈ x ⊗ x ⊖ t ⊗ t) refl in
          let p : pos 0 <ℤ ((x -ℤ t) *ℤ (x +ℤ t)) = times_positive (x -ℤ t) (x +ℤ t) (omega (arith, sums)) (omega (arith, sums)) in
          absurd (omega (arith, sums, e))
    ]

root_at_least : (x t : ℤ) → pos 0 ≤ℤ t → (x *ℤ x) ≤ℤ (t *ℤ t) → (pos 0 -ℤ t) ≤ℤ x
root_at_least x t low small =
    let e = identity_2 x x (λ x y. (Whole (pos 0) ⊖ x) ⊗ (Whole (pos 0) ⊖ x) ≈ x ⊗ x) refl in
    let h : (pos 0 -ℤ x) ≤ℤ t = root_at_most (pos 0 -ℤ x) t low (omega (arith, sums, e)) in
    omega (arith, sums)

-- a product by the sizes of its factors
times_at_most : (d y m : ℤ) → y ≤ℤ m → (pos 0 -ℤ m) ≤ℤ y → (d *ℤ y) ≤ℤ (pos (unsigned_abs d) *ℤ m)
times_at_most d y m high low =
    elim (at_most_or_above (pos 0) d) [
      | inl rising ↦
          let size : pos (unsigned_abs d) ≡ d = omega (arith, fits) in
          let scaled : pos (unsigned_abs d) *ℤ m ≡ d *ℤ m = ap (λ z. z *ℤ m) size in
          let e = identity_3 d y m (λ d y m. d ⊗ (m ⊖ y) ≈ d ⊗ m ⊖ d ⊗ y) refl in
          let p : pos 0 ≤ℤ (d *ℤ (m -ℤ y)) = times_nonnegative d (m -ℤ y) rising (omega (arith, sums)) in
          omega (arith, sums, e, scaled)
      | inr falling ↦
          let size : pos (unsigned_abs d) ≡ pos 0 -ℤ d = omega (arith, fits) in
          let scaled : pos (unsigned_abs d) *ℤ m ≡ (pos 0 -ℤ d) *ℤ m = ap (λ z. z *ℤ m) size in
          let e = identity_3 d y m (λ d y m. (Whole (pos 0) ⊖ d) ⊗ (m ⊕ y) ≈ (Whole (pos 0) ⊖ d) ⊗ m ⊖ d ⊗ y) refl in
          let p : pos 0 ≤ℤ ((pos 0 -ℤ d) *ℤ (m +ℤ y)) = times_nonnegative (pos 0 -ℤ d) (m +ℤ y) (omega (arith, sums)) (omega (arith, sums))
          in
          omega (arith, sums, e, scaled)
    ]

-- n times what is left of a where the way d is gone to the fraction s / n
abbrev pub IsNearWay : ℤ → ℤ → ℤ → Way → Way → Type 0
IsNearWay n s e a d = (square_of (n *ℤ a.across -ℤ s *ℤ d.across) +ℤ square_of (n *ℤ a.up -ℤ s *ℤ d.up)) ≤ℤ (square_of n *ℤ square_of e)

under_by_near : (n s e : ℤ) (a d : Way) → pos 1 ≤ℤ n → pos 0 ≤ℤ e → IsNearWay n s e a d → IsUnderSquare e a d
under_by_near n s e a d one some near =
    let x = n *ℤ a.across -ℤ s *ℤ d.across in
    let y = n *ℤ a.up -ℤ s *ℤ d.up in
    let m = n *ℤ e in
    let wide : pos 0 ≤ℤ (n *ℤ e) = times_nonnegative n e (omega (arith, sums)) some in
    let area = identity_2 n e (λ n e. (n ⊗ n) ⊗ (e ⊗ e) ≈ (n ⊗ e) ⊗ (n ⊗ e)) refl in
    let xx : pos 0 ≤ℤ ((n *ℤ a.across -ℤ s *ℤ d.across) *ℤ (n *ℤ a.across -ℤ s *ℤ d.across)) = square_nonnegative x in
    let yy : pos 0 ≤ℤ ((n *ℤ a.up -ℤ s *ℤ d.up) *ℤ (n *ℤ a.up -ℤ s *ℤ d.up)) = square_nonnegative y in
    let across : (x *ℤ x) ≤ℤ (m *ℤ m) = omega (arith, sums, area, near) in
    let up : (y *ℤ y) ≤ℤ (m *ℤ m) = omega (arith, sums, area, near) in
    let x_high = root_at_most x m wide across in let x_low = root_at_least x m wide across in
    let y_high = root_at_most y m wide up in let y_low = root_at_least y m wide up in
    let p : (d.across *ℤ (pos 0 -ℤ (n *ℤ a.up -ℤ s *ℤ d.up))) ≤ℤ (pos (unsigned_abs d.across) *ℤ (n *ℤ e)) =
    times_at_most d.across (pos 0 -ℤ y) m (omega (arith, sums, y_low)) (omega (arith, sums, y_high)) in
    let q : (d.up *ℤ (n *ℤ a.across -ℤ s *ℤ d.across)) ≤ℤ (pos (unsigned_abs d.up) *ℤ (n *ℤ e)) = times_at_most d.up x m x_high x_low in
    let size : length_of d ≡ pos (unsigned_abs d.across) +ℤ pos (unsigned_abs d.up) = omega (arith, fits) in
    let scaled = ap (λ z. e *ℤ z) size in
    let v = Variable in
    let same = by_identity (n ∷ s ∷ e ∷ a.across ∷ a.up ∷ d.across ∷ d.up ∷ pos (unsigned_abs d.across) ∷ pos (unsigned_abs d.up) ∷ [])
    (v 0 ⊗ (v 5 ⊗ v 4 ⊕ v 2 ⊗ (v 7 ⊕ v 8) ⊖ v 6 ⊗ v 3) ≈ (v 7 ⊗ (v 0 ⊗ v 2) ⊖ v 5 ⊗ (Whole (pos 0) ⊖ (v 0 ⊗ v 4 ⊖ v 1 ⊗ v 6)))
    ⊕ (v 8 ⊗ (v 0 ⊗ v 2) ⊖ v 6 ⊗ (v 0 ⊗ v 3 ⊖ v 1 ⊗ v 5))) refl in
    let gap = d.across *ℤ a.up +ℤ e *ℤ (pos (unsigned_abs d.across) +ℤ pos (unsigned_abs d.up)) -ℤ d.up *ℤ a.across in
    let whole : pos 0 ≤ℤ (n *ℤ gap) = omega (arith, sums, same, p, q) in
    let left : pos 0 ≤ℤ gap = nonnegative_from_times n gap (omega (arith, sums)) whole in
    omega (arith, sums, left, scaled)

near_mirrored : (n s e : ℤ) (a d : Way) → IsNearWay n s e a d → IsNearWay n s e (mirrored a) (mirrored d)
near_mirrored n s e a d near =
    let same = identity_4 n s a.up d.up (λ n s u m. (n ⊗ (Whole (pos 0) ⊖ u) ⊖ s ⊗ (Whole (pos 0) ⊖ m))
    ⊗ (n ⊗ (Whole (pos 0) ⊖ u) ⊖ s ⊗ (Whole (pos 0) ⊖ m)) ≈ (n ⊗ u ⊖ s ⊗ m) ⊗ (n ⊗ u ⊖ s ⊗ m)) refl in
    omega (arith, sums, same, near)

turned_round : (n s o p v : ℤ) → square_of (n *ℤ (o -ℤ p) -ℤ s *ℤ (o -ℤ v)) ≡ square_of (n *ℤ (p -ℤ o) -ℤ s *ℤ (v -ℤ o))
turned_round n s o p v = identity_5 n s o p v (λ n s o p v. (n ⊗ (o ⊖ p) ⊖ s ⊗ (o ⊖ v)) ⊗ (n ⊗ (o ⊖ p) ⊖ s ⊗ (o ⊖ v)) ≈
    (n ⊗ (p ⊖ o) ⊖ s ⊗ (v ⊖ o)) ⊗ (n ⊗ (p ⊖ o) ⊖ s ⊗ (v ⊖ o))) refl

near_seen : (frame : Frame) (rising : Bool) (o v p : Place) (e : ℤ) → (h : IsWithin o v p e)
    → IsNearWay h.denominator h.numerator e (way_of frame rising o p) (way_of frame rising o v)
near_seen Plain true o v p e h = h.near
near_seen Plain false o v p e h =
    let near = h.near in
    let f = turned_round h.denominator h.numerator o.x p.x v.x in let g = turned_round h.denominator h.numerator o.y p.y v.y in
    omega (arith, sums, near, f, g)
near_seen Turned true o v p e h = let near = h.near in omega (arith, sums, near)
near_seen Turned false o v p e h =
    let near = h.near in
    let f = turned_round h.denominator h.numerator o.x p.x v.x in let g = turned_round h.denominator h.numerator o.y p.y v.y in
    omega (arith, sums, near, f, g)

pub meets_by_within : (frame : Frame) (rising : Bool) (o v p : Place) (e : ℤ) → pos 0 ≤ℤ e → IsWithin o v p e
    → MeetsSquare e (way_of frame rising o p) (way_of frame rising o v)
meets_by_within frame rising o v p e some h =
    let near = near_seen frame rising o v p e h in
    record {
      not_above = under_by_near h.denominator h.numerator e (way_of frame rising o p) (way_of frame rising o v) h.whole some near;
      not_below = under_by_near h.denominator h.numerator e (mirrored (way_of frame rising o p)) (mirrored (way_of frame rising o v))
          h.whole some (near_mirrored h.denominator h.numerator e (way_of frame rising o p) (way_of frame rising o v) near);
    }
