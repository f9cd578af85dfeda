-- Four places in the band are within the bound; the groups and the rest are all the places.
use Rattle.std.proofs.Common.{◌≡◌, ◌+◌, length, ◌*ℤ◌, ◌≤ℤ◌, w64, to_z, of_z, subst, arith}
use Rattle.grid_exact.specs.Geometry.{length2_of, square_of, IsWithin}
use Rattle.grid_exact.proofs.WholeLaws.{fits}
use Rattle.lane_kernels.proofs.Between.{each_joined, first_from}
use Rattle.lane_kernels.proofs.Bands.{each_in_band}
use Rattle.lane_kernels.proofs.within.first_beyond.Goals as goal
use Rattle.lane_kernels.proofs.within.first_beyond.Goals.{else-not-four_in_band-via-then-not-four_in_band+else-not-each_within}
use Rattle.lane_kernels.proofs.within.first_beyond.Goals.{else-not-four_in_band-via-else-not-four_in_band}

pub loop-at-preserved : goal.loop-at-preserved
loop-at-preserved c =
    let a = c.args.a in
    let b = c.args.b in
    let xs = c.args.xs.now in
    let ys = c.args.ys.now in
    let bound = c.args.bound in
    let at = c.loop-at.at in
    let tested = c.loop-at.invariant.tested in
    let long : to_z w64 (of_z w64 c.length2.result) ≡ length2_of a b = omega (arith, fits) in
    let reach = to_z w64 (of_z w64 c.threshold-reach.result) in
    let passed : c.threshold-reach.result ≡ reach = omega (arith, fits) in
    let root : square_of c.threshold-reach.result ≤ℤ (square_of bound *ℤ length2_of a b) =
    subst (λ z. square_of c.threshold-reach.result ≤ℤ (square_of bound *ℤ z)) long c.threshold-reach.ensures.value.square in
    let root_passed : square_of reach ≤ℤ (square_of bound *ℤ length2_of a b) =
    subst (λ z. square_of z ≤ℤ (square_of bound *ℤ length2_of a b)) passed root in
    record {
      in_lists = omega arith;
      tested = elim c.else-not-four_in_band.branch [
        | else-not-four_in_band-via-then-not-four_in_band+else-not-each_within w ↦
            each_joined 0 at (at + 4) (λ p. IsWithin a b p bound) xs ys tested
            (w.each_within.ensures.0 w.if-not-each_within.false)
        | else-not-four_in_band-via-else-not-four_in_band w ↦
            each_joined 0 at (at + 4) (λ p. IsWithin a b p bound) xs ys tested
            (each_in_band at (at + 4) a b reach bound xs ys root_passed (c.four_in_band.ensures.0 w.if-not-four_in_band.false))
      ];
    }

pub returns-clause-none : goal.returns-clause-none
returns-clause-none c =
    let tested = c.loop-at.invariant.tested in (
      λ t. each_joined 0 c.loop-at.at (length c.args.xs.now) (λ p. IsWithin c.args.a c.args.b p c.args.bound) c.args.xs.now c.args.ys.now
          tested (c.first_not_within-2.ensures.none.0 t),
      λ h. c.first_not_within-2.ensures.none.1 (λ k low high. h k (omega arith) high),
    )

pub returns-clause-first : goal.returns-clause-first
returns-clause-first c = first_from c.loop-at.at (length c.args.xs.now) (λ p. IsWithin c.args.a c.args.b p c.args.bound) c.args.xs.now
    c.args.ys.now c.first_not_within-2.result c.loop-at.invariant.tested c.first_not_within-2.ensures.first
