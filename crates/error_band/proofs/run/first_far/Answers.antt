-- The part of the lists strictly between the two vertices.
use Rattle.std.proofs.Common.{◌+◌, length, refl, subst, arith}
use Rattle.grid_exact.specs.Geometry.{Place, IsWithin}
use Rattle.lane_kernels.specs.Places.{place_at, EachPlace, IsFirstOff}
use Rattle.error_band.proofs.Parts.{part, part_places, part_first}
use Rattle.error_band.proofs.run.first_far.Goals as goal

pub returns-in-Some-clause-first : goal.returns-in-Some-clause-first
returns-in-Some-clause-first c =
    let xs = c.args.xs.now in
    let ys = c.args.ys.now in
    let i = c.args.i in
    let j = c.args.j in
    let px = part (i + 1) j xs in
    let py = part (i + 1) j ys in
    let k = c.in-Some.place in
    let first = subst (λ (a : Place). IsFirstOff 0 (length px) (λ p. IsWithin a (place_at xs ys j) p c.args.bound) px py k)
    c.point_at-from.ensures
    (subst (λ (b : Place). IsFirstOff 0 (length px) (λ p. IsWithin c.point_at-from.result b p c.args.bound) px py k) c.point_at-to.ensures
    c.in-Some.ensures.first) in
    part_first (λ p. IsWithin (place_at xs ys i) (place_at xs ys j) p c.args.bound) (i + 1) j xs ys k (omega arith) first

pub returns-in-None-clause-none : goal.returns-in-None-clause-none
returns-in-None-clause-none c =
    let xs = c.args.xs.now in
    let ys = c.args.ys.now in
    let i = c.args.i in
    let j = c.args.j in
    let px = part (i + 1) j xs in
    let py = part (i + 1) j ys in
    let each = subst (λ (a : Place). EachPlace (λ p. IsWithin a (place_at xs ys j) p c.args.bound) px py) c.point_at-from.ensures
    (subst (λ (b : Place). EachPlace (λ p. IsWithin c.point_at-from.result b p c.args.bound) px py) c.point_at-to.ensures
    (c.in-None.ensures.none.0 refl)) in
    let parts = part_places (λ p. IsWithin (place_at xs ys i) (place_at xs ys j) p c.args.bound) (i + 1) j xs ys (omega arith) in
    (λ t. parts.0 each, λ h. refl)
