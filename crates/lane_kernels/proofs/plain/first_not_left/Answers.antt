-- The place number k is the first that fails, or one more that passes.
use Rattle.std.proofs.Common.{◌≡◌, pos, ◌<ℤ◌, ap, ◌∙◌, arith}
use Rattle.grid_exact.specs.Geometry.{area_of}
use Rattle.grid_exact.proofs.WholeLaws.{fits}
use Rattle.lane_kernels.specs.Places.{place_at}
use Rattle.lane_kernels.proofs.Between.{each_more}
use Rattle.lane_kernels.proofs.plain.first_not_left.Goals as goal

pub returns-then-area-le0-clause-none : goal.returns-then-area-le0-clause-none
returns-then-area-le0-clause-none c =
    let here : c.area.result ≡ area_of c.args.a c.args.b (place_at c.args.xs.now c.args.ys.now c.loop-k.k) = c.area.ensures.value
    ∙ ap (area_of c.args.a c.args.b) c.point_at.ensures in (
      λ e. absurd (cc),
      λ h. let low = c.loop-k.auto.k in let high = c.loop-k-test.true in let passes =
          h c.loop-k.k (omega arith) (omega arith) in absurd (omega (arith, fits)),
    )

pub returns-then-area-le0-clause-first : goal.returns-then-area-le0-clause-first
returns-then-area-le0-clause-first c =
    let here : c.area.result ≡ area_of c.args.a c.args.b (place_at c.args.xs.now c.args.ys.now c.loop-k.k) = c.area.ensures.value
    ∙ ap (area_of c.args.a c.args.b) c.point_at.ensures in
    record { low = c.loop-k.auto.k; high = c.loop-k-test.true; off = λ passes. omega (arith, fits); before = c.loop-k.invariant }

pub loop-k-preserved : goal.loop-k-preserved
loop-k-preserved c =
    let here : c.area.result ≡ area_of c.args.a c.args.b (place_at c.args.xs.now c.args.ys.now c.loop-k.k) = c.area.ensures.value
    ∙ ap (area_of c.args.a c.args.b) c.point_at.ensures in
    each_more c.args.from c.loop-k.k (λ p. pos 0 <ℤ area_of c.args.a c.args.b p) c.args.xs.now c.args.ys.now c.loop-k.invariant
    (omega (arith, fits))
