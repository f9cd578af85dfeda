-- One place more.
use Rattle.std.proofs.Common.{◌≡◌, ◌+◌, ℤ, List, w64, to_z, of_z, subst, sym, ◌∙◌, arith}
use Rattle.grid_exact.specs.Geometry.{IsGridNumber}
use Rattle.grid_exact.proofs.WholeLaws.{fits}
use Rattle.shortcut_graph.specs.Weighed.{IsColumn}
use Rattle.shortcut_graph.proofs.Coordinates.{place_more}
use Rattle.worked_runs.proofs.graph.across.Goals as goal

pub loop-place-preserved : goal.loop-place-preserved
loop-place-preserved c =
    let z = to_z w64 (of_z w64 c.x.result) in
    let passed : z ≡ c.x.result = omega (arith, fits) in
    subst (λ (numbers : List ℤ). IsColumn (λ q. q.x) c.args.places.now numbers (c.loop-place.place-index + 1))
    (sym c.in_ok-push.ensures.items)
    (place_more (λ q. q.x) c.args.places.now c.loop-place.xs.items c.loop-place.place-index c.place-item.result z c.loop-place-test.true
    c.place-item.is (passed ∙ c.x.ensures.value) (subst IsGridNumber (sym passed) c.x.ensures.on_grid) c.loop-place.invariant)
