-- The places of both rows are past the start, and are taken.
use Rattle.std.proofs.Common.{◌+◌, ◌*◌}
use Rattle.lane_kernels.specs.declared.side.Hand.TheVariants.{Left, Right}
use Rattle.side_wedge.specs.Wedge.{IsPast}
use Rattle.side_wedge.proofs.Narrowing.{row_has_each, past_of, past_from, narrowed}
use Rattle.side_wedge.proofs.beside.Beside.narrow.Goals as goal

pub take_points-requires-clause-past : goal.take_points-requires-clause-past
take_points-requires-clause-past c = row_has_each (IsPast c.args.wedge.now) c.args.self.now (2 * c.args.edge) c.row.result.0.now
    c.row.result.1.now c.row.ensures (c.requires.past Left)

pub take_points-requires-2-clause-past : goal.take_points-requires-2-clause-past
take_points-requires-2-clause-past c =
    let w = c.args.wedge.now in
    let w1 = c.take_points.new.self in
    row_has_each (IsPast w1) c.args.self.now (2 * c.args.edge + 1) c.row-2.result.0.now c.row-2.result.1.now c.row-2.ensures (λ p stands.
    past_of w1 w.direction.frame w.direction.rising w.origin p c.take_points.ensures.origin (c.requires.past Right p stands))

pub returns-clause-lets : goal.returns-clause-lets
returns-clause-lets c v past =
    let w = c.args.wedge.now in
    let w1 = c.take_points.new.self in
    let w2 = c.take_points-2.new.self in
    let past1 = past_from w2 w1.direction.frame w1.direction.rising w1.origin v c.take_points-2.ensures.origin past in
    narrowed c.args.self.now c.args.edge c.row.result.0.now c.row.result.1.now c.row-2.result.0.now c.row-2.result.1.now w w1 w2 v
    c.row.ensures c.row-2.ensures c.take_points.ensures.origin.place (c.take_points.ensures.lets v past1)
    (c.take_points-2.ensures.lets v past)
