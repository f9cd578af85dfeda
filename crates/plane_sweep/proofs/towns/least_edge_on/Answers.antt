use Rattle.std.proofs.lemmas.Bool.{iff_false}
use Rattle.sweep_index.specs.EdgeWalk.{edges_left}
use Rattle.plane_sweep.proofs.Answering.{least_on_is, on_none_is, walks_first, walks_found, walks_known, walks_passed}
use Rattle.plane_sweep.proofs.towns.least_edge_on.Goals as goal

pub loop-e-init : goal.loop-e-init
loop-e-init c = walks_first c.args.map.now c.args.town c.point.result (edges_left c.edges_over-edges.result) c.point.ensures
    (c.edges_over-edges.ensures c.args.map.now c.requires.slabs)

pub lies_below-requires-clause-edge : goal.lies_below-requires-clause-edge
lies_below-requires-clause-edge c = walks_known c.args.map.now c.args.town c.loop-e.least (edges_left c.loop-e.edges)
    (edges_left c.next.new.self) c.in-Some.e c.in-Some.ensures.steps c.loop-e.invariant

pub loop-e-preserved-then-lies_below : goal.loop-e-preserved-then-lies_below
loop-e-preserved-then-lies_below c = walks_found c.args.map.now c.args.town c.loop-e.least (edges_left c.loop-e.edges)
    (edges_left c.next.new.self) c.in-Some.e c.in-Some.ensures.steps (c.lies_below.ensures.0 c.if-lies_below.true) c.loop-e.invariant

pub loop-e-preserved : goal.loop-e-preserved
loop-e-preserved c = walks_passed c.args.map.now c.args.town c.loop-e.least (edges_left c.loop-e.edges) (edges_left c.next.new.self)
    c.in-Some.e c.in-Some.ensures.steps (iff_false c.lies_below.ensures c.if-lies_below.false) c.loop-e.invariant

pub returns-clause-least : goal.returns-clause-least
returns-clause-least c = let w = c.loop-e.invariant in least_on_is c.args.map.now c.args.town c.loop-e.least w.all
    (edges_left c.loop-e.edges) w.edges c.in_default.ensures.steps.0 w.found w.walked

pub returns-clause-none : goal.returns-clause-none
returns-clause-none c = let w = c.loop-e.invariant in on_none_is c.args.map.now c.args.town c.loop-e.least w.all (edges_left c.loop-e.edges)
    w.edges c.in_default.ensures.steps.0 w.walked
