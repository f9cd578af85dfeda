use Rattle.std.proofs.Common.{◌≡◌, length, arith}
use Rattle.topo_build.specs.Passages.{IsMarked}
use Rattle.topo_build.specs.Table.{arcs_in}
use Rattle.topo_build.proofs.Around.{nowhere}
use Rattle.topo_build.proofs.Stages.{stage-done, stage-start}
use Rattle.topo_build.proofs.cut.cut.Goals as goal

pub loop-end-init : goal.loop-end-init
loop-end-init c = record {
  table = c.requires.table;
  order = omega arith;
  few = omega arith;
  stage = stage-start (IsMarked c.args.junctions.now) c.args.walk.now (arcs_in c.args.arcs.now) c.new-refs.result.items c.requires.several
      c.new-refs.ensures.items;
}

pub returns-clause-pieces : goal.returns-clause-pieces
returns-clause-pieces c =
    let several = c.requires.several in
    let upto = c.loop-end.auto.end-end in
    let past = c.loop-end-test.false in
    let all : c.loop-end.end ≡ length c.args.walk.now = omega arith in
    stage-done (IsMarked c.args.junctions.now) c.args.walk.now c.loop-end.start c.loop-end.end (arcs_in c.args.arcs.now)
    c.loop-end.refs.items (arcs_in c.loop-end.arcs) all (c.requires.last nowhere) c.loop-end.invariant.stage
