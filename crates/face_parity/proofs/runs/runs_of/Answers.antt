use Rattle.std.proofs.Common.{◌≡◌, ◌≤◌, ◌^◌, length, arith}
use Rattle.face_parity.proofs.Cutting.{few-more, runs-all}
use Rattle.face_parity.proofs.runs.runs_of.Goals as goal

pub loop-arc-preserved : goal.loop-arc-preserved
loop-arc-preserved c = record {
  runs = c.in_ok-push_arc.ensures.runs;
  few = few-more c.args.map.now.arcs c.loop-arc.arc (length c.loop-arc.runs.items) (length c.push_arc.new.runs.items) (omega arith)
      c.loop-arc.invariant.few c.in_ok-push_arc.ensures.few;
}

pub returns : goal.returns
returns c =
    let all : c.loop-arc.arc ≡ length c.args.map.now.arcs = omega arith in
    let few : length c.loop-arc.runs.items ≤ 2 ^ 20 = omega (arith, c.loop-arc.invariant.few) in
    runs-all c.args.map.now c.args.floors.now c.loop-arc.arc c.loop-arc.runs.items all few c.loop-arc.invariant.runs
