use Rattle.std.proofs.Common.{◌≡◌, ◌∙◌, ◌<◌, [], length, ap, subst, sym, arith}
use Rattle.std.proofs.lemmas.List.{length_push}
use Rattle.std.proofs.lemmas.Option.{get_or_from_slice_get}
use Rattle.arc_map.specs.Arranged.{arc_at}
use Rattle.sweep_index.proofs.Reading.{arc_length, some_position}
use Rattle.face_parity.specs.Floors.{IsUnder}
use Rattle.face_parity.specs.Runs.{IsRunIn, IsRunOf}
use Rattle.face_parity.proofs.Cutting.{runs-end, runs-more, runs-start}
use Rattle.face_parity.proofs.runs.push_arc.Goals as goal

pub loop-from-init : goal.loop-from-init
loop-from-init c = record {
  runs = runs-start c.args.map.now c.args.floors.now c.args.arc c.args.runs.now.items c.requires.so_far;
  within = some_position c.arc-positions.result.now c.arc-positions.ensures.is_arc;
  few = omega arith;
}

pub loop-from-preserved : goal.loop-from-preserved
loop-from-preserved c =
    let m = c.args.map.now in
    let arc = c.args.arc in
    let ps = c.arc-positions.result.now in
    let r = c.of.result in
    let to = c.min-to.result in
    let mine : arc_at m r.arc ≡ ps = ap (arc_at m) c.of.ensures.arc
    ∙ get_or_from_slice_get m.arcs arc ps [] c.arc-positions.ensures.value in
    let under : IsUnder c.args.floors.now arc r.floor = omega (arith, c.of.ensures.floor, c.of_arc-floor.ensures) in
    let run : IsRunOf m c.args.floors.now r = record {
      run = subst (λ qs. IsRunIn qs r) (sym mine) c.of.ensures.run;
      floor = subst (λ k. IsUnder c.args.floors.now k r.floor) (sym c.of.ensures.arc) under;
    } in
    let rises : c.loop-from.from < to = omega (arith, c.min-to.ensures, c.loop-from-test.true) in
    let long = length_push c.loop-from.runs.items r in
    let items = ap length c.in_ok-push.ensures.items in
    record {
      runs = rw c.in_ok-push.ensures.items (runs-more m c.args.floors.now arc c.loop-from.from to c.loop-from.runs.items r
          c.loop-from.invariant.runs run rises c.of.ensures.arc c.of.ensures.from c.of.ensures.to);
      within = omega (arith, c.min-to.ensures, c.loop-from.invariant.within);
      few = omega (arith, items, long, c.loop-from.invariant.few, rises);
    }

pub returns-clause-runs : goal.returns-clause-runs
returns-clause-runs c =
    let m = c.args.map.now in
    let long = arc_length m c.args.arc c.arc-positions.result.now c.arc-positions.ensures.value in
    runs-end m c.args.floors.now c.args.arc c.loop-from.from c.loop-from.runs.items (omega (arith, long, c.loop-from-test.false))
    c.loop-from.invariant.runs

pub returns-clause-few : goal.returns-clause-few
returns-clause-few c =
    let long = arc_length c.args.map.now c.args.arc c.arc-positions.result.now c.arc-positions.ensures.value in
    omega (arith, long, c.loop-from.invariant.few, c.loop-from.invariant.within)
