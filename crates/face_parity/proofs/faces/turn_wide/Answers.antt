use Rattle.std.proofs.Common.{◌≡◌, ◌∙◌, ◌<◌, All, length, get_or, subst, sym, true}
use Rattle.std.proofs.lemmas.List.Elements.{All-get_or, All-weaker}
use Rattle.face_parity.specs.Celled.{is_wide, run_at}
use Rattle.face_parity.specs.Naming.{refs_over}
use Rattle.face_parity.specs.Tally.{is_odd_at}
use Rattle.face_parity.proofs.ByArc.{turned-next}
use Rattle.face_parity.proofs.Running.{read-run, run-read}
use Rattle.face_parity.proofs.Telling.{floored-by}
use Rattle.face_parity.proofs.faces.turn_wide.Goals as goal

pub run-requires : goal.run-requires
run-requires c =
    let runs = c.args.cells.now.runs.items in
    let within = All-weaker (λ n. (n < length runs) × (is_wide c.args.cells.now.limits (run_at runs n) ≡ true)) (λ n. n < length runs)
    (λ n is. is.0) c.args.cells.now.wide.items c.requires.cells.wide.only in
    All-get_or (λ n. n < length runs) c.wide-wide.result.now c.loop-number.number-index 0 c.loop-number-test.true
    (subst (All (λ n. n < length runs)) (sym c.wide-wide.ensures) within)

pub turn_run-requires-clause-run : goal.turn_run-requires-clause-run
turn_run-requires-clause-run c = (read-run c.args.topology.now c.args.cells.now.floors c.args.cells.now.runs.items _ c.run.result
    c.run.ensures c.requires.cells.runs.only).run

pub loop-number-preserved : goal.loop-number-preserved
loop-number-preserved c =
    let m = c.args.topology.now in
    let runs = c.args.cells.now.runs.items in
    let r = c.run.result in
    let number = get_or c.wide-wide.result.now c.loop-number.number-index 0 in
    let is : r ≡ run_at runs number = run-read runs number r c.run.ensures in
    let run = read-run m c.args.cells.now.floors runs number r c.run.ensures c.requires.cells.runs.only in
    record {
      tally = c.turn_run.ensures.tally;
      polygons = c.turn_run.ensures.polygons ∙ c.loop-number.invariant.polygons;
      odd = λ k.
          let ns = c.args.namings.now.namings.items in
          let y = c.args.at.y in
          turned-next (λ n. n) m c.args.p (refs_over ns y k) runs (is_odd_at c.loop-number.tally k) (is_odd_at c.turn_run.new.tally k) _
          c.wide-wide.result.now c.loop-number.number-index 0 r c.loop-number-test.true is
          (c.turn_run.ensures.odd k (floored-by c.args.cells.now.floors ns y k r c.requires.under run.floor))
          (c.loop-number.invariant.odd k);
    }
