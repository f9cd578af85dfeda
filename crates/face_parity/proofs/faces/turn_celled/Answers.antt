use Rattle.std.proofs.Common.{◌≡◌, ◌∙◌, ◌<◌, All, length, get_or, subst, sym, ◌==◌}
use Rattle.std.proofs.lemmas.List.Elements.{All-filter, All-get_or, All-weaker}
use Rattle.face_parity.specs.Celled.{DoesReach, IsOfRow, cell_at, in_cell, run_at, spot_of}
use Rattle.face_parity.specs.Naming.{refs_over}
use Rattle.face_parity.specs.Tally.{is_odd_at}
use Rattle.face_parity.specs.declared.cells.Celled.{Celled}
use Rattle.face_parity.proofs.ByArc.{turned-next}
use Rattle.face_parity.proofs.Running.{read-run, run-read}
use Rattle.face_parity.proofs.Telling.{floored-by}
use Rattle.face_parity.proofs.faces.turn_celled.Goals as goal

abbrev none : Celled
none = record { cell = 0; row = 0; run = 0 }

pub run-requires : goal.run-requires
run-requires c =
    let cells = c.args.cells.now in
    let runs = cells.runs.items in
    let P : Celled → Type 0 = λ e. IsOfRow e × DoesReach runs cells.limits cells.height (spot_of e).0 in
    let cell = cell_at cells.width cells.height c.args.at in
    let within = All-weaker P (λ (e : Celled). e.run < length runs) (λ e has. has.1.run) (in_cell cell cells.celled.items)
    (All-filter (λ e. e.cell == cell) P cells.celled.items c.requires.cells.celled.only) in
    All-get_or (λ (e : Celled). e.run < length runs) c.at-found.result.now c.loop-celled.celled-index none c.loop-celled-test.true
    (subst (All (λ (e : Celled). e.run < length runs)) (sym c.at-found.ensures) within)

pub turn_run-requires-clause-run : goal.turn_run-requires-clause-run
turn_run-requires-clause-run c = (read-run c.args.topology.now c.args.cells.now.floors c.args.cells.now.runs.items _ c.run.result
    c.run.ensures c.requires.cells.runs.only).run

pub loop-celled-preserved : goal.loop-celled-preserved
loop-celled-preserved c =
    let m = c.args.topology.now in
    let runs = c.args.cells.now.runs.items in
    let r = c.run.result in
    let number = (get_or c.at-found.result.now c.loop-celled.celled-index none).run in
    let is : r ≡ run_at runs number = run-read runs number r c.run.ensures in
    let run = read-run m c.args.cells.now.floors runs number r c.run.ensures c.requires.cells.runs.only in
    record {
      tally = c.turn_run.ensures.tally;
      polygons = c.turn_run.ensures.polygons ∙ c.loop-celled.invariant.polygons;
      odd = λ k.
          let ns = c.args.namings.now.namings.items in
          let y = c.args.at.y in
          turned-next (λ (e : Celled). e.run) m c.args.p (refs_over ns y k) runs (is_odd_at c.loop-celled.tally k)
          (is_odd_at c.turn_run.new.tally k) _ c.at-found.result.now c.loop-celled.celled-index none r c.loop-celled-test.true is
          (c.turn_run.ensures.odd k (floored-by c.args.cells.now.floors ns y k r c.requires.under run.floor))
          (c.loop-celled.invariant.odd k);
    }
