use Rattle.std.proofs.Common.{◌∙◌, [], ap}
use Rattle.std.proofs.lemmas.List.Elements.{All-get_or}
use Rattle.grid_exact.specs.Walks.{differ}
use Rattle.face_parity.specs.Celled.{cell_at, in_cell, run_at}
use Rattle.face_parity.specs.Faces.{turns}
use Rattle.face_parity.specs.Naming.{refs_over}
use Rattle.face_parity.specs.Parities.{pass_oddly}
use Rattle.face_parity.specs.Runs.{IsRunOf}
use Rattle.face_parity.proofs.ByArc.{pass-inside}
use Rattle.face_parity.proofs.Telling.{floored-by, told-at}
use Rattle.face_parity.proofs.faces.turn_crossed.Goals as goal

pub returns-clause-odd : goal.returns-clause-odd
returns-clause-odd c k low =
    let m = c.args.topology.now in
    let cells = c.args.cells.now in
    let runs = cells.runs.items in
    let ns = c.args.namings.now.namings.items in
    let y = c.args.at.y in
    let refs = refs_over ns y k in
    let found = in_cell (cell_at cells.width cells.height c.args.at) cells.celled.items in
    let wides = pass_oddly (λ n. turns m c.args.p refs (run_at runs n)) cells.wide.items in
    c.turn_wide.ensures.odd k
    ∙ ap (λ b. differ b wides) (c.turn_celled.ensures.odd k ∙ ap (λ b.
    differ b (pass_oddly (λ e. turns m c.args.p refs (run_at runs e.run)) found)) (c.requires.even k))
    ∙ pass-inside m cells.floors runs cells.limits cells.width cells.height cells.wide.items cells.celled.items cells.some_width
    cells.some_height c.requires.cells.runs c.requires.cells.wide c.requires.cells.celled c.args.p c.args.at c.requires.at refs
    (λ n within named.
    let run = All-get_or (IsRunOf m cells.floors) runs n (run_at [] 0) within c.requires.cells.runs.only in
    floored-by cells.floors ns y k (run_at runs n) c.requires.under run.floor named)
    ∙ told-at m ns k c.args.p c.args.at c.requires.at (c.requires.namings.namings.told k low)
