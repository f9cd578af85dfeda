use Rattle.std.proofs.Common.{◌∙◌, ap}
use Rattle.face_parity.specs.Celled.{in_cell}
use Rattle.face_parity.proofs.cells.Cells.at.Goals as goal

pub in_one-requires : goal.in_one-requires
in_one-requires c = rw c.as_slice.ensures.value c.args.self.now.sorted

pub returns : goal.returns
returns c = c.in_one.ensures ∙ ap (in_cell c.cell-cell.result) c.as_slice.ensures.value
    ∙ ap (λ n. in_cell n c.args.self.now.celled.items) c.cell-cell.ensures
