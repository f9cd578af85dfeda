use Rattle.std.proofs.Common.{◌≡◌, ◌-◌, ◌++◌}
use Rattle.sweep_index.specs.Gathered.{made_over}
use Rattle.face_parity.specs.Celled.{cell_in}
use Rattle.face_parity.proofs.cells.push_row.Given as goal

abbrev pub invariant-loop-cell : goal.invariant-loop-cell
invariant-loop-cell l = l.celled.items ≡ l.fn.celled.items ++ made_over (λ cell. record { cell = cell; row = l.row; run = l.run })
    (cell_in l.row l.west) (l.cell - cell_in l.row l.west)
