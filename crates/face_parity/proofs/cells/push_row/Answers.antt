use Rattle.std.proofs.Common.{◌≡◌, ◌∙◌, ◌+◌, ◌-◌, ◌≤◌, ◌++◌, ap, subst, sym, arith}
use Rattle.sweep_index.specs.Gathered.{made_over}
use Rattle.sweep_index.proofs.Gathering.{made_more, made_none}
use Rattle.face_parity.specs.Celled.{cell_in}
use Rattle.face_parity.proofs.cells.push_row.Goals as goal

pub loop-cell-init : goal.loop-cell-init
loop-cell-init c =
    let first = cell_in c.args.row c.args.west in
    let old = c.args.celled.now.items in
    subst (λ n. old ≡ old ++ made_over (λ cell. record { cell = cell; row = c.args.row; run = c.args.run }) first (n - first))
    (sym c.cell-cell.ensures) (made_none (λ cell. record { cell = cell; row = c.args.row; run = c.args.run }) old first)

pub loop-cell-preserved : goal.loop-cell-preserved
loop-cell-preserved c =
    let first = cell_in c.args.row c.args.west in
    let start : c.cell-cell.result ≡ first = c.cell-cell.ensures in
    let low : first ≤ c.loop-cell.cell = omega (arith, start, c.loop-cell.auto.cell) in
    made_more (λ cell. record { cell = cell; row = c.args.row; run = c.args.run }) c.args.celled.now.items c.loop-cell.celled.items
    c.push.new.self.items first c.loop-cell.cell low c.loop-cell.invariant c.in_ok-push.ensures.items

pub returns : goal.returns
returns c =
    let first = cell_in c.args.row c.args.west in
    let start : c.cell-cell.result ≡ first = c.cell-cell.ensures in
    let stop : c.cell-cell-end.result ≡ cell_in c.args.row c.args.east = c.cell-cell-end.ensures in
    let count : c.loop-cell.cell - first ≡ cell_in c.args.row c.args.east + 1 - first = omega (arith, start, stop, c.requires.columns) in
    c.loop-cell.invariant ∙ ap (λ more. c.args.celled.now.items
    ++ made_over (λ cell. record { cell = cell; row = c.args.row; run = c.args.run }) first more) count
