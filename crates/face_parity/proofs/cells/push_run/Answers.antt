use Rattle.std.proofs.Common.{◌+◌, ◌/◌, ◌≤◌, arith, ◌≡◌, ◌∙◌, true, false, sym, rules}
use Rattle.face_parity.specs.Celled.{run_at}
use Rattle.face_parity.proofs.Reaching.{rows-end, rows-more, rows-start, rows-wide}
use Rattle.face_parity.proofs.cells.push_run.Goals as goal

pub loop-row-init : goal.loop-row-init
loop-row-init c = rows-start c.args.runs.now c.args.limits c.args.width c.args.height c.args.number c.args.celled.now.items
    c.requires.so_far

pub loop-row-preserved : goal.loop-row-preserved
loop-row-preserved c =
    let r = run_at c.args.runs.now c.args.number in
    let low : r.floor / c.args.height ≤ c.loop-row.row = c.loop-row.auto.row in
    let high : c.loop-row.row ≤ r.bounds.north / c.args.height = omega (arith, c.loop-row-test.true) in
    let narrow : c.are_passed_by.result ≡ false = search rules in
    rw c.in_ok-push_row.ensures (rows-more c.args.runs.now c.args.limits c.args.width c.args.height c.args.number c.loop-row.row
    c.loop-row.celled.items c.requires.wide c.requires.runs c.requires.number (sym c.are_passed_by.ensures ∙ narrow) low high
    c.loop-row.invariant)

pub returns : goal.returns
returns c =
    let done : (run_at c.args.runs.now c.args.number).bounds.north / c.args.height + 1 ≤ c.loop-row.row = c.loop-row-test.false in
    rows-end c.args.runs.now c.args.limits c.args.width c.args.height c.args.number c.loop-row.row c.loop-row.celled.items done
    c.loop-row.invariant

pub returns-then-are_passed_by : goal.returns-then-are_passed_by
returns-then-are_passed_by c =
    let some : c.are_passed_by.result ≡ true = search rules in
    rows-wide c.args.runs.now c.args.limits c.args.width c.args.height c.args.number c.args.celled.now.items (sym c.are_passed_by.ensures
    ∙ some) c.requires.so_far
