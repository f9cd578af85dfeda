use Rattle.std.proofs.Common.{◌≡◌, ◌∙◌, true, false, rules, sym}
use Rattle.face_parity.proofs.Reaching.{wide-more, wide-skip}
use Rattle.face_parity.proofs.cells.push_wide.Goals as goal

pub returns-then-not-are_passed_by : goal.returns-then-not-are_passed_by
returns-then-not-are_passed_by c =
    let none : c.are_passed_by.result ≡ false = search rules in
    wide-skip c.args.runs.now c.args.limits c.args.number c.args.wide.now.items (sym c.are_passed_by.ensures ∙ none) c.requires.so_far

pub returns : goal.returns
returns c =
    let some : c.are_passed_by.result ≡ true = search rules in
    rw c.in_ok-push.ensures.items (wide-more c.args.runs.now c.args.limits c.args.number c.args.wide.now.items (sym c.are_passed_by.ensures
    ∙ some) c.requires.so_far)
