use Rattle.std.proofs.Common.{◌≡◌, length, arith, subst}
use Rattle.face_parity.specs.Celled.{AreWideTo}
use Rattle.face_parity.proofs.Reaching.{none-wide}
use Rattle.face_parity.proofs.cells.wide_of.Goals as goal

pub loop-number-init : goal.loop-number-init
loop-number-init c = rw c.new-wide.ensures.items (none-wide c.args.runs.now c.args.limits)

pub returns : goal.returns
returns c =
    let all : c.loop-number.number ≡ length c.args.runs.now = omega arith in
    subst (λ n. AreWideTo c.args.runs.now c.args.limits n c.loop-number.wide.items) all c.loop-number.invariant
