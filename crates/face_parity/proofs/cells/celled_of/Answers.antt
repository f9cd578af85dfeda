use Rattle.std.proofs.Common.{◌≤◌, length, arith}
use Rattle.face_parity.proofs.Reaching.{all-celled, none-celled}
use Rattle.face_parity.proofs.cells.celled_of.Goals as goal

pub loop-number-init : goal.loop-number-init
loop-number-init c = rw c.new-celled.ensures.items (none-celled c.args.runs.now c.args.limits c.args.width c.args.height)

pub returns : goal.returns
returns c =
    let all : length c.args.runs.now ≤ c.loop-number.number = omega arith in
    all-celled c.args.runs.now c.args.limits c.args.width c.args.height c.loop-number.number c.loop-number.celled.items all
    c.loop-number.invariant
