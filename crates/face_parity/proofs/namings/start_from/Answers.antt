use Rattle.std.proofs.Common.{arith}
use Rattle.face_parity.proofs.Parts.{some_naming, start-here}
use Rattle.face_parity.proofs.namings.start_from.Goals as goal

pub returns-else-namings-at : goal.returns-else-namings-at
returns-else-namings-at c = start-here c.args.namings.now c.args.arc c.loop-at.at some_naming c.requires.sorted
    (omega (arith, c.loop-at-test.true)) c.if-namings-at.false c.loop-at.invariant.below
