use Rattle.std.proofs.Common.{◌∙◌, arith}
use Rattle.face_parity.proofs.Lowest.{pair-more}
use Rattle.face_parity.proofs.floors.are_paired.Goals as goal

pub loop-at-preserved : goal.loop-at-preserved
loop-at-preserved c = record {
  within = omega arith;
  even = λ test. c.loop-at.invariant.even test ∙ pair-more c.args.numbers.now c.loop-at.at test (omega arith) (omega arith);
}
