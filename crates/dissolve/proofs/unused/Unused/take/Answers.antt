use Rattle.std.proofs.Common.{refl}
use Rattle.dissolve.proofs.Marks.{marked-cleared}
use Rattle.dissolve.proofs.Taken.{taken-mark}
use Rattle.dissolve.proofs.unused.Unused.take.Goals as goal

pub returns-clause-unused : goal.returns-clause-unused
returns-clause-unused c = λ m are. taken-mark m c.args.self.now _ c.args.arc refl refl refl (λ p. refl) are

pub returns-clause-left : goal.returns-clause-left
returns-clause-left c = marked-cleared c.args.self.now.marks.items c.args.arc
