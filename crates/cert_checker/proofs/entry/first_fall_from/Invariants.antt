use Rattle.std.proofs.Common.{length}
use Rattle.error_cone.specs.Courses.{IsConeFrom, LetsNear}
use Rattle.cert_checker.specs.Runs.{place_at}
use Rattle.cert_checker.specs.Subject.{FallNowhere, pairs_of}
use Rattle.cert_checker.proofs.entry.first_fall_from.Given as goal

abbrev pub invariant-loop-j : goal.invariant-loop-j
invariant-loop-j l = record {
  nowhere : FallNowhere (pairs_of l.map l.subject.chain l.subject.weights l.subject.bound) l.layers l.i l.j;
  cone : IsConeFrom l.cone (place_at l.subject.weighted.now) (length l.subject.weighted.now) l.subject.bound l.i;
  lets : LetsNear l.cone (place_at l.subject.weighted.now) (length l.subject.weighted.now) l.subject.bound l.i l.j;
}
