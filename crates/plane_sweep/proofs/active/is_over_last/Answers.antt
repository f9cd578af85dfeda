use Rattle.std.proofs.Common.{pos, ◌<ℤ◌}
use Rattle.plane_sweep.specs.declared.spans.Span.{Span}
use Rattle.plane_sweep.specs.Meeting.{side_of}
use Rattle.plane_sweep.proofs.Numbers.{spans_last}
use Rattle.plane_sweep.proofs.active.is_over_last.Goals as goal

pub returns-in-Some : goal.returns-in-Some
returns-in-Some c t =
    spans_last (λ (s : Span). pos 0 <ℤ side_of s c.args.q) c.args.spans.now c.args.below.now c.in-Some.field-0-1.now c.in-Some.number.now
    c.in-Some.ensures.cases.0 (c.is_above.ensures t)
