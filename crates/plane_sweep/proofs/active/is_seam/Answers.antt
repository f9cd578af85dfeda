use Rattle.std.proofs.Common.{subst}
use Rattle.plane_sweep.specs.declared.spans.Span.{Span}
use Rattle.plane_sweep.specs.Meeting.{EndsUnder}
use Rattle.plane_sweep.specs.Passage.{FirstHas}
use Rattle.plane_sweep.specs.Spans.{spans_in}
use Rattle.plane_sweep.proofs.Numbers.{spans_last}
use Rattle.plane_sweep.proofs.active.is_seam.Goals as goal

pub returns-in-Some : goal.returns-in-Some
returns-in-Some c t =
    let P = λ (s : Span). FirstHas (EndsUnder s) (spans_in c.args.spans.now c.args.upper.now) in
    spans_last P c.args.spans.now c.args.lower.now c.in-Some.field-0-1.now c.in-Some.number.now c.in-Some.ensures.cases.0
    (subst P c.numbered.ensures (c.is_under_next.ensures t))
