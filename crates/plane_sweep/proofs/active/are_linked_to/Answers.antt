use Rattle.std.proofs.Common.{◌≡◌, ◌∙◌, ◌==◌, ap, length, sym}
use Rattle.std.proofs.lemmas.List.{length-map}
use Rattle.plane_sweep.specs.Meeting.{EndsUnder}
use Rattle.plane_sweep.specs.Spans.{span_of, spans_in}
use Rattle.plane_sweep.proofs.Lists.{chained_directly, chained_over}
use Rattle.plane_sweep.proofs.active.are_linked_to.Goals as goal

pub returns-then-is_empty : goal.returns-then-is_empty
returns-then-is_empty c t lower upper =
    let spans = c.args.spans.now in
    let new = c.args.new.now in
    let count : (length (spans_in spans new) == 0) ≡ (length new == 0) = ap (λ n. n == 0) (length-map new (span_of spans)) in
    chained_directly EndsUnder (spans_in spans c.args.below.now) (spans_in spans new) (spans_in spans c.args.above.now) (count
    ∙ sym c.is_empty.ensures ∙ c.if-is_empty.true) (c.is_seam.ensures t) lower upper

pub returns-then-are_linked : goal.returns-then-are_linked
returns-then-are_linked c t lower upper =
    let spans = c.args.spans.now in
    let new = c.args.new.now in
    let count : (length (spans_in spans new) == 0) ≡ (length new == 0) = ap (λ n. n == 0) (length-map new (span_of spans)) in
    chained_over EndsUnder (spans_in spans c.args.below.now) (spans_in spans new) (spans_in spans c.args.above.now) (count
    ∙ sym c.is_empty.ensures ∙ c.if-is_empty.false) (c.is_seam-else-is_empty.ensures c.if-is_seam.true)
    (c.are_linked.ensures c.if-are_linked.true) (c.is_seam-then-are_linked.ensures t) lower upper
