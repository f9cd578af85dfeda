-- The parts, one after the other.
use Rattle.std.proofs.Common.{length}
use Rattle.std.proofs.lemmas.Result.{IfOk-weaker}
use Rattle.std.proofs.Common.{◌∙◌}
use Rattle.top_call.specs.Answers.{position_count}
use Rattle.top_call.proofs.CountLines.{counted_lines}
use Rattle.top_call.proofs.demo.lines_of.Goals as goal

pub returns : goal.returns
returns c =
    let m = c.args.map.now in
    IfOk-weaker c.text_of.result _ _ (λ text is. is
    ∙ counted_lines c.arc_count.result c.point_count.result c.polygon_count.result c.args.chains c.args.before c.position_count.result
    (length m.arcs) (length m.points) (length m.polygons) (position_count m)
    c.arc_count.ensures.value c.point_count.ensures.value c.polygon_count.ensures.value c.position_count.ensures) c.text_of.ensures
