use Rattle.std.proofs.Common.{◌∙◌, ap, [], ◌∷◌, ◌++◌}
use Rattle.plane_sweep.proofs.Placing.{at_end, ends_more}
use Rattle.plane_sweep.proofs.places.ends_of.Goals as goal

pub loop-span-preserved : goal.loop-span-preserved
loop-span-preserved c =
    ends_more c.args.spans.now c.loop-span.rest.now c.in-Some.others.now c.in-Some.span.now c.loop-span.places.items
    c.push-in-Some.new.self.items c.in-Some.ensures.cases.0
    (c.in_ok-push-2.ensures.items ∙ ap (λ xs. xs ++ c.in-Some.span.now.high.place ∷ []) c.in_ok-push.ensures.items) c.loop-span.invariant

pub returns : goal.returns
returns c s member = at_end c.loop-span.rest.now s _ c.in_default.ensures.cases (c.loop-span.invariant s member)
