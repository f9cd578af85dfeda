use Rattle.plane_sweep.proofs.Placing.{at_end, places_more}
use Rattle.plane_sweep.proofs.places.distinct.Goals as goal

pub loop-place-preserved : goal.loop-place-preserved
loop-place-preserved c =
    places_more c.args.places.now c.loop-place.rest.now c.in-Some.others.now c.in-Some.place.now c.loop-place.kept.items
    c.push_new.new.kept.items c.in-Some.ensures.cases.0
    c.in_ok-push_new.ensures.kept c.in_ok-push_new.ensures.added c.loop-place.invariant

pub returns : goal.returns
returns c p member = at_end c.loop-place.rest.now p _ c.in_default.ensures.cases (c.loop-place.invariant p member)
