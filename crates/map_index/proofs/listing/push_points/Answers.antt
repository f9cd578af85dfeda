-- One feature point more stands behind the items.
use Rattle.std.proofs.lemmas.Option.{get_or_from_slice_get, slice_get_within}
use Rattle.map_index.proofs.Listed.{point_more}
use Rattle.map_index.proofs.listing.push_points.Goals as goal

pub loop-k-preserved : goal.loop-k-preserved
loop-k-preserved c =
    let points = c.args.work.now.read.points in
    let k = c.loop-k.k in
    let p = c.point.result in
    rw c.in_ok-push.ensures.items (point_more c.args.items.now.items c.loop-k.items.items points k p
    (slice_get_within points k p c.point.ensures) (get_or_from_slice_get points k p p c.point.ensures) c.loop-k.invariant)
