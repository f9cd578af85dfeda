-- One position more is raised.
use Rattle.std.proofs.Common.{slice_index, arith, refl}
use Rattle.pyramid.proofs.Listing.{raised-more}
use Rattle.pyramid.proofs.ranks.raise.Goals as goal

pub loop-at-preserved : goal.loop-at-preserved
loop-at-preserved c =
    let places = c.args.places.now in
    let k = c.loop-at.at-index in
    let below = c.requires k 0 c.loop-at-test.true in
    raised-more c.args.ranks.now.items c.loop-at.ranks.items _ places c.args.rank k (slice_index places k) c.loop-at-test.true refl
    (omega (arith, below, c.loop-at.invariant.long)) refl c.loop-at.invariant
