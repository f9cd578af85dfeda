-- Level 0 has all positions.
use Rattle.std.proofs.Common.{refl}
use Rattle.pyramid.proofs.Coming.{start-come}
use Rattle.pyramid.proofs.level.Level.first.Goals as goal

pub returns : goal.returns
returns c = λ bounds. start-come c.args.map c.map-2.result.now c.map-3.result.now bounds
    (record { map = c.args.map; places = c.in_ok-places.places; ranks = c.in_ok-ranks.ranks }) c.map-2.ensures.same c.map-3.ensures.same
    c.all_places.ensures.is_map c.map-2.ensures.arranged refl c.in_ok-places.ensures.count c.in_ok-places.ensures.places
    c.in_ok-ranks.ensures.count c.in_ok-ranks.ensures.long c.in_ok-ranks.ensures.zero
