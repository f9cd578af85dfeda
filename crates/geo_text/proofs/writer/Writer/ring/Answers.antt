use Rattle.std.proofs.Common.{drop}
use Rattle.geo_text.proofs.Listing.{ring-step}
use Rattle.geo_text.proofs.writer.Writer.ring.Goals as goal

pub returns-in_ok-write_ring : goal.returns-in_ok-write_ring
returns-in_ok-write_ring c =
    let w = c.args.self.now in
    ring-step w.rings.now w.next_ring c.ring.result.now w.text.items c.write_ring.new.out.items (drop w.next_point w.points.now)
    c.ring.ensures c.in_ok-write_ring.ensures
