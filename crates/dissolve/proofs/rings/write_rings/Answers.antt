use Rattle.std.proofs.Common.{◌<◌, length, map, arith}
use Rattle.dissolve.specs.Texts.{ring_text}
use Rattle.dissolve.specs.Walk.{references, rings_of}
use Rattle.dissolve.proofs.Entries.{entry-more, list-done, ring-entry, few-rings, ring-within}
use Rattle.dissolve.proofs.rings.write_rings.Goals as goal

pub loop-k-preserved : goal.loop-k-preserved
loop-k-preserved c =
    let rings = c.args.rings.now in
    let within : c.loop-k.k < length rings = omega arith in
    let text = ring-entry rings c.loop-k.k c.index-rings-k.result c.as_slice.result.now within c.index-rings-k.is c.as_slice.ensures.value
    in
    entry-more (map ring_text (rings_of rings)) c.loop-k.k c.loop-k.out.items c.write_comma.new.out.items c.write_ring.new.out.items
    (ring_text (references c.as_slice.result.now)) _
    (ring-within c.args.rings.now c.loop-k.k within) text c.in_ok-write_comma.ensures c.in_ok-write_ring.ensures c.loop-k.invariant

pub returns : goal.returns
returns c = list-done (map ring_text (rings_of c.args.rings.now)) c.loop-k.k c.args.out.now.items c.loop-k.out.items c.push-2.new.self.items
    (few-rings c.args.rings.now c.loop-k.k (omega arith)) c.loop-k.invariant c.in_ok-push-2.ensures.items
