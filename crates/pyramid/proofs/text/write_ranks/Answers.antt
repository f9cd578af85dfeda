-- One list more is written.
use Rattle.std.proofs.Common.{◌<◌, length, map, arith}
use Rattle.pyramid.specs.Places.{lists_of}
use Rattle.pyramid.specs.Texts.{numbers_text}
use Rattle.pyramid.proofs.Entries.{entry-more, list-done, list-entry, few-lists, list-within}
use Rattle.pyramid.proofs.text.write_ranks.Goals as goal

pub loop-k-preserved : goal.loop-k-preserved
loop-k-preserved c =
    let ranks = c.args.ranks.now in
    let within : c.loop-k.k < length ranks = omega arith in
    let text = list-entry ranks c.loop-k.k c.index-ranks-k.result c.as_slice.result.now within c.index-ranks-k.is c.as_slice.ensures.value
    in
    entry-more (map numbers_text (lists_of ranks)) c.loop-k.k c.loop-k.out.items c.write_comma.new.out.items c.write_numbers.new.out.items
    (numbers_text c.as_slice.result.now) _
    (list-within c.args.ranks.now c.loop-k.k within) text c.in_ok-write_comma.ensures c.in_ok-write_numbers.ensures c.loop-k.invariant

pub returns : goal.returns
returns c = list-done (map numbers_text (lists_of c.args.ranks.now)) c.loop-k.k c.args.out.now.items c.loop-k.out.items
    c.push-2.new.self.items
    (few-lists c.args.ranks.now c.loop-k.k (omega arith)) c.loop-k.invariant c.in_ok-push-2.ensures.items
