-- One bound more is written.
use Rattle.std.proofs.Common.{◌≡◌, ◌∙◌, ◌++◌, ◌<◌, length, map, ap, sym, arith, rules}
use Rattle.std.specs.Fmt.{signed_decimal}
use Rattle.pyramid.proofs.Entries.{entry-more, list-done, bound-entry, few-bounds, bound-within}
use Rattle.pyramid.proofs.text.write_bounds.Goals as goal

pub loop-k-preserved : goal.loop-k-preserved
loop-k-preserved c =
    let bounds = c.args.bounds.now in
    let within : c.loop-k.k < length bounds = omega arith in
    let wrote : c.write_number.new.out.items ≡ c.write_comma.new.out.items ++ signed_decimal c.value.result = search rules in
    let text = bound-entry bounds c.loop-k.k c.index-bounds-k.result within
    ∙ ap signed_decimal (sym c.index-bounds-k.is ∙ sym c.value.ensures.value) in
    entry-more (map signed_decimal bounds) c.loop-k.k c.loop-k.out.items c.write_comma.new.out.items c.write_number.new.out.items
    (signed_decimal c.value.result) _
    (bound-within bounds c.loop-k.k within) text c.in_ok-write_comma.ensures wrote c.loop-k.invariant

pub returns : goal.returns
returns c = list-done (map signed_decimal c.args.bounds.now) c.loop-k.k c.args.out.now.items c.loop-k.out.items c.push-2.new.self.items
    (few-bounds c.args.bounds.now c.loop-k.k (omega arith)) c.loop-k.invariant c.in_ok-push-2.ensures.items
