use Rattle.std.proofs.Common.{◌≡◌, ◌++◌, ◌<◌, ◌≤◌, length, map, get_or, pos, arith, rules}
use Rattle.std.specs.Fmt.{signed_decimal}
use Rattle.std.proofs.lemmas.List.{length-map}
use Rattle.geo_text.proofs.Listing.{entry-more, list-done, number-entry}
use Rattle.geo_text.proofs.writer.write_ring.Goals as goal

pub loop-k-preserved : goal.loop-k-preserved
loop-k-preserved c =
    let ring = c.args.ring.now in
    let k = c.loop-k.k in
    let within : k < length ring = omega arith in
    let listed : k < length (map signed_decimal ring) = omega (arith, length-map ring signed_decimal, within) in
    let wrote : c.write_number.new.out.items ≡ c.write_comma.new.out.items ++ signed_decimal (get_or ring k (pos 0)) = search rules in
    entry-more (map signed_decimal ring) k c.loop-k.out.items c.write_comma.new.out.items c.write_number.new.out.items
    (signed_decimal (get_or ring k (pos 0))) _ listed (number-entry ring k within) c.in_ok-write_comma.ensures wrote c.loop-k.invariant

pub returns : goal.returns
returns c =
    let ring = c.args.ring.now in
    let past : length (map signed_decimal ring) ≤ c.loop-k.k = omega (arith, length-map ring signed_decimal) in
    list-done (map signed_decimal ring) c.loop-k.k c.args.out.now.items c.loop-k.out.items c.push-2.new.self.items past c.loop-k.invariant
    c.in_ok-push-2.ensures.items
