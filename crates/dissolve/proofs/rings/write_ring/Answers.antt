use Rattle.std.proofs.Common.{◌≡◌, ◌++◌, ◌<◌, length, map, false, get_or, arith, rules}
use Rattle.std.specs.Fmt.{signed_decimal}
use Rattle.dissolve.specs.Walk.{reference, references}
use Rattle.dissolve.proofs.Entries.{entry-more, list-done, step-entry, few-steps, step-within}
use Rattle.dissolve.proofs.rings.write_ring.Goals as goal

pub loop-k-preserved : goal.loop-k-preserved
loop-k-preserved c =
    let ring = c.args.ring.now in
    let within : c.loop-k.k < length ring = omega arith in
    let wrote : c.write_number.new.out.items ≡ c.write_comma.new.out.items ++ signed_decimal c.number.result = search rules in
    let text = step-entry ring c.loop-k.k (record { arc = 0; forwards = false }) within in
    entry-more (map signed_decimal (references ring)) c.loop-k.k c.loop-k.out.items c.write_comma.new.out.items c.write_number.new.out.items
    (signed_decimal (reference (get_or ring c.loop-k.k (record { arc = 0; forwards = false })))) _
    (step-within c.args.ring.now c.loop-k.k within) text c.in_ok-write_comma.ensures (rw (← c.number.ensures) wrote) c.loop-k.invariant

pub returns : goal.returns
returns c = list-done (map signed_decimal (references c.args.ring.now)) c.loop-k.k c.args.out.now.items c.loop-k.out.items
    c.push-2.new.self.items
    (few-steps c.args.ring.now c.loop-k.k (omega arith)) c.loop-k.invariant c.in_ok-push-2.ensures.items
