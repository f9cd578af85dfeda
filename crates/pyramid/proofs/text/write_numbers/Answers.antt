-- One number more is written.
use Rattle.std.proofs.Common.{◌≡◌, ◌++◌, ◌<◌, length, map, pos, get_or, arith, rules}
use Rattle.std.specs.Fmt.{signed_decimal}
use Rattle.pyramid.proofs.Entries.{entry-more, list-done, number-entry, few-numbers, number-within}
use Rattle.pyramid.proofs.text.write_numbers.Goals as goal

pub loop-k-preserved : goal.loop-k-preserved
loop-k-preserved c =
    let numbers = c.args.numbers.now in
    let within : c.loop-k.k < length numbers = omega arith in
    let wrote : c.write_number.new.out.items ≡ c.write_comma.new.out.items ++ signed_decimal (pos (get_or numbers c.loop-k.k 0)) =
    search rules in
    entry-more (map (λ n. signed_decimal (pos n)) numbers) c.loop-k.k c.loop-k.out.items c.write_comma.new.out.items
    c.write_number.new.out.items
    (signed_decimal (pos (get_or numbers c.loop-k.k 0))) _
    (number-within numbers c.loop-k.k within) (number-entry numbers c.loop-k.k 0 within) c.in_ok-write_comma.ensures wrote
    c.loop-k.invariant

pub returns : goal.returns
returns c = list-done (map (λ n. signed_decimal (pos n)) c.args.numbers.now) c.loop-k.k c.args.out.now.items c.loop-k.out.items
    c.push-2.new.self.items
    (few-numbers c.args.numbers.now c.loop-k.k (omega arith)) c.loop-k.invariant c.in_ok-push-2.ensures.items
