-- The first place of the byte.
use Rattle.std.proofs.Common.{◌≤◌, ◌+◌, ap, arith, length}
use Rattle.cert_format.proofs.Cutting.{first_place, within_text}
use Rattle.cert_format.proofs.parts.end_of_first.Goals as goal

pub returns-then-text-k-clause-first : goal.returns-then-text-k-clause-first
returns-then-text-k-clause-first c = λ front rest none is.
    ap (λ k. k + 1) (first_place c.args.byte c.args.text.now front rest c.loop-k.k none is c.loop-k.invariant c.if-text-k.true)

pub returns-clause-first : goal.returns-clause-first
returns-clause-first c = λ front rest none is.
    let past : length c.args.text.now ≤ c.loop-k.k = omega arith in
    absurd (within_text c.args.byte c.args.text.now front rest c.loop-k.k is c.loop-k.invariant past)
