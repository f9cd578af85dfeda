-- A number that is too great stays too great.
use Rattle.std.proofs.Common.{sym, ◌∙◌, arith, rules}
use Rattle.top_call.proofs.Digits.{stops}
use Rattle.top_call.proofs.words.parse_between.Goals as goal

pub returns-then-number-from-clause-value : goal.returns-then-number-from-clause-value
returns-then-number-from-clause-value c =
    sym (stops c.args.least c.args.most c.loop-digit.number c.loop-digit.digit-index c.as_bytes-bytes.result.now (omega arith)
    (search rules) (omega arith))
    ∙ c.loop-digit.invariant.left
