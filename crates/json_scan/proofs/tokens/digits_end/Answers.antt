-- What the check leaves to show of `digits_end`.
use Rattle.std.proofs.Common.{arith, sym, ◌∙◌}
use Rattle.json_scan.proofs.Lexed.{digits_more}
use Rattle.json_scan.proofs.tokens.digits_end.Goals as goal

pub loop-end-preserved : goal.loop-end-preserved
loop-end-preserved c = record {
  from = omega arith;
  within = omega arith;
  digits = λ start opened nodes. digits_more c.args.text.now _ c.args.part start opened nodes c.loop-end.end
      (sym c.takes_digits.ensures ∙ c.if-not-takes_digits.false) (c.loop-end.invariant.digits start opened nodes) c.loop-end-test.true
      (sym c.is_digit.ensures ∙ c.if-is_digit.true);
}
