-- The digits that are left complete the number.
use Rattle.std.proofs.Common.{◌≡◌, ◌≤◌, drop}
use Rattle.top_call.specs.Words.{read_digits, between, number_between}
use Rattle.top_call.proofs.words.parse_between.Given as goal

abbrev pub invariant-loop-digit : goal.invariant-loop-digit
invariant-loop-digit l = record {
  small : l.number ≤ l.most;
  left : between l.least l.most (read_digits l.number (drop l.digit-index l.bytes)) ≡ number_between l.least l.most l.fn.word;
}
