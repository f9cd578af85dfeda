use Rattle.std.proofs.Common.{◌≡◌, take}
use Rattle.plane_sweep.specs.Spans.{spans_in}
use Rattle.plane_sweep.proofs.spans.numbers_of.Given as goal

abbrev pub invariant-loop-number : goal.invariant-loop-number
invariant-loop-number l = spans_in l.spans l.numbers.items ≡ take l.number l.spans
