-- The parts that are left complete the line.
use Rattle.std.proofs.Common.{◌≡◌, ◌++◌, drop}
use Rattle.top_call.specs.Parts.{spelled}
use Rattle.top_call.proofs.parts.text_of.Given as goal

abbrev pub invariant-loop-part : goal.invariant-loop-part
invariant-loop-part l = l.text.items ++ spelled (drop l.part-index l.parts) ≡ spelled l.parts
