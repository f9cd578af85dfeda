-- What is counted so far.
use Rattle.std.proofs.Common.{◌≡◌, take}
use Rattle.cert_format.specs.Parts.{count}
use Rattle.cert_format.proofs.parts.count_of.Given as goal

abbrev pub invariant-loop-b : goal.invariant-loop-b
invariant-loop-b l = l.count ≡ count l.byte (take l.b-index l.text)
