-- The numbers that are left decide.
use Rattle.std.proofs.Common.{◌≡◌, drop}
use Rattle.top_call.specs.Answers.{first_missing}
use Rattle.top_call.proofs.dissolving.first_missing.Given as goal

abbrev pub invariant-loop-polygon : goal.invariant-loop-polygon
invariant-loop-polygon l = first_missing l.count (drop l.polygon-index l.polygons) ≡ first_missing l.count l.polygons
