use Rattle.std.proofs.Common.{length, ◌⊎◌}
use Rattle.std.specs.Prelude.{Contains}
use Rattle.plane_sweep.specs.declared.spans.Span.{Span}
use Rattle.plane_sweep.proofs.places.ends_of.Given as goal

abbrev pub invariant-loop-span : goal.invariant-loop-span
invariant-loop-span l = (s : Span) → Contains l.spans s → Contains l.rest s ⊎ Contains l.places.items s.high.place

abbrev pub decreases-loop-span : goal.decreases-loop-span
decreases-loop-span l = length l.rest
