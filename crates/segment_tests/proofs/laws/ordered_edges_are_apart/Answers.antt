-- The law is a lemma on both frames.
use Rattle.segment_tests.proofs.Overlaps.{ordered_are_apart}
use Rattle.segment_tests.proofs.laws.ordered_edges_are_apart.Goals as goal

pub returns : goal.returns
returns c = ordered_are_apart
