-- The law is a lemma on both frames.
use Rattle.segment_tests.proofs.Overlaps.{apart_are_ordered}
use Rattle.segment_tests.proofs.laws.apart_edges_are_ordered.Goals as goal

pub returns : goal.returns
returns c = apart_are_ordered
