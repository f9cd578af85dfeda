-- Each way is a lemma.
use Rattle.segment_tests.proofs.Meetings.{common_by_signs, signs_by_common}
use Rattle.segment_tests.proofs.laws.segments_meet_by_signs.Goals as goal

pub returns : goal.returns
returns c = λ a b c d. (signs_by_common a b c d, common_by_signs a b c d)
