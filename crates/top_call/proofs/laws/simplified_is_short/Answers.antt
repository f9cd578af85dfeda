-- The law is a lemma on the lengths of arcs.
use Rattle.top_call.proofs.ShortOutputs.{simplified_is_short}
use Rattle.top_call.proofs.laws.simplified_is_short.Goals as goal

pub returns : goal.returns
returns c = simplified_is_short
