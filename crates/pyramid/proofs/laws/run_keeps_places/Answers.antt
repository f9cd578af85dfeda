-- The law is a lemma on the chains of each arc.
use Rattle.pyramid.proofs.RunPlaces.{run_keeps_places}
use Rattle.pyramid.proofs.laws.run_keeps_places.Goals as goal

pub returns : goal.returns
returns c = run_keeps_places
