-- The law is a lemma on edges of wavy sides.
use Rattle.map_gen.proofs.MadeArranged.{made_maps_are_arranged}
use Rattle.map_gen.proofs.laws.made_maps_are_arranged.Goals as goal

pub returns : goal.returns
returns c = made_maps_are_arranged
