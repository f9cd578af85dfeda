-- The law is a lemma on positions, rings and counts.
use Rattle.map_gen.proofs.MadeLimits.{made_maps_are_maps}
use Rattle.map_gen.proofs.laws.made_maps_are_maps.Goals as goal

pub returns : goal.returns
returns c = made_maps_are_maps
