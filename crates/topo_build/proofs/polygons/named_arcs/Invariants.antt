use Rattle.std.proofs.Common.{◌≡◌, flat_map, map, take}
use Rattle.topo_build.specs.References.{arc_of}
use Rattle.topo_build.proofs.polygons.named_arcs.Given as goal

abbrev pub invariant-loop-refs : goal.invariant-loop-refs
invariant-loop-refs l = l.arcs.items ≡ flat_map (map arc_of) (map (λ refs. refs.items) (take l.refs-index l.rings))
