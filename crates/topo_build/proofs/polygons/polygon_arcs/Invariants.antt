use Rattle.std.proofs.Common.{◌≡◌, ◌++◌, drop, map}
use Rattle.topo_build.specs.References.{polygons_of}
use Rattle.topo_build.proofs.polygons.polygon_arcs.Given as goal

abbrev pub invariant-loop-count : goal.invariant-loop-count
invariant-loop-count l = map (λ arcs. arcs.items) l.polygons.items
    ++ polygons_of (drop l.count-index l.counts) (map (λ refs. refs.items) l.rest) ≡ polygons_of l.counts (map (λ refs. refs.items) l.rings)
