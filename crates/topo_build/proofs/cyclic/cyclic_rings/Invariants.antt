use Rattle.std.proofs.Common.{◌≡◌, map, take}
use Rattle.topo_build.specs.Cyclic.{cyclic}
use Rattle.topo_build.proofs.cyclic.cyclic_rings.Given as goal

abbrev pub invariant-loop-r : goal.invariant-loop-r
invariant-loop-r l = map (λ ring. ring.items) l.rings.items ≡ map cyclic (take l.r l.geo.rings)
