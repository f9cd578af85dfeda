use Rattle.std.proofs.Common.{◌≡◌, ◌++◌, map, take}
use Rattle.topo_build.specs.References.{arc_of}
use Rattle.topo_build.proofs.polygons.push_arcs.Given as goal

abbrev pub invariant-loop-r : goal.invariant-loop-r
invariant-loop-r l = l.arcs.items ≡ l.fn.arcs.items ++ map arc_of (take l.r-index l.refs)
