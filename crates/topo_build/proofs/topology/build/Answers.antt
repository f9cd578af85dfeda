use Rattle.std.proofs.Common.{◌≡◌, ◌↔◌, [], ◌∙◌, ◌≤◌, ◌^◌, All, List, ℤ, Bool, false, ap, ap₂, length, map, refl, subst, sum_by, sym, rules}
use Rattle.std.specs.Global.{Vec}
use Rattle.grid_exact.specs.Geometry.{Place}
use Rattle.arc_map.specs.Arcs.{edges_of_arcs}
use Rattle.arc_map.specs.Edges.{EdgesAreArranged}
use Rattle.arc_map.specs.Map.{IsMap, Map}
use Rattle.topo_build.specs.Built.{AreRingsBuilt, rings_of}
use Rattle.topo_build.specs.Clean.{AreClean, HasEachEdgeOnce}
use Rattle.topo_build.specs.Built.{geo_turns}
use Rattle.topo_build.specs.Found.{IsFound, IsRingFound}
use Rattle.topo_build.specs.Junctions.{turns_of}
use Rattle.topo_build.specs.Passages.{AreTold, IsMarked}
use Rattle.topo_build.specs.References.{IsPutTogether, polygons_of}
use Rattle.std.specs.List.{AllZip}
use Rattle.topo_build.proofs.Whole.{IsTopology, few-positions, map-is, map-within, some-positions, topology}
use Rattle.topo_build.proofs.topology.build.Goals as goal

pub arcs_of-requires-clause-some : goal.arcs_of-requires-clause-some
arcs_of-requires-clause-some c =
    some-positions (λ ring. ring.items) c.as_slice-2.result.now c.args.geo.now (ap (map (λ ring. ring.items)) c.as_slice-2.ensures.value
    ∙ c.in_ok-rings.ensures.rings) c.in_ok-rings.ensures.is_geo

pub arcs_of-requires-clause-few : goal.arcs_of-requires-clause-few
arcs_of-requires-clause-few c =
    few-positions (λ ring. ring.items) c.as_slice-2.result.now c.args.geo.now (ap (map (λ ring. ring.items)) c.as_slice-2.ensures.value
    ∙ c.in_ok-rings.ensures.rings) c.in_ok-rings.ensures.is_geo

pub new-requires : goal.new-requires
new-requires c =
    let geo = c.args.geo.now in
    let refs = map (λ refs. refs.items) c.in_ok-arcs.refs.items in
    let arcs = map (λ arc. arc.items) c.in_ok-arcs.arcs.items in
    let rings = ap (map (λ ring. ring.items)) c.as_slice-2.ensures.value ∙ c.in_ok-rings.ensures.rings in
    let same = ap (map (λ ring. ring.items)) (c.as_slice.ensures.value ∙ sym c.as_slice-2.ensures.value) in
    let made = topology geo c.in_ok-junctions.junctions (map (λ ring. ring.items) c.as_slice-2.result.now) refs arcs
    c.in_ok-rings.ensures.is_geo rings (subst (λ cs. AreTold (turns_of 0 cs) c.in_ok-junctions.junctions) same
    c.in_ok-junctions.ensures) c.in_ok-arcs.ensures in
    let read : c.in_ok-points.points.items ≡ c.points.result.now = search rules in
    let polygons = c.in_ok-polygons.ensures ∙ ap₂ polygons_of c.polygons.ensures.value
    (ap (map (λ refs. refs.items)) c.as_slice-3.ensures.value) in
    rw (read, c.points.ensures.value, polygons) made.within

pub returns : goal.returns
returns c =
    let geo = c.args.geo.now in
    let refs = map (λ refs. refs.items) c.in_ok-arcs.refs.items in
    let arcs = map (λ arc. arc.items) c.in_ok-arcs.arcs.items in
    let rings = ap (map (λ ring. ring.items)) c.as_slice-2.ensures.value ∙ c.in_ok-rings.ensures.rings in
    let same = ap (map (λ ring. ring.items)) (c.as_slice.ensures.value ∙ sym c.as_slice-2.ensures.value) in
    let made = topology geo c.in_ok-junctions.junctions (map (λ ring. ring.items) c.as_slice-2.result.now) refs arcs
    c.in_ok-rings.ensures.is_geo rings (subst (λ cs. AreTold (turns_of 0 cs) c.in_ok-junctions.junctions) same
    c.in_ok-junctions.ensures) c.in_ok-arcs.ensures in
    let read : c.in_ok-points.points.items ≡ c.points.result.now = search rules in
    let polygons = c.in_ok-polygons.ensures ∙ ap₂ polygons_of c.polygons.ensures.value
    (ap (map (λ refs. refs.items)) c.as_slice-3.ensures.value) in
    let value = c.new.ensures.value in
    let arcs_is : c.new.result.arcs ≡ arcs = ap (λ (m : Map). m.arcs) value in
    let points_are : c.new.result.points ≡ geo.points = ap (λ (m : Map). m.points) value ∙ read ∙ c.points.ensures.value in
    let polygons_are : c.new.result.polygons ≡ polygons_of geo.polygons refs = ap (λ (m : Map). m.polygons) value ∙ polygons in
    let coded_is : c.new.result.coded ≡ false = ap (λ (m : Map). m.coded) value in
    record {
      built = map-is geo refs c.new-2.result arcs c.new.result made arcs_is points_are polygons_are coded_is c.new-2.ensures;
      is_map = map-within geo refs arcs c.new.result made arcs_is points_are polygons_are coded_is;
      together = subst (λ xs. AllZip (IsPutTogether xs) (rings_of geo) c.new-2.result) (sym arcs_is)
          (subst (AllZip (IsPutTogether arcs) (rings_of geo)) (sym c.new-2.ensures) made.together);
      edges = subst (HasEachEdgeOnce (geo_turns geo)) (sym arcs_is) made.edges;
      arranged = subst (λ xs. EdgesAreArranged [] (edges_of_arcs 0 xs) c.new.result.points
          ↔ AreClean (geo_turns geo) geo.points) (sym arcs_is)
          (subst (λ ps. EdgesAreArranged [] (edges_of_arcs 0 arcs) ps ↔ AreClean (geo_turns geo) geo.points) (sym points_are)
          made.arranged);
    }
