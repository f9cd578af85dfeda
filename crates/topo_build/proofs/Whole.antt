-- What is built of what was read.
use Rattle.std.proofs.Common.{◌≡◌, ◌↔◌, ◌∙◌, ◌+◌, ◌*◌, ◌^◌, ◌<◌, ◌≤◌, ℕ, ℤ, Bool, false, List, [], ◌∷◌, All, get_or, length, map, sum_by}
use Rattle.std.proofs.Common.{ap}
use Rattle.std.proofs.Common.{refl, subst, sym, arith}
use Rattle.std.specs.List.{AllZip}
use Rattle.std.proofs.lemmas.List.{get_or-map, length-map}
use Rattle.std.proofs.lemmas.List.Elements.{All-get_or}
use Rattle.std.proofs.lemmas.List.Sums.{sum_by-cons}
use Rattle.grid_exact.specs.Geometry.{Place}
use Rattle.arc_map.specs.Arcs.{edges_of_arcs}
use Rattle.arc_map.specs.Edges.{EdgesAreArranged}
use Rattle.arc_map.specs.Map.{IsMap, Map}
use Rattle.geo_reader.specs.Geo.{Geo, IsGeo}
use Rattle.topo_build.specs.Built.{AreRingsBuilt, IsBuilt, IsPieceTaken, IsRingTaken, geo_turns, rings_of}
use Rattle.topo_build.specs.Clean.{AreClean, HasEachEdgeOnce}
use Rattle.topo_build.specs.Found.{IsFound, IsRingFound}
use Rattle.topo_build.specs.Junctions.{IsJunction, turns_of}
use Rattle.topo_build.specs.Passages.{AreTold, IsMarked}
use Rattle.topo_build.specs.References.{IsPutTogether, polygons_of}
use Rattle.topo_build.specs.declared.junctions.Junctions.{Junctions}
use Rattle.topo_build.proofs.Arranging.{arranged-where-clean}
use Rattle.topo_build.proofs.Cycles.{IsCyclic}
use Rattle.topo_build.proofs.Edges.{edges-once}
use Rattle.topo_build.proofs.Joined.{rings-together}
use Rattle.topo_build.proofs.Mapping.{all-cyclic, cyclic-shorter, map-built}
use Rattle.topo_build.proofs.Sound.{rings-built}
use Rattle.topo_build.proofs.Telling.{marked-junctions}

-- ---- what the cyclic lists are

pub some-positions : {V : Type 0} (f : V → List Place) (xs : List V) (geo : Geo) → map f xs ≡ rings_of geo → IsGeo geo
    → All (λ x. 1 ≤ length (f x)) xs
some-positions f xs geo e is k d inside =
    let all : All IsCyclic (map f xs) = subst (All IsCyclic) (sym e) (all-cyclic geo.rings is.rings) in
    let count = length-map xs f in
    subst (λ ps. 1 ≤ length ps) (get_or-map f xs k d [] inside) (All-get_or IsCyclic (map f xs) k [] (omega (arith, count)) all).some

sum-mapped : {V : Type 0} (f : V → List Place) (xs : List V) → sum_by (λ x. length (f x)) xs ≡ sum_by length (map f xs)
sum-mapped f [] = refl
sum-mapped f (x ∷ xs) =
    let rest = sum-mapped f xs in
    let here = sum_by-cons (λ y. length (f y)) x xs in
    let there = sum_by-cons length (f x) (map f xs) in
    omega arith

pub few-positions : {V : Type 0} (f : V → List Place) (xs : List V) (geo : Geo) → map f xs ≡ rings_of geo → IsGeo geo
    → sum_by (λ x. length (f x)) xs ≤ 2 ^ 20
few-positions f xs geo e is =
    let sum = sum-mapped f xs ∙ ap (sum_by length) e in
    let fewer = cyclic-shorter geo.rings is.rings in
    let few = is.few_positions in
    omega arith

-- ---- what is built

pub record IsTopology (geo : Geo) (refs : List (List ℤ)) (arcs : List (List Place)) : Type 0 where
  pub built : AreRingsBuilt IsPieceTaken IsRingTaken (IsJunction (geo_turns geo)) (rings_of geo) [] refs arcs
  pub together : AllZip (IsPutTogether arcs) (rings_of geo) refs
  pub edges : HasEachEdgeOnce (geo_turns geo) arcs
  pub arranged : EdgesAreArranged [] (edges_of_arcs 0 arcs) geo.points ↔ AreClean (geo_turns geo) geo.points
  pub within : IsMap (record { arcs = arcs; points = geo.points; polygons = polygons_of geo.polygons refs; coded = false })

pub topology : (geo : Geo) (j : Junctions) (cs : List (List Place)) (refs : List (List ℤ)) (arcs : List (List Place)) → IsGeo geo
    → cs ≡ rings_of geo → AreTold (turns_of 0 cs) j → AreRingsBuilt IsFound IsRingFound (IsMarked j) cs [] refs arcs
    → IsTopology geo refs arcs
topology geo j cs refs arcs is same told found =
    let told_geo : AreTold (geo_turns geo) j = subst (λ xs. AreTold (turns_of 0 xs) j) same told in
    let found_geo : AreRingsBuilt IsFound IsRingFound (IsMarked j) (rings_of geo) [] refs arcs =
    subst (λ xs. AreRingsBuilt IsFound IsRingFound (IsMarked j) xs [] refs arcs) same found in
    let made = rings-built (IsMarked j) (rings_of geo) refs arcs (marked-junctions (geo_turns geo) j told_geo) found_geo in
    let within = map-built (IsMarked j) geo refs arcs false is found_geo in
    let together = rings-together (IsJunction (geo_turns geo)) (rings_of geo) refs arcs made.built in
    let edges = edges-once (rings_of geo) arcs refs within.arcs made.sound together in
    record {
      built = made.built;
      together = together;
      edges = edges;
      arranged = arranged-where-clean (rings_of geo) arcs geo.points within.arcs made.sound edges;
      within = within;
    }

same-map : (m n : Map) → m.arcs ≡ n.arcs → m.points ≡ n.points → m.polygons ≡ n.polygons → m.coded ≡ n.coded → m ≡ n
same-map m n arcs points polygons coded =
    λ i. record { arcs = arcs i; points = points i; polygons = polygons i; coded = coded i }

pub map-within : (geo : Geo) (refs : List (List ℤ)) (arcs : List (List Place)) (m : Map) → IsTopology geo refs arcs → m.arcs ≡ arcs
    → m.points ≡ geo.points → m.polygons ≡ polygons_of geo.polygons refs → m.coded ≡ false → IsMap m
map-within geo refs arcs m made arcs_is points polygons coded =
    let n : Map = record { arcs = arcs; points = geo.points; polygons = polygons_of geo.polygons refs; coded = false } in
    subst IsMap (sym (same-map m n arcs_is points polygons coded)) made.within

pub map-is : (geo : Geo) (refs rings : List (List ℤ)) (arcs : List (List Place)) (m : Map) → IsTopology geo refs arcs → m.arcs ≡ arcs
    → m.points ≡ geo.points → m.polygons ≡ polygons_of geo.polygons refs → m.coded ≡ false → rings ≡ refs → IsBuilt geo m rings
map-is geo refs rings arcs m made arcs_is points polygons coded rings_is = record {
  arcs = subst (λ xs. AreRingsBuilt IsPieceTaken IsRingTaken (IsJunction (geo_turns geo)) (rings_of geo) [] rings xs) (sym arcs_is)
      (subst (λ rs. AreRingsBuilt IsPieceTaken IsRingTaken (IsJunction (geo_turns geo)) (rings_of geo) [] rs arcs) (sym rings_is)
      made.built);
  points = points;
  polygons = polygons ∙ ap (polygons_of geo.polygons) (sym rings_is);
  coded = coded;
}
