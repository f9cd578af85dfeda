-- What is built of rings within their limits is a map within its own.
use Rattle.std.proofs.Common.{◌≡◌, ◌∙◌, ◌+◌, ◌*◌, ◌^◌, ◌<◌, ◌≤◌, ℕ, ℤ, List, [], ◌∷◌, ◌++◌, All, Bool, drop, flat_map, length, map, sum_by}
use Rattle.std.proofs.Common.{take, ap, refl, subst, sym, arith, length-append}
use Rattle.std.proofs.lemmas.List.{length-map}
use Rattle.std.proofs.lemmas.List.Elements.{All-append, All-cons, All-drop, All-head, All-map, All-nil, All-tail, All-take}
use Rattle.std.proofs.lemmas.List.Sums.{sum_by-cons, sum_by-take-drop}
use Rattle.grid_exact.specs.Geometry.{Place}
use Rattle.arc_map.specs.Map.{IsArc, IsMap, Map}
use Rattle.geo_reader.specs.Geo.{Geo, IsGeo, IsRing}
use Rattle.topo_build.specs.Built.{AreRingsBuilt, rings_of}
use Rattle.topo_build.specs.Cyclic.{cyclic}
use Rattle.topo_build.specs.Found.{IsFound, IsRingFound}
use Rattle.topo_build.specs.References.{arc_of, polygons_of}
use Rattle.topo_build.proofs.Cycles.{IsCyclic, ring-cyclic}
use Rattle.topo_build.proofs.Limits.{within-rings}

-- ---- rings

pub all-cyclic : (rings : List (List Place)) → All IsRing rings → All IsCyclic (map cyclic rings)
all-cyclic [] all = All-nil IsCyclic
all-cyclic (r ∷ rings) all = All-cons IsCyclic (cyclic r) (map cyclic rings) (ring-cyclic r (All-head IsRing r rings all)).cyclic
    (all-cyclic rings (All-tail IsRing r rings all))

pub cyclic-shorter : (rings : List (List Place)) → All IsRing rings → sum_by length (map cyclic rings) ≤ sum_by length rings
cyclic-shorter [] all = omega arith
cyclic-shorter (r ∷ rings) all =
    let first = (ring-cyclic r (All-head IsRing r rings all)).short in
    let rest = cyclic-shorter rings (All-tail IsRing r rings all) in
    let here = sum_by-cons length (cyclic r) (map cyclic rings) in
    let there = sum_by-cons length r rings in
    omega arith

-- ---- polygons

named-length : (rings : List (List ℤ)) → length (flat_map (map arc_of) rings) ≡ sum_by length rings
named-length [] = refl
named-length (refs ∷ rings) =
    let rest = named-length rings in
    let sum = sum_by-cons length refs rings in
    let both = length-append (map arc_of refs) (flat_map (map arc_of) rings) in
    let same = length-map refs arc_of in
    omega arith

polygons-length : (counts : List ℕ) (rings : List (List ℤ)) → length (polygons_of counts rings) ≡ length counts
polygons-length [] rings = refl
polygons-length (n ∷ counts) rings = let rest = polygons-length counts (drop n rings) in omega arith

polygons-sum : (counts : List ℕ) (rings : List (List ℤ)) → sum_by length (polygons_of counts rings) ≤ sum_by length rings
polygons-sum [] rings = omega arith
polygons-sum (n ∷ counts) rings =
    let here = named-length (take n rings) in
    let rest = polygons-sum counts (drop n rings) in
    let parts = sum_by-take-drop length rings n in
    let sum = sum_by-cons length (flat_map (map arc_of) (take n rings)) (polygons_of counts (drop n rings)) in
    omega arith

named-known : (n : ℕ) (rings : List (List ℤ)) → All (All (λ r. arc_of r < n)) rings → All (λ arc. arc < n) (flat_map (map arc_of) rings)
named-known n [] all = All-nil (λ arc. arc < n)
named-known n (refs ∷ rings) all =
    All-append (λ arc. arc < n) (map arc_of refs) (flat_map (map arc_of) rings)
    (All-map (λ arc. arc < n) arc_of refs (All-head (All (λ r. arc_of r < n)) refs rings all))
    (named-known n rings (All-tail (All (λ r. arc_of r < n)) refs rings all))

polygons-known : (n : ℕ) (counts : List ℕ) (rings : List (List ℤ)) → All (All (λ r. arc_of r < n)) rings
    → All (All (λ arc. arc < n)) (polygons_of counts rings)
polygons-known n [] rings all = All-nil (All (λ arc. arc < n))
polygons-known n (count ∷ counts) rings all =
    All-cons (All (λ arc. arc < n)) (flat_map (map arc_of) (take count rings)) (polygons_of counts (drop count rings))
    (named-known n (take count rings) (All-take (All (λ r. arc_of r < n)) count rings all))
    (polygons-known n counts (drop count rings) (All-drop (All (λ r. arc_of r < n)) count rings all))

-- ---- the map

pub map-built : (Junction : Place → Type 0) (geo : Geo) (refs : List (List ℤ)) (arcs : List (List Place)) (coded : Bool) → IsGeo geo
    → AreRingsBuilt IsFound IsRingFound Junction (rings_of geo) [] refs arcs
    → IsMap (record { arcs = arcs; points = geo.points; polygons = polygons_of geo.polygons refs; coded = coded })
map-built Junction geo refs arcs coded is built =
    let within = within-rings Junction (rings_of geo) [] refs arcs (all-cyclic geo.rings is.rings) built in
    let fewer = cyclic-shorter geo.rings is.rings in
    let few = is.few_positions in
    let count = within.count in
    let positions = within.positions in
    let references = within.few in
    let sum = polygons-sum geo.polygons refs in
    let polygons = polygons-length geo.polygons refs in
    let most = is.few_polygons in
    record {
      arcs = within.good (All-nil IsArc);
      names = polygons-known (length arcs) geo.polygons refs within.names;
      few_arcs = omega arith;
      few_positions = omega arith;
      few_points = is.few_points;
      few_polygons = omega arith;
      few_references = omega arith;
    }
