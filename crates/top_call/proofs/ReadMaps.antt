-- The map of a text is a map: its arcs are arcs, its polygons name them, and it keeps the limits.
use Rattle.std.specs.Prelude.{codes}
use Rattle.std.proofs.Common.{◌≡◌, ℕ, Bool, List, [], Ok, subst, arith}
use Rattle.std.proofs.lemmas.List.Elements.{All-nil}
use Rattle.grid_exact.specs.Geometry.{Place}
use Rattle.arc_map.specs.Map.{Map, IsArc, IsMap}
use Rattle.json_scan.specs.Tree.{extent_of, Tree, NullAt, FalseAt, TrueAt, NumberAt, TextAt, ListAt, ObjectAt, Entries}
use Rattle.topo_reader.specs.Sequence.{and_then, list_of, required}
use Rattle.topo_reader.specs.Arcs.{arcs_of, arcs_value, AreArcs}
use Rattle.topo_reader.specs.Geometries.{nothing_seen, objects_of}
use Rattle.topo_reader.specs.Reads.{TopologyRead, header_of, map_of, topology_from, topology_of}
use Rattle.topo_reader.proofs.ArcLaws.{not-ok, same-ok, then-ok, arcs-keep}
use Rattle.topo_reader.proofs.GeometryLaws.{nothing-seen, objects-keep}
use Rattle.top_call.specs.Maps.{HasTopology}

arcs_are_read : (coded : Bool) (value : Tree) (arcs : List (List Place)) → arcs_value coded value ≡ Ok arcs → AreArcs arcs
arcs_are_read coded value arcs h =
    let listed = then-ok (list_of value) (arcs_of coded 0 []) arcs h in
    arcs-keep coded 0 [] listed.0 arcs (All-nil IsArc) (omega arith) (omega arith) (omega arith) listed.2

map_is_read : (coded : Bool) (arcs : List (List Place)) (t : Tree) (members : Entries) (m : Map) → AreArcs arcs
    → map_of coded arcs t members ≡ Ok m → IsMap m
map_is_read coded arcs t members m are h =
    let found =
    then-ok (required (codes "objects") t members) (λ objects.
    and_then (objects_of arcs objects nothing_seen) (λ seen.
    Ok (record { arcs = arcs; points = seen.points; polygons = seen.polygons; coded = coded }))) m h in
    let walked =
    then-ok (objects_of arcs found.0 nothing_seen) (λ seen.
    Ok (record { arcs = arcs; points = seen.points; polygons = seen.polygons; coded = coded })) m found.2 in
    let seen = walked.0 in
    let is = objects-keep arcs are.each found.0 nothing_seen seen (nothing-seen arcs) walked.1 in
    subst IsMap (same-ok (record { arcs = arcs; points = seen.points; polygons = seen.polygons; coded = coded }) m walked.2)
    (record {
      arcs = are.each;
      names = is.names;
      few_arcs = are.few;
      few_positions = are.few_positions;
      few_points = is.few_points;
      few_polygons = is.few_polygons;
      few_references = omega (arith, is.long, is.few);
    })

topology_is_read : (t : Tree) (members : Entries) (read : TopologyRead) → topology_from t members ≡ Ok read → IsMap read.map
topology_is_read t members read h =
    let headed = then-ok (header_of t members) _ read h in
    let valued = then-ok (required (codes "arcs") t members) _ read headed.2 in
    let arced = then-ok (arcs_value headed.0 valued.0) _ read valued.2 in
    let mapped = then-ok (map_of headed.0 arced.0 t members) _ read arced.2 in
    let same = same-ok (record { map = mapped.0; arcs_at = extent_of valued.0 }) read mapped.2 in
    subst (λ (r : TopologyRead). IsMap r.map) same (map_is_read headed.0 arced.0 t members mapped.0
    (arcs_are_read headed.0 valued.0 arced.0 arced.1) mapped.1)

tree_is_read : (t : Tree) (read : TopologyRead) → topology_of t ≡ Ok read → IsMap read.map
tree_is_read (ObjectAt e members) read h = topology_is_read (ObjectAt e members) members read h
tree_is_read (NullAt e) read h = not-ok _ read h
tree_is_read (FalseAt e) read h = not-ok _ read h
tree_is_read (TrueAt e) read h = not-ok _ read h
tree_is_read (NumberAt e whole) read h = not-ok _ read h
tree_is_read (TextAt e word) read h = not-ok _ read h
tree_is_read (ListAt e trees) read h = not-ok _ read h

pub read_map_is_map : (text : List ℕ) (t : TopologyRead) → HasTopology text t → IsMap t.map
read_map_is_map text t has = tree_is_read has.tree t has.reads
