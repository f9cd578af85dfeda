-- The texts of rings are read as the rings.
use Rattle.std.proofs.Common.{◌≡◌, ℕ, zero, suc, ◌+◌, ◌-◌, ◌^◌, ◌<◌, ◌≤◌, max, List, [], ◌∷◌, ◌++◌, length, get_or, take, drop, map}
use Rattle.std.proofs.Common.{reverse, sum_by, ℤ, pos, negsuc, Result, Ok, refl, sym, ap, subst, ◌∙◌, arith, append_assoc}
use Rattle.std.specs.List.{AllByRecursion}
use Rattle.std.specs.Fmt.{signed_decimal}
use Rattle.std.proofs.lemmas.List.{length-append, length-take, length-drop, take-append-drop}
use lib.Signed.{mag}
use Rattle.grid_exact.specs.Geometry.{Place}
use Rattle.json_scan.specs.Tree.{Extent, Tree, NullAt, FalseAt, TrueAt, NumberAt, TextAt, ListAt, ObjectAt, Trees, NoTrees, NextTree}
use Rattle.topo_reader.specs.Sequence.{and_then, each}
use Rattle.topo_reader.specs.Geometries.{PolygonRead, ring_of, rings_of, polygons_of}
use Rattle.topo_reader.proofs.ArcLaws.{not-ok, same-ok, then-ok}
use Rattle.topo_writer.proofs.TreeShapes.{IsNumberTree, IsListTree, AreTrees}
use Rattle.topo_writer.proofs.TextForms.{Spelled, number-spelled, any_list-spelled}
use Rattle.topo_build.specs.References.{walk_of, Leads}
use Rattle.geo_reader.specs.declared.fault.GeoFault.{GeoFault}
use Rattle.geo_reader.specs.Steps.{list_of}
use Rattle.geo_reader.specs.Rings.{count, ring_from, ring_added, polygon_added, polygons_added, ring_of as read_ring}
use Rattle.geo_text.specs.Drafts.{with_ring, list_added, ring_text}
use Rattle.geo_text.proofs.Readable.{IsLoop}
use Rattle.geo_text.proofs.Told.{Told, told-from, told-so}
use Rattle.geo_text.proofs.Loops.{Reads, EachReads, ring-reads, none-reads, next-reads}
use Rattle.geo_text.proofs.Depths.{tree_depth, trees_depth}
use Rattle.geo_text.proofs.Adding.{Done, DoneEach, none-done, next-done, list-done}

-- ---- one ring

within : (arcs : List (List Place)) (k : ℕ) (arc : List Place) → get_or arcs k [] ≡ arc → 0 < length arc → k < length arcs
within [] k arc e some = absurd (omega (arith, ap length e))
within (a ∷ arcs) zero arc e some = omega arith
within (a ∷ arcs) (suc k) arc e some = omega (arith, within arcs k arc e some)

some-backwards : (arc : List Place) (v : Place) (here : List Place) → reverse arc ≡ v ∷ here → 0 < length arc
some-backwards [] v here e = absurd cc
some-backwards (a ∷ arc) v here e = omega arith

reference-spelled : (arcs : List (List Place)) (r : ℤ) (v : Place) (here : List Place) → length arcs ≤ 2 ^ 20 → walk_of arcs r ≡ v ∷ here
    → Spelled (IsNumberTree r) 0 (signed_decimal r)
reference-spelled arcs (pos k) v here few walk =
    let some : 0 < length (v ∷ here) = omega arith in
    let below : k < length arcs = within arcs k (v ∷ here) walk some in
    number-spelled (pos k) (omega (arith, below, few))
reference-spelled arcs (negsuc k) v here few walk =
    let below : k < length arcs = within arcs k (get_or arcs k []) refl (some-backwards (get_or arcs k []) v here walk) in
    number-spelled (negsuc k) (omega (arith, below, few))

references-spelled : (arcs : List (List Place)) (v : Place) (refs : List ℤ) (ws : List Place) → length arcs ≤ 2 ^ 20 → Leads arcs v refs ws
    → AllByRecursion (λ r. Spelled (IsNumberTree r) 0 (signed_decimal r)) refs
references-spelled arcs v [] ws few leads = tt
references-spelled arcs v (r ∷ rs) ws few
    leads = (reference-spelled arcs r v leads.0 few leads.3, references-spelled arcs _ rs leads.1 few leads.4)

pub ring-done : (arcs : List (List Place)) (refs : List ℤ) (rest : List (List ℤ)) (points : List Place) (depth : ℕ) → length arcs ≤ 2 ^ 20
    → IsLoop arcs refs → 1 ≤ depth → Done with_ring (refs ∷ rest) points (Reads (ring_of arcs) (refs ∷ [])) depth rest points
ring-done arcs refs rest points depth few loop deep =
    let spelled = any_list-spelled IsNumberTree signed_decimal 0 refs (references-spelled arcs loop.start refs loop.along few loop.leads) in
    record {
      word = ring_text refs;
      adds = λ text. refl;
      told = told-so (IsListTree (AreTrees IsNumberTree refs)) (Reads (ring_of arcs) (refs ∷ [])) 1 depth (ring_text refs)
          (λ t is. ring-reads arcs refs t loop is) deep
          (told-from (IsListTree (AreTrees IsNumberTree refs)) 1 (ring_text refs) spelled);
    }

-- ---- several rings

listed-deep : (t : Tree) (trees : Trees) → list_of t ≡ Ok trees → 1 ≤ tree_depth t
listed-deep (NullAt e) trees h = not-ok _ trees h
listed-deep (FalseAt e) trees h = not-ok _ trees h
listed-deep (TrueAt e) trees h = not-ok _ trees h
listed-deep (NumberAt e whole) trees h = not-ok _ trees h
listed-deep (TextAt e word) trees h = not-ok _ trees h
listed-deep (ListAt e others) trees h = omega arith
listed-deep (ObjectAt e members) trees h = not-ok _ trees h

-- one ring more was read
record IsRingMore (t : Tree) (before after : List (List Place)) : Type 0 where
  deep : 1 ≤ tree_depth t
  more : length after ≡ length before + 1

ring-more : (t : Tree) (before after : List (List Place)) → ring_added t before ≡ Ok after → IsRingMore t before after
ring-more t before after h =
    let ring = then-ok (read_ring (sum_by length before) t) (λ ring. Ok (before ++ ring ∷ [])) after h in
    let listed = then-ok (list_of t) (ring_from (sum_by length before) t) ring.0 ring.1 in
    let same = ap length (same-ok (before ++ ring.0 ∷ []) after ring.2) in
    record { deep = listed-deep t listed.0 listed.1; more = omega (arith, same, length-append before (ring.0 ∷ [])) }

-- so many rings were read
rings-more : (trees : Trees) (before after : List (List Place)) → each ring_added trees before ≡ Ok after
    → length after ≡ length before + count trees
rings-more NoTrees before after h = omega (arith, ap length (same-ok before after h))
rings-more (NextTree t others) before after h =
    let step = then-ok (ring_added t before) (each ring_added others) after h in
    omega (arith, (ring-more t before step.0 step.1).more, rings-more others step.0 after step.2)

pub rings-done : (arcs : List (List Place)) (trees : Trees) (before after : List (List Place)) (own rest : List (List ℤ))
    (points : List Place) → length arcs ≤ 2 ^ 20 → each ring_added trees before ≡ Ok after → length after ≡ length before + length own
    → AllByRecursion (IsLoop arcs) own → DoneEach (λ t. with_ring) trees (own ++ rest) points (EachReads (ring_of arcs) own)
    (trees_depth trees) rest points
rings-done arcs NoTrees before after [] rest points few h long loops = none-done (λ t. with_ring) rest points (EachReads (ring_of arcs) [])
    0 (none-reads (ring_of arcs))
rings-done arcs NoTrees before after (refs ∷ own) rest points few h long loops = absurd
    (omega (arith, long, ap length (same-ok before after h)))
rings-done arcs (NextTree t others) before after [] rest points few h long loops = absurd
    (omega (arith, long, rings-more (NextTree t others) before after h))
rings-done arcs (NextTree t others) before after (refs ∷ own) rest points few h long loops =
    let step = then-ok (ring_added t before) (each ring_added others) after h in
    let first = ring-more t before step.0 step.1 in
    let fewer : length after ≡ length step.0 + length own = omega (arith, long, first.more) in
    next-done (λ t. with_ring) t others (refs ∷ (own ++ rest)) points (Reads (ring_of arcs) (refs ∷ [])) (EachReads (ring_of arcs) own)
    (EachReads (ring_of arcs) (refs ∷ own)) (tree_depth t) (trees_depth others) (own ++ rest) points rest points
    (λ u us is are. next-reads (ring_of arcs) (refs ∷ []) own u us is are)
    (ring-done arcs refs (own ++ rest) points (tree_depth t) few loops.0 first.deep)
    (rings-done arcs others step.0 after own rest points few step.2 fewer loops.1)

rings-listed : (arcs : List (List Place)) (own : List (List ℤ)) (t : Tree) → IsListTree (EachReads (ring_of arcs) own) t
    → Reads (rings_of arcs) own t
rings-listed arcs own (ListAt e trees) is = is
rings-listed arcs own t is = absurd is

-- the List of the rings of a polygon
pub polygon-done : (arcs : List (List Place)) (t : Tree) (before after : List (List Place)) (own rest : List (List ℤ)) (points : List Place)
    → length arcs ≤ 2 ^ 20 → polygon_added t before ≡ Ok after → length after ≡ length before + length own
    → AllByRecursion (IsLoop arcs) own → Done (list_added (λ t. with_ring) t) (own ++ rest) points (Reads (rings_of arcs) own)
    (tree_depth t) rest points
polygon-done arcs (NullAt e) before after own rest points few h long loops = not-ok _ after h
polygon-done arcs (FalseAt e) before after own rest points few h long loops = not-ok _ after h
polygon-done arcs (TrueAt e) before after own rest points few h long loops = not-ok _ after h
polygon-done arcs (NumberAt e whole) before after own rest points few h long loops = not-ok _ after h
polygon-done arcs (TextAt e word) before after own rest points few h long loops = not-ok _ after h
polygon-done arcs (ListAt e trees) before after own rest points few h long loops =
    let list = list-done (λ t. with_ring) e trees (own ++ rest) points (EachReads (ring_of arcs) own) (trees_depth trees) rest points
    (rings-done arcs trees before after own rest points few h long loops) in
    record {
      word = list.word;
      adds = list.adds;
      told = told-so (IsListTree (EachReads (ring_of arcs) own)) (Reads (rings_of arcs) own)
          (trees_depth trees + 1) (trees_depth trees + 1) list.word (rings-listed arcs own) (omega arith) list.told;
    }
polygon-done arcs (ObjectAt e members) before after own rest points few h long loops = not-ok _ after h

-- ---- several parts

polygon-more : (t : Tree) (before after : List (List Place)) → polygon_added t before ≡ Ok after → length before ≤ length after
polygon-more t before after h =
    let listed = then-ok (list_of t) (λ trees. each ring_added trees before) after h in
    omega (arith, rings-more listed.0 before after listed.2)

polygons-more : (trees : Trees) (before after : List (List Place)) → each polygon_added trees before ≡ Ok after
    → length before ≤ length after
polygons-more NoTrees before after h = omega (arith, ap length (same-ok before after h))
polygons-more (NextTree t others) before after h =
    let step = then-ok (polygon_added t before) (each polygon_added others) after h in
    omega (arith, polygon-more t before step.0 step.1, polygons-more others step.0 after step.2)

-- what holds of each of a list holds of its first ones and of the others
pub loops-take : (arcs : List (List Place)) (n : ℕ) (own : List (List ℤ)) → AllByRecursion (IsLoop arcs) own
    → AllByRecursion (IsLoop arcs) (take n own)
loops-take arcs zero own loops = tt
loops-take arcs (suc n) [] loops = tt
loops-take arcs (suc n) (refs ∷ own) loops = (loops.0, loops-take arcs n own loops.1)

pub loops-drop : (arcs : List (List Place)) (n : ℕ) (own : List (List ℤ)) → AllByRecursion (IsLoop arcs) own
    → AllByRecursion (IsLoop arcs) (drop n own)
loops-drop arcs zero own loops = loops
loops-drop arcs (suc n) [] loops = tt
loops-drop arcs (suc n) (refs ∷ own) loops = loops-drop arcs n own loops.1

parts-done : (arcs : List (List Place)) (trees : Trees) (before after : List (List Place)) (own rest : List (List ℤ)) (points : List Place)
    → length arcs ≤ 2 ^ 20 → each polygon_added trees before ≡ Ok after → length after ≡ length before + length own
    → AllByRecursion (IsLoop arcs) own → DoneEach (list_added (λ t. with_ring)) trees (own ++ rest) points (EachReads (rings_of arcs) own)
    (trees_depth trees) rest points
parts-done arcs NoTrees before after [] rest points few h long loops = none-done (list_added (λ t. with_ring)) rest points
    (EachReads (rings_of arcs) []) 0 (none-reads (rings_of arcs))
parts-done arcs NoTrees before after (refs ∷ own) rest points few h long loops = absurd
    (omega (arith, long, ap length (same-ok before after h)))
parts-done arcs (NextTree t others) before after own rest points few h long loops =
    let step = then-ok (polygon_added t before) (each polygon_added others) after h in
    let n = length step.0 - length before in
    let mine = take n own in
    let theirs = drop n own in
    let first = polygon-more t before step.0 step.1 in
    let later = polygons-more others step.0 after step.2 in
    let whole : mine ++ theirs ≡ own = take-append-drop n own in
    let mine_long : length step.0 ≡ length before + length mine = omega (arith, long, first, later, length-take n own) in
    let theirs_long : length after ≡ length step.0 + length theirs = omega (arith, long, first, later, length-drop n own) in
    let item = polygon-done arcs t before step.0 mine (theirs ++ rest) points few step.1 mine_long (loops-take arcs n own loops) in
    let more = parts-done arcs others step.0 after theirs rest points few step.2 theirs_long (loops-drop arcs n own loops) in
    let both = next-done (list_added (λ t. with_ring)) t others (mine ++ (theirs ++ rest)) points (Reads (rings_of arcs) mine)
    (EachReads (rings_of arcs) theirs) (EachReads (rings_of arcs) (mine ++ theirs)) (tree_depth t) (trees_depth others) (theirs ++ rest)
    points rest points
    (λ u us is are. next-reads (rings_of arcs) mine theirs u us is are) item more in
    let given : DoneEach (list_added (λ t. with_ring)) (NextTree t others) ((mine ++ theirs) ++ rest) points
    (EachReads (rings_of arcs) (mine ++ theirs)) (trees_depth (NextTree t others)) rest points =
    subst (λ (l : List (List ℤ)). DoneEach (list_added (λ t. with_ring)) (NextTree t others) l points
    (EachReads (rings_of arcs) (mine ++ theirs)) (trees_depth (NextTree t others)) rest points) (sym (append_assoc mine theirs rest))
    both in
    subst (λ (l : List (List ℤ)). DoneEach (list_added (λ t. with_ring)) (NextTree t others) (l ++ rest) points
    (EachReads (rings_of arcs) l) (trees_depth (NextTree t others)) rest points) whole given

parts-listed : (arcs : List (List Place)) (own : List (List ℤ)) (t : Tree) → IsListTree (EachReads (rings_of arcs) own) t
    → Reads (polygons_of arcs) own t
parts-listed arcs own (ListAt e trees) is = is
parts-listed arcs own t is = absurd is

-- the List of the parts of a polygon
pub polygons-done : (arcs : List (List Place)) (t : Tree) (before after : List (List Place)) (own rest : List (List ℤ))
    (points : List Place) → length arcs ≤ 2 ^ 20 → polygons_added t before ≡ Ok after → length after ≡ length before + length own
    → AllByRecursion (IsLoop arcs) own → Done (list_added (list_added (λ t. with_ring)) t) (own ++ rest) points
    (Reads (polygons_of arcs) own) (tree_depth t) rest points
polygons-done arcs (NullAt e) before after own rest points few h long loops = not-ok _ after h
polygons-done arcs (FalseAt e) before after own rest points few h long loops = not-ok _ after h
polygons-done arcs (TrueAt e) before after own rest points few h long loops = not-ok _ after h
polygons-done arcs (NumberAt e whole) before after own rest points few h long loops = not-ok _ after h
polygons-done arcs (TextAt e word) before after own rest points few h long loops = not-ok _ after h
polygons-done arcs (ListAt e trees) before after own rest points few h long loops =
    let list = list-done (list_added (λ t. with_ring)) e trees (own ++ rest) points (EachReads (rings_of arcs) own) (trees_depth trees) rest
    points (parts-done arcs trees before after own rest points few h long loops) in
    record {
      word = list.word;
      adds = list.adds;
      told = told-so (IsListTree (EachReads (rings_of arcs) own)) (Reads (polygons_of arcs) own)
          (trees_depth trees + 1) (trees_depth trees + 1) list.word (parts-listed arcs own) (omega arith) list.told;
    }
polygons-done arcs (ObjectAt e members) before after own rest points few h long loops = not-ok _ after h

pub polygon-grows : (t : Tree) (before after : List (List Place)) → polygon_added t before ≡ Ok after → length before ≤ length after
polygon-grows = polygon-more

pub polygons-grow : (t : Tree) (before after : List (List Place)) → polygons_added t before ≡ Ok after → length before ≤ length after
polygons-grow t before after h =
    let listed = then-ok (list_of t) (λ trees. each polygon_added trees before) after h in
    polygons-more listed.0 before after listed.2
