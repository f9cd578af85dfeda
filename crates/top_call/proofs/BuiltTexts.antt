-- What is built of GeoJSON: the one answer, and what was refused.
use Rattle.std.proofs.Common.{◌≡◌, ◌↔◌, ◌∙◌, ◌≤◌, ℕ, ℤ, List, [], Result, Ok, Err, sym, ap, refl, subst, inl, inr}
use Rattle.std.specs.Prelude.{◌⊎◌}
use Rattle.std.specs.List.{AllZip}
use Rattle.arc_map.specs.Arcs.{IsMapArrangedBeside}
use Rattle.arc_map.specs.Map.{Map, IsMap}
use Rattle.json_scan.proofs.Refusals.{same-refusal, not_refused}
use Rattle.json_scan.specs.Places.{IsRefusedFor}
use Rattle.json_scan.specs.Grammar.{IsJson, document_nodes, value_depth}
use Rattle.json_scan.specs.Tree.{Tree, document_tree}
use Rattle.json_scan.specs.declared.node.Node.{Node}
use Rattle.topo_writer.specs.Reading.{ReadsAs}
use Rattle.json_scan.specs.declared.walk.ScanError.{ScanError}
use Rattle.json_scan.specs.declared.walk.ScanError.TheVariants as refusals
use Rattle.geo_reader.specs.Geo.{Geo}
use Rattle.geo_reader.specs.GeoJson.{geojson_of}
use Rattle.geo_reader.specs.Gives.{Faults}
use Rattle.geo_reader.specs.declared.fault.GeoFault.{GeoFault}
use Rattle.geo_reader.specs.declared.fault.GeoFault.TheVariants as faults
use Rattle.geo_text.specs.BuiltText.{built_text_of}
use Rattle.geo_text.proofs.TopologyWritten.{built-reads}
use Rattle.topo_build.specs.Built.{IsBuilt, rings_of, geo_turns}
use Rattle.topo_build.specs.Clean.{AreClean, HasEachEdgeOnce}
use Rattle.topo_build.specs.References.{IsPutTogether}
use Rattle.top_call.specs.declared.status.Status.{Status}
use Rattle.top_call.specs.declared.status.Status.TheVariants.{NoMemory}
use Rattle.top_call.specs.Maps.{HasTree, scan_status}
use Rattle.top_call.specs.Built.{HasGeo, geo_status, IsGeoRefusal, NoJson, NoGeo, IsBuiltOf}
use Rattle.top_call.specs.Endings.{IsMapStatus}
use Rattle.top_call.proofs.OneBuilt.{AreSound, built_is_one}
use Rattle.top_call.proofs.OneTree.{text_has_one_tree}
use Rattle.top_call.proofs.RefusalKinds.{scan_kind}

-- ---- one text

same_geo : (a b : Geo) → ◌≡◌ {A = Result Geo GeoFault} (Ok a) (Ok b) → a ≡ b
same_geo a b h = cc

same_fault : (f g : GeoFault) → ◌≡◌ {A = Result Geo GeoFault} (Err f) (Err g) → f ≡ g
same_fault f g h = cc

no_fault : (f : GeoFault) (a : Geo) → ◌≡◌ {A = Result Geo GeoFault} (Err f) (Ok a) → ⊥
no_fault f a h = cc

geo_is_one : (text : List ℕ) (t u : Tree) (a b : Geo) → HasGeo text t a → HasGeo text u b → a ≡ b
geo_is_one text t u a b first second =
    let tree = text_has_one_tree text t u first.has_tree second.has_tree in
    same_geo a b (sym first.reads ∙ ap geojson_of tree ∙ second.reads)

-- ---- refusals

-- a text with GeoJSON is not refused
pub geo_not_refused : (text : List ℕ) (tree : Tree) (geo : Geo) (s : Status) → HasGeo text tree geo → IsGeoRefusal text s → ⊥
geo_not_refused text tree geo s has (NoJson e why is) =
    not_refused text has.has_tree.nodes e (has.has_tree.utf8, (has.has_tree.document, has.has_tree.json)) why
geo_not_refused text tree geo s has (NoGeo other fault also none is) =
    let same = text_has_one_tree text tree other has.has_tree also in
    no_fault fault geo (sym none ∙ ap geojson_of (sym same) ∙ has.reads)

pub geo_refusal_is_one : (text : List ℕ) (s u : Status) → IsGeoRefusal text s → IsGeoRefusal text u → s ≡ u
geo_refusal_is_one text s u (NoJson e why is) (NoJson f also too) = is ∙ ap scan_status (same-refusal text f e also why) ∙ sym too
geo_refusal_is_one text s u (NoJson e why is) (NoGeo tree fault has none too) =
    absurd (not_refused text has.nodes e (has.utf8, (has.document, has.json)) why)
geo_refusal_is_one text s u (NoGeo tree fault has none is) (NoJson e why too) =
    absurd (not_refused text has.nodes e (has.utf8, (has.document, has.json)) why)
geo_refusal_is_one text s u (NoGeo tree fault has none is) (NoGeo other second also missing too) =
    let same = text_has_one_tree text tree other has also in
    is ∙ ap geo_status (same_fault fault second (sym none ∙ ap geojson_of same ∙ missing)) ∙ sym too

fault_kind : (fault : GeoFault) → IsMapStatus (geo_status fault)
fault_kind (faults.Shape kind at) = tt
fault_kind (faults.Off kind at) = tt
fault_kind (faults.TooMany what at) = tt
fault_kind faults.NoMemory = tt

-- a text is not refused with any other status
pub geo_kind : (text : List ℕ) (s : Status) → IsGeoRefusal text s → IsMapStatus s
geo_kind text s (NoJson e why is) = subst IsMapStatus (sym is) (scan_kind e)
geo_kind text s (NoGeo tree fault has none is) = subst IsMapStatus (sym is) (fault_kind fault)

-- ---- what was refused

pub scan_refused_geo : (text : List ℕ) (e : ScanError) (s : Status) → s ≡ scan_status e → (e ≡ refusals.NoMemory) ⊎ IsRefusedFor text e
    → (s ≡ NoMemory) ⊎ IsGeoRefusal text s
scan_refused_geo text e s is (inl none) = inl (is ∙ ap scan_status none)
scan_refused_geo text e s is (inr why) = inr (NoJson e why is)

pub geo_refused : (text : List ℕ) (tree : Tree) (fault : GeoFault) (s : Status) → s ≡ geo_status fault → HasTree text tree
    → Faults (geojson_of tree) fault → (s ≡ NoMemory) ⊎ IsGeoRefusal text s
geo_refused text tree fault s is has_tree (inl none) = inl (is ∙ ap geo_status none)
geo_refused text tree fault s is has_tree (inr why) = inr (NoGeo tree fault has_tree why is)

-- ---- what was built

-- the topology that was built, as `build` says it
pub record IsTopology (geo : Geo) (map : Map) (rings : List (List ℤ)) : Type 0 where
  pub built : IsBuilt geo map rings
  pub is_map : IsMap map
  pub together : AllZip (IsPutTogether map.arcs) (rings_of geo) rings
  pub edges : HasEachEdgeOnce (geo_turns geo) map.arcs
  pub arranged : IsMapArrangedBeside [] map ↔ AreClean (geo_turns geo) geo.points

reads_back : (text : List ℕ) (tree : Tree) (geo : Geo) (map : Map) (rings : List (List ℤ)) → (has : HasTree text tree)
    → geojson_of tree ≡ Ok geo → IsTopology geo map rings → value_depth has.document.value ≤ 60
    → ReadsAs (built_text_of text tree rings geo.points map) map
reads_back text tree geo map rings has reads is shallow =
    let json : IsJson 64 text (document_nodes has.document) has.document =
    subst (λ (ns : List Node). IsJson 64 text ns has.document) has.json.its_nodes has.json in
    let whole : geojson_of (document_tree has.document) ≡ Ok geo = ap geojson_of (sym has.is) ∙ reads in
    subst (λ (t : Tree). ReadsAs (built_text_of text t rings geo.points map) map) (sym has.is)
    (built-reads text has.document geo map rings has.utf8 json shallow whole is.is_map is.built)

pub built_by : (text bytes input : List ℕ) (tree : Tree) (geo : Geo) (map : Map) (rings : List (List ℤ)) → HasTree text tree
    → geojson_of tree ≡ Ok geo → IsTopology geo map rings → input ≡ text → bytes ≡ built_text_of input tree rings geo.points map
    → IsBuiltOf text bytes
built_by text bytes input tree geo map rings has_tree reads is is_text written =
    let out = written ∙ ap (λ (xs : List ℕ). built_text_of xs tree rings geo.points map) is_text in
    record {
      tree = tree;
      geo = geo;
      has = record { has_tree = has_tree; reads = reads };
      map = map;
      rings = rings;
      built = is.built;
      is_map = is.is_map;
      together = is.together;
      edges = is.edges;
      arranged = is.arranged;
      written = out;
      reads = λ shallow. subst (λ (xs : List ℕ). ReadsAs xs map) (sym out) (reads_back text tree geo map rings has_tree reads is shallow);
    }

-- ---- one answer

pub built_of_is_one : (text x y : List ℕ) → IsBuiltOf text x → IsBuiltOf text y → x ≡ y
built_of_is_one text x y first second =
    let tree = text_has_one_tree text first.tree second.tree first.has.has_tree second.has.has_tree in
    let geo = geo_is_one text first.tree second.tree first.geo second.geo first.has second.has in
    let other = subst (λ (g : Geo). IsBuilt g second.map second.rings) (sym geo) second.built in
    let sound : AreSound first.map.arcs = record { once = first.edges.once; arcs = first.is_map.arcs } in
    let one = built_is_one first.geo first.map second.map first.rings second.rings sound first.built other in
    first.written
    ∙ ap (λ (t : Tree). built_text_of text t first.rings first.geo.points first.map) tree
    ∙ ap (λ (g : Geo). built_text_of text second.tree first.rings g.points first.map) geo
    ∙ ap (λ (rs : List (List ℤ)). built_text_of text second.tree rs second.geo.points first.map) one.1
    ∙ ap (λ (m : Map). built_text_of text second.tree second.rings second.geo.points m) one.0
    ∙ sym second.written
