-- The topology that is built of a text of GeoJSON, or why the text is refused.
use Rattle.std.specs.Prelude.{◌≡◌, ◌↔◌, ◌≤◌, ℕ, ℤ, List, [], Ok, Err}
use Rattle.std.specs.List.{AllZip}
use Rattle.arc_map.specs.Arcs.{IsMapArrangedBeside}
use Rattle.arc_map.specs.Map.{Map, IsMap}
use Rattle.json_scan.specs.Grammar.{value_depth}
use Rattle.json_scan.specs.Places.{IsRefusedFor}
use Rattle.json_scan.specs.Tree.{Tree}
use Rattle.json_scan.specs.declared.walk.ScanError.{ScanError}
use Rattle.geo_reader.specs.Geo.{Geo}
use Rattle.geo_reader.specs.GeoJson.{geojson_of}
use Rattle.geo_reader.specs.declared.fault.GeoFault.{GeoFault}
use Rattle.geo_reader.specs.declared.fault.GeoFault.TheVariants as faults
use Rattle.topo_writer.specs.Reading.{ReadsAs}
use Rattle.topo_build.specs.Built.{IsBuilt, rings_of, geo_turns}
use Rattle.topo_build.specs.Clean.{AreClean, HasEachEdgeOnce}
use Rattle.topo_build.specs.References.{IsPutTogether}
use Rattle.geo_text.specs.BuiltText.{built_text_of}
use Rattle.top_call.specs.declared.status.Limit.TheVariants.{Many}
use Rattle.top_call.specs.declared.status.Status.{Status}
use Rattle.top_call.specs.declared.status.Status.TheVariants.{OffProfile, TooLarge, NoMemory, NotGeoJson}
use Rattle.top_call.specs.Maps.{HasTree, scan_status}

-- the text is that of this GeoJSON, in this tree
pub record HasGeo (text : List ℕ) (tree : Tree) (geo : Geo) : Type 0 where
  pub has_tree : HasTree text tree
  pub reads : geojson_of tree ≡ Ok geo

-- the status of a text that is no GeoJSON of the kind that is read
abbrev pub geo_status : GeoFault → Status
geo_status (faults.Shape kind at) = NotGeoJson kind at
geo_status (faults.Off kind at) = OffProfile kind at
geo_status (faults.TooMany what at) = TooLarge (Many what at)
geo_status faults.NoMemory = NoMemory

-- the text is refused: it is no JSON text, or it is too deep, or it is no GeoJSON
pub data IsGeoRefusal (text : List ℕ) (status : Status) : Type 0 where
  NoJson : (e : ScanError) → IsRefusedFor text e → status ≡ scan_status e → IsGeoRefusal text status
  NoGeo : (tree : Tree) (fault : GeoFault) → HasTree text tree → geojson_of tree ≡ Err fault → status ≡ geo_status fault
      → IsGeoRefusal text status

-- The bytes are the text of the topology that is built of the GeoJSON of a text.
pub record IsBuiltOf (text bytes : List ℕ) : Type 0 where
  -- the text is that of this GeoJSON
  pub tree : Tree
  pub geo : Geo
  pub has : HasGeo text tree geo
  -- this map is built of its rings, with these references to its arcs
  pub map : Map
  pub rings : List (List ℤ)
  pub built : IsBuilt geo map rings
  pub is_map : IsMap map
  -- put together, the references of each ring are the ring, in its own direction; it may begin elsewhere
  pub together : AllZip (IsPutTogether map.arcs) (rings_of geo) rings
  -- each two neighbours in a ring are the ends of an edge of exactly one arc, once
  pub edges : HasEachEdgeOnce (geo_turns geo) map.arcs
  -- the map is arranged exactly where the rings are clean
  pub arranged : IsMapArrangedBeside [] map ↔ AreClean (geo_turns geo) geo.points
  -- the features are written, with the references in place of the rings, and the arcs
  pub written : bytes ≡ built_text_of text tree rings geo.points map
  -- where the text is no deeper than 60, the bytes read as a topology with the map
  pub reads : value_depth has.has_tree.document.value ≤ 60 → ReadsAs bytes map
