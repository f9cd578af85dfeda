-- The map of a text, or why it is refused.
use Rattle.std.specs.Prelude.{◌≡◌, ◌<◌, ℕ, pos, Bool, true, false, List, [], length, get_or, Option, Some, None, Ok, Err, All, ◌⊎◌}
use Rattle.std.specs.Str.{IsUtf8}
use Rattle.grid_exact.specs.Geometry.{Place}
use Rattle.grid_exact.specs.Weights.{Scales, StaysOnGrid, IsFirstOff}
use Rattle.arc_map.specs.Map.{Map}
use Rattle.arc_map.specs.Arranged.{IsArranged, IsLeastClash, IsLeastPoint, IsHeldList}
use Rattle.arc_map.specs.declared.refs.EdgeRef.{EdgeRef}
use Rattle.json_scan.specs.declared.node.Node.{Node}
use Rattle.json_scan.specs.declared.walk.ScanError.{ScanError}
use Rattle.json_scan.specs.declared.walk.ScanError.TheVariants as refusals
use Rattle.json_scan.specs.Grammar.{Document, IsJson}
use Rattle.json_scan.specs.Places.{IsRefusedFor}
use Rattle.json_scan.specs.Tree.{Tree, document_tree}
use Rattle.topo_reader.specs.declared.fault.ReadFault.{ReadFault}
use Rattle.topo_reader.specs.declared.fault.ReadFault.TheVariants as faults
use Rattle.topo_reader.specs.Reads.{TopologyRead, topology_of}
use Rattle.arrangement_check.specs.declared.meeting.CheckError.{CheckError}
use Rattle.arrangement_check.specs.declared.meeting.CheckError.TheVariants as meetings
use Rattle.top_call.specs.declared.forms.Options.{Options}
use Rattle.top_call.specs.declared.loading.Loaded.{Loaded}
use Rattle.top_call.specs.declared.status.Limit.TheVariants.{Depth, Many}
use Rattle.top_call.specs.declared.status.Meeting.TheVariants.{Edges, PointOnArc}
use Rattle.top_call.specs.declared.status.Status.{Status}
use Rattle.top_call.specs.declared.status.Status.TheVariants.{NotUtf8, NotJson, NotTopology, OffProfile, TooLarge, NotArranged, NoMemory}
use Rattle.top_call.specs.declared.status.Status.TheVariants.{OffWeights}

-- ---- the topology of a text

-- the text is JSON of depth at most 64, and its value is this tree
pub record HasTree (text : List ℕ) (tree : Tree) : Type 0 where
  pub utf8 : IsUtf8 text
  pub nodes : List Node
  pub document : Document
  pub json : IsJson 64 text nodes document
  pub is : tree ≡ document_tree document

-- the text is that of a topology
pub record HasTopology (text : List ℕ) (t : TopologyRead) : Type 0 where
  pub tree : Tree
  pub has_tree : HasTree text tree
  pub reads : topology_of tree ≡ Ok t

-- the status of a text that is no JSON text, or that is too deep
abbrev pub scan_status : ScanError → Status
scan_status (refusals.NotUtf8 at) = NotUtf8 at
scan_status (refusals.NotJson at) = NotJson at
scan_status (refusals.TooDeep at) = TooLarge (Depth at)
scan_status refusals.NoMemory = NoMemory

-- the status of a text that is no topology
abbrev pub fault_status : ReadFault → Status
fault_status (faults.Shape kind at) = NotTopology kind at
fault_status (faults.Off kind at) = OffProfile kind at
fault_status (faults.TooMany what at) = TooLarge (Many what at)
fault_status faults.NoMemory = NoMemory

-- the text is refused: it is no JSON text, or it is too deep, or it is no topology
pub data IsTextRefusal (text : List ℕ) (status : Status) : Type 0 where
  NoTree : (e : ScanError) → IsRefusedFor text e → status ≡ scan_status e → IsTextRefusal text status
  NoTopology : (tree : Tree) (fault : ReadFault) → HasTree text tree → topology_of tree ≡ Err fault → status ≡ fault_status fault
      → IsTextRefusal text status

-- ---- weights

abbrev pub ones : Scales
ones = record { x = pos 1; y = pos 1 }

-- the weights that are named, or 1 and 1
abbrev pub scales_of : Option Scales → Scales
scales_of None = ones
scales_of (Some w) = w

-- the weights take a position of this arc off the grid, the position at this place is the first, and they take no position of an arc
-- before it off
pub record IsFirstOffIn (w : Scales) (arcs : List (List Place)) (arc at : ℕ) : Type 0 where
  pub within : arc < length arcs
  pub first : IsFirstOff w (get_or arcs arc []) at
  pub before : (k : ℕ) → k < arc → All (StaysOnGrid w) (get_or arcs k [])

-- ---- the map

-- the map is not arranged where no arcs are to be held: the least pair of edges that clash, or the least feature point on an edge
pub data IsUnarranged (hold : Bool) (m : Map) (status : Status) : Type 0 where
  Clash : (e f : EdgeRef) → hold ≡ false → IsLeastClash m e f → status ≡ NotArranged (Edges e f) → IsUnarranged hold m status
  OnArc : (k : ℕ) (e : EdgeRef) → hold ≡ false → IsLeastPoint m k e → status ≡ NotArranged (PointOnArc k e) → IsUnarranged hold m status

-- the status of a map that is not arranged
abbrev pub check_status : CheckError → Status
check_status (meetings.Edges e f) = NotArranged (Edges e f)
check_status (meetings.PointOnArc k e) = NotArranged (PointOnArc k e)
check_status meetings.NoMemory = NoMemory

-- the held arcs of the map where arcs are to be held; else the map is arranged, and none are held
abbrev pub AreHeldBeside : Bool → Map → List ℕ → Type 0
AreHeldBeside true m held = IsHeldList m held
AreHeldBeside false m held = IsArranged m × (held ≡ [])

-- the weights of the options leave each position of the arcs on the grid
abbrev pub StayOnGrid : Options → Map → Type 0
StayOnGrid options m = All (All (StaysOnGrid (scales_of options.weights))) m.arcs

-- the map of a text, with the arcs that are held beside it
pub record IsLoaded (options : Options) (text : List ℕ) (t : TopologyRead) (held : List ℕ) : Type 0 where
  pub topology : HasTopology text t
  pub weights : StayOnGrid options t.map
  pub beside : AreHeldBeside options.hold t.map held

-- The text is refused: it has no topology, or the weights that are named take a position of an arc off the grid, or the map is not
-- arranged and no arcs are to be held.
pub data IsRefusal (options : Options) (text : List ℕ) (status : Status) : Type 0 where
  NoMap : IsTextRefusal text status → IsRefusal options text status
  OffGrid : (t : TopologyRead) (w : Scales) (arc at : ℕ) → HasTopology text t → options.weights ≡ Some w → IsFirstOffIn w t.map.arcs arc at
      → status ≡ OffWeights arc at → IsRefusal options text status
  Unarranged : (t : TopologyRead) → HasTopology text t → StayOnGrid options t.map → IsUnarranged options.hold t.map status
      → IsRefusal options text status

-- a text is refused, or memory is wanting
abbrev pub IsRefused : Options → List ℕ → Status → Type 0
IsRefused options text status = (status ≡ NoMemory) ⊎ IsRefusal options text status

-- what was loaded, as it is read
abbrev pub topology_in : Loaded → TopologyRead
topology_in loaded = record { map = loaded.partly.map; arcs_at = record { start = loaded.arcs_at.start; end = loaded.arcs_at.end } }
