-- Why a text is refused, from what is known of each step.
use Rattle.std.proofs.Common.{◌≡◌, ◌∙◌, ℕ, List, Bool, false, Option, None, Some, All, ap, sym, refl, inl, inr, subst}
use Rattle.std.specs.Prelude.{◌⊎◌}
use Rattle.json_scan.specs.declared.node.Node.{Node}
use Rattle.json_scan.specs.declared.walk.ScanError.{ScanError}
use Rattle.json_scan.specs.declared.walk.ScanError.TheVariants as refusals
use Rattle.json_scan.specs.Places.{IsRefusedFor}
use Rattle.json_scan.specs.Tree.{Tree, document_tree}
use Rattle.topo_reader.specs.declared.fault.ReadFault.{ReadFault}
use Rattle.topo_reader.specs.Reads.{topology_of}
use Rattle.topo_reader.specs.Sequence.{Faults}
use Rattle.top_call.specs.declared.status.Status.{Status}
use Rattle.top_call.specs.declared.status.Status.TheVariants.{NoMemory}
use Rattle.json_scan.specs.Scans.{HasNodes}
use Rattle.grid_exact.specs.Weights.{Scales, StaysOnGrid}
use Rattle.arc_map.specs.Map.{Map}
use Rattle.arc_map.specs.Arranged.{IsLeastClash, IsLeastPoint}
use Rattle.arc_map.specs.declared.refs.EdgeRef.{EdgeRef}
use Rattle.arrangement_check.specs.declared.meeting.CheckError.{CheckError}
use Rattle.arrangement_check.specs.declared.meeting.CheckError.TheVariants as meetings
use Rattle.topo_reader.specs.Reads.{TopologyRead}
use Rattle.top_call.specs.declared.forms.Options.{Options}
use Rattle.top_call.specs.declared.status.Status.TheVariants.{OffWeights}
use Rattle.top_call.specs.Maps.{HasTree, HasTopology, IsTextRefusal, NoTree, NoTopology, IsUnarranged, Clash, OnArc, IsFirstOffIn}
use Rattle.top_call.specs.Maps.{StayOnGrid, IsRefusal, NoMap, OffGrid, Unarranged, IsRefused, scan_status, fault_status, check_status}
use Rattle.top_call.specs.Maps.{scales_of, ones}

pub scan_refused : (text : List ℕ) (e : ScanError) (s : Status) → s ≡ scan_status e → (e ≡ refusals.NoMemory) ⊎ IsRefusedFor text e
    → (s ≡ NoMemory) ⊎ IsTextRefusal text s
scan_refused text e s is (inl none) = inl (is ∙ ap scan_status none)
scan_refused text e s is (inr why) = inr (NoTree e why is)

pub fault_refused : (text : List ℕ) (tree : Tree) (fault : ReadFault) (s : Status) → s ≡ fault_status fault → HasTree text tree
    → Faults (topology_of tree) fault → (s ≡ NoMemory) ⊎ IsTextRefusal text s
fault_refused text tree fault s is has_tree (inl none) = inl (is ∙ ap fault_status none)
fault_refused text tree fault s is has_tree (inr why) = inr (NoTopology tree fault has_tree why is)

-- the tree of the nodes that a scan found
pub tree_found : (bytes text : List ℕ) (nodes : List Node) → bytes ≡ text → (found : HasNodes bytes nodes)
    → HasTree text (document_tree found.1.0)
tree_found bytes text nodes is found =
    subst (λ (t : List ℕ). HasTree t (document_tree found.1.0)) is (record {
      utf8 = found.0;
      nodes = nodes;
      document = found.1.0;
      json = found.1.1;
      is = refl;
    })

pub check_refused : (hold : Bool) (m : Map) (error : CheckError) (s : Status) → hold ≡ false → s ≡ check_status error
    → ((e f : EdgeRef) → error ≡ meetings.Edges e f → IsLeastClash m e f)
    → ((k : ℕ) (e : EdgeRef) → error ≡ meetings.PointOnArc k e → IsLeastPoint m k e) → (s ≡ NoMemory) ⊎ IsUnarranged hold m s
check_refused hold m (meetings.Edges e f) s none is edges point = inr (Clash e f none (edges e f refl) is)
check_refused hold m (meetings.PointOnArc k e) s none is edges point = inr (OnArc k e none (point k e refl) is)
check_refused hold m meetings.NoMemory s none is edges point = inl is

-- ---- what was refused

pub text_refused : (options : Options) (text : List ℕ) (s : Status) → (s ≡ NoMemory) ⊎ IsTextRefusal text s → IsRefused options text s
text_refused options text s (inl none) = inl none
text_refused options text s (inr why) = inr (NoMap why)

pub off_grid : (options : Options) (text : List ℕ) (t : TopologyRead) (w : Scales) (arc at : ℕ) → HasTopology text t
    → w ≡ scales_of options.weights → (w ≡ ones → ⊥) → IsFirstOffIn w t.map.arcs arc at → IsRefused options text (OffWeights arc at)
off_grid options text t w arc at topology is named off = inr (by_weights options.weights refl)
  where
    by_weights : (ws : Option Scales) → options.weights ≡ ws → IsRefusal options text (OffWeights arc at)
    by_weights None none = absurd (named (is ∙ ap scales_of none))
    by_weights (Some v) some = OffGrid t w arc at topology (some ∙ ap Some (sym (is ∙ ap scales_of some))) off refl

-- what the weights leave on the grid, by the options
pub stays_by : (options : Options) (w : Scales) (m : Map) → w ≡ scales_of options.weights → All (All (StaysOnGrid w)) m.arcs
    → StayOnGrid options m
stays_by options w m is stays = subst (λ (v : Scales). All (All (StaysOnGrid v)) m.arcs) is stays

pub unarranged : (options : Options) (text : List ℕ) (t : TopologyRead) (s : Status) → HasTopology text t → StayOnGrid options t.map
    → (s ≡ NoMemory) ⊎ IsUnarranged options.hold t.map s → IsRefused options text s
unarranged options text t s topology stays (inl none) = inl none
unarranged options text t s topology stays (inr why) = inr (Unarranged t topology stays why)
