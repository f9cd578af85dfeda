-- A text is refused with one status.
use Rattle.std.proofs.Common.{◌≡◌, ◌∙◌, ℕ, ◌<◌, Bool, List, [], Option, Some, All, Result, Err, get_or, take, sym, ap, subst, inl, inr}
use Rattle.std.proofs.Common.{arith}
use Rattle.std.proofs.lemmas.Bool.{cases_order}
use Rattle.std.proofs.lemmas.List.{get_or-take, length-take-le}
use Rattle.std.proofs.lemmas.List.Elements.{All-get_or}
use Rattle.std.proofs.lemmas.Option.{same_Some, slice_get_within, get_or_from_slice_get}
use Rattle.grid_exact.specs.Geometry.{Place}
use Rattle.grid_exact.specs.Weights.{Scales, StaysOnGrid, IsFirstOff}
use Rattle.arc_map.specs.Map.{Map}
use Rattle.arc_map.specs.Arranged.{IsEarlier, IsLeastClash, IsLeastPoint}
use Rattle.arc_map.specs.declared.refs.EdgeRef.{EdgeRef}
use Rattle.json_scan.proofs.Refusals.{same-refusal, not_refused}
use Rattle.topo_reader.specs.declared.fault.ReadFault.{ReadFault}
use Rattle.topo_reader.specs.Reads.{TopologyRead, topology_of}
use Rattle.topo_reader.proofs.ArcLaws.{not-ok}
use Rattle.top_call.specs.declared.forms.Options.{Options}
use Rattle.top_call.specs.declared.status.Meeting.TheVariants.{Edges, PointOnArc}
use Rattle.top_call.specs.declared.status.Status.{Status}
use Rattle.top_call.specs.declared.status.Status.TheVariants.{NotArranged, OffWeights}
use Rattle.top_call.specs.Maps.{HasTopology, IsTextRefusal, NoTree, NoTopology, IsFirstOffIn, IsUnarranged, Clash, OnArc, StayOnGrid}
use Rattle.top_call.specs.Maps.{IsRefusal, NoMap, OffGrid, Unarranged, scan_status, fault_status, scales_of}
use Rattle.top_call.proofs.NotRefused.{not_off, none_first_off}
use Rattle.top_call.proofs.OneTree.{text_has_one_tree, text_has_one_topology}

-- ---- no JSON text, or no topology

same_fault : (f g : ReadFault) → ◌≡◌ {A = Result TopologyRead ReadFault} (Err f) (Err g) → f ≡ g
same_fault f g h = cc

text_refusal_is_one : (text : List ℕ) (s u : Status) → IsTextRefusal text s → IsTextRefusal text u → s ≡ u
text_refusal_is_one text s u (NoTree e why is) (NoTree f also too) = is ∙ ap scan_status (same-refusal text f e also why) ∙ sym too
text_refusal_is_one text s u (NoTree e why is) (NoTopology tree fault has none too) =
    absurd (not_refused text has.nodes e (has.utf8, (has.document, has.json)) why)
text_refusal_is_one text s u (NoTopology tree fault has none is) (NoTree e why too) =
    absurd (not_refused text has.nodes e (has.utf8, (has.document, has.json)) why)
text_refusal_is_one text s u (NoTopology tree fault has none is) (NoTopology other second also missing too) =
    let same = text_has_one_tree text tree other has also in
    is ∙ ap fault_status (same_fault fault second (sym none ∙ ap topology_of same ∙ missing)) ∙ sym too

-- a topology is not refused as a text
topology_not_refused : (text : List ℕ) (t : TopologyRead) (s : Status) → HasTopology text t → IsTextRefusal text s → ⊥
topology_not_refused text t s has (NoTree e why is) =
    not_refused text has.has_tree.nodes e (has.has_tree.utf8, (has.has_tree.document, has.has_tree.json)) why
topology_not_refused text t s has (NoTopology tree fault other none is) =
    let same = text_has_one_tree text has.tree tree has.has_tree other in
    not-ok fault t (sym none ∙ ap topology_of (sym same) ∙ has.reads)

-- ---- weights

-- the first that is off is not behind one that is off
not_off_before : (w : Scales) (places : List Place) (k l : ℕ) → k < l → IsFirstOff w places k → IsFirstOff w places l → ⊥
not_off_before w places k l before first second =
    let inside = slice_get_within places k first.place first.there in
    let last = slice_get_within places l second.place second.there in
    let taken = length-take-le l places (omega (arith, last)) in
    let stays = All-get_or (StaysOnGrid w) (take l places) k first.place (omega (arith, taken, before)) second.before in
    let is : get_or (take l places) k first.place ≡ first.place = get_or-take l places k first.place before
    ∙ get_or_from_slice_get places k first.place first.place first.there in
    first.off (subst (StaysOnGrid w) is stays)

first_off_is_one : (w : Scales) (places : List Place) (k l : ℕ) → IsFirstOff w places k → IsFirstOff w places l → k ≡ l
first_off_is_one w places k l first second = elim (cases_order k l) [
  | inl same ↦ same
  | inr other ↦ elim other [
    | inl before ↦ absurd (not_off_before w places k l before first second)
    | inr behind ↦ absurd (not_off_before w places l k behind second first)
  ]
]

off_is_one : (w : Scales) (arcs : List (List Place)) (a b k l : ℕ) → IsFirstOffIn w arcs a k → IsFirstOffIn w arcs b l
    → OffWeights a k ≡ OffWeights b l
off_is_one w arcs a b k l first second = elim (cases_order a b) [
  | inl same ↦
      let there = subst (λ (arc : ℕ). IsFirstOff w (get_or arcs arc []) l) (sym same) second.first in
      let place = first_off_is_one w (get_or arcs a []) k l first.first there in
      cc
  | inr other ↦ elim other [
    | inl before ↦ absurd (none_first_off w (get_or arcs a []) k (second.before a before) first.first)
    | inr behind ↦ absurd (none_first_off w (get_or arcs b []) l (first.before b behind) second.first)
  ]
]

-- ---- meetings

-- two edges are one, or one is before the other
data EdgeOrder (e f : EdgeRef) : Type 0 where
  Same : e ≡ f → EdgeOrder e f
  Before : IsEarlier e f → EdgeOrder e f
  Behind : IsEarlier f e → EdgeOrder e f

same_edge : (e f : EdgeRef) → e.arc ≡ f.arc → e.at ≡ f.at → e ≡ f
same_edge e f arc at = ap (λ (n : ℕ). record { arc = n; at = e.at }) arc ∙ ap (λ (n : ℕ). record { arc = f.arc; at = n }) at

edge_order : (e f : EdgeRef) → EdgeOrder e f
edge_order e f = elim (cases_order e.arc f.arc) [
  | inl arc ↦ elim (cases_order e.at f.at) [
    | inl at ↦ Same (same_edge e f arc at)
    | inr other ↦ elim other [
      | inl before ↦ Before (inr (arc, before))
      | inr behind ↦ Behind (inr (sym arc, behind))
    ]
  ]
  | inr other ↦ elim other [
    | inl before ↦ Before (inl before)
    | inr behind ↦ Behind (inl behind)
  ]
]

clash_is_one : (m : Map) (e f g h : EdgeRef) → IsLeastClash m e f → IsLeastClash m g h → Edges e f ≡ Edges g h
clash_is_one m e f g h first second = elim (edge_order e g) [
  | Before before ↦ absurd (second.none_before e f first.first_edge first.second_edge first.ordered before first.clash)
  | Behind behind ↦ absurd (first.none_before g h second.first_edge second.second_edge second.ordered behind second.clash)
  | Same same ↦
      let other = subst (λ (x : EdgeRef). IsLeastClash m x h) (sym same) second in
      elim (edge_order f h) [
        | Before before ↦ absurd (other.none_between f first.second_edge first.ordered before first.clash)
        | Behind behind ↦ absurd (first.none_between h other.second_edge other.ordered behind other.clash)
        | Same also ↦ cc
      ]
]

point_is_one : (m : Map) (k l : ℕ) (e f : EdgeRef) → IsLeastPoint m k e → IsLeastPoint m l f → PointOnArc k e ≡ PointOnArc l f
point_is_one m k l e f first second = elim (cases_order k l) [
  | inl same ↦
      let other = subst (λ (n : ℕ). IsLeastPoint m n f) (sym same) second in
      elim (edge_order e f) [
        | Before before ↦ absurd (other.no_edge_before e first.edge before first.on)
        | Behind behind ↦ absurd (first.no_edge_before f other.edge behind other.on)
        | Same also ↦ cc
      ]
  | inr different ↦ elim different [
    | inl before ↦ absurd (second.no_point_before k e before first.edge first.on)
    | inr behind ↦ absurd (first.no_point_before l f behind second.edge second.on)
  ]
]

unarranged_is_one : (hold : Bool) (m : Map) (s u : Status) → IsUnarranged hold m s → IsUnarranged hold m u → s ≡ u
unarranged_is_one hold m s u (Clash e f none least is) (Clash g h also other too) =
    is ∙ ap NotArranged (clash_is_one m e f g h least other) ∙ sym too
unarranged_is_one hold m s u (OnArc k e none least is) (OnArc l f also other too) =
    is ∙ ap NotArranged (point_is_one m k l e f least other) ∙ sym too
unarranged_is_one hold m s u (Clash e f none least is) (OnArc k g also point too) =
    absurd (point.no_clash e f least.first_edge least.second_edge least.ordered least.clash)
unarranged_is_one hold m s u (OnArc k g none point is) (Clash e f also least too) =
    absurd (point.no_clash e f least.first_edge least.second_edge least.ordered least.clash)

-- ---- all refusals

-- weights that are named leave no position off the grid where all stay on it
named_stay : (options : Options) (text : List ℕ) (t v : TopologyRead) (w : Scales) (arc at : ℕ) → HasTopology text t → HasTopology text v
    → options.weights ≡ Some w → IsFirstOffIn w t.map.arcs arc at → StayOnGrid options v.map → ⊥
named_stay options text t v w arc at has also named off stay =
    let same = text_has_one_topology text v t also has in
    let by_weights = subst (λ (ws : Option Scales). All (All (StaysOnGrid (scales_of ws))) v.map.arcs) named stay in
    not_off w t.map.arcs arc at (subst (λ (x : TopologyRead). All (All (StaysOnGrid w)) x.map.arcs) same by_weights) off

pub refusal_is_one : (options : Options) (text : List ℕ) (s u : Status) → IsRefusal options text s → IsRefusal options text u → s ≡ u
refusal_is_one options text s u (NoMap why) (NoMap also) = text_refusal_is_one text s u why also
refusal_is_one options text s u (NoMap why) (OffGrid t w arc at has named off too) = absurd (topology_not_refused text t s has why)
refusal_is_one options text s u (NoMap why) (Unarranged t has stay un) = absurd (topology_not_refused text t s has why)
refusal_is_one options text s u (OffGrid t w arc at has named off is) (NoMap also) = absurd (topology_not_refused text t u has also)
refusal_is_one options text s u (Unarranged t has stay un) (NoMap also) = absurd (topology_not_refused text t u has also)
refusal_is_one options text s u (OffGrid t w arc at has named off is) (OffGrid v x a k also called first too) =
    let same = text_has_one_topology text v t also has in
    let weights = same_Some x w (sym called ∙ named) in
    let by_map = subst (λ (y : TopologyRead). IsFirstOffIn x y.map.arcs a k) same first in
    let by_weights = subst (λ (y : Scales). IsFirstOffIn y t.map.arcs a k) weights by_map in
    is ∙ off_is_one w t.map.arcs arc a at k off by_weights ∙ sym too
refusal_is_one options text s u (OffGrid t w arc at has named off is) (Unarranged v also stay un) =
    absurd (named_stay options text t v w arc at has also named off stay)
refusal_is_one options text s u (Unarranged v also stay un) (OffGrid t w arc at has named off too) =
    absurd (named_stay options text t v w arc at has also named off stay)
refusal_is_one options text s u (Unarranged t has stay un) (Unarranged v also stays other) =
    let same = text_has_one_topology text v t also has in
    unarranged_is_one options.hold t.map s u un (subst (λ (x : TopologyRead). IsUnarranged options.hold x.map u) same other)
