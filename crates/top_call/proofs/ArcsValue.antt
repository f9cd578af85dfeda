-- The value of `arcs` stands in the text of its topology.
use Rattle.std.specs.Prelude.{codes, if◌then◌else◌, ◌⊎◌}
use Rattle.std.proofs.Common.{◌≡◌, ◌∙◌, ℕ, ◌+◌, ◌≤◌, Bool, true, false, bytes_eq, List, length, Ok, sym, ap, subst, inl, inr}
use Rattle.json_scan.specs.Tree.{Extent, extent_of, Tree, NullAt, FalseAt, TrueAt, NumberAt, TextAt, ListAt, ObjectAt, Entries, NoEntries}
use Rattle.json_scan.specs.Tree.{NextEntry, NodeIs, EntriesAre, after_at, Lookup, NowhereIn, OnceIn, TwiceIn, named, at_second, at_first}
use Rattle.json_scan.specs.Tree.{lookup, document_tree}
use Rattle.json_scan.specs.View.{ScanView}
use Rattle.json_scan.proofs.Nodes.{tree-node}
use Rattle.json_scan.proofs.Trees.{document-is}
use Rattle.topo_reader.specs.Sequence.{at_found, required}
use Rattle.topo_reader.specs.Reads.{TopologyRead, header_of, topology_from, topology_of}
use Rattle.topo_reader.specs.Arcs.{arcs_value}
use Rattle.topo_reader.specs.Reads.{map_of}
use Rattle.topo_reader.proofs.ArcLaws.{not-ok, same-ok, then-ok}
use Rattle.topo_writer.proofs.ReadsBack.{found-once}
use Rattle.top_call.specs.Maps.{HasTopology}

-- ---- the value of a member

second_is : (t : Tree) (others : Entries) (v : Tree) → at_second t others ≡ OnceIn v → t ≡ v
second_is t NoEntries v h = cc
second_is t (NextEntry e word u others) v h = absurd cc

-- the value that a name has is that of the first member, or that which the name has behind it
first_or_behind : (name word : List ℕ) (e : Extent) (t : Tree) (others : Entries) (v : Tree) (b : Bool)
    → at_first name (if b then NextEntry e word t others else named name others) ≡ OnceIn v → (t ≡ v) ⊎ (lookup name others ≡ OnceIn v)
first_or_behind name word e t others v true h = inl (second_is t (named name others) v h)
first_or_behind name word e t others v false h = inr h

-- a value that is found among the members of a text is a value of the text
found_is_value : (s : ScanView) (name : List ℕ) (k end : ℕ) (members : Entries) (v : Tree) → EntriesAre s k end members
    → lookup name members ≡ OnceIn v → (j : ℕ) × NodeIs s j v
found_is_value s name k end NoEntries v are h = absurd cc
found_is_value s name k end (NextEntry e word t others) v are h =
    elim (first_or_behind name word e t others v (bytes_eq word name) h) [
      | inl same ↦ (k + 1, subst (λ (u : Tree). NodeIs s (k + 1) u) same are.2)
      | inr behind ↦ found_is_value s name (after_at s (k + 1)) end others v are.3 behind
    ]

-- ---- the value of `arcs`

-- an extent lies in the text
record LiesWithin (s : ScanView) (e : Extent) : Type 0 where
  forwards : e.start ≤ e.end
  within : e.end ≤ length s.bytes

object_lies : (s : ScanView) (k end : ℕ) (holder : Tree) (members : Entries) (t : TopologyRead) → EntriesAre s k end members
    → topology_from holder members ≡ Ok t → LiesWithin s t.arcs_at
object_lies s k end holder members t are h =
    let headed = then-ok (header_of holder members) _ t h in
    let valued = then-ok (required (codes "arcs") holder members) _ t headed.2 in
    let arced = then-ok (arcs_value headed.0 valued.0) _ t valued.2 in
    let mapped = then-ok (map_of headed.0 arced.0 holder members) _ t arced.2 in
    let same = same-ok (record { map = mapped.0; arcs_at = extent_of valued.0 }) t mapped.2 in
    let value = found_is_value s (codes "arcs") k end members valued.0 are
    (found-once holder valued.0 (lookup (codes "arcs") members) valued.1) in
    let node = tree-node s value.0 valued.0 value.1 in
    subst (λ (u : TopologyRead). LiesWithin s u.arcs_at) same (record { forwards = node.long; within = node.in_text })

tree_lies : (s : ScanView) (k : ℕ) (tree : Tree) (t : TopologyRead) → NodeIs s k tree → topology_of tree ≡ Ok t → LiesWithin s t.arcs_at
tree_lies s k (ObjectAt e members) t is h = object_lies s (k + 1) (after_at s k) (ObjectAt e members) members t is.1 h
tree_lies s k (NullAt e) t is h = not-ok _ t h
tree_lies s k (FalseAt e) t is h = not-ok _ t h
tree_lies s k (TrueAt e) t is h = not-ok _ t h
tree_lies s k (NumberAt e whole) t is h = not-ok _ t h
tree_lies s k (TextAt e word) t is h = not-ok _ t h
tree_lies s k (ListAt e trees) t is h = not-ok _ t h

-- the place of the value
pub record ArcsLieIn (text : List ℕ) (t : TopologyRead) : Type 0 where
  pub forwards : t.arcs_at.start ≤ t.arcs_at.end
  pub within : t.arcs_at.end ≤ length text

pub arcs_lie_in : (text : List ℕ) (t : TopologyRead) → HasTopology text t → ArcsLieIn text t
arcs_lie_in text t has =
    let scanned = has.has_tree in
    let s : ScanView = record { bytes = text; nodes = scanned.nodes } in
    let is = document-is s scanned.document scanned.json in
    let lies = tree_lies s 0 (document_tree scanned.document) t is (ap topology_of (sym scanned.is) ∙ has.reads) in
    record { forwards = lies.forwards; within = lies.within }
