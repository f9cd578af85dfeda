-- The value of `arcs` stands in the text.
use Rattle.std.specs.Prelude.{codes}
use Rattle.std.proofs.Common.{◌≡◌, inl, inr, ℕ, ◌+◌, Result, Ok, Err, IfOk, ap, subst, sym, arith}
use Rattle.json_scan.specs.View.{ScanView}
use Rattle.json_scan.specs.Tree.{Extent, Tree, NullAt, FalseAt, TrueAt, NumberAt, TextAt, ListAt, ObjectAt, Entries, NoEntries, NextEntry}
use Rattle.json_scan.specs.Tree.{extent_of, after_at, NodeIs, EntriesAre}
use Rattle.json_scan.proofs.Nodes.{tree-node}
use Rattle.topo_reader.specs.declared.fault.ReadFault.{ReadFault}
use Rattle.topo_reader.specs.declared.reader.Topology.{Topology}
use Rattle.topo_reader.specs.Sequence.{required}
use Rattle.topo_reader.specs.Gives.{Gives}
use Rattle.topo_reader.specs.Arcs.{arcs_value}
use Rattle.topo_reader.specs.Reads.{TopologyRead, header_of, map_of, topology_from, topology_of}
use Rattle.topo_reader.specs.TopologyIs.{topology_read, LiesIn}
use Rattle.topo_reader.proofs.ArcLaws.{not-ok, same-ok, then-ok}
use Rattle.topo_reader.proofs.Lookups.{IsAmong, once-among, required-once}

among-node : (s : ScanView) (k end : ℕ) (t : Tree) (members : Entries) → EntriesAre s k end members → IsAmong t members
    → (n : ℕ) × NodeIs s n t
among-node s k end t NoEntries are is = absurd is
among-node s k end t (NextEntry e word value others) are (inl same) = (k + 1, subst (NodeIs s (k + 1)) same are.2)
among-node s k end t (NextEntry e word value others) are (inr further) = among-node s (after_at s (k + 1)) end t others are.3 further

span-lies : (s : ScanView) (n : ℕ) (t : Tree) (topology : Topology) → NodeIs s n t → extent_of t ≡ (topology_read topology).arcs_at
    → LiesIn s.bytes topology.arcs_at
span-lies s n t topology is h =
    let node = tree-node s n t is in
    let start = ap (λ (e : Extent). e.start) h in
    let end = ap (λ (e : Extent). e.end) h in
    record { forwards = omega (arith, start, end, node.long); within = omega (arith, end, node.in_text) }

arcs-lie : (s : ScanView) (k : ℕ) (e : Extent) (members : Entries) (topology : Topology) → NodeIs s k (ObjectAt e members)
    → topology_from (ObjectAt e members) members ≡ Ok (topology_read topology) → LiesIn s.bytes topology.arcs_at
arcs-lie s k e members topology is h =
    let holder = ObjectAt e members in
    let read = topology_read topology in
    let coded = then-ok (header_of holder members) _ read h in
    let value = then-ok (required (codes "arcs") holder members) _ read coded.2 in
    let arcs = then-ok (arcs_value coded.0 value.0) _ read value.2 in
    let map = then-ok (map_of coded.0 arcs.0 holder members) _ read arcs.2 in
    let node = among-node s (k + 1) (after_at s k) value.0 members is.1
    (once-among (codes "arcs") members value.0 (required-once (codes "arcs") holder members value.0 (sym value.1))) in
    span-lies s node.0 value.0 topology node.1
    (ap (λ (r : TopologyRead). r.arcs_at) (same-ok (record { map = map.0; arcs_at = extent_of value.0 }) read map.2))

topology-lies : (s : ScanView) (k : ℕ) (t : Tree) (topology : Topology) → NodeIs s k t → topology_of t ≡ Ok (topology_read topology)
    → LiesIn s.bytes topology.arcs_at
topology-lies s k (NullAt e) topology is h = not-ok _ _ h
topology-lies s k (FalseAt e) topology is h = not-ok _ _ h
topology-lies s k (TrueAt e) topology is h = not-ok _ _ h
topology-lies s k (NumberAt e whole) topology is h = not-ok _ _ h
topology-lies s k (TextAt e word) topology is h = not-ok _ _ h
topology-lies s k (ListAt e trees) topology is h = not-ok _ _ h
topology-lies s k (ObjectAt e members) topology is h = arcs-lie s k e members topology is h

pub reading-lies : (s : ScanView) (k : ℕ) (t : Tree) (r : Result Topology ReadFault) → NodeIs s k t → Gives topology_read r (topology_of t)
    → IfOk r (λ topology. LiesIn s.bytes topology.arcs_at)
reading-lies s k t (Ok topology) is gives = topology-lies s k t topology is gives
reading-lies s k t (Err fault) is gives = tt
