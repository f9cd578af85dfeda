-- What a topology is for its readers.
use Rattle.std.specs.Prelude.{◌≤◌, ℕ, List, length}
use Rattle.topo_reader.specs.declared.reader.Span.{Span}
use Rattle.topo_reader.specs.declared.reader.Topology.{Topology}
use Rattle.topo_reader.specs.Reads.{TopologyRead}

abbrev pub topology_read : Topology → TopologyRead
topology_read topology = record { map = topology.map; arcs_at = record { start = topology.arcs_at.start; end = topology.arcs_at.end } }

-- a span lies in a text
pub record LiesIn (text : List ℕ) (span : Span) : Type 0 where
  pub forwards : span.start ≤ span.end
  pub within : span.end ≤ length text
