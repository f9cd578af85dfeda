-- What holds of a run under way.
use Rattle.std.specs.Prelude.{◌≡◌, ◌+◌, ◌<◌, ◌≤◌, ◌^◌, ℕ, All, drop, length}
use Rattle.grid_exact.specs.Weights.{StaysOnGrid}
use Rattle.arc_map.specs.Arcs.{AreKept}
use Rattle.arc_map.specs.Arranged.{IsMapArranged}
use Rattle.arc_map.specs.Chains.{AreChains, IsArrangedBeside}
use Rattle.arc_map.specs.Work.{work_of, AreChainsIn}
use Rattle.map_index.specs.IndexedMap.{items_in}
use Rattle.map_index.specs.MapIndex.{IsAsRead}
use Rattle.chain_replace.specs.Run.{Progress, AreReplaced}
use Rattle.chain_replace.specs.Rooms.{vertices_in}
use Rattle.chain_replace.specs.declared.run.RunState.TheInside.{Inside}

abbrev pub progress_of : Inside → Progress
progress_of s = record { work = s.map; terms = s.terms; next = s.next; records = s.records.entries }

-- the map read was arranged beside the held arcs and stays on the grid, its chains before the next one are replaced, and those
-- from the next one on are as read
pub record IsSound (p : Progress) : Type 0 where
  pub chains : AreChainsIn p.work.read p.work.refs
  pub was : IsMapArranged p.terms.held p.work.read
  pub on_grid : All (All (StaysOnGrid p.terms.weights)) p.work.read.arcs
  pub replaced : AreReplaced p.terms (work_of p.work.read p.work.refs) 0 p.next p.records p.work
  pub come : p.next ≤ length p.work.chains
  pub count : length p.work.chains ≡ length p.work.refs
  pub few : length p.work.chains ≤ 2 ^ 20
  pub as_read : (k : ℕ) → p.next ≤ k → k < length p.work.chains → IsAsRead p.work k
  pub kept : AreKept (work_of p.work.read p.work.refs).chains p.work.chains
  pub are_chains : AreChains p.work.chains
  pub arranged : IsArrangedBeside p.terms.held p.work.chains p.work.read.points

-- there is room for what stands beside a chain, and for the records of the chains that are left
pub record HasRoom (s : Inside) : Type 0 where
  pub items : items_in s.map ≤ s.finder.room
  pub records : length s.map.chains ≤ s.next + s.records.room
  pub places : vertices_in (drop s.next s.map.chains) ≤ s.records.kept_room
  pub layers : vertices_in (drop s.next s.map.chains) ≤ s.records.layers_room

pub record IsUnderWay (s : Inside) : Type 0 where
  pub sound : IsSound (progress_of s)
  pub room : HasRoom s
