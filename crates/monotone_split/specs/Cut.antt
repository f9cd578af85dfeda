-- How arcs are cut into chains: the furthest run from a position, in each frame, and where a chain lies.
use Rattle.std.specs.Prelude.{◌≡◌, ◌+◌, ◌-◌, ◌<◌, ◌≤◌, ◌^◌, ℕ, List, ◌++◌, length, get_or, take, drop, map, All}
use Rattle.grid_exact.specs.Geometry.{Place}
use Rattle.grid_exact.specs.declared.frame.Frame.{Frame}
use Rattle.grid_exact.specs.declared.frame.Frame.TheVariants.{Plain, Turned}
use Rattle.arc_map.specs.Map.{Map}
use Rattle.grid_exact.specs.Runs.{IsMonotone}
use Rattle.arc_map.specs.Arcs.{most_edges, vertices_from, IsListCutInto}
use Rattle.arc_map.specs.Arranged.{arc_at, nowhere}
use Rattle.arc_map.specs.Work.{chain_in, LiesInArc}
use Rattle.arc_map.specs.declared.refs.ChainRef.{ChainRef}

-- the first n edges of the walk over these places run strictly one way in the order of the frame
abbrev pub IsRun : Frame → List Place → ℕ → Type 0
IsRun frame ps n = IsMonotone frame (get_or ps 0 nowhere) (take n (drop 1 ps))

-- the furthest run from the first of these places has n edges: it is within the limit, and no other run
-- within the limit has more
pub record IsFurthestRun (frame : Frame) (ps : List Place) (n : ℕ) : Type 0 where
  pub some : 0 < n
  pub inside : n < length ps
  pub within : n ≤ most_edges
  pub one_way : IsRun frame ps n
  pub furthest : (k : ℕ) → k < length ps → k ≤ most_edges → IsRun frame ps k → k ≤ n

-- from the first of these places the chain has n edges, in this frame: the further one of the furthest
-- runs of the two frames, the plain one at a tie
pub data IsNextRun (ps : List Place) (frame : Frame) (n : ℕ) : Type 0 where
  PlainReaches : (other : ℕ) → frame ≡ Plain → IsFurthestRun Plain ps n → IsFurthestRun Turned ps other → other ≤ n → IsNextRun ps frame n
  TurnedReaches : (other : ℕ) → frame ≡ Turned → IsFurthestRun Plain ps other → IsFurthestRun Turned ps n → other < n → IsNextRun ps frame n

-- the chain is the one that is cut off an arc of these places from the position number `start` on
pub record IsNextChainRef (arc : ℕ) (ps : List Place) (start : ℕ) (r : ChainRef) : Type 0 where
  pub arc_number : r.arc ≡ arc
  pub starts : r.«from» ≡ start
  pub ends : r.to ≡ start + (r.to - start)
  pub run : IsNextRun (drop start ps) r.frame (r.to - start)

-- the chain has at most as many edges as a chain may have
abbrev pub IsShort : ChainRef → Type 0
IsShort r = r.to ≤ r.«from» + most_edges

-- the chains of the arc stand behind those that were there
pub record AddsChainsOf (m : Map) (arc : ℕ) (before after : List ChainRef) : Type 0 where
  pub added : List ChainRef
  pub behind : after ≡ before ++ added
  pub lie : All (LiesInArc m) added
  pub short : All IsShort added
  pub cut : IsListCutInto (vertices_from arc 0 (arc_at m arc)) (map (chain_in m) added)

-- where chains lie: each in its arc, with an edge or more, within the limit; and there are not too many
pub record AreChainRefs (m : Map) (refs : List ChainRef) : Type 0 where
  pub lie : All (LiesInArc m) refs
  pub short : All IsShort refs
  pub few : length refs ≤ 2 ^ 20
