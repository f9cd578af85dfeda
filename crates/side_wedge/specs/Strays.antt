-- Single places beside the edges of a chain.
use Rattle.std.specs.Prelude.{◌≡◌, ◌+◌, ◌<◌, ◌≤◌, ℕ, Bool, List, length, slice_index_or}
use Rattle.grid_exact.specs.Geometry.{Place}
use Rattle.grid_exact.specs.declared.frame.Frame.{Frame}
use Rattle.chain_side.specs.Along.{IsAlong, vertex_at}
use Rattle.lane_kernels.specs.declared.side.Hand.{Hand}
use Rattle.lane_kernels.specs.Hands.{IsOnSide}
use Rattle.sweep_index.specs.declared.index.Item.{Item}
use Rattle.map_index.specs.Items.{IsOther}
use Rattle.side_wedge.specs.Flanks.{row_of}
use Rattle.side_wedge.specs.declared.strays.Stray.{Stray}

-- the chain rises in the order of the frame throughout, or falls throughout
abbrev pub RunsAlong : Frame → Bool → List Place → Type 0
RunsAlong frame rising chain = (a b : ℕ) → a < b → b < length chain → IsAlong frame rising (vertex_at chain a) (vertex_at chain b)

-- p stands strictly between the ends of the edge number s along the chain
pub record IsOverEdge (frame : Frame) (rising : Bool) (chain : List Place) (p : Place) (s : ℕ) : Type 0 where
  pub in_chain : s + 1 < length chain
  pub start : IsAlong frame rising (vertex_at chain s) p
  pub end : IsAlong frame rising p (vertex_at chain (s + 1))

-- the item belongs to another chain, and stands over an edge of the chain, on this hand of it
pub record IsStrayItem (frame : Frame) (rising : Bool) (chain : List Place) (k : ℕ) (item : Item) (s : ℕ) (hand : Hand) : Type 0 where
  pub other : IsOther k item.owner
  pub over : IsOverEdge frame rising chain item.at s
  pub aside : IsOnSide hand (vertex_at chain s) (vertex_at chain (s + 1)) item.at

abbrev pub stray : ℕ → Hand → Place → Stray
stray s hand p = record { row = row_of s hand; at = p }

-- the stray is such an item in its row
pub record IsStrayOf (frame : Frame) (rising : Bool) (chain : List Place) (k : ℕ) (item : Item) (x : Stray) : Type 0 where
  pub edge : ℕ
  pub hand : Hand
  pub is : IsStrayItem frame rising chain k item edge hand
  pub place : x ≡ stray edge hand item.at

-- the strays before the start are of earlier rows, and the others are not
pub record IsStartOf (strays : List Stray) (row start : ℕ) : Type 0 where
  pub within : start ≤ length strays
  pub before : (k : ℕ) (d : Stray) → k < start → (slice_index_or strays k d).row < row
  pub after : (k : ℕ) (d : Stray) → start ≤ k → k < length strays → row ≤ (slice_index_or strays k d).row
