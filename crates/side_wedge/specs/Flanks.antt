-- What stands beside the edges of a chain.
use Rattle.std.specs.Prelude.{◌≡◌, ◌⊎◌, ◌+◌, ◌*◌, ◌<◌, ◌≤◌, ℕ, ℤ, pos, ◌≤ℤ◌, ◌<ℤ◌, List, length, All, slice_index}
use Rattle.std.specs.List.{between}
use Rattle.grid_exact.specs.Geometry.{Place}
use Rattle.grid_exact.specs.Weights.{Scales}
use Rattle.grid_exact.specs.declared.frame.Frame.{Frame}
use Rattle.chain_side.specs.Sides.{IsSpanned}
use Rattle.chain_side.specs.Along.{vertex_at}
use Rattle.lane_kernels.specs.declared.side.Hand.{Hand}
use Rattle.lane_kernels.specs.declared.side.Hand.TheVariants.{Left, Right}
use Rattle.lane_kernels.specs.Hands.{IsOnSide}
use Rattle.lane_kernels.specs.Places.{place_at}
use Rattle.arc_map.specs.Vertices.{places}
use Rattle.arc_map.specs.Chains.{Chain, chain_at, chain_places, IsWithinBound}
use Rattle.arc_map.specs.Paths.{vertices_of, vertex_at as vertex_number}
use Rattle.chain_reach.specs.Reach.{IsCloseBy}
use Rattle.side_wedge.specs.Obstacles.{IsObstacle}

-- the places beside the edges of a chain, by their coordinates, in rows, with the number of the first place of each row; the frame
-- of the chain; and for how many places there is room
pub record Flanks : Type 0 where
  pub room : ℕ
  pub frame : Frame
  pub xs : List ℤ
  pub ys : List ℤ
  pub starts : List ℕ

-- the row of the places on this hand of the edge number s: each edge has two rows
abbrev pub row_of : ℕ → Hand → ℕ
row_of s Left = 2 * s
row_of s Right = 2 * s + 1

-- the place number `at` stands in the row
pub record IsInRow (starts : List ℕ) (row at : ℕ) : Type 0 where
  pub low : slice_index starts row ≤ at
  pub high : at < slice_index starts (row + 1)

-- p stands in the row
pub record StandsInRow (b : Flanks) (row : ℕ) (p : Place) : Type 0 where
  pub number : ℕ
  pub in_row : IsInRow b.starts row number
  pub place : place_at b.xs b.ys number ≡ p

-- p stands strictly between the ends of the edge number s in the order of the frame, on this hand of the way along it
pub record IsBesideEdge (frame : Frame) (chain : List Place) (s : ℕ) (hand : Hand) (p : Place) : Type 0 where
  pub spanned : IsSpanned frame (vertex_at chain s) (vertex_at chain (s + 1)) p
  pub aside : IsOnSide hand (vertex_at chain s) (vertex_at chain (s + 1)) p

-- on one axis all of the chain lies on one side of p
pub data IsBeyond (chain : List Place) (p : Place) : Type 0 where
  West : All (λ v. p.x <ℤ v.x) chain → IsBeyond chain p
  East : All (λ v. v.x <ℤ p.x) chain → IsBeyond chain p
  South : All (λ v. p.y <ℤ v.y) chain → IsBeyond chain p
  North : All (λ v. v.y <ℤ p.y) chain → IsBeyond chain p

-- these are obstacles beside the edges of the chain number k
pub record IsBeside (chains : List Chain) (points : List Place) (k : ℕ) (b : Flanks) : Type 0 where
  pub frame : b.frame ≡ (chain_at chains k).frame
  pub rows : length b.starts ≡ 2 * length (chain_at chains k).rest + 1
  -- what stands in the row of an edge is an obstacle, and stands beside the edge
  pub obstacles : (s : ℕ) (hand : Hand) (p : Place) → s < length (chain_at chains k).rest → StandsInRow b (row_of s hand) p
      → IsObstacle chains points k p
  pub beside : (s : ℕ) (hand : Hand) (p : Place) → s < length (chain_at chains k).rest → StandsInRow b (row_of s hand) p
      → IsBesideEdge (chain_at chains k).frame (chain_places (chain_at chains k)) s hand p
  -- each chain of the map has an edge
  pub edges : All (λ chain. 0 < length chain.rest) chains

-- of the obstacles close to the chain number k with these weights and this bound, each that is beside an edge stands in the
-- edge's row, unless it is beyond the chain
pub record HoldsReach (chains : List Chain) (points : List Place) (k : ℕ) (weights : Scales) (bound : ℤ) (b : Flanks) : Type 0 where
  pub weight_across : pos 1 ≤ℤ weights.x
  pub weight_up : pos 1 ≤ℤ weights.y
  pub bound_low : pos 0 ≤ℤ bound
  pub all : (s : ℕ) (hand : Hand) (p : Place) → s < length (chain_at chains k).rest → IsObstacle chains points k p
      → IsBesideEdge (chain_at chains k).frame (chain_places (chain_at chains k)) s hand p
      → IsCloseBy weights.x weights.y bound p (chain_at chains k).first.place (places (chain_at chains k).rest)
      → StandsInRow b (row_of s hand) p ⊎ IsBeyond (chain_places (chain_at chains k)) p

-- the vertices of the chain between those number i and j are within the bound of the segment between the two
abbrev pub IsNearPair : Scales → ℤ → Chain → ℕ → ℕ → Type 0
IsNearPair weights bound chain i j = All (λ u. IsWithinBound weights.x weights.y bound (vertex_number chain i).place
    (vertex_number chain j).place u.place) (between (i + 1) j (vertices_of chain))

-- what stands beside the edge number s is on the same hand of the way from a to v
abbrev pub KeepsSides : Flanks → ℕ → Place → Place → Type 0
KeepsSides b s a v = (hand : Hand) (p : Place) → StandsInRow b (row_of s hand) p → IsOnSide hand a v p
