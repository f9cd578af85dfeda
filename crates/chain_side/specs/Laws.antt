-- The laws of sides and crossings, as facts about all runs and places.
use Rattle.std.specs.Prelude.{◌≡◌, ◌↔◌, false, List, [], ◌∷◌, ◌++◌}
use Rattle.grid_exact.specs.Geometry.{Place}
use Rattle.grid_exact.specs.Crossing.{is_crossed}
use Rattle.grid_exact.specs.Walks.{count_edges, end_of, is_odd, IsOff}
use Rattle.grid_exact.specs.Runs.{IsMonotone}
use Rattle.grid_exact.specs.declared.frame.Frame.{Frame}
use Rattle.chain_side.specs.declared.sides.Side.{Side}
use Rattle.chain_side.specs.Sides.{IsSpanned, IsOutside, SpanningEdge, EdgeUnder, IsSideOf}

-- Of a place on no edge of the closed walk from v over the skipped places to w and back: it has one side of the
-- run and of the segment vw exactly where the walk is crossed from it an even number of times.
abbrev pub SidesTellCrossings : Type 0
SidesTellCrossings = (frame : Frame) (v w : Place) (skipped : List Place) (p : Place) (run segment : Side)
    → IsMonotone frame v (skipped ++ w ∷ []) → IsOff p v (skipped ++ w ∷ v ∷ []) → IsSideOf frame v (skipped ++ w ∷ []) p run
    → IsSideOf frame v (w ∷ []) p segment → (run ≡ segment) ↔ (is_odd (count_edges (is_crossed p) v (skipped ++ w ∷ v ∷ [])) ≡ false)

-- one edge of the run spans p, and no other
pub record OneSpanningEdge (frame : Frame) (v : Place) (ws : List Place) (p : Place) : Type 0 where
  pub edge : SpanningEdge frame v ws p
  pub only : (other : SpanningEdge frame v ws p) → (other.first ≡ edge.first) × (other.second ≡ edge.second)

-- A place strictly between the ends of a monotone run and on no edge of it is spanned by just one edge.
abbrev pub OneEdgeSpans : Type 0
OneEdgeSpans = (frame : Frame) (v : Place) (ws : List Place) (p : Place) → IsMonotone frame v ws → ¬ (EdgeUnder v ws p)
    → IsSpanned frame v (end_of v ws) p → OneSpanningEdge frame v ws p

-- A place outside the span of a monotone run is on no edge of the closed walk along the run and back, and the
-- walk is crossed from it an even number of times.
abbrev pub OutsideIsEven : Type 0
OutsideIsEven = (frame : Frame) (v : Place) (ws : List Place) (p : Place) → IsMonotone frame v ws → IsOutside frame v (end_of v ws) p
    → IsOff p v (ws ++ v ∷ []) × (is_odd (count_edges (is_crossed p) v (ws ++ v ∷ [])) ≡ false)
