-- The laws of an edge of another chain, beside a run of a chain and beside the shortcut that takes the place of the run.
use Rattle.std.specs.Prelude.{◌≡◌, ◌⊎◌, ◌<ℤ◌, ℕ, pos, List, [], ◌∷◌, ◌++◌}
use Rattle.grid_exact.specs.Geometry.{Place, CommonPoint}
use Rattle.grid_exact.specs.Spans.{start_gap, end_gap, placed_in}
use Rattle.grid_exact.specs.Segments.{SameEnds}
use Rattle.grid_exact.specs.Walks.{EachEdge}
use Rattle.grid_exact.specs.Runs.{IsEdgeOf, IsMonotone}
use Rattle.grid_exact.specs.declared.frame.Frame.{Frame}
use Rattle.arc_map.specs.Vertices.{Vertex, places, MeetLawfully}
use Rattle.arc_map.specs.Allowed.{IsConsistent}
use Rattle.arc_map.specs.Clear.{IsWithinChain}
use Rattle.arc_map.specs.Chains.{Chain, chain_at, AreChains, IsClearIn, IsOtherEdge}
use Rattle.arc_map.specs.Paths.{vertices_of}
use Rattle.arc_map.specs.Edges.{EachOf}
use Rattle.segment_tests.specs.Laws.{SpansMeet, AreOrdered}
use Rattle.segment_tests.specs.Meeting.{MeetAtPoint}

-- cd is an edge of another chain than the chain number k, beside a run of that chain from v over the skipped vertices to w:
-- it clashes with no edge of the run, and the vertices within the run end no arc and no edge of another chain
pub record IsBesideRun (frame : Frame) (chains : List Chain) (k : ℕ) (v : Vertex) (skipped : List Vertex) (w c d : Vertex) : Type 0 where
  pub other : IsOtherEdge chains k c d
  pub two_ends : ¬ (c.place ≡ d.place)
  pub one_way : IsMonotone frame v.place (places (skipped ++ w ∷ []))
  pub within : EachOf (IsWithinChain (IsOtherEdge chains k)) skipped
  pub lawful : EachEdge (λ a b. MeetLawfully a b c d) v (skipped ++ w ∷ [])

-- Each run of a clear chain, and each edge of another chain: the edge is beside the run.
abbrev pub ClearRunsAreBeside : Type 0
ClearRunsAreBeside = (chains : List Chain) (points : List Place) (k : ℕ) (before : List Vertex) (v : Vertex) (skipped : List Vertex) (w :
    Vertex) (rest : List Vertex) (c d : Vertex) → AreChains chains → IsClearIn chains points k
    → vertices_of (chain_at chains k) ≡ before ++ (v ∷ (skipped ++ (w ∷ rest))) → IsOtherEdge chains k c d
    → IsBesideRun (chain_at chains k).frame chains k v skipped w c d

-- the edge cd does not change sides where the run from v to w becomes the segment vw: the consistency part at both its ends
pub record StaysBeside (v : Vertex) (skipped : List Vertex) (w c d : Vertex) : Type 0 where
  pub start : IsConsistent v.place w.place (places skipped) c.place
  pub end : IsConsistent v.place w.place (places skipped) d.place

-- the segments ab and cd share an end
pub data ShareEnd (a b c d : Place) : Type 0 where
  Starts : a ≡ c → ShareEnd a b c d
  StartAndEnd : a ≡ d → ShareEnd a b c d
  EndAndStart : b ≡ c → ShareEnd a b c d
  Ends : b ≡ d → ShareEnd a b c d

-- ab and cd run from the first end to the second in the order of the frame, and cd is strictly above ab at both ends of the span
-- that they share
abbrev pub IsOver : Frame → Place → Place → Place → Place → Type 0
IsOver frame a b c d = (pos 0 <ℤ start_gap (placed_in frame a) (placed_in frame b) (placed_in frame c) (placed_in frame d))
    × (pos 0 <ℤ end_gap (placed_in frame a) (placed_in frame b) (placed_in frame c) (placed_in frame d))

-- and strictly below it
abbrev pub IsUnder : Frame → Place → Place → Place → Place → Type 0
IsUnder frame a b c d = (start_gap (placed_in frame a) (placed_in frame b) (placed_in frame c) (placed_in frame d) <ℤ pos 0)
    × (end_gap (placed_in frame a) (placed_in frame b) (placed_in frame c) (placed_in frame d) <ℤ pos 0)

-- the edge cd, from p to q in the order of the frame, has the relation to each edge of the run, from a to b in that order, whose
-- span meets its own
abbrev pub HasToEach : (Place → Place → Place → Place → Type 0) → Frame → Place → List Place → Place → Place → Type 0
HasToEach R frame v ws c d = (a b p q : Place) → IsEdgeOf v ws a b ⊎ IsEdgeOf v ws b a → SameEnds c d p q → SpansMeet frame a b p q
    → R a b p q

-- the edge cd keeps to one side of the run over all that their spans share
abbrev pub KeepsSide : Frame → Place → List Place → Place → Place → Type 0
KeepsSide frame v ws c d = HasToEach (IsOver frame) frame v ws c d ⊎ HasToEach (IsUnder frame) frame v ws c d

-- An edge beside a run that shares no end with it, as its ends go, keeps to one side of the run.
abbrev pub EdgeKeepsSide : Type 0
EdgeKeepsSide = (frame : Frame) (chains : List Chain) (k : ℕ) (v : Vertex) (skipped : List Vertex) (w c d : Vertex)
    → IsBesideRun frame chains k v skipped w c d → ¬ (ShareEnd v.place w.place c.place d.place)
    → KeepsSide frame v.place (places (skipped ++ w ∷ [])) c.place d.place

-- the edges ab and cd have the same strict order at both ends of the span that they share, so they have no common point
pub record AreStrictlyOrdered (frame : Frame) (a b c d : Place) : Type 0 where
  pub ordered : (e f p q : Place) → SameEnds a b e f → SameEnds c d p q → SpansMeet frame e f p q → AreOrdered frame e f p q
  pub apart : ¬ (CommonPoint a b c d)

-- An edge beside a run that stays beside the shortcut and shares no end with it has no common point with the shortcut.
abbrev pub EdgeMissesShortcut : Type 0
EdgeMissesShortcut = (frame : Frame) (chains : List Chain) (k : ℕ) (v : Vertex) (skipped : List Vertex) (w c d : Vertex)
    → IsBesideRun frame chains k v skipped w c d → StaysBeside v skipped w c d → ¬ (ShareEnd v.place w.place c.place d.place)
    → AreStrictlyOrdered frame v.place w.place c.place d.place

-- the edge cd has one point in common with the shortcut vw, and there the two meet lawfully
pub record MeetsOnce (v w c d : Vertex) : Type 0 where
  pub once : MeetAtPoint v.place w.place c.place d.place
  pub lawful : MeetLawfully v w c d

-- An edge beside a run that stays beside the shortcut, shares an end with it, and is no second edge between its ends: it has no
-- second common point with the shortcut.
abbrev pub EdgeMeetsShortcutOnce : Type 0
EdgeMeetsShortcutOnce = (frame : Frame) (chains : List Chain) (k : ℕ) (v : Vertex) (skipped : List Vertex) (w c d : Vertex)
    → IsBesideRun frame chains k v skipped w c d → StaysBeside v skipped w c d → ShareEnd v.place w.place c.place d.place
    → ¬ (SameEnds v.place w.place c.place d.place) → MeetsOnce v w c d
