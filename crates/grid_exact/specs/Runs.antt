-- Runs: walks that go strictly one way in the order of a frame, and the edges of walks.
use Rattle.std.specs.Prelude.{◌≡◌, ◌⊎◌, List, [], ◌∷◌}
use Rattle.grid_exact.specs.Geometry.{Place}
use Rattle.grid_exact.specs.Frame.{IsBeforeIn}
use Rattle.grid_exact.specs.Walks.{EachEdge}
use Rattle.grid_exact.specs.declared.frame.Frame.{Frame}

-- cd is an edge of the walk from v along ws
abbrev pub IsEdgeOf : {A : Type 0} → A → List A → A → A → Type 0
IsEdgeOf v [] c d = ⊥
IsEdgeOf v (w ∷ ws) c d = ((v ≡ c) × (w ≡ d)) ⊎ IsEdgeOf w ws c d

-- each edge of the walk has the relation to each later one
abbrev pub EachTwoEdges : {A : Type 0} → (A → A → A → A → Type 0) → A → List A → Type 0
EachTwoEdges R v [] = Unit {0}
EachTwoEdges R v (w ∷ ws) = EachEdge (R v w) w ws × EachTwoEdges R w ws

-- the walk runs strictly one way in the order of the frame
pub data IsMonotone (frame : Frame) (v : Place) (ws : List Place) : Type 0 where
  Increasing : EachEdge (λ a b. IsBeforeIn frame a b) v ws → IsMonotone frame v ws
  Decreasing : EachEdge (λ a b. IsBeforeIn frame b a) v ws → IsMonotone frame v ws
