-- The orders in which the meeting of a map is the least.
use Rattle.std.specs.Prelude.{◌≡◌, ◌⊎◌, ◌<◌, ℕ, Option, Some, None, length}
use Rattle.arc_map.specs.Map.{Map}
use Rattle.arc_map.specs.Arranged.{IsEarlier, IsMapEdge, PointIsOn}
use Rattle.arc_map.specs.declared.refs.EdgeRef.{EdgeRef}

-- the first pair of edges is before the second: by the first edge, then by the second
abbrev pub IsLessPair : EdgeRef × EdgeRef → EdgeRef × EdgeRef → Type 0
IsLessPair p q = IsEarlier p.0 q.0 ⊎ ((p.0 ≡ q.0) × IsEarlier p.1 q.1)

-- the first feature point with its edge is before the second: by the feature point, then by the edge
abbrev pub IsLessTown : ℕ × EdgeRef → ℕ × EdgeRef → Type 0
IsLessTown p q = (p.0 < q.0) ⊎ ((p.0 ≡ q.0) × IsEarlier p.1 q.1)

-- x is less than the least one so far, or there is none so far
abbrev pub IsNew : {X : Type 0} → (X → X → Type 0) → X → Option X → Type 0
IsNew IsLess x None = Unit {0}
IsNew IsLess x (Some y) = IsLess x y

-- no feature point is on an edge
abbrev pub HasNoTown : Map → Type 0
HasNoTown m = (k : ℕ) (e : EdgeRef) → k < length m.points → IsMapEdge m e → ¬ (PointIsOn m k e)
