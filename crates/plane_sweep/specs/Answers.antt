-- What a sweep over a map answers.
use Rattle.std.specs.Prelude.{ℕ}
use Rattle.arc_map.specs.Map.{Map}
use Rattle.arc_map.specs.Arranged.{EdgesClash, HasNoClash, IsEarlier, IsMapEdge, PointIsOn}
use Rattle.arc_map.specs.declared.refs.EdgeRef.{EdgeRef}
use Rattle.plane_sweep.specs.declared.check.Swept.{Swept}
use Rattle.plane_sweep.specs.declared.check.Swept.TheVariants.{Clean, Meets}

-- e and f are edges of the map that clash, e before f
pub record IsClash (m : Map) (e f : EdgeRef) : Type 0 where
  pub first : IsMapEdge m e
  pub second : IsMapEdge m f
  pub ordered : IsEarlier e f
  pub clash : EdgesClash m e f

-- no two edges clash, or these two do
abbrev pub IsAnswer : Map → Swept → Type 0
IsAnswer m Clean = HasNoClash m
IsAnswer m (Meets e f) = IsClash m e f

-- the feature point is on no edge
abbrev pub IsOnNone : Map → ℕ → Type 0
IsOnNone m k = (e : EdgeRef) → IsMapEdge m e → ¬ (PointIsOn m k e)

-- e is the least edge that the feature point is on
pub record IsLeastOn (m : Map) (k : ℕ) (e : EdgeRef) : Type 0 where
  pub edge : IsMapEdge m e
  pub on : PointIsOn m k e
  pub least : (g : EdgeRef) → IsMapEdge m g → IsEarlier g e → ¬ (PointIsOn m k g)
