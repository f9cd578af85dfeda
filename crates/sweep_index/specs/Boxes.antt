-- When the closed boxes round edges meet, and when such a box holds a place.
use Rattle.std.specs.Prelude.{ℤ}
use Rattle.grid_exact.specs.Geometry.{Place, IsBetween}
use Rattle.arc_map.specs.Map.{Map}
use Rattle.arc_map.specs.Arranged.{edge_start, edge_end}
use Rattle.arc_map.specs.declared.refs.EdgeRef.{EdgeRef}

-- the ranges from a to b and from c to d, each in either order, have a number in common
pub record RangesMeet (a b c d : ℤ) : Type 0 where
  pub at : ℤ
  pub first : IsBetween a b at
  pub second : IsBetween c d at

-- the closed boxes round the edges e and f of the map meet
pub record BoxesMeet (m : Map) (e f : EdgeRef) : Type 0 where
  pub across : RangesMeet (edge_start m e).x (edge_end m e).x (edge_start m f).x (edge_end m f).x
  pub up : RangesMeet (edge_start m e).y (edge_end m e).y (edge_start m f).y (edge_end m f).y

-- the closed box round the edge e holds p
pub record BoxHolds (m : Map) (e : EdgeRef) (p : Place) : Type 0 where
  pub across : IsBetween (edge_start m e).x (edge_end m e).x p.x
  pub up : IsBetween (edge_start m e).y (edge_end m e).y p.y
