-- The cells of a map.
use Rattle.arc_map.specs.Map.{Map}
use Rattle.std.specs.Prelude.{length}
use Rattle.face_parity.specs.Celled.{AreCelled, AreWideTo}
use Rattle.face_parity.specs.Floors.{AreFloorsOf}
use Rattle.face_parity.specs.Runs.{AreRunsOf}
use Rattle.face_parity.specs.declared.cells.Cells.{Cells}

-- these are the runs of the map, down to its floors: the wide ones, and the others in each cell that they reach
pub record AreCellsOf (m : Map) (cells : Cells) : Type 0 where
  pub floors : AreFloorsOf m cells.floors
  pub runs : AreRunsOf m cells.floors cells.runs.items
  pub wide : AreWideTo cells.runs.items cells.limits (length cells.runs.items) cells.wide.items
  pub celled : AreCelled cells.runs.items cells.limits cells.width cells.height cells.celled.items
