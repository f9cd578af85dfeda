-- The scratch of a map: the runs of its arcs by the cells that they reach, the polygons that name its arcs, and room for
-- the longest line.
use Rattle.std.specs.Prelude.{◌≡◌, ◌≤◌, ◌+◌, ◌*◌, ℕ, List, length, vec_capacity}
use Rattle.arc_map.specs.Map.{Map}
use Rattle.face_parity.specs.Cells.{AreCellsOf}
use Rattle.face_parity.specs.Naming.{AreUnder}
use Rattle.face_parity.specs.Namings.{AreNamingsOf}
use Rattle.face_parity.specs.Tally.{IsTally}
use Rattle.face_parity.specs.declared.faces.FaceScratch.{FaceScratch}

-- the scratch was made for this map
pub record IsScratchOf (m : Map) (scratch : FaceScratch) : Type 0 where
  pub cells : AreCellsOf m scratch.cells
  pub namings : AreNamingsOf m scratch.namings
  pub under : AreUnder scratch.cells.floors.arcs.items scratch.namings.namings.items
  pub tally : IsTally scratch.tally
  pub polygons : length scratch.tally.odd.items ≡ length m.polygons
  pub room : 64 + 8 * length m.polygons ≤ vec_capacity scratch.text

-- the line that was written last
abbrev pub line_in : FaceScratch → List ℕ
line_in scratch = scratch.text.items
