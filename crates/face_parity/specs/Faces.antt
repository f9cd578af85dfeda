-- What is turned at a run.
use Rattle.std.specs.Prelude.{◌≤◌, ◌==◌, ◌&&◌, ℕ, Bool, List, Contains}
use Rattle.grid_exact.specs.Geometry.{Place}
use Rattle.arc_map.specs.Map.{Map}
use Rattle.face_parity.specs.Parities.{pass_oddly}
use Rattle.face_parity.specs.Runs.{is_run_crossed}
use Rattle.face_parity.specs.declared.runs.Run.{Run}

-- whether a polygon is turned at the run, of which these arcs count: an odd number of its edges are crossed from p, and its arc
-- is among these an odd number of times
abbrev pub turns : Map → Place → List ℕ → Run → Bool
turns m p refs r = is_run_crossed m p r && pass_oddly (λ arc. arc == r.arc) refs

-- if the arc of the run is among these, the floor of the run is not above y
abbrev pub IsFloored : List ℕ → ℕ → Run → Type 0
IsFloored refs y r = Contains refs r.arc → r.floor ≤ y
