-- The arcs of a map, cut into runs of edges.
use Rattle.std.specs.Prelude.{◌≡◌, ◌+◌, ◌-◌, ◌^◌, ◌<◌, ◌≤◌, ◌==◌, ◌&&◌, ℕ, Bool, List, All, length, take, drop}
use Rattle.grid_exact.specs.Geometry.{Place}
use Rattle.arc_map.specs.Map.{Map}
use Rattle.arc_map.specs.Arcs.{is_list_crossed_oddly}
use Rattle.arc_map.specs.Arranged.{arc_at}
use Rattle.face_parity.specs.Bounds.{IsEndsOf, IsRound}
use Rattle.face_parity.specs.Floors.{IsUnder}
use Rattle.face_parity.specs.Parities.{pass_oddly}
use Rattle.face_parity.specs.declared.floors.Floors.{Floors}
use Rattle.face_parity.specs.declared.runs.Run.{Run}

-- the positions of the run, where its arc has these
abbrev pub run_part : List Place → Run → List Place
run_part ps r = take (r.to + 1 - r.from) (drop r.from ps)

-- it is a run of the arc with these positions: it has an edge, its box is round its positions, and its ends are theirs
pub record IsRunIn (ps : List Place) (r : Run) : Type 0 where
  pub edge : r.from < r.to
  pub within : r.to < length ps
  pub round : IsRound (run_part ps r) r.bounds
  pub ends : IsEndsOf (run_part ps r) r.ends
  pub small : (r.bounds.east ≤ 2 ^ 30) × (r.bounds.north ≤ 2 ^ 30)
  pub low : r.floor ≤ r.bounds.north

-- it is a run of the map, and its floor is not above that of its arc
pub record IsRunOf (m : Map) (floors : Floors) (r : Run) : Type 0 where
  pub run : IsRunIn (arc_at m r.arc) r
  pub floor : IsUnder floors r.arc r.floor

-- whether an odd number of edges of the run are crossed from p
abbrev pub is_run_crossed : Map → Place → Run → Bool
is_run_crossed m p r = is_list_crossed_oddly p (run_part (arc_at m r.arc) r)

-- whether it is a run of this arc of which an odd number of edges are crossed from p
abbrev pub is_part_crossed : Map → Place → ℕ → Run → Bool
is_part_crossed m p arc r = is_run_crossed m p r && (arc == r.arc)

-- these are runs of the arcs before this one, and make up those arcs: as many edges of them are crossed from a place, by parity
pub record AreRunsBefore (m : Map) (floors : Floors) (arc : ℕ) (runs : List Run) : Type 0 where
  pub only : All (IsRunOf m floors) runs
  pub before : All (λ r. r.arc < arc) runs
  pub crossed : (p : Place) (k : ℕ) → k < arc → pass_oddly (is_part_crossed m p k) runs ≡ is_list_crossed_oddly p (arc_at m k)

-- these are runs of the arcs of the map, and make them up
pub record AreRunsOf (m : Map) (floors : Floors) (runs : List Run) : Type 0 where
  pub only : All (IsRunOf m floors) runs
  pub few : length runs ≤ 2 ^ 20
  pub crossed : (p : Place) (k : ℕ) → pass_oddly (is_part_crossed m p k) runs ≡ is_list_crossed_oddly p (arc_at m k)
