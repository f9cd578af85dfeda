-- How far the ranks of a map have come.
use Rattle.std.specs.Prelude.{◌≡◌, ◌↔◌, ◌-◌, ◌<◌, ◌≤◌, ℕ, ℤ, List, [], get_or, length, map, slice_index, Contains}
use Rattle.std.specs.List.Sorted.{IsStrictlyIncreasing}
use Rattle.grid_exact.specs.Geometry.{Place}
use Rattle.arc_map.specs.Map.{Map}
use Rattle.arc_map.specs.Arcs.{is_inside}
use Rattle.arc_map.specs.Arranged.{IsArranged, arc_at}
use Rattle.chain_replace.specs.Thinned.{place_at}
use Rattle.pyramid.specs.Levels.{Level, IsLevel, DropsNear, rank_at}

-- these places rise from the first to the last of the positions before, and those after are the positions there
pub record ArePlaces (before after : List Place) (places : List ℕ) : Type 0 where
  pub some : 0 < length places
  pub first : slice_index places 0 ≡ 0
  pub last : slice_index places (length places - 1) ≡ length before - 1
  pub rising : IsStrictlyIncreasing places
  pub positions : after ≡ map (place_at before) places

-- a level of the map: its arcs lie in those of the map read, and its faces are the same
pub record IsLevelOf (m : Map) (l : Level) : Type 0 where
  pub count : length l.left.arcs ≡ length m.arcs
  pub arcs : (arc : ℕ) → arc < length m.arcs → ArePlaces (arc_at m arc) (arc_at l.left arc) (l.places arc)
  pub arranged : IsArranged l.left
  pub points : l.left.points ≡ m.points
  pub inside : (p : Place) (polygon : ℕ) → Contains m.points p → is_inside p l.left polygon ≡ is_inside p m polygon

-- a position has rank k or more where the level keeps it
abbrev pub IsRanked : Map → List (List ℕ) → ℕ → Level → Type 0
IsRanked m ranks k l =
    (arc at : ℕ) → arc < length m.arcs → at < length (arc_at m arc) → (k ≤ rank_at ranks arc at) ↔ Contains (l.places arc) at

-- level number k, with the ranks by it
pub record IsReached (m : Map) (bounds : List ℤ) (ranks : List (List ℕ)) (k : ℕ) (l : Level) : Type 0 where
  pub is : IsLevel m bounds k l
  pub of_map : IsLevelOf m l
  pub ranked : IsRanked m ranks k l

-- the ranks by the levels up to number k, which is the last so far
pub record IsUpTo (m : Map) (bounds : List ℤ) (ranks : List (List ℕ)) (k : ℕ) (l : Level) : Type 0 where
  pub some : (arc : ℕ) → arc < length m.arcs → 0 < length (arc_at m arc)
  pub count : length ranks ≡ length m.arcs
  pub long : (arc : ℕ) → arc < length m.arcs → length (get_or ranks arc []) ≡ length (arc_at m arc)
  pub most : (arc at : ℕ) → arc < length m.arcs → at < length (arc_at m arc) → rank_at ranks arc at ≤ k
  pub last : IsReached m bounds ranks k l
  pub levels : (j : ℕ) → j ≤ k → (level : Level) × IsReached m bounds ranks j level
  pub drops : (j : ℕ) → j < k → DropsNear m bounds ranks j
