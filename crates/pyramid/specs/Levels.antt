-- Levels of a map, each of which is what a run leaves of the one before it, and the ranks of positions by them.
use Rattle.std.specs.Prelude.{◌≡◌, ◌↔◌, ◌+◌, ◌-◌, ◌<◌, ◌≤◌, ◌==◌, ℕ, zero, suc, nat_le, ℤ, pos, List, [], ◌∷◌, drop, filter, get_or, length}
use Rattle.std.specs.Prelude.{map, slice_index, Contains}
use Rattle.std.specs.List.{flat_map, range_with_len}
use Rattle.grid_exact.specs.Geometry.{Place}
use Rattle.grid_exact.specs.Weights.{Scales}
use Rattle.arc_map.specs.Map.{Map}
use Rattle.arc_map.specs.Arcs.{is_inside}
use Rattle.arc_map.specs.Arranged.{IsArranged, arc_at, position_at}
use Rattle.arc_map.specs.Records.{Record}
use Rattle.chain_replace.specs.Run.{Terms, NearBy, IsOutcome}
use Rattle.chain_replace.specs.Thinned.{place_at}

-- ---- the places that a run keeps

-- the places in its arc as found that the record of a chain keeps after its first
abbrev pub later_places : Record → List ℕ
later_places r = map (λ i. r.«from» + i) (drop 1 r.kept)

-- the places in the arc of this number, as found, that a run with these records keeps: the first, and those that its chains keep
-- after their first
abbrev pub kept_of : List Record → ℕ → List ℕ
kept_of records arc = 0 ∷ flat_map later_places (filter (λ r. r.arc == arc) records)

-- ---- levels

abbrev pub ones : Scales
ones = record { x = pos 1; y = pos 1 }

-- what the run to a level is given: its bound, the weights 1 and no held arcs
abbrev pub level_terms : ℤ → Terms
level_terms bound = record { held = []; bound = bound; weights = ones }

-- a level: the map that is left, and for each arc the places of its positions in the map read
pub record Level : Type 0 where
  pub left : Map
  pub places : ℕ → List ℕ

-- level 0 is the map read
pub record IsMapRead (m : Map) (l : Level) : Type 0 where
  pub left : l.left ≡ m
  pub places : (arc : ℕ) → arc < length m.arcs → l.places arc ≡ range_with_len 0 (length (arc_at m arc))

-- the level that comes after another: the outcome of a run over it, with the places that its records keep
pub record IsNextLevel (bound : ℤ) (before after : Level) : Type 0 where
  pub records : List Record
  pub outcome : IsOutcome before.left (level_terms bound) after.left records
  pub places : (arc : ℕ) → arc < length before.left.arcs → after.places arc ≡ map (slice_index (before.places arc)) (kept_of records arc)

-- the level of this number by these bounds
abbrev pub IsLevel : Map → List ℤ → ℕ → Level → Type 0
IsLevel m bounds zero l = IsMapRead m l
IsLevel m bounds (suc k) l = (before : Level) × IsLevel m bounds k before × IsNextLevel (get_or bounds k (pos 0)) before l

-- ---- ranks

-- the rank of the position with this place in the arc
abbrev pub rank_at : List (List ℕ) → ℕ → ℕ → ℕ
rank_at ranks arc at = get_or (get_or ranks arc []) at 0

-- the places of this rank or more, of the ranks of an arc's positions
abbrev pub places_of_rank : ℕ → List ℕ → List ℕ
places_of_rank k ranks = filter (λ at. nat_le k (get_or ranks at 0)) (range_with_len 0 (length ranks))

-- the positions at a and b of the arc are neighbours in level number k: they have this rank or more, and none between them has
pub record AreNeighbours (ranks : List (List ℕ)) (k arc a b : ℕ) : Type 0 where
  pub first : k ≤ rank_at ranks arc a
  pub second : k ≤ rank_at ranks arc b
  pub none : (i : ℕ) → a < i → i < b → rank_at ranks arc i < k

-- what the ranks tell of level number k
pub record TellsLevel (m : Map) (bounds : List ℤ) (ranks : List (List ℕ)) (k : ℕ) : Type 0 where
  pub level : Level
  pub is : IsLevel m bounds k level
  -- a position has rank k or more where the level keeps it
  pub ranked : (arc at : ℕ) → arc < length m.arcs → at < length (arc_at m arc) → (k ≤ rank_at ranks arc at) ↔ Contains (level.places arc) at
  -- the arcs of the level have just the positions of rank k or more
  pub count : length level.left.arcs ≡ length m.arcs
  pub arcs : (arc : ℕ) → arc < length m.arcs →
      arc_at level.left arc ≡ map (place_at (arc_at m arc)) (places_of_rank k (get_or ranks arc []))
  -- the level is arranged
  pub arranged : IsArranged level.left
  -- it has the ends of the arcs of the map read
  pub starts : (arc : ℕ) → arc < length m.arcs → position_at level.left arc 0 ≡ position_at m arc 0
  pub ends : (arc : ℕ) → arc < length m.arcs →
      position_at level.left arc (length (arc_at level.left arc) - 1) ≡ position_at m arc (length (arc_at m arc) - 1)
  -- each feature point is in the polygons that it is in on the map read
  pub inside : (p : Place) (polygon : ℕ) → Contains m.points p → is_inside p level.left polygon ≡ is_inside p m polygon

-- each vertex that level number k + 1 drops is within the bound of the edge of that level which skips it
abbrev pub DropsNear : Map → List ℤ → List (List ℕ) → ℕ → Type 0
DropsNear m bounds ranks k =
    (arc a at b : ℕ) → arc < length m.arcs → b < length (arc_at m arc) → a < at → at < b
    → rank_at ranks arc at ≡ k → AreNeighbours ranks (k + 1) arc a b
    → NearBy (level_terms (get_or bounds k (pos 0))) (position_at m arc a) (position_at m arc b) (position_at m arc at)

-- the ranks of the positions of the map by the levels of these bounds
pub record AreRanks (m : Map) (bounds : List ℤ) (ranks : List (List ℕ)) : Type 0 where
  -- one rank for each position of each arc, and none above the number of the last level
  pub count : length ranks ≡ length m.arcs
  pub long : (arc : ℕ) → arc < length m.arcs → length (get_or ranks arc []) ≡ length (arc_at m arc)
  pub most : (arc at : ℕ) → arc < length m.arcs → at < length (arc_at m arc) → rank_at ranks arc at ≤ length bounds
  pub levels : (k : ℕ) → k ≤ length bounds → TellsLevel m bounds ranks k
  pub drops : (k : ℕ) → k < length bounds → DropsNear m bounds ranks k
  -- the position of an arc without an edge has the rank of the last level
  pub edgeless : (arc : ℕ) → arc < length m.arcs → length (arc_at m arc) ≡ 1 → rank_at ranks arc 0 ≡ length bounds
