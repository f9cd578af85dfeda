-- What becomes of the arcs of a map in a run: of each some places are left.
use Rattle.std.specs.Prelude.{◌≡◌, ◌↔◌, ◌+◌, ◌-◌, ◌<◌, ℕ, List, length, get_or, map, slice_index, Contains}
use Rattle.std.specs.List.Sorted.{IsStrictlyIncreasing}
use Rattle.grid_exact.specs.Geometry.{Place}
use Rattle.arc_map.specs.Map.{Map}
use Rattle.arc_map.specs.Arranged.{arc_at, nowhere}
use Rattle.arc_map.specs.declared.refs.ChainRef.{ChainRef}
use Rattle.chain_replace.specs.Run.{Terms, NearBy}

-- the place with this number in a list of places
abbrev pub place_at : List Place → ℕ → Place
place_at places i = get_or places i nowhere

-- of a list of places those with these numbers are left: the first and the last are among them, and each place that is skipped is
-- near the edge that skips it
pub record IsThinned (Near : Place → Place → Place → Type 0) (before after : List Place) (numbers : List ℕ) : Type 0 where
  -- of no places none are left, and of some places some
  pub some : 0 < length numbers ↔ 0 < length before
  pub first : slice_index numbers 0 ≡ 0
  pub last : slice_index numbers (length numbers - 1) ≡ length before - 1
  pub rising : IsStrictlyIncreasing numbers
  pub places : after ≡ map (place_at before) numbers
  -- the place number i is near the edge between the n-th number and the next, where i is between them
  pub near : (n i : ℕ) → n + 1 < length numbers → slice_index numbers n < i → i < slice_index numbers (n + 1)
      → Near (place_at before (slice_index numbers n)) (place_at before (slice_index numbers (n + 1))) (place_at before i)

-- what became of an arc of the map with these chains: a held arc is unchanged; of each arc some places are left, both ends of its
-- chains among them
pub record KeepsArc (t : Terms) (m : Map) (refs : List ChainRef) (after : Map) (arc : ℕ) : Type 0 where
  pub held : Contains t.held arc → arc_at after arc ≡ arc_at m arc
  pub numbers : List ℕ
  pub thinned : IsThinned (NearBy t) (arc_at m arc) (arc_at after arc) numbers
  pub chain_ends : (r : ChainRef) → Contains refs r → r.arc ≡ arc → Contains numbers r.«from» × Contains numbers r.to

-- what became of the map: its arcs are thinned, and all else is as it was
pub record ThinsArcs (t : Terms) (m : Map) (refs : List ChainRef) (after : Map) : Type 0 where
  pub count : length after.arcs ≡ length m.arcs
  pub arcs : (arc : ℕ) → arc < length m.arcs → KeepsArc t m refs after arc
  pub points : after.points ≡ m.points
  pub polygons : after.polygons ≡ m.polygons
  pub coded : after.coded ≡ m.coded
