-- The laws of levels, over all maps and bounds.
use Rattle.std.specs.Prelude.{◌≡◌, ◌<◌, ℕ, ℤ, List, [], length}
use Rattle.arc_map.specs.Map.{Map}
use Rattle.arc_map.specs.Arranged.{arc_at}
use Rattle.arc_map.specs.Records.{Record}
use Rattle.chain_replace.specs.Run.{Terms, NearBy, IsOutcome}
use Rattle.chain_replace.specs.Thinned.{IsThinned}
use Rattle.pyramid.specs.Levels.{Level, IsLevel, AreRanks, kept_of}

-- Where no arc is held, the places that the records of a run keep of an arc are those that its outcome leaves.
abbrev pub RunKeepsPlaces : Type 0
RunKeepsPlaces = (m : Map) (t : Terms) (after : Map) (records : List Record) → t.held ≡ [] → IsOutcome m t after records → (arc : ℕ)
    → arc < length m.arcs → 0 < length (arc_at m arc) → IsThinned (NearBy t) (arc_at m arc) (arc_at after arc) (kept_of records arc)

-- By the same bounds two levels of one number are one.
abbrev pub LevelsAreOne : Type 0
LevelsAreOne = (m : Map) (bounds : List ℤ) (k : ℕ) (l other : Level) → IsLevel m bounds k l → IsLevel m bounds k other
    → (l.left ≡ other.left) × ((arc : ℕ) → arc < length l.left.arcs → l.places arc ≡ other.places arc)

-- By the same bounds a map has one list of ranks for each arc.
abbrev pub RanksAreOne : Type 0
RanksAreOne = (m : Map) (bounds : List ℤ) (ranks others : List (List ℕ)) → AreRanks m bounds ranks → AreRanks m bounds others
    → ranks ≡ others
