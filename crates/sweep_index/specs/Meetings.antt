-- Which things in bands meet.
use Rattle.std.specs.Prelude.{◌/◌, ◌&&◌, ◌||◌, ◌==◌, not, nat_lt, nat_le, max, ℕ, Bool, List, [], ◌∷◌, ◌++◌, map, filter, drop}
use Rattle.sweep_index.specs.declared.things.Extent.{Extent}
use Rattle.sweep_index.specs.declared.things.Banded.{Banded}

-- the boxes have a point in common
abbrev pub do_meet : Extent → Extent → Bool
do_meet e f = (nat_le e.west f.east && nat_le f.west e.east) && (nat_le e.south f.north && nat_le f.south e.north)

-- the things meet, and this band of both is the lowest such band
abbrev pub is_met : ℕ → Banded × Banded → Bool
is_met height pair = (pair.1.band == pair.0.band) && (do_meet pair.0.extent pair.1.extent
    && (max pair.0.extent.south pair.1.extent.south / height == pair.0.band))

-- the second thing is in another band, or past the east of the first
abbrev pub is_behind : Banded → Banded → Bool
is_behind e f = not (f.band == e.band) || nat_lt e.extent.east f.extent.west

abbrev pub with_head : Banded → Banded → Banded × Banded
with_head e f = (e, f)

-- the meetings of a thing with those of the others that are not passed
abbrev pub meetings_beside : ℕ → Banded → List Banded → ℕ → List (Banded × Banded)
meetings_beside height e others passed = filter (is_met height) (map (with_head e) (drop passed others))

-- the meetings of each thing with the later ones
abbrev pub meetings_of : ℕ → List Banded → List (Banded × Banded)
meetings_of height [] = []
meetings_of height (e ∷ es) = meetings_beside height e es 0 ++ meetings_of height es

-- the same, without those of the first thing with the ones that it has passed
abbrev pub meetings_from : ℕ → List Banded → ℕ → List (Banded × Banded)
meetings_from height [] passed = []
meetings_from height (e ∷ es) passed = meetings_beside height e es passed ++ meetings_of height es
