-- The laws of the made coverage.
use Rattle.std.specs.Prelude.{ℕ, ◌≤◌}
use Rattle.arc_map.specs.Map.{IsMap}
use Rattle.arc_map.specs.Arranged.{IsArranged}
use Rattle.topo_writer.specs.Reading.{ReadsAs}
use Rattle.map_gen.specs.Make.{made}
use Rattle.map_gen.specs.MadeMap.{made_map}

-- no two edges of a made map clash, and no town is on an edge
abbrev pub MadeMapsAreArranged : Type 0
MadeMapsAreArranged = (rows cols seed : ℕ) → IsArranged (made_map rows cols seed)

-- a made map of at most 100 rows and columns is a map, within the limits
abbrev pub MadeMapsAreMaps : Type 0
MadeMapsAreMaps = (rows cols seed : ℕ) → rows ≤ 100 → cols ≤ 100 → IsMap (made_map rows cols seed)

-- the text of a coverage reads as its map
abbrev pub MadeTextReads : Type 0
MadeTextReads = (rows cols seed : ℕ) → 1 ≤ rows → rows ≤ 100 → 1 ≤ cols → cols ≤ 100
    → ReadsAs (made rows cols seed) (made_map rows cols seed)
