-- Which chains end at a place.
use Rattle.std.specs.Prelude.{◌<◌, ◌↔◌, ℕ, Bool, ◌&&◌, List, [], ◌∷◌, if◌then◌else◌, length, Contains}
use Rattle.std.specs.Ordering.{int_eq}
use Rattle.std.specs.List.Sorted.{IsStrictlyIncreasing}
use Rattle.grid_exact.specs.Geometry.{Place}
use Rattle.arc_map.specs.Chains.{Chain, chain_at, EndsAt}

-- the numbers of the chains with an end at p, rising, each once
pub record AreChainsEndingAt (chains : List Chain) (p : Place) (numbers : List ℕ) : Type 0 where
  pub rising : IsStrictlyIncreasing numbers
  pub all : (k : ℕ) → Contains numbers k ↔ ((k < length chains) × EndsAt p (chain_at chains k))

abbrev pub is_same : Place → Place → Bool
is_same p q = int_eq p.x q.x && int_eq p.y q.y

-- the list that stands beside the place in a table, or none
abbrev pub listed : List Place → List (List ℕ) → Place → List ℕ
listed [] lists p = []
listed (q ∷ places) [] p = []
listed (q ∷ places) (numbers ∷ lists) p = if is_same p q then numbers else listed places lists p

-- a table of chain ends: places, and for each a list of chains
pub record EndLists : Type 0 where
  pub places : List Place
  pub lists : List (List ℕ)

-- the table lists at each place the chains that end there
abbrev pub IsEndTable : List Chain → EndLists → Type 0
IsEndTable chains table = (p : Place) → AreChainsEndingAt chains p (listed table.places table.lists p)
