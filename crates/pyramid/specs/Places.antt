-- Lists of numbers, one for each arc, as they lie in memory.
use Rattle.std.specs.Prelude.{◌≡◌, ◌+◌, ◌<◌, ℕ, List, [], All, Contains, drop, get_or, length, map}
use Rattle.std.specs.Global.{Vec}
use Rattle.arc_map.specs.Records.{Record}

abbrev pub lists_of : List (Vec ℕ) → List (List ℕ)
lists_of lists = map (λ list. list.items) lists

-- the list of the arc
abbrev pub list_of : List (Vec ℕ) → ℕ → List ℕ
list_of lists arc = get_or (lists_of lists) arc []

-- what the record keeps are places of the list of its arc
pub record IsWithin (places : List (Vec ℕ)) (r : Record) : Type 0 where
  pub arc : r.arc < length places
  pub some : 0 < length r.kept
  pub later : All (λ i. r.«from» + i < length (list_of places r.arc)) (drop 1 r.kept)

-- the ranks of the positions at these places become this rank, and the others stay
pub record AreRaised (before after places : List ℕ) (rank : ℕ) : Type 0 where
  pub long : length after ≡ length before
  pub raised : (at : ℕ) → Contains places at → get_or after at 0 ≡ rank
  pub other : (at : ℕ) → ¬ (Contains places at) → get_or after at 0 ≡ get_or before at 0
