-- What is left live of a run of items where all but some of them are dropped.
use Rattle.std.specs.Prelude.{◌≡◌, ◌+◌, ◌<◌, ℕ, Bool, IsTrue, false, List, get_or, Contains}

-- of the items from the number first on, `count` of them, only those at the places kept are live now, and those and all
-- others are as they were
pub record AreDropped (kept : List ℕ) (first count : ℕ) (before after : List Bool) : Type 0 where
  pub only : (at : ℕ) → at < count → IsTrue (get_or after (first + at) false) → Contains kept at
  pub others : (n : ℕ) → ((at : ℕ) → at < count → n ≡ first + at → Contains kept at) → get_or after n false ≡ get_or before n false
