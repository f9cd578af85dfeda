-- What a table of passages tells of the positions of rings.
use Rattle.std.specs.Prelude.{◌≡◌, ◌≢◌, ◌⊎◌, ◌<◌, ◌≤◌, ◌↔◌, ℕ, Bool, true, false, List, All, Contains, Option, None, Some, IsTrue, get_or}
use Rattle.std.specs.Prelude.{length, take}
use Rattle.indexmap.specs.IndexMap.{get}
use Rattle.grid_exact.specs.Geometry.{Place}
use Rattle.grid_exact.specs.Segments.{SameEnds}
use Rattle.arc_map.specs.Ends.{is_same}
use Rattle.topo_build.specs.Junctions.{Turn, IsPlain}
use Rattle.topo_build.specs.declared.junctions.Passage.{Passage}
use Rattle.topo_build.specs.declared.junctions.Junctions.{Junctions}

abbrev pub turn : ℕ → Place → Place → Place → Turn
turn ring before at after = record { ring = ring; before = before; at = at; after = after }

-- ---- one position

-- the passage tells of the turns at p: it has the neighbours of one of them, and the number of the last ring with p
pub record IsPassage (turns : List Turn) (p : Place) (s : Passage) : Type 0 where
  pub junction : IsTrue s.is_junction → ¬ (IsPlain turns p)
  pub plain : ¬ (IsTrue s.is_junction) → IsPlain turns p
  pub alike : ¬ (IsTrue s.is_junction) → All (λ t. t.at ≡ p → SameEnds s.before s.after t.before t.after) turns
  pub among : (t : Turn) × Contains turns t × (t.at ≡ p) × (t.before ≡ s.before) × (t.after ≡ s.after)
  pub latest : (t : Turn) × Contains turns t × (t.at ≡ p) × (t.ring ≡ s.ring)
  pub late : All (λ t. t.at ≡ p → t.ring ≤ s.ring) turns

-- what is found at p tells of the turns there
abbrev pub Tells : List Turn → Place → Option Passage → Type 0
Tells turns p None = All (λ t. t.at ≢ p) turns
Tells turns p (Some s) = IsPassage turns p s

-- these neighbours, in this ring, make a junction of the position passed before
abbrev pub MakesJunction : Passage → ℕ → Place → Place → Type 0
MakesJunction s ring before after = (before ≡ after) ⊎ ((s.ring ≡ ring) ⊎ ¬ (SameEnds s.before s.after before after))

-- the passage of a position that is met for the first time
pub record IsFirst (ring : ℕ) (a b : Place) (s : Passage) : Type 0 where
  pub before : s.before ≡ a
  pub after : s.after ≡ b
  pub number : s.ring ≡ ring
  pub junction : IsTrue s.is_junction ↔ (a ≡ b)

-- the passage of a position that is met again
pub record IsAgain (old : Passage) (ring : ℕ) (a b : Place) (s : Passage) : Type 0 where
  pub before : s.before ≡ old.before
  pub after : s.after ≡ old.after
  pub number : s.ring ≡ ring
  pub junction : IsTrue s.is_junction ↔ (IsTrue old.is_junction ⊎ MakesJunction old ring a b)

-- the passage after what was found
abbrev pub IsNext : Option Passage → ℕ → Place → Place → Passage → Type 0
IsNext None ring before after s = IsFirst ring before after s
IsNext (Some old) ring before after s = IsAgain old ring before after s

-- ---- the table

abbrev pub found_at : Junctions → Place → Option Passage
found_at j p = get is_same j.passages p

-- the table tells of all turns
abbrev pub AreTold : List Turn → Junctions → Type 0
AreTold turns j = (p : Place) → Tells turns p (found_at j p)

-- whether what is found is a junction
abbrev pub is_marked : Option Passage → Bool
is_marked None = false
is_marked (Some s) = s.is_junction

-- the table has p as a junction
abbrev pub IsMarked : Junctions → Place → Type 0
IsMarked j p = IsTrue (is_marked (found_at j p))

-- the table has the position number `at` of the list as a junction, and none before it
pub record IsFirstMarked (j : Junctions) (ps : List Place) (at : ℕ) : Type 0 where
  pub inside : at < length ps
  pub before : All (λ p. ¬ (IsMarked j p)) (take at ps)
  pub here : (d : Place) → IsMarked j (get_or ps at d)
