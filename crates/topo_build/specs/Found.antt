-- How a piece is found by its first edge among the arcs that were made before.
use Rattle.std.specs.Prelude.{◌≡◌, ◌<◌, ◌++◌, ℤ, pos, List, [], ◌∷◌, length}
use Rattle.grid_exact.specs.Geometry.{Place}
use Rattle.topo_build.specs.Cyclic.{closed_from}
use Rattle.topo_build.specs.References.{arc_of, walk_of}

-- b is next after a somewhere in the list
pub record AreNext (a b : Place) (ps : List Place) : Type 0 where
  pub before : List Place
  pub behind : List Place
  pub is : ps ≡ before ++ a ∷ b ∷ behind

-- the list begins with a, then b
pub record StartsWith (a b : Place) (ps : List Place) : Type 0 where
  pub behind : List Place
  pub is : ps ≡ a ∷ b ∷ behind

-- the arc has the edge from a to b in the direction of the reference
pub record IsAlong (arcs : List (List Place)) (a b : Place) (r : ℤ) : Type 0 where
  pub known : arc_of r < length arcs
  pub has : AreNext a b (walk_of arcs r)

-- the reference of a piece is that of the arc with its first edge, or else that of the next arc
pub data IsFound (piece : List Place) (arcs : List (List Place)) (r : ℤ) (after : List (List Place)) : Type 0 where
  Found : (a b : Place) → StartsWith a b piece → IsAlong arcs a b r → after ≡ arcs → IsFound piece arcs r after
  New : (a b : Place) → StartsWith a b piece → ((s : ℤ) → ¬ (IsAlong arcs a b s)) → r ≡ pos (length arcs) → after ≡ arcs ++ piece ∷ []
      → IsFound piece arcs r after

abbrev pub IsRingFound : List Place → List (List Place) → ℤ → List (List Place) → Type 0
IsRingFound ring arcs r after = IsFound (closed_from ring 0) arcs r after
