-- How far a walk is cut at its junctions.
use Rattle.std.specs.Prelude.{◌≡◌, ◌+◌, ℕ, ℤ, List, ◌∷◌, ◌++◌, All, drop, length}
use Rattle.grid_exact.specs.Geometry.{Place}
use Rattle.topo_build.specs.Built.{AreTaken}
use Rattle.topo_build.specs.Found.{IsFound}

-- where these arcs were made before, these are the references of the whole walk, and `after` are the arcs then
abbrev pub IsCut : (Place → Type 0) → List Place → List (List Place) → List ℤ → List (List Place) → Type 0
IsCut Junction walk arcs refs after = (v : Place) (ws : List Place) → walk ≡ v ∷ ws → AreTaken IsFound Junction v ws arcs refs after

-- the walk is cut up to the place `start`, and has no junction between it and the place `end`; whatever references go on from there
-- complete those so far
pub record IsStage (Junction : Place → Type 0) (walk : List Place) (start end : ℕ) (arcs : List (List Place)) (refs : List ℤ) (now :
    List (List Place)) : Type 0 where
  pub first : Place
  pub inner : List Place
  pub from_start : drop start walk ≡ first ∷ (inner ++ drop end walk)
  pub count : start + 1 + length inner ≡ end
  pub plain : All (λ p. ¬ (Junction p)) inner
  pub goes_on : (more : List ℤ) (after : List (List Place)) → AreTaken IsFound Junction first (inner ++ drop end walk) now more after
      → IsCut Junction walk arcs (refs ++ more) after
