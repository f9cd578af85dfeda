-- What is found of a chain.
use Rattle.std.specs.Prelude.{ℕ, ◌+◌, List, take}
use Rattle.layer_paths.specs.Lay.{Lay}

-- the best path of a chain, its vertices with their layers, and how many items the index of the map may have
pub record Found : Type 0 where
  pub path : List ℕ
  pub lay : Lay
  pub room : ℕ

-- for each vertex the least number of steps to the last
abbrev pub layers_in : Found → List ℕ
layers_in f = take (f.lay.last + 1) f.lay.layers
