-- How many vertices chains have.
use Rattle.std.specs.Prelude.{◌+◌, ℕ, List, length, sum_by}
use Rattle.arc_map.specs.Chains.{Chain}

-- how many vertices the chains have in sum
abbrev pub vertices_in : List Chain → ℕ
vertices_in chains = sum_by (λ (k : Chain). length k.rest + 1) chains
