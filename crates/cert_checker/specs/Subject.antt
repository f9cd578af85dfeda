-- A chain that is judged and what is said of it, as they are passed about; and where layers fall.
use Rattle.std.specs.Prelude.{◌≡◌, ◌+◌, ◌<◌, ℕ, ℤ, List, length, map, slice_index}
use Rattle.grid_exact.specs.Geometry.{Place}
use Rattle.grid_exact.specs.Near.{weighted}
use Rattle.grid_exact.specs.Weights.{Scales}
use Rattle.arc_map.specs.Chains.{chain_at, chain_places, AreChains, IsClearIn, IsWithinBound}
use Rattle.arc_map.specs.Paths.{IsAllowedPair}
use Rattle.arc_map.specs.Records.{Record}
use Rattle.arc_map.specs.Work.{Work}
use Rattle.arc_map.specs.declared.records.ChainRecord.{ChainRecord}

-- the chain number k is in the map and clear, and these are its places with their coordinates times the weights
pub record IsSubjectOf (w : Work) (k : ℕ) (places : List Place) (weights : Scales) : Type 0 where
  pub known : k < length w.chains
  pub chains : AreChains w.chains
  pub clear : IsClearIn w.chains w.read.points k
  pub weighed : places ≡ map (weighted weights.x weights.y) (chain_places (chain_at w.chains k))

-- the pairs of the chain number k that are allowed with these weights and this bound
abbrev pub pairs_of : Work → ℕ → Scales → ℤ → ℕ → ℕ → Type 0
pairs_of w k weights bound = IsAllowedPair (IsWithinBound weights.x weights.y bound) w.chains w.read.points k

-- the number of a chain's edges
abbrev pub edge_count : Work → ℕ → ℕ
edge_count w k = length (chain_at w.chains k).rest

-- what the record says
abbrev pub record_of : ChainRecord → Record
record_of r = record { arc = r.arc; «from» = r.«from»; kept = r.kept.now; layers = r.layers.now }

-- over no pair of the set, from the vertex number i to one before that number `end`, the layers fall by more than 1
abbrev pub FallNowhere : (ℕ → ℕ → Type 0) → List ℕ → ℕ → ℕ → Type 0
FallNowhere Pair layers i end = (j : ℕ) → i < j → j < end → slice_index layers j + 1 < slice_index layers i → ¬ (Pair i j)

-- j is the first vertex for which they do
pub record FallFirstAt (Pair : ℕ → ℕ → Type 0) (layers : List ℕ) (i j : ℕ) : Type 0 where
  pub ordered : i < j
  pub within : j < length layers
  pub falls : slice_index layers j + 1 < slice_index layers i
  pub on : Pair i j
  pub before : FallNowhere Pair layers i j
