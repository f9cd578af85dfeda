-- A run over the chains of a map: each is replaced in turn by its best path in the map as found.
use Rattle.std.specs.Prelude.{◌≡◌, ◌+◌, ◌⊎◌, ℕ, zero, suc, ℤ, List, [], ◌∷◌, ◌++◌, length, Contains}
use Rattle.grid_exact.specs.Geometry.{Place}
use Rattle.grid_exact.specs.Weights.{Scales}
use Rattle.grid_exact.specs.Paths.{IsBestPath, AreLayers}
use Rattle.arc_map.specs.Map.{Map}
use Rattle.arc_map.specs.Arcs.{map_now}
use Rattle.arc_map.specs.Chains.{chain_at, IsWithinBound}
use Rattle.arc_map.specs.Paths.{IsAllowedPair}
use Rattle.arc_map.specs.Records.{Record}
use Rattle.arc_map.specs.Work.{Work, work_of, AreChainsIn, thinned_work}
use Rattle.arc_map.specs.declared.refs.ChainRef.{ChainRef}
use Rattle.chain_replace.specs.declared.terms.Terms.{Terms as GivenTerms}

-- what a run is given besides the map: the arcs that are held, the bound and the weights
abbrev pub Terms : Type 0
Terms = GivenTerms

-- within the bound, with the weights
abbrev pub NearBy : Terms → Place → Place → Place → Type 0
NearBy t = IsWithinBound t.weights.x t.weights.y t.bound

-- the pairs of the chain number k that are allowed in the map at work, with this bound and these weights
abbrev pub IsAllowedHere : ℤ → Scales → Work → ℕ → ℕ → ℕ → Type 0
IsAllowedHere bound weights w k = IsAllowedPair (IsWithinBound weights.x weights.y bound) w.chains w.read.points k

abbrev pub IsAllowedIn : Terms → Work → ℕ → ℕ → ℕ → Type 0
IsAllowedIn t w k = IsAllowedHere t.bound t.weights w k

-- the number of the last vertex of the chain number k
abbrev pub last_of : Work → ℕ → ℕ
last_of w k = length (chain_at w.chains k).rest

-- the record of the chain number k in the map as found: its best path and its layers
pub record IsRecordOf (t : Terms) (w : Work) (k : ℕ) (r : Record) : Type 0 where
  pub arc : r.arc ≡ (chain_at w.chains k).first.arc
  pub «from» : r.«from» ≡ (chain_at w.chains k).first.at
  pub best : IsBestPath (IsAllowedIn t w k) (last_of w k) r.kept
  pub layers : AreLayers (IsAllowedIn t w k) (last_of w k) r.layers

-- the arc of the chain number k is held
abbrev pub IsChainHeld : Terms → Work → ℕ → Type 0
IsChainHeld t w k = Contains t.held (chain_at w.chains k).first.arc

-- from the map w, the chains from number k on, `more` of them, are replaced one after the other, each by its best path in
-- the map as found; a chain of a held arc stays, and has no record
abbrev pub AreReplaced : Terms → Work → ℕ → ℕ → List Record → Work → Type 0
AreReplaced t w k zero records after = (records ≡ []) × (w ≡ after)
AreReplaced t w k (suc more) records after =
    (IsChainHeld t w k × AreReplaced t w (suc k) more records after)
    ⊎ (¬ (IsChainHeld t w k) × (r : Record) × (rest : List Record) × (records ≡ r ∷ rest) × IsRecordOf t w k r
    × AreReplaced t (thinned_work w k r.kept) (suc k) more rest after)

-- the outcome of a run over the map, and its records
pub record IsOutcome (m : Map) (t : Terms) (after : Map) (records : List Record) : Type 0 where
  pub refs : List ChainRef
  pub chains : AreChainsIn m refs
  pub last : Work
  pub replaced : AreReplaced t (work_of m refs) 0 (length refs) records last
  pub made : after ≡ map_now m last.chains

-- ---- a run under way

-- how far a run has come: the map at work, the number of the next chain, and the records so far
pub record Progress : Type 0 where
  pub work : Work
  pub terms : Terms
  pub next : ℕ
  pub records : List Record

-- the map that its chains make up now
abbrev pub map_so_far : Progress → Map
map_so_far p = map_now p.work.read p.work.chains

-- the run over the map has come to its first chain
pub record IsStart (m : Map) (t : Terms) (p : Progress) : Type 0 where
  pub refs : List ChainRef
  pub chains : AreChainsIn m refs
  pub work : p.work ≡ work_of m refs
  pub terms : p.terms ≡ t
  pub next : p.next ≡ 0
  pub records : p.records ≡ []

-- the next chain is replaced by its best path and its record goes last, or it stays, where its arc is held
pub record IsStep (old new : Progress) : Type 0 where
  pub terms : new.terms ≡ old.terms
  pub next : new.next ≡ old.next + 1
  pub added : List Record
  pub records : new.records ≡ old.records ++ added
  pub replaced : AreReplaced old.terms old.work old.next 1 added new.work
