-- What is to be said of a certificate for a map: Yes, or the first reason against it; and what the chains are then.
use Rattle.std.specs.Prelude.{◌≡◌, ◌⊎◌, ◌+◌, ◌-◌, ◌<◌, ◌≤◌, ◌==◌, ℕ, ℤ, Bool, not, List, [], ◌∷◌, drop, filter, length, map, slice_index}
use Rattle.std.specs.Prelude.{unsigned_abs}
use Rattle.std.specs.List.{enumerate_from, list_any}
use Rattle.grid_exact.specs.Geometry.{Place}
use Rattle.grid_exact.specs.Weights.{Scales}
use Rattle.arc_map.specs.Chains.{Chain, chain_at, IsWithinBound, thinned}
use Rattle.arc_map.specs.Paths.{IsAllowedPair, vertices_at}
use Rattle.arc_map.specs.Records.{Record}
use Rattle.arc_map.specs.Work.{Work, AreKeptIn}
use Rattle.arc_map.specs.declared.refs.ChainRef.{ChainRef}
use Rattle.cert_format.specs.Certificate.{Content}
use Rattle.cert_checker.specs.Difference.{IsFirstDifference}
use Rattle.cert_checker.specs.declared.verdicts.Reason.TheVariants.{Version, Bound, Weights, Held, Chains, Kept, Path, Ends, Layers}
use Rattle.cert_checker.specs.declared.verdicts.Verdict.{Verdict}
use Rattle.cert_checker.specs.declared.verdicts.Verdict.TheVariants.{Yes, No}

-- what is demanded of a certificate
pub record Demand : Type 0 where
  pub version : ℕ
  pub bound : ℤ
  pub weights : Scales

abbrev pub demand : ℕ → ℤ → Scales → Demand
demand version bound weights = record { version = version; bound = bound; weights = weights }

-- ---- what a certificate speaks of

-- the chain's arc is not held
abbrev pub is_free : List ℕ → ℕ × ChainRef → Bool
is_free held chain = not (list_any (λ arc. arc == chain.1.arc) held)

-- the chains whose arcs are not held, each with its number
abbrev pub free_chains : List ℕ → List ChainRef → List (ℕ × ChainRef)
free_chains held refs = filter (is_free held) (enumerate_from 0 refs)

abbrev pub free_numbers : List ℕ → List ChainRef → List ℕ
free_numbers held refs = map (λ chain. chain.0) (free_chains held refs)

-- an arc, and the number of a chain's first position in it
abbrev pub Spot : Type 0
Spot = ℕ × ℕ

abbrev pub record_spot : Record → Spot
record_spot r = (r.arc, r.«from»)

abbrev pub chain_spot : ℕ × ChainRef → Spot
chain_spot chain = (chain.1.arc, chain.1.«from»)

abbrev pub HasVersion : Demand → Content → Type 0
HasVersion d c = c.version ≡ d.version

abbrev pub HasBound : Demand → Content → Type 0
HasBound d c = c.bound ≡ unsigned_abs d.bound

abbrev pub HasWeights : Demand → Content → Type 0
HasWeights d c = (c.wx ≡ unsigned_abs d.weights.x) × (c.wy ≡ unsigned_abs d.weights.y)

-- the certificate is of the version, the bound and the weights that are demanded, and it speaks of the map's held arcs and of its other
-- chains
pub record Agrees (d : Demand) (held : List ℕ) (refs : List ChainRef) (c : Content) : Type 0 where
  pub version : HasVersion d c
  pub bound : HasBound d c
  pub weights : HasWeights d c
  pub held_arcs : c.held ≡ held
  pub chains : map record_spot c.entries ≡ map chain_spot (free_chains held refs)

-- the first of these that fails
abbrev pub IsMismatch : Demand → List ℕ → List ChainRef → Content → Verdict → Type 0
IsMismatch d held refs c (No Version) = ¬ (HasVersion d c)
IsMismatch d held refs c (No Bound) = HasVersion d c × ¬ (HasBound d c)
IsMismatch d held refs c (No Weights) = HasVersion d c × HasBound d c × ¬ (HasWeights d c)
IsMismatch d held refs c (No (Held k)) = HasVersion d c × HasBound d c × HasWeights d c × IsFirstDifference c.held held k
IsMismatch d held refs c (No (Chains k)) = HasVersion d c × HasBound d c × HasWeights d c × (c.held ≡ held)
    × IsFirstDifference (map record_spot c.entries) (map chain_spot (free_chains held refs)) k
IsMismatch d held refs c _ = ⊥

-- ---- one entry

-- each step of the list, from an entry to the next, is a pair of the set
abbrev pub AreSteps : (ℕ → ℕ → Type 0) → List ℕ → Type 0
AreSteps Pair path = (s : ℕ) → s + 1 < length path → Pair (slice_index path s) (slice_index path (s + 1))

-- (i, j) is the first step of the list that is no pair of the set
pub record IsFirstBadStep (Pair : ℕ → ℕ → Type 0) (path : List ℕ) (i j : ℕ) : Type 0 where
  pub number : ℕ
  pub within : number + 1 < length path
  pub start : slice_index path number ≡ i
  pub end : slice_index path (number + 1) ≡ j
  pub before : (s : ℕ) → s < number → Pair (slice_index path s) (slice_index path (s + 1))
  pub bad : ¬ (Pair i j)

-- the layers are one for each vertex, and lead from the number of steps to 0
pub record EndWell (m : ℕ) (path layers : List ℕ) : Type 0 where
  pub count : length layers ≡ m + 1
  pub last : slice_index layers m ≡ 0
  pub start : slice_index layers 0 ≡ length path - 1

-- over no pair of the set the layers fall by more than 1
abbrev pub FallSlowly : (ℕ → ℕ → Type 0) → ℕ → List ℕ → Type 0
FallSlowly Pair m layers = (i j : ℕ) → i < j → j ≤ m → slice_index layers j + 1 < slice_index layers i → ¬ (Pair i j)

-- (i, j) is the first pair of the set, by i, then by j, over which they do
pub record IsFirstFall (Pair : ℕ → ℕ → Type 0) (m : ℕ) (layers : List ℕ) (i j : ℕ) : Type 0 where
  pub ordered : i < j
  pub within : j ≤ m
  pub falls : slice_index layers j + 1 < slice_index layers i
  pub on : Pair i j
  pub before : (x y : ℕ) → x < y → y ≤ m → (x < i) ⊎ ((x ≡ i) × (y < j)) → slice_index layers y + 1 < slice_index layers x → ¬ (Pair x y)

-- the record is right for the chain, of which these pairs are allowed: it keeps vertices from the first to the last by allowed steps,
-- and its layers show that there is no shorter way
pub record IsAccepted (Pair : ℕ → ℕ → Type 0) (k : Chain) (r : Record) : Type 0 where
  pub kept : AreKeptIn k r.kept
  pub steps : AreSteps Pair r.kept
  pub ends : EndWell (length k.rest) r.kept r.layers
  pub falls : FallSlowly Pair (length k.rest) r.layers

-- the first of these that fails, for the entry number e
abbrev pub IsFault : (ℕ → ℕ → Type 0) → Chain → ℕ → Record → Verdict → Type 0
IsFault Pair k e r (No (Kept n)) = (n ≡ e) × ¬ (AreKeptIn k r.kept)
IsFault Pair k e r (No (Path n i j)) = (n ≡ e) × AreKeptIn k r.kept × IsFirstBadStep Pair r.kept i j
IsFault Pair k e r (No (Ends n)) = (n ≡ e) × AreKeptIn k r.kept × AreSteps Pair r.kept × ¬ (EndWell (length k.rest) r.kept r.layers)
IsFault Pair k e r (No (Layers n i j)) = (n ≡ e) × AreKeptIn k r.kept × AreSteps Pair r.kept × EndWell (length k.rest) r.kept r.layers
    × IsFirstFall Pair (length k.rest) r.layers i j
IsFault Pair k e r _ = ⊥

-- ---- all entries

-- the pairs of vertices of the chain number k that are allowed
abbrev pub AllowedIn : Demand → List Place → List Chain → ℕ → ℕ → ℕ → Type 0
AllowedIn d points chains k = IsAllowedPair (IsWithinBound d.weights.x d.weights.y d.bound) chains points k

-- the chains where the chain number k has just the vertices that the record keeps
abbrev pub replaced : List Chain → ℕ → Record → List Chain
replaced chains k r = thinned chains k (vertices_at (chain_at chains k) (drop 1 r.kept))

-- the verdict on the entries from the number e on, which are of the chains with these numbers, each judged in the map as the entries
-- before it have left it; and the chains at the end
abbrev pub AreJudged : Demand → List Place → List Chain → List ℕ → ℕ → List Record → Verdict → List Chain → Type 0
AreJudged d points chains numbers e [] verdict after = (verdict ≡ Yes) × (chains ≡ after)
AreJudged d points chains [] e (r ∷ rs) verdict after = ⊥
AreJudged d points chains (k ∷ ks) e (r ∷ rs) verdict after =
    (IsFault (AllowedIn d points chains k) (chain_at chains k) e r verdict × (chains ≡ after))
    ⊎ (IsAccepted (AllowedIn d points chains k) (chain_at chains k) r
    × AreJudged d points (replaced chains k r) ks (e + 1) rs verdict after)

-- the verdict on the certificate for a map with these held arcs, whose chains are as read; and the chains at the end
abbrev pub IsJudged : Demand → List ℕ → Work → Content → Verdict → List Chain → Type 0
IsJudged d held w c verdict after =
    (IsMismatch d held w.refs c verdict × (w.chains ≡ after))
    ⊎ (Agrees d held w.refs c × AreJudged d w.read.points w.chains (free_numbers held w.refs) 0 c.entries verdict after)
