-- What a Yes says of the map that was judged.
use Rattle.std.specs.Prelude.{◌≡◌, ◌≤◌, ℕ, List, All, Contains, length, map}
use Rattle.grid_exact.specs.Geometry.{Place}
use Rattle.grid_exact.specs.Paths.{IsPath}
use Rattle.arc_map.specs.Arranged.{IsMapArranged}
use Rattle.arc_map.specs.Allowed.{IsPath as IsVertexPath}
use Rattle.arc_map.specs.Chains.{Chain, IsWithinBound, chain_at}
use Rattle.arc_map.specs.Map.{Map}
use Rattle.arc_map.specs.Records.{Record}
use Rattle.arc_map.specs.Vertices.{Vertex}
use Rattle.arc_map.specs.Work.{AreChainsIn, chain_in, work_of}
use Rattle.arc_map.specs.declared.refs.ChainRef.{ChainRef}
use Rattle.cert_format.specs.Certificate.{Content}
use Rattle.monotone_split.specs.Laws.{OutcomeOf}
use Rattle.cert_checker.specs.Judged.{Demand, AllowedIn, IsAccepted, IsJudged}
use Rattle.cert_checker.specs.declared.verdicts.Verdict.TheVariants.{Yes}

-- what a record keeps of a chain of so many edges is a path, and no path has fewer entries
pub record KeepsFewest (Pair : ℕ → ℕ → Type 0) (m : ℕ) (r : Record) : Type 0 where
  pub path : IsPath Pair m r.kept
  pub fewest : (other : List ℕ) → IsPath Pair m other → length r.kept ≤ length other

-- A record that is accepted in a map keeps a path of allowed pairs with fewest entries.
abbrev pub AcceptedKeepFewest : Type 0
AcceptedKeepFewest = (d : Demand) (points : List Place) (chains : List Chain) (k : ℕ) (r : Record)
    → IsAccepted (AllowedIn d points chains k) (chain_at chains k) r
    → KeepsFewest (AllowedIn d points chains k) (length (chain_at chains k).rest) r

-- A map arranged beside held arcs, whose certificate is judged Yes: the judged map is arranged beside them, and each feature point is in
-- the same polygons.
abbrev pub YesIsSound : Type 0
YesIsSound = (d : Demand) (held : List ℕ) (m : Map) (refs : List ChainRef) (c : Content) (after : List Chain) → AreChainsIn m refs
    → IsMapArranged held m → IsJudged d held (work_of m refs) c Yes after → OutcomeOf held m after

-- each skipped vertex is within the bound of the edge that skips it
abbrev pub SkipNearby : (Place → Place → Place → Type 0) → Vertex → List Vertex → Vertex → Type 0
SkipNearby Near v skipped w = All (λ u. Near v.place w.place u.place) skipped

-- the second chain is what is left of the first: its first vertex and its last, and of the others those that are not skipped
pub record IsThinnedNearby (Near : Place → Place → Place → Type 0) (before after : Chain) : Type 0 where
  pub first_stays : after.first ≡ before.first
  pub path : IsVertexPath (SkipNearby Near) before.first before.rest after.rest

-- what is left of the chains of a map: each skipped vertex is within the bound of its edge, and the chains of held arcs stay
pub record KeepsChains (d : Demand) (held : List ℕ) (before after : List Chain) : Type 0 where
  pub each : (k : ℕ) → IsThinnedNearby (IsWithinBound d.weights.x d.weights.y d.bound) (chain_at before k) (chain_at after k)
  pub held_stay : (k : ℕ) → Contains held (chain_at before k).first.arc → chain_at after k ≡ chain_at before k

-- Where the certificate is judged Yes, each chain keeps its ends, each skipped vertex is within the bound of its edge, and the chains of
-- held arcs stay.
abbrev pub YesKeepsChains : Type 0
YesKeepsChains = (d : Demand) (held : List ℕ) (m : Map) (refs : List ChainRef) (c : Content) (after : List Chain)
    → IsJudged d held (work_of m refs) c Yes after → KeepsChains d held (map (chain_in m) refs) after
