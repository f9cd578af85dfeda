-- When a run of a chain may become the segment between its ends, as far as the rest of the map goes.
use Rattle.std.specs.Prelude.{◌≢◌, ◌+◌, ◌<◌, ℕ, List, All, get_or, length}
use Rattle.std.specs.List.{between}
use Rattle.grid_exact.specs.Geometry.{Place}
use Rattle.grid_exact.specs.Segments.{SameEnds}
use Rattle.arc_map.specs.Allowed.{IsConsistent}
use Rattle.arc_map.specs.Arranged.{nowhere}
use Rattle.arc_map.specs.Chains.{Chain, chain_at, chain_places}
use Rattle.cert_checker.specs.Runs.{place_at}

-- two places of the list, one after the other, are v and w in either order
pub record Joins (v w : Place) (places : List Place) : Type 0 where
  pub number : ℕ
  pub within : number + 1 < length places
  pub ends : SameEnds v w (get_or places number nowhere) (get_or places (number + 1) nowhere)

-- the chain with these places lets the run from v over the skipped places to w become the segment vw: none of its vertices changes
-- sides, and none of its edges joins v and w
pub record LetsRun (v : Place) (skipped : List Place) (w : Place) (places : List Place) : Type 0 where
  pub vertices : All (IsConsistent v w skipped) places
  pub single : ¬ (Joins v w places)

-- the feature points and the chains but the chain number k let the run become the segment
pub record IsOpen (chains : List Chain) (points : List Place) (k : ℕ) (v : Place) (skipped : List Place) (w : Place) : Type 0 where
  pub towns : All (IsConsistent v w skipped) points
  pub others : (l : ℕ) → l < length chains → l ≢ k → 0 < length (chain_at chains l).rest
      → LetsRun v skipped w (chain_places (chain_at chains l))

-- the same for the run between the vertices number i and j of the chain number k
abbrev pub IsOpenPair : List Chain → List Place → ℕ → ℕ → ℕ → Type 0
IsOpenPair chains points k i j = IsOpen chains points k (place_at (chain_places (chain_at chains k)) i)
    (between (i + 1) j (chain_places (chain_at chains k))) (place_at (chain_places (chain_at chains k)) j)
