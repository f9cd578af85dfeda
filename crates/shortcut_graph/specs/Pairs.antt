-- The pairs of a chain under search.
use Rattle.std.specs.Prelude.{◌≡◌, ◌⊎◌, ◌+◌, ◌<◌, ℕ, ℤ, List, length}
use Rattle.grid_exact.specs.Weights.{Scales}
use Rattle.lane_kernels.specs.Places.{place_at}
use Rattle.arc_map.specs.Chains.{AreChains, chain_at, chain_places, IsClearIn}
use Rattle.arc_map.specs.Work.{Work}
use Rattle.error_cone.specs.Courses.{RunsAlong}
use Rattle.side_wedge.specs.Flanks.{Flanks, HoldsReach, IsBeside}
use Rattle.shortcut_graph.specs.Weighed.{AreWeighed, IsNearRun}
use Rattle.shortcut_graph.specs.Doubles.{IsOpenPair}
use Rattle.shortcut_graph.specs.Hints.{AreHints}
use Rattle.shortcut_graph.specs.declared.pairs.Findings.{Findings}

-- the pair (i, j) of the chain number k is of neighbours, or open and near
abbrev pub AllowedBy : Work → ℕ → List ℤ → List ℤ → ℤ → ℕ → ℕ → Type 0
AllowedBy w k xs ys bound i j = (j ≡ i + 1) ⊎ (IsOpenPair w.chains w.read.points k i j × IsNearRun xs ys bound i j)

-- the chain number k of the map is clear, these stand beside it, as far as the bound reaches, and the lists are its coordinates with the
-- weights
pub record IsReady (w : Work) (k : ℕ) (flanks : Flanks) (weights : Scales) (bound : ℤ) (xs ys : List ℤ) : Type 0 where
  pub chain : k < length w.chains
  pub chains : AreChains w.chains
  pub clear : IsClearIn w.chains w.read.points k
  pub beside : IsBeside w.chains w.read.points k flanks
  pub reach : HoldsReach w.chains w.read.points k weights bound flanks
  pub weighed : AreWeighed weights (chain_places (chain_at w.chains k)) xs ys

-- the findings are true of the chain number k, of which the lists are the coordinates
pub record AreFindings (f : Findings) (w : Work) (k : ℕ) (xs ys : List ℤ) (bound : ℤ) : Type 0 where
  pub runs : RunsAlong f.course.direction.frame f.course.direction.rising (place_at xs ys) (length xs)
  pub true_hints : AreHints f.hints xs ys bound

-- no vertex past `reach` is near from the start
pub record IsReach (xs ys : List ℤ) (bound : ℤ) (start reach : ℕ) : Type 0 where
  pub after : start < reach
  pub within : reach < length xs
  pub far : (j : ℕ) → reach < j → j < length xs → ¬ (IsNearRun xs ys bound start j)
