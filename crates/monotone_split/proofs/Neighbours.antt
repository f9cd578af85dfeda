-- Arcs by tests of their neighbours.
use Rattle.std.proofs.Common.{◌≢◌, ℕ, suc, ◌+◌, ◌<◌, ◌≤◌, List, [], ◌∷◌, length, get_or, subst, arith, add-one}
use Rattle.grid_exact.specs.Geometry.{Place}
use Rattle.grid_exact.specs.Walks.{EachEdge}
use Rattle.arc_map.specs.Map.{IsArc}
use Rattle.arc_map.specs.Arranged.{nowhere}

differ_from : (p : Place) (ps : List Place) → ((k : ℕ) → k < length ps → get_or (p ∷ ps) k nowhere ≢ get_or (p ∷ ps) (suc k) nowhere)
    → EachEdge (λ a b. a ≢ b) p ps
differ_from p [] f = tt
differ_from p (q ∷ ps) f = (f 0 (omega arith), differ_from q ps (λ k below. f (suc k) (omega arith)))

pub arc_by_tests : (ps : List Place) (n : ℕ) → 0 < length ps → length ps ≤ n + 1
    → ((k : ℕ) → k < n → get_or ps k nowhere ≢ get_or ps (k + 1) nowhere) → IsArc ps
arc_by_tests [] n some all f = absurd (omega arith)
arc_by_tests (p ∷ ps) n some all f = differ_from p ps (λ k below.
    subst (λ (j : ℕ). get_or (p ∷ ps) k nowhere ≢ get_or (p ∷ ps) j nowhere) (add-one k) (f k (omega arith)))
