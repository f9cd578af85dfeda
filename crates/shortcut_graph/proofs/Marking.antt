-- Which pairs have a double edge, and what is found of a pair.
use Rattle.std.proofs.Common.{◌≡◌, inl, inr, ℕ, ◌+◌, ◌-◌, ◌<◌, ◌≤◌, ◌↔◌, ℤ, Bool, false, IsTrue, List, length, subst, sym, arith}
use Rattle.grid_exact.specs.Geometry.{Place}
use Rattle.arc_map.specs.Chains.{Chain, chain_at, AreChains, IsClearIn}
use Rattle.arc_map.specs.Work.{Work}
use Rattle.grid_exact.specs.Weights.{Scales}
use Rattle.side_wedge.specs.Flanks.{Flanks, HoldsReach, IsNearPair}
use Rattle.side_wedge.specs.Obstacles.{IsConsistentPair}
use Rattle.shortcut_graph.specs.Weighed.{IsNearRun}
use Rattle.shortcut_graph.specs.Doubles.{HasDoubleEdge, IsDoubled}
use Rattle.shortcut_graph.specs.Pairs.{AllowedBy, IsReady}
use Rattle.shortcut_graph.proofs.DoubleEdges.{only_at_ends, doubled, double_edge}
use Rattle.shortcut_graph.proofs.Near.{near_run}
use Rattle.shortcut_graph.proofs.Numbers.{length-chain_places}

-- only the pair of the first vertex and the last can have a double edge
pub double_told : (chains : List Chain) (points : List Place) (k i j : ℕ) (t : Bool) → AreChains chains → IsClearIn chains points k
    → i < j → j ≤ length (chain_at chains k).rest
    → (IsTrue t ↔ ((i ≡ 0) × (j ≡ length (chain_at chains k).rest) × IsDoubled chains k)) → IsTrue t ↔ HasDoubleEdge chains k i j
double_told chains points k i j t are clear ij jm test =
    let last = length (chain_at chains k).rest in (
      λ yes.
          let parts = test.0 yes in
          subst (λ (n : ℕ). HasDoubleEdge chains k n j) (sym parts.0)
          (subst (λ (n : ℕ). HasDoubleEdge chains k 0 n) (sym parts.1) (double_edge chains k parts.2)),
      λ double.
          let ends = only_at_ends chains points k i j are clear ij jm double in
          let whole : HasDoubleEdge chains k 0 last = subst (λ (n : ℕ). HasDoubleEdge chains k n last) ends.0
          (subst (λ (n : ℕ). HasDoubleEdge chains k i n) ends.1 double) in
          test.1 (ends.0, ends.1, doubled chains points k are clear (omega arith) whole),
    )

pub never_true : (t : Bool) → t ≡ false → ¬ (IsTrue t)
never_true t e h = cc

-- ---- what is found of a pair

pub by_next : (w : Work) (k : ℕ) (xs ys : List ℤ) (bound : ℤ) (i j : ℕ) → j ≡ i + 1 → AllowedBy w k xs ys bound i j
by_next w k xs ys bound i j e = inl e

pub not_by_double : (w : Work) (k : ℕ) (xs ys : List ℤ) (bound : ℤ) (i j : ℕ) → ¬ (j ≡ i + 1) → HasDoubleEdge w.chains k i j
    → ¬ (AllowedBy w k xs ys bound i j)
not_by_double w k xs ys bound i j apart double allowed = elim allowed [ inl e ↦ apart e | inr h ↦ h.0.1 double ]

pub not_by_far : (w : Work) (k : ℕ) (xs ys : List ℤ) (bound : ℤ) (i j : ℕ) → ¬ (j ≡ i + 1) → ¬ (IsNearRun xs ys bound i j)
    → ¬ (AllowedBy w k xs ys bound i j)
not_by_far w k xs ys bound i j apart far allowed = elim allowed [ inl e ↦ apart e | inr h ↦ far h.1 ]

-- the last vertex of a chain that is ready
last_ready : (w : Work) (k : ℕ) (b : Flanks) (weights : Scales) (bound : ℤ) (xs ys : List ℤ) → IsReady w k b weights bound xs ys
    → length xs ≡ length (chain_at w.chains k).rest + 1
last_ready w k b weights bound xs ys ready = omega (arith, ready.weighed.count, length-chain_places (chain_at w.chains k))

-- the test of a chain that is ready
pub double_ready : (w : Work) (k : ℕ) (b : Flanks) (weights : Scales) (bound : ℤ) (xs ys : List ℤ) (i j : ℕ) (t : Bool)
    → IsReady w k b weights bound xs ys → i < j → j < length xs
    → (IsTrue t ↔ ((i ≡ 0) × (j ≡ length xs - 1) × IsDoubled w.chains k)) → IsTrue t ↔ HasDoubleEdge w.chains k i j
double_ready w k b weights bound xs ys i j t ready ij within test =
    let count = last_ready w k b weights bound xs ys ready in
    let last : length xs - 1 ≡ length (chain_at w.chains k).rest = omega arith in
    double_told w.chains w.read.points k i j t ready.chains ready.clear ij (omega arith)
    (subst (λ (n : ℕ). IsTrue t ↔ ((i ≡ 0) × (j ≡ n) × IsDoubled w.chains k)) last test)

-- a near pair without a double edge, of which it is told whether it is consistent
pub by_sides : (w : Work) (k : ℕ) (b : Flanks) (weights : Scales) (bound : ℤ) (xs ys : List ℤ) (i j : ℕ) (P : Type 0)
    → IsReady w k b weights bound xs ys → i < j → j < length xs → ¬ (j ≡ i + 1) → ¬ (HasDoubleEdge w.chains k i j)
    → IsNearRun xs ys bound i j → (IsConsistentPair w.chains w.read.points k i j → P)
    → ((scales : Scales) (e : ℤ) → HoldsReach w.chains w.read.points k scales e b → P → IsNearPair scales e (chain_at w.chains k) i j
    → IsConsistentPair w.chains w.read.points k i j) → P ↔ AllowedBy w k xs ys bound i j
by_sides w k b weights bound xs ys i j P ready ij within apart single near told back =
    let count = last_ready w k b weights bound xs ys ready in
    let here = (near_run weights (chain_at w.chains k) xs ys bound i j ready.weighed ij (omega arith)).1 near in (
      λ t. inr ((back weights bound ready.reach t here, single), near),
      λ allowed. elim allowed [ inl e ↦ absurd (apart e) | inr h ↦ told h.0.0 ],
    )
