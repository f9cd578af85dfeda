-- A pair is allowed exactly where it is of neighbours, or open and near.
use Rattle.std.proofs.Common.{◌≡◌, ◌⊎◌, inl, inr, ℕ, ◌+◌, ◌<◌, ◌≤◌, ◌↔◌, ℤ, List, [], length, All, ap, ◌∙◌, arith}
use Rattle.std.specs.List.{between}
use Rattle.std.proofs.lemmas.List.Edits.{length-between, between_none}
use Rattle.grid_exact.specs.Geometry.{Place}
use Rattle.grid_exact.specs.Weights.{Scales}
use Rattle.arc_map.specs.Vertices.{Vertex}
use Rattle.arc_map.specs.Allowed.IsAllowed.{Neighbours, Shortcut}
use Rattle.arc_map.specs.Chains.{Chain, chain_at, chain_places, IsWithinBound}
use Rattle.arc_map.specs.Paths.{vertices_of, IsAllowedPair}
use Rattle.side_wedge.specs.Laws.{ConsistencyByEdges}
use Rattle.shortcut_graph.specs.Weighed.{AreWeighed, IsNearRun}
use Rattle.shortcut_graph.specs.Doubles.{IsOpenPair}
use Rattle.shortcut_graph.proofs.Near.{near_run}

none_between : (vs : List Vertex) (i j : ℕ) → j ≡ i + 1 → between (i + 1) j vs ≡ []
none_between vs i j e = ap (λ (n : ℕ). between (i + 1) n vs) e ∙ between_none vs (i + 1)

neighbours : (vs : List Vertex) (i j : ℕ) → i < j → j < length vs → between (i + 1) j vs ≡ [] → j ≡ i + 1
neighbours vs i j ij within e = omega (arith, length-between vs (i + 1) j (omega arith), ap length e)

pub allowed_pair : ConsistencyByEdges → (weights : Scales) (bound : ℤ) (chains : List Chain) (points : List Place) (xs ys : List ℤ) (k i j :
    ℕ) → All (λ chain. 0 < length chain.rest) chains → AreWeighed weights (chain_places (chain_at chains k)) xs ys → i < j
    → j ≤ length (chain_at chains k).rest
    → ((j ≡ i + 1) ⊎ (IsOpenPair chains points k i j × IsNearRun xs ys bound i j))
    ↔ IsAllowedPair (IsWithinBound weights.x weights.y bound) chains points k i j
allowed_pair law weights bound chains points xs ys k i j edges weighed ij jm =
    let c = chain_at chains k in
    let consistent = law chains points k i j edges in
    let near = near_run weights c xs ys bound i j weighed ij jm in (
      λ h. elim h [
        | inl e ↦ Neighbours (none_between (vertices_of c) i j e)
        | inr h ↦
            let parts = consistent.0 h.0.0 in
            Shortcut (record {
              near = near.1 h.1;
              points = parts.points;
              starts = parts.starts;
              ends = parts.ends;
              single = λ s e edge same.
                  h.0.1 (record { start = s; end = e; edge = edge; same = same });
            })
      ],
      λ h. elim h [
        | Neighbours e ↦ inl (neighbours (vertices_of c) i j ij (omega arith) e)
        | Shortcut s ↦ inr (
          (
            consistent.1 (record { points = s.points; starts = s.starts; ends = s.ends }),
            λ double.
                s.single double.start double.end double.edge double.same,
          ),
          near.0 s.near,
        )
      ],
    )
