-- To be near with weights is to be within the bound at the weighted places.
use Rattle.std.proofs.Common.{◌≡◌, ℕ, ◌+◌, ◌-◌, ◌<◌, ◌≤◌, ◌↔◌, ℤ, List, length, get_or, All, subst, sym, ap, ◌∙◌, arith}
use Rattle.std.specs.List.{between}
use Rattle.std.proofs.lemmas.List.{get_or_default}
use Rattle.std.proofs.lemmas.List.Edits.{length-between, get_or-between}
use Rattle.grid_exact.specs.Geometry.{IsWithin}
use Rattle.grid_exact.specs.Near.{weighted}
use Rattle.grid_exact.specs.Weights.{Scales}
use Rattle.grid_exact.proofs.Commons.{same_place}
use Rattle.grid_exact.proofs.Weighted.{near_is_within}
use Rattle.lane_kernels.specs.Places.{place_at}
use Rattle.arc_map.specs.Vertices.{Vertex}
use Rattle.arc_map.specs.Chains.{Chain, chain_places, IsWithinBound}
use Rattle.arc_map.specs.Paths.{vertices_of, vertex_at}
use Rattle.shortcut_graph.specs.Weighed.{AreWeighed, IsNearRun}
use Rattle.shortcut_graph.proofs.Numbers.{length-chain_places, place-number}

place_at-weighed : (weights : Scales) (c : Chain) (xs ys : List ℤ) (k : ℕ) → AreWeighed weights (chain_places c) xs ys → k ≤ length c.rest
    → place_at xs ys k ≡ weighted weights.x weights.y (vertex_at c k).place
place_at-weighed weights c xs ys k are h =
    let within : k < length (chain_places c) = omega (arith, length-chain_places c) in
    same_place _ _ (are.across k within) (are.up k within) ∙ ap (weighted weights.x weights.y) (place-number c k h)

-- the vertex number k
near_here : (weights : Scales) (c : Chain) (xs ys : List ℤ) (bound : ℤ) (i j k : ℕ) → AreWeighed weights (chain_places c) xs ys
    → i ≤ length c.rest → j ≤ length c.rest → k ≤ length c.rest
    → IsWithinBound weights.x weights.y bound (vertex_at c i).place (vertex_at c j).place (vertex_at c k).place
    ↔ IsWithin (place_at xs ys i) (place_at xs ys j) (place_at xs ys k) bound
near_here weights c xs ys bound i j k are im jm km =
    rw (place_at-weighed weights c xs ys i are im, place_at-weighed weights c xs ys j are jm, place_at-weighed weights c xs ys k are km)
    (near_is_within weights.x weights.y (vertex_at c i).place (vertex_at c j).place (vertex_at c k).place bound)

pub near_run : (weights : Scales) (c : Chain) (xs ys : List ℤ) (bound : ℤ) (i j : ℕ) → AreWeighed weights (chain_places c) xs ys → i < j
    → j ≤ length c.rest
    → All (λ v. IsWithinBound weights.x weights.y bound (vertex_at c i).place (vertex_at c j).place v.place)
    (between (i + 1) j (vertices_of c)) ↔ IsNearRun xs ys bound i j
near_run weights c xs ys bound i j are ij jm =
    let vs = vertices_of c in
    let count : length (between (i + 1) j vs) ≡ j - (i + 1) = length-between vs (i + 1) j (omega arith) in
    let here : (k : ℕ) → k ≤ length c.rest
    → IsWithinBound weights.x weights.y bound (vertex_at c i).place (vertex_at c j).place (vertex_at c k).place
    ↔ IsWithin (place_at xs ys i) (place_at xs ys j) (place_at xs ys k) bound
    = (λ k km. near_here weights c xs ys bound i j k are (omega arith) jm km) in (
      λ all k low high.
          let past : i + 1 + (k - (i + 1)) ≡ k = omega arith in
          let inside : k - (i + 1) < length (between (i + 1) j vs) = omega arith in
          let same : get_or (between (i + 1) j vs) (k - (i + 1)) c.first ≡ vertex_at c k =
          get_or-between vs (i + 1) j (k - (i + 1)) c.first (omega arith) ∙ ap (λ (n : ℕ). get_or vs n c.first) past in
          (here k (omega arith)).0 (subst (λ (v : Vertex). IsWithinBound weights.x weights.y bound (vertex_at c i).place
          (vertex_at c j).place v.place) same (all (k - (i + 1)) c.first inside)),
      λ near k d inside.
          let same : get_or (between (i + 1) j vs) k d ≡ vertex_at c (i + 1 + k) = get_or-between vs (i + 1) j k d (omega arith)
          ∙ get_or_default vs (i + 1 + k) d c.first (omega arith) in
          subst (λ (v : Vertex). IsWithinBound weights.x weights.y bound (vertex_at c i).place (vertex_at c j).place v.place) (sym same)
          ((here (i + 1 + k) (omega arith)).1 (near (i + 1 + k) (omega arith) (omega arith))),
    )
