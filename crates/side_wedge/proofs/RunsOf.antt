-- The part of a chain from one vertex to another.
use Rattle.std.proofs.Common.{◌≡◌, inl, inr, ℕ, zero, suc, ◌+◌, ◌-◌, ◌<◌, ◌≤◌, Bool, List, [], ◌∷◌, ◌++◌, length, pos, sym, ap, ◌∙◌, subst}
use Rattle.std.proofs.Common.{arith}
use Rattle.std.proofs.Common.{length-append}
use Rattle.std.specs.List.{between}
use Rattle.std.proofs.lemmas.Bool.{cases_lt}
use Rattle.std.proofs.lemmas.List.{get_or_append_left, get_or_at}
use Rattle.std.proofs.lemmas.List.Edits.{length-between, get_or-between}
use Rattle.grid_exact.specs.Geometry.{Place}
use Rattle.grid_exact.specs.Walks.{EachEdge}
use Rattle.grid_exact.specs.Runs.{IsEdgeOf}
use Rattle.grid_exact.specs.declared.frame.Frame.{Frame}
use Rattle.chain_side.specs.Along.{IsAlong, vertex_at}
use Rattle.chain_side.proofs.AlongOrder.{compared_along, Earlier, There, Later, one_way}
use Rattle.chain_side.proofs.Passed.{edge_by_number}
use Rattle.side_wedge.specs.Strays.{RunsAlong}
use Rattle.side_wedge.proofs.Closed.{not_itself}

-- the vertices behind the vertex number i, up to the vertex number j
abbrev pub run_of : List Place → ℕ → ℕ → List Place
run_of chain i j = between (i + 1) j chain ++ vertex_at chain j ∷ []

length-run_of : (chain : List Place) (i j : ℕ) → i < j → j < length chain → length (run_of chain i j) ≡ j - i
length-run_of chain i j ij within =
    let part = length-between chain (i + 1) j (omega arith) in
    omega (arith, part, length-append (between (i + 1) j chain) (vertex_at chain j ∷ []))

run_vertex_later : (chain : List Place) (i j t : ℕ) → i < j → j < length chain → i + 1 + t ≤ j
    → vertex_at (run_of chain i j) t ≡ vertex_at chain (i + 1 + t)
run_vertex_later chain i j t ij within high =
    let d : Place = record { x = pos 0; y = pos 0 } in
    let part = length-between chain (i + 1) j (omega arith) in
    elim (cases_lt (i + 1 + t) j) [
      | inl less ↦ get_or_append_left (between (i + 1) j chain) (vertex_at chain j ∷ []) d t (omega (arith, part))
          ∙ get_or-between chain (i + 1) j t d less
      | inr more ↦
          let last : j ≡ i + 1 + t = omega arith in
          get_or_at (between (i + 1) j chain) (vertex_at chain j) [] d t (omega (arith, part)) ∙ ap (vertex_at chain) last
    ]

pub run_vertex : (chain : List Place) (i j t : ℕ) → i < j → j < length chain → i + t ≤ j
    → vertex_at (vertex_at chain i ∷ run_of chain i j) t ≡ vertex_at chain (i + t)
run_vertex chain i j zero ij within high = let same : i ≡ i + 0 = omega arith in ap (vertex_at chain) same
run_vertex chain i j (suc t) ij within high = let same : i + 1 + t ≡ i + suc t = omega arith in
    run_vertex_later chain i j t ij within (omega arith) ∙ ap (vertex_at chain) same

each_by_next : (P : Place → Place → Type 0) (v : Place) (ws : List Place)
    → ((t : ℕ) → t < length ws → P (vertex_at (v ∷ ws) t) (vertex_at (v ∷ ws) (suc t))) → EachEdge P v ws
each_by_next P v [] h = tt
each_by_next P v (w ∷ ws) h = (h 0 (omega arith), each_by_next P w ws (λ t within. h (suc t) (omega arith)))

pub run_along : (frame : Frame) (rising : Bool) (chain : List Place) (i j : ℕ) → RunsAlong frame rising chain → i < j → j < length chain
    → EachEdge (IsAlong frame rising) (vertex_at chain i) (run_of chain i j)
run_along frame rising chain i j runs ij within =
    each_by_next (IsAlong frame rising) (vertex_at chain i) (run_of chain i j) (λ t high.
    let size = length-run_of chain i j ij within in
    subst (λ (x : Place). IsAlong frame rising x (vertex_at (vertex_at chain i ∷ run_of chain i j) (suc t)))
    (sym (run_vertex chain i j t ij within (omega (arith, size))))
    (subst (λ (y : Place). IsAlong frame rising (vertex_at chain (i + t)) y)
    (sym (run_vertex chain i j (suc t) ij within (omega (arith, size))))
    (runs (i + t) (i + suc t) (omega arith) (omega (arith, size)))))

pub run_edge : (chain : List Place) (i j s : ℕ) → i < j → j < length chain → i ≤ s → s < j
    → IsEdgeOf (vertex_at chain i) (run_of chain i j) (vertex_at chain s) (vertex_at chain (s + 1))
run_edge chain i j s ij within low high =
    let size = length-run_of chain i j ij within in
    let v = vertex_at chain i in
    let ws = run_of chain i j in
    let edge = edge_by_number (vertex_at chain i) (run_of chain i j) (s - i) (omega (arith, size)) in
    let start : i + (s - i) ≡ s = omega arith in
    let end : i + (s - i + 1) ≡ s + 1 = omega arith in
    let first : vertex_at (vertex_at chain i ∷ run_of chain i j) (s - i) ≡ vertex_at chain s =
    run_vertex chain i j (s - i) ij within (omega arith) ∙ ap (vertex_at chain) start in
    let second : vertex_at (vertex_at chain i ∷ run_of chain i j) (s - i + 1) ≡ vertex_at chain (s + 1) =
    run_vertex chain i j (s - i + 1) ij within (omega arith) ∙ ap (vertex_at chain) end in
    subst (λ (x : Place). IsEdgeOf (vertex_at chain i) (run_of chain i j) x (vertex_at chain (s + 1))) first
    (subst (λ (y : Place). IsEdgeOf (vertex_at chain i) (run_of chain i j) (vertex_at (vertex_at chain i ∷ run_of chain i j) (s - i)) y)
    second edge)

-- ---- where a place stands along a chain

-- p stands between the vertices number i and j: over an edge, or at a vertex between them
pub data StandsBetween (frame : Frame) (rising : Bool) (chain : List Place) (p : Place) (i j : ℕ) : Type 0 where
  OverEdge : (s : ℕ) → i ≤ s → s < j → IsAlong frame rising (vertex_at chain s) p → IsAlong frame rising p (vertex_at chain (s + 1))
      → StandsBetween frame rising chain p i j
  AtVertex : (s : ℕ) → i < s → s < j → p ≡ vertex_at chain s → StandsBetween frame rising chain p i j

wider : (frame : Frame) (rising : Bool) (chain : List Place) (p : Place) (i j : ℕ) → StandsBetween frame rising chain p i j
    → StandsBetween frame rising chain p i (j + 1)
wider frame rising chain p i j (OverEdge s low high h k) = OverEdge s low (omega arith) h k
wider frame rising chain p i j (AtVertex s low high e) = AtVertex s low (omega arith) e

stands_within : (frame : Frame) (rising : Bool) (chain : List Place) (p : Place) (i n : ℕ) → IsAlong frame rising (vertex_at chain i) p
    → IsAlong frame rising p (vertex_at chain (i + n)) → StandsBetween frame rising chain p i (i + n)
stands_within frame rising chain p i zero h k = let same : i + 0 ≡ i = omega arith in
    absurd (one_way frame rising (vertex_at chain i) p h (subst (λ (m : ℕ). IsAlong frame rising p (vertex_at chain m)) same k))
stands_within frame rising chain p i (suc n) h k =
    let next : i + n + 1 ≡ i + suc n = omega arith in
    elim (compared_along frame rising p (vertex_at chain (i + n))) [
      | Earlier before ↦ subst (StandsBetween frame rising chain p i) next
          (wider frame rising chain p i (i + n) (stands_within frame rising chain p i n h before))
      | There e ↦ at_or_start n e
      | Later behind ↦ OverEdge (i + n) (omega arith) (omega arith) behind
          (subst (λ (m : ℕ). IsAlong frame rising p (vertex_at chain m)) (sym next) k)
    ]
  where
    at_or_start : (n : ℕ) → p ≡ vertex_at chain (i + n) → StandsBetween frame rising chain p i (i + suc n)
    at_or_start zero e = let same : i + 0 ≡ i = omega arith in absurd
        (not_itself frame rising (vertex_at chain i) p (sym (ap (vertex_at chain) same) ∙ sym e) h)
    at_or_start (suc n) e = AtVertex (i + suc n) (omega arith) (omega arith) e

pub stands_between : (frame : Frame) (rising : Bool) (chain : List Place) (p : Place) (i j : ℕ) → i < j
    → IsAlong frame rising (vertex_at chain i) p → IsAlong frame rising p (vertex_at chain j) → StandsBetween frame rising chain p i j
stands_between frame rising chain p i j ij h k =
    let same : i + (j - i) ≡ j = omega arith in
    subst (StandsBetween frame rising chain p i) same (stands_within frame rising chain p i (j - i) h
    (subst (λ (m : ℕ). IsAlong frame rising p (vertex_at chain m)) (sym same) k))
