-- A pair of a clear chain is consistent exactly where what stands beside the edges between the two keeps its sides.
use Rattle.std.proofs.Common.{◌≡◌, ◌↔◌, inl, inr, ℕ, ◌+◌, ◌-◌, ◌<◌, ◌≤◌, Bool, List, length, get_or, drop, ℤ, pos, sym, ap, ◌∙◌, subst}
use Rattle.std.proofs.Common.{add-one, arith}
use Rattle.std.specs.List.{between}
use Rattle.std.proofs.lemmas.List.{get_or-map, take-map, drop-map}
use Rattle.std.proofs.lemmas.Slice.{between_is}
use Rattle.grid_exact.specs.Geometry.{Place, area_of, IsOnSegment}
use Rattle.grid_exact.specs.declared.frame.Frame.{Frame}
use Rattle.arc_map.specs.Vertices.{Vertex, places}
use Rattle.arc_map.specs.Allowed.{IsConsistent}
use Rattle.arc_map.specs.Allowed.IsConsistent.{AtStart, AtEnd}
use Rattle.arc_map.specs.Chains.{Chain, chain_at, chain_places, AreChains, IsClearIn}
use Rattle.arc_map.specs.Paths.{vertices_of, vertex_at as vertex_number}
use Rattle.arc_map.proofs.Chained.{length-chain_places}
use Rattle.chain_side.specs.Along.{IsAlong, vertex_at}
use Rattle.chain_side.proofs.AlongOrder.{compared_along, Earlier, There, Later, one_way, on_along}
use Rattle.chain_side.proofs.Told.{way_of}
use Rattle.lane_kernels.specs.declared.side.Hand.{Hand}
use Rattle.lane_kernels.specs.Hands.{IsOnSide}
use Rattle.side_wedge.specs.Obstacles.{IsObstacle, IsConsistentPair}
use Rattle.grid_exact.specs.Weights.{Scales}
use Rattle.chain_reach.specs.Reach.{IsCloseBy}
use Rattle.chain_reach.proofs.Pairs.{only_close_counts_of_chain}
use Rattle.side_wedge.specs.Flanks.{Flanks, StandsInRow, IsBesideEdge, IsBeside, HoldsReach, IsNearPair, row_of}
use Rattle.side_wedge.specs.Rows.{KeepsAll}
use Rattle.side_wedge.specs.Strays.{RunsAlong}
use Rattle.side_wedge.proofs.Spanning.{runs_by_number, before_later, after_earlier}
use Rattle.side_wedge.proofs.Loading.{over_spanned, spanned_over}
use Rattle.side_wedge.proofs.Closed.{IsOverRun, HandOf, OnHand, OnLine, hand_of_place, not_itself, before_consistent, behind_consistent}
use Rattle.side_wedge.proofs.Closed.{consistent_by_hand, hand_by_consistent}
use Rattle.side_wedge.proofs.Beyond.{beyond_keeps_hand}
use Rattle.side_wedge.proofs.RunsOf.{run_along, run_edge, StandsBetween, OverEdge, AtVertex, stands_between}
use Rattle.side_wedge.proofs.ClearOf.{edge_numbered, obstacle_on_edge, obstacle_at_vertex}

-- ---- the vertices of a chain and their places

vertex_place : (c : Chain) (i : ℕ) → i < length c.rest + 1 → vertex_at (chain_places c) i ≡ (vertex_number c i).place
vertex_place c i within = get_or-map (λ v. v.place) (vertices_of c) i c.first (record { x = pos 0; y = pos 0 }) (omega arith)

later_place : (c : Chain) (i : ℕ) → i < length c.rest → vertex_at (chain_places c) (i + 1) ≡ (get_or c.rest i c.first).place
later_place c i within = vertex_place c (i + 1) (omega arith) ∙ ap (λ (n : ℕ). (get_or (vertices_of c) n c.first).place) (add-one i)

places-between : (vs : List Vertex) (i j : ℕ) → places (between i j vs) ≡ between i j (places vs)
places-between vs i j =
    ap places (between_is vs i j)
    ∙ sym (drop-map (λ v. v.place) i _)
    ∙ ap (λ (ps : List Place). drop i ps) (sym (take-map (λ v. v.place) j vs))
    ∙ sym (between_is (places vs) i j)

consistent_alike : (v v' w w' : Place) (s s' : List Place) (p : Place) → v ≡ v' → w ≡ w' → s ≡ s' → IsConsistent v w s p
    → IsConsistent v' w' s' p
consistent_alike v v' w w' s s' p e f g h =
    subst (λ (x : Place). IsConsistent x w' s' p) e (subst (λ (y : Place). IsConsistent v y s' p) f
    (subst (λ (ps : List Place). IsConsistent v w ps p) g h))

-- p is consistent with the run of the chain from the vertex number i to the vertex number j
abbrev IsConsistentAt : List Place → ℕ → ℕ → Place → Type 0
IsConsistentAt chain i j p = IsConsistent (vertex_at chain i) (vertex_at chain j) (between (i + 1) j chain) p

by_places : (c : Chain) (i j : ℕ) (p : Place) → i < j → j < length c.rest + 1 → IsConsistentAt (chain_places c) i j p
    ↔ IsConsistent (vertex_number c i).place (vertex_number c j).place (places (between (i + 1) j (vertices_of c))) p
by_places c i j p ij within =
    let a = vertex_place c i (omega arith) in
    let b = vertex_place c j within in
    let s = places-between (vertices_of c) (i + 1) j in
    (λ h. consistent_alike _ _ _ _ _ _ p a b (sym s) h, λ h. consistent_alike _ _ _ _ _ _ p (sym a) (sym b) s h)

-- ---- one chain with what is known of it

pub record IsClearChain (chains : List Chain) (points : List Place) (k : ℕ) (rising : Bool) (b : Flanks) : Type 0 where
  pub are_chains : AreChains chains
  pub clear : IsClearIn chains points k
  pub is_beside : IsBeside chains points k b
  pub runs : RunsAlong (chain_at chains k).frame rising (chain_places (chain_at chains k))

-- p is over the edge number s, on this hand
over_run : (frame : Frame) (rising : Bool) (chain : List Place) (i j s : ℕ) (p : Place) (hand : Hand) → RunsAlong frame rising chain → i < j
    → j < length chain → i ≤ s → s < j → IsAlong frame rising (vertex_at chain s) p → IsAlong frame rising p (vertex_at chain (s + 1))
    → IsOnSide hand (vertex_at chain s) (vertex_at chain (s + 1)) p
    → IsOverRun frame rising (vertex_at chain i) (between (i + 1) j chain) (vertex_at chain j) p (vertex_at chain s)
    (vertex_at chain (s + 1)) hand
over_run frame rising chain i j s p hand runs ij within low high sp pt on = record {
  way = run_along frame rising chain i j runs ij within;
  edge = run_edge chain i j s ij within low high;
  start = sp;
  end = pt;
  on_hand = on;
  past = after_earlier frame rising chain p i s runs low (omega arith) sp;
  before = before_later frame rising chain p (s + 1) j runs (omega arith) within pt;
}

-- p is close to the chain number k
abbrev IsClose : List Chain → ℕ → Scales → ℤ → Place → Type 0
IsClose chains k weights bound p = IsCloseBy weights.x weights.y bound p (chain_at chains k).first.place (places (chain_at chains k).rest)

-- ---- from consistent to sides

keeps_by_consistent : (chains : List Chain) (points : List Place) (k : ℕ) (rising : Bool) (b : Flanks) (i j : ℕ)
    → IsClearChain chains points k rising b → i < j → j < length (chain_at chains k).rest + 1 → IsConsistentPair chains points k i j
    → KeepsAll b (chain_places (chain_at chains k)) i j
keeps_by_consistent chains points k rising b i j h ij within pair s low high hand p stands =
    let c = chain_at chains k in
    let frame = (chain_at chains k).frame in
    let chain = chain_places (chain_at chains k) in
    let size = length-chain_places (chain_at chains k) in
    let inside : j < length chain = omega (arith, size) in
    let edge = h.is_beside.beside s hand p (omega arith) stands in
    let over = spanned_over frame rising (vertex_at chain s) (vertex_at chain (s + 1)) p
    (h.runs s (s + 1) (omega arith) (omega (arith, size))) edge.spanned in
    let run = over_run frame rising chain i j s p hand h.runs ij inside low high over.0 over.1 edge.aside in
    hand_by_consistent frame rising (vertex_at chain i) (between (i + 1) j chain) (vertex_at chain j) p (vertex_at chain s)
    (vertex_at chain (s + 1)) hand run
    ((by_places c i j p ij within).1 (pair p (h.is_beside.obstacles s hand p (omega arith) stands)))

-- ---- from sides to consistent

-- an obstacle over an edge is on a hand of it
obstacle_hand : (chains : List Chain) (points : List Place) (k : ℕ) (rising : Bool) (b : Flanks) (s : ℕ) (p : Place)
    → IsClearChain chains points k rising b → IsObstacle chains points k p → s < length (chain_at chains k).rest
    → IsAlong (chain_at chains k).frame rising (vertex_at (chain_places (chain_at chains k)) s) p
    → IsAlong (chain_at chains k).frame rising p (vertex_at (chain_places (chain_at chains k)) (s + 1))
    → area_of (vertex_at (chain_places (chain_at chains k)) s) (vertex_at (chain_places (chain_at chains k)) (s + 1)) p ≡ pos 0 → ⊥
obstacle_hand chains points k rising b s p h obstacle within sp pt flat =
    let c = chain_at chains k in
    let frame = (chain_at chains k).frame in
    let chain = chain_places (chain_at chains k) in
    let x = vertex_number (chain_at chains k) s in
    let y = get_or (chain_at chains k).rest s (chain_at chains k).first in
    let first : vertex_at chain s ≡ x.place = vertex_place c s (omega arith) in
    let second : vertex_at chain (s + 1) ≡ y.place = later_place c s within in
    let on : IsOnSegment (vertex_at chain s) (vertex_at chain (s + 1)) p =
    on_along frame rising (vertex_at chain s) (vertex_at chain (s + 1)) p (λ ps. one_way frame rising (vertex_at chain s) p sp ps)
    (λ tp. one_way frame rising p (vertex_at chain (s + 1)) pt tp) flat in
    let on_edge = subst (λ (u : Place). IsOnSegment u y.place p) first
    (subst (λ (u : Place). IsOnSegment (vertex_at chain s) u p) second on) in
    let edge = edge_numbered c.first c.rest s c.first within in
    elim (obstacle_on_edge chains points k p x y h.is_beside.edges h.clear obstacle edge on_edge) [
      | inl e ↦ not_itself frame rising (vertex_at chain s) p (first ∙ sym e) sp
      | inr e ↦ not_itself frame rising p (vertex_at chain (s + 1)) (e ∙ sym second) pt
    ]

over_edge_consistent : (chains : List Chain) (points : List Place) (k : ℕ) (rising : Bool) (b : Flanks) (weights : Scales) (bound : ℤ)
    (i j s : ℕ) (p : Place) → IsClearChain chains points k rising b → HoldsReach chains points k weights bound b
    → IsClose chains k weights bound p → IsObstacle chains points k p → KeepsAll b (chain_places (chain_at chains k)) i j → i < j
    → j < length (chain_at chains k).rest + 1 → i ≤ s → s < j
    → IsAlong (chain_at chains k).frame rising (vertex_at (chain_places (chain_at chains k)) s) p
    → IsAlong (chain_at chains k).frame rising p (vertex_at (chain_places (chain_at chains k)) (s + 1))
    → IsConsistentAt (chain_places (chain_at chains k)) i j p
over_edge_consistent chains points k rising b weights bound i j s p h holds close obstacle keeps ij within low high sp pt =
    let frame = (chain_at chains k).frame in
    let chain = chain_places (chain_at chains k) in
    let size = length-chain_places (chain_at chains k) in
    let inside : j < length chain = omega (arith, size) in
    by_hand (hand_of_place (vertex_at chain s) (vertex_at chain (s + 1)) p) inside
  where
    by_hand : HandOf (vertex_at (chain_places (chain_at chains k)) s) (vertex_at (chain_places (chain_at chains k)) (s + 1)) p
        → j < length (chain_places (chain_at chains k)) → IsConsistentAt (chain_places (chain_at chains k)) i j p
    by_hand (OnLine flat) inside = absurd (obstacle_hand chains points k rising b s p h obstacle (omega arith) sp pt flat)
    by_hand (OnHand hand on) inside =
        let frame = (chain_at chains k).frame in
        let chain = chain_places (chain_at chains k) in
        let run = over_run frame rising chain i j s p hand h.runs ij inside low high sp pt on in
        let beside : IsBesideEdge frame chain s hand p = record {
          spanned =
              over_spanned frame rising (vertex_at chain s) (vertex_at chain (s + 1)) p sp pt;
          aside = on;
        } in
        consistent_by_hand frame rising (vertex_at chain i) (between (i + 1) j chain) (vertex_at chain j) p (vertex_at chain s)
        (vertex_at chain (s + 1)) hand run
        (elim (holds.all s hand p (omega arith) obstacle beside close) [
          | inl stands ↦ keeps s low high hand p stands
          | inr beyond ↦ beyond_keeps_hand frame rising chain p s (s + 1) i j hand beyond (omega arith) (omega arith) (omega arith) inside
              sp pt run.past run.before on
        ])

between_consistent : (chains : List Chain) (points : List Place) (k : ℕ) (rising : Bool) (b : Flanks) (weights : Scales) (bound : ℤ) (i j :
    ℕ) (p : Place) → IsClearChain chains points k rising b → HoldsReach chains points k weights bound b → IsClose chains k weights bound p
    → IsObstacle chains points k p → KeepsAll b (chain_places (chain_at chains k)) i j → i < j → j < length (chain_at chains k).rest + 1
    → StandsBetween (chain_at chains k).frame rising (chain_places (chain_at chains k)) p i j
    → IsConsistentAt (chain_places (chain_at chains k)) i j p
between_consistent chains points k rising b weights bound i j p h holds close obstacle keeps ij within (OverEdge s low high sp pt) =
    over_edge_consistent chains points k rising b weights bound i j s p h holds close obstacle keeps ij within low high sp pt
between_consistent chains points k rising b weights bound i j p h holds close obstacle keeps ij within (AtVertex s low high e) =
    let c = chain_at chains k in
    let number : s - 1 + 1 ≡ s = omega arith in
    let at : p ≡ (get_or c.rest (s - 1) c.first).place = e ∙ ap (vertex_at (chain_places c)) (sym number)
    ∙ later_place c (s - 1) (omega arith) in
    absurd (obstacle_at_vertex chains points k (s - 1) p c.first h.are_chains h.is_beside.edges h.clear obstacle (omega arith) at)

obstacle_consistent : (chains : List Chain) (points : List Place) (k : ℕ) (rising : Bool) (b : Flanks) (weights : Scales) (bound : ℤ) (i j :
    ℕ) (p : Place) → IsClearChain chains points k rising b → HoldsReach chains points k weights bound b → IsClose chains k weights bound p
    → IsObstacle chains points k p → KeepsAll b (chain_places (chain_at chains k)) i j → i < j → j < length (chain_at chains k).rest + 1
    → IsConsistentAt (chain_places (chain_at chains k)) i j p
obstacle_consistent chains points k rising b weights bound i j p h holds close obstacle keeps ij within =
    let frame = (chain_at chains k).frame in
    let chain = chain_places (chain_at chains k) in
    let size = length-chain_places (chain_at chains k) in
    let way = run_along frame rising chain i j h.runs ij (omega (arith, size)) in
    elim (compared_along frame rising p (vertex_at chain i)) [
      | Earlier before ↦ before_consistent frame rising (vertex_at chain i) (between (i + 1) j chain) (vertex_at chain j) p way before
      | There e ↦ AtStart e
      | Later past ↦
          elim (compared_along frame rising p (vertex_at chain j)) [
            | Earlier before ↦ between_consistent chains points k rising b weights bound i j p h holds close obstacle keeps ij within
                (stands_between frame rising chain p i j ij past before)
            | There e ↦ AtEnd e
            | Later behind ↦ behind_consistent frame rising (vertex_at chain i) (between (i + 1) j chain) (vertex_at chain j) p way behind
          ]
    ]

-- ---- both ways

clear_chain : (chains : List Chain) (points : List Place) (k : ℕ) (b : Flanks) → AreChains chains → IsClearIn chains points k
    → IsBeside chains points k b → (rising : Bool) × IsClearChain chains points k rising b
clear_chain chains points k b are clear beside =
    let c = chain_at chains k in
    let way = way_of (chain_at chains k).frame (chain_at chains k).first.place (places (chain_at chains k).rest) (are.monotone k) in (
      way.rising,
      record {
        are_chains = are;
        clear = clear;
        is_beside = beside;
        runs =
            runs_by_number c.frame way.rising c.first.place (places c.rest) way.runs;
      },
    )

-- Where the pair (i, j) of the chain number k is consistent, what stands beside the edges from i to j keeps its sides.
pub keeps_sides : (chains : List Chain) (points : List Place) (k : ℕ) (b : Flanks) (i j : ℕ) → AreChains chains → IsClearIn chains points k
    → IsBeside chains points k b → i < j → j < length (chain_at chains k).rest + 1 → IsConsistentPair chains points k i j
    → KeepsAll b (chain_places (chain_at chains k)) i j
keeps_sides chains points k b i j are clear beside ij within pair =
    let h = clear_chain chains points k b are clear beside in
    keeps_by_consistent chains points k h.0 b i j h.1 ij within pair

-- Where it does, a near pair is consistent: what is not close to the chain does not count.
pub near_consistent : (chains : List Chain) (points : List Place) (k : ℕ) (b : Flanks) (weights : Scales) (bound : ℤ) (i j : ℕ)
    → AreChains chains → IsClearIn chains points k → IsBeside chains points k b → HoldsReach chains points k weights bound b → i < j
    → j < length (chain_at chains k).rest + 1 → IsNearPair weights bound (chain_at chains k) i j
    → KeepsAll b (chain_places (chain_at chains k)) i j → IsConsistentPair chains points k i j
near_consistent chains points k b weights bound i j are clear beside holds ij within near keeps p obstacle =
    let h = clear_chain chains points k b are clear beside in
    only_close_counts_of_chain (chain_at chains k) weights.x weights.y bound i j p holds.weight_across holds.weight_up holds.bound_low
    (are.monotone k) ij (omega arith) near
    (λ close. (by_places (chain_at chains k) i j p ij within).0
    (obstacle_consistent chains points k h.0 b weights bound i j p h.1 holds close obstacle keeps ij within))

-- what stands beside an edge from the vertex number i on is past it
pub past_vertex : (chains : List Chain) (points : List Place) (k : ℕ) (b : Flanks) (frame : Frame) (rising : Bool) (chain : List Place)
    (i s : ℕ) (hand : Hand) (p : Place) → frame ≡ (chain_at chains k).frame → chain ≡ chain_places (chain_at chains k)
    → IsBeside chains points k b → RunsAlong frame rising chain → i ≤ s → s + 1 < length chain → StandsInRow b (row_of s hand) p
    → IsAlong frame rising (vertex_at chain i) p
past_vertex chains points k b frame rising chain i s hand p is_frame is_chain beside runs low within stands =
    let size = length-chain_places (chain_at chains k) in
    let same = ap length is_chain in
    let edge = beside.beside s hand p (omega (arith, size, same)) stands in
    let here : IsBesideEdge frame chain s hand p = subst (λ (f : Frame). IsBesideEdge f chain s hand p) (sym is_frame)
    (subst (λ (ps : List Place). IsBesideEdge (chain_at chains k).frame ps s hand p) (sym is_chain) edge) in
    let over = spanned_over frame rising (vertex_at chain s) (vertex_at chain (s + 1)) p (runs s (s + 1) (omega arith) within) here.spanned
    in
    after_earlier frame rising chain p i s runs low (omega arith) over.0

-- ---- as the code tells it

-- what is told of the pair (i, j): a consistent pair is told true, and a near one that is told true is consistent
pub record TellsPair (chains : List Chain) (points : List Place) (k : ℕ) (b : Flanks) (i j : ℕ) (P : Type 0) : Type 0 where
  pub told : IsConsistentPair chains points k i j → P
  pub near : (weights : Scales) (bound : ℤ) → HoldsReach chains points k weights bound b → P
      → IsNearPair weights bound (chain_at chains k) i j → IsConsistentPair chains points k i j

pub tells_pair : (chains : List Chain) (points : List Place) (k : ℕ) (b : Flanks) (chain : List Place) (i j : ℕ) (P : Type 0)
    → chain ≡ chain_places (chain_at chains k) → AreChains chains → IsClearIn chains points k → IsBeside chains points k b → i < j
    → j < length (chain_at chains k).rest + 1 → (P ↔ KeepsAll b chain i j) → TellsPair chains points k b i j P
tells_pair chains points k b chain i j P is_chain are clear beside ij within told =
    let here = subst (λ (ps : List Place). P ↔ KeepsAll b ps i j) is_chain told in
    record {
      told = λ pair. here.1 (keeps_sides chains points k b i j are clear beside ij within pair);
      near = λ weights bound holds t near. near_consistent chains points k b weights bound i j are clear beside holds ij within near
          (here.0 t);
    }

pub empty_near : (chains : List Chain) (points : List Place) (k : ℕ) (b : Flanks) (weights : Scales) (bound : ℤ) (i j : ℕ)
    → ((row : ℕ) (p : Place) → ¬ (StandsInRow b row p)) → AreChains chains → IsClearIn chains points k → IsBeside chains points k b
    → HoldsReach chains points k weights bound b → i < j → j < length (chain_at chains k).rest + 1
    → IsNearPair weights bound (chain_at chains k) i j → IsConsistentPair chains points k i j
empty_near chains points k b weights bound i j none are clear beside holds ij within near =
    near_consistent chains points k b weights bound i j are clear beside holds ij within near (λ s low high hand p stands.
    absurd (none (row_of s hand) p stands))
