-- The law of reach for the pairs of a chain, by the numbers of their places.
use Rattle.std.proofs.lemmas.Bool.{true≢false}
use Rattle.std.proofs.Common.{◌≡◌, ◌⊎◌, inl, inr, Bool, true, false, ℕ, zero, suc, ◌+◌, ◌-◌, ◌<◌, ◌≤◌, List, [], ◌∷◌, ◌++◌, length}
use Rattle.std.proofs.Common.{take, drop, get_or, All, ℤ}
use Rattle.std.proofs.Common.{pos, ◌+ℤ◌, ◌-ℤ◌, ◌*ℤ◌, ◌≤ℤ◌, ◌<ℤ◌, refl, ap, subst, ◌∙◌, arith}
use Rattle.std.specs.List.{between}
use Rattle.std.proofs.lemmas.List.{drop-map, get_or-map, length-map, take-map}
use Rattle.std.proofs.lemmas.List.Elements.{All-map}
use Rattle.grid_exact.specs.Geometry.{Place, IsOnSegment}
use Rattle.grid_exact.specs.Near.{IsNear, weighted}
use Rattle.grid_exact.specs.Segments.{IsOffSegment}
use Rattle.grid_exact.specs.Crossing.{is_crossed}
use Rattle.grid_exact.specs.Walks.{EachEdge, count_edges, is_odd}
use Rattle.grid_exact.specs.Runs.{IsMonotone}
use Rattle.grid_exact.specs.Runs.IsMonotone.{Increasing, Decreasing}
use Rattle.grid_exact.specs.Frame.{IsBeforeIn}
use Rattle.grid_exact.specs.declared.frame.Frame.{Frame}
use Rattle.grid_exact.proofs.WholeLaws.{sums}
use Rattle.grid_exact.proofs.Signs.{Negative, Zero, Positive, sign_of, at_most_or_above, times_nonnegative, positive_from_times}
use Rattle.grid_exact.proofs.Polynomial.{Whole, ◌⊕◌, ◌⊖◌, ◌⊗◌, ◌≈◌, Variable, by_identity, identity_4}
use Rattle.grid_exact.proofs.Commons.{on_turned, same_place}
use Rattle.arc_map.specs.Allowed.{IsConsistent}
use Rattle.arc_map.specs.Vertices.{Vertex, places}
use Rattle.arc_map.specs.Chains.{Chain}
use Rattle.arc_map.specs.Paths.{vertices_of, vertex_at}
use Rattle.arc_map.specs.Arranged.{nowhere}
use Rattle.arc_map.specs.Allowed.IsConsistent.{AtStart, AtEnd, SameSide}
use Rattle.chain_reach.specs.Reach.{IsBeyond, IsInGrownBox}
use Rattle.chain_reach.specs.Reach.{IsUnder, IsCloseToSegment, IsCloseBy}
use Rattle.chain_reach.specs.Reach.IsBeyond.{LeftOf, RightOf, Under, Over}
use Rattle.chain_reach.specs.Laws.{InReachOrOut, OnlyReachCounts, OnlyReachCountsOfChain, ReachIsInSteps}
use Rattle.chain_reach.specs.Laws.{OnlyCloseCounts, OnlyCloseCountsOfChain, CloseIsInReach, CloseIsInSteps}
use Rattle.chain_reach.proofs.Passing.{by_in_box}
use Rattle.chain_reach.proofs.Reaching.{IsFarBy, each_edge_by, far_is_even}

-- ---- in reach or out of reach

-- a number that both are below, or one of the two is not
both_or_one : (a b c d : ℤ) → ((a <ℤ c) × (b <ℤ d)) ⊎ ((c ≤ℤ a) ⊎ (d ≤ℤ b))
both_or_one a b c d = elim (at_most_or_above c a) [
  | inl h ↦ inr (inl h)
  | inr h ↦ elim (at_most_or_above d b) [ inl k ↦ inr (inr k) | inr k ↦ inl (h, k) ]
]

box_or_beyond : (r : ℤ) (p a b : Place) → IsInGrownBox r r p a b ⊎ IsBeyond r p a b
box_or_beyond r p a b = elim (both_or_one (p.x +ℤ r) (p.x +ℤ r) a.x b.x) [
  | inl h ↦ inr (LeftOf h.0 h.1)
  | inr left ↦ elim (both_or_one (a.x +ℤ r) (b.x +ℤ r) p.x p.x) [
    | inl h ↦ inr (RightOf h.0 h.1)
    | inr right ↦ elim (both_or_one (p.y +ℤ r) (p.y +ℤ r) a.y b.y) [
      | inl h ↦ inr (Under h.0 h.1)
      | inr bottom ↦ elim (both_or_one (a.y +ℤ r) (b.y +ℤ r) p.y p.y) [
        | inl h ↦ inr (Over h.0 h.1)
        | inr top ↦ inl (record { left = left; right = right; bottom = bottom; top = top })
      ]
    ]
  ]
]

pub in_reach_or_out : InReachOrOut
in_reach_or_out wx wy e p v [] = inr tt
in_reach_or_out wx wy e p v (w ∷ ws) =
    elim (box_or_beyond (pos 2 *ℤ e) (weighted wx wy p) (weighted wx wy v) (weighted wx wy w)) [
      | inl h ↦ inl (record { start = v; end = w; edge = inl (refl, refl); box = h })
      | inr h ↦
          elim (in_reach_or_out wx wy e p w ws) [
            | inl k ↦ inl (record { start = k.start; end = k.end; edge = inr k.edge; box = k.box })
            | inr k ↦ inr (h, k)
          ]
    ]

-- ---- the edges of a part of a chain

edges_from_start : (P : Place → Place → Type 0) (v : Place) (ws : List Place) (n : ℕ) (none : Place) → n < length ws → EachEdge P v ws
    → EachEdge P v (take n ws ++ get_or ws n none ∷ [])
edges_from_start P v [] n none within h = absurd (omega arith)
edges_from_start P v (w ∷ ws) zero none within h = (h.0, tt)
edges_from_start P v (w ∷ ws) (suc n) none within h = (h.0, edges_from_start P w ws n none (omega arith) h.1)

edges_of_part : (P : Place → Place → Type 0) (v : Place) (ws : List Place) (i n m : ℕ) (none : Place) → m ≡ i + n → m < length ws
    → EachEdge P v ws → EachEdge P (get_or (v ∷ ws) i none) (take n (drop (suc i) (v ∷ ws)) ++ get_or (v ∷ ws) (suc m) none ∷ [])
edges_of_part P v ws zero n m none e within h = let same : m ≡ n = omega arith in
    subst (λ (k : ℕ). EachEdge P v (take k ws ++ get_or ws m none ∷ [])) same (edges_from_start P v ws m none within h)
edges_of_part P v [] (suc i) n m none e within h = absurd (omega arith)
edges_of_part P v (w ∷ ws) (suc i) n zero none e within h = absurd (omega arith)
edges_of_part P v (w ∷ ws) (suc i) n (suc m) none e within h = edges_of_part P w ws i n m none (omega arith) (omega arith) h.1

edges_between : (P : Place → Place → Type 0) (v : Place) (ws : List Place) (i j : ℕ) (none : Place) → i < j → j < length (v ∷ ws)
    → EachEdge P v ws → EachEdge P (get_or (v ∷ ws) i none) (between (i + 1) j (v ∷ ws) ++ get_or (v ∷ ws) j none ∷ [])
edges_between P v ws i j none order within h =
    let n = j - (i + 1) in
    let end : suc (i + n) ≡ j = omega arith in
    let start : suc i ≡ i + 1 = omega arith in
    let part = edges_of_part P v ws i n (i + n) none refl (omega arith) h in
    let from : EachEdge P (get_or (v ∷ ws) i none) (take n (drop (i + 1) (v ∷ ws)) ++ get_or (v ∷ ws) (suc (i + n)) none ∷ []) =
    subst (λ (k : ℕ). EachEdge P (get_or (v ∷ ws) i none) (take n (drop k (v ∷ ws)) ++ get_or (v ∷ ws) (suc (i + n)) none ∷ [])) start
    part in
    subst (λ (k : ℕ). EachEdge P (get_or (v ∷ ws) i none) (take n (drop (i + 1) (v ∷ ws)) ++ get_or (v ∷ ws) k none ∷ [])) end from

pub monotone_between : (frame : Frame) (v : Place) (ws : List Place) (i j : ℕ) (none : Place) → i < j → j < length (v ∷ ws)
    → IsMonotone frame v ws → IsMonotone frame (get_or (v ∷ ws) i none) (between (i + 1) j (v ∷ ws) ++ get_or (v ∷ ws) j none ∷ [])
monotone_between frame v ws i j none order within (Increasing h) =
    Increasing (edges_between (λ a b. IsBeforeIn frame a b) v ws i j none order within h)
monotone_between frame v ws i j none order within (Decreasing h) =
    Decreasing (edges_between (λ a b. IsBeforeIn frame b a) v ws i j none order within h)

-- ---- the law for a pair

last_edge : (P : Place → Place → Type 0) (v w u : Place) (skipped : List Place) → EachEdge P v (skipped ++ w ∷ u ∷ []) → P w u
last_edge P v w u [] h = h.1.0
last_edge P v w u (x ∷ xs) h = last_edge P x w u xs h.1

consistent_far : (frame : Frame) (wx wy : ℤ) (v w : Place) (skipped : List Place) (p : Place) (e : ℤ) → pos 1 ≤ℤ wx → pos 1 ≤ℤ wy
    → pos 0 ≤ℤ e → IsMonotone frame v (skipped ++ w ∷ []) → All (λ q. IsNear wx wy v w q e) skipped
    → IsFarBy wx wy e p v (skipped ++ w ∷ []) → IsConsistent v w skipped p
consistent_far frame wx wy v w skipped p e one_x one_y bound monotone near far =
    let even = far_is_even frame wx wy v w skipped p e one_x one_y bound monotone near far in
    SameSide (λ on. last_edge (IsOffSegment p) v w v skipped even.0 (on_turned v w p on)) even.1

-- what is not close to a walk is far from each of its edges
far_from : (wx wy e : ℤ) (p v : Place) (ws : List Place) → ¬ (IsCloseBy wx wy e p v ws) → IsFarBy wx wy e p v ws
far_from wx wy e p v ws away = each_edge_by (λ a b. ¬ (IsCloseToSegment wx wy e p a b)) v ws (λ a b edge close.
    away (record { start = a; end = b; edge = edge; close = close }))

same_or_other : (a b : Place) → (a ≡ b) ⊎ (¬ (a ≡ b))
same_or_other a b =
    elim (sign_of (a.x -ℤ b.x)) [
      | Negative h ↦ inr (λ e. let x = ap (λ (q : Place). q.x) e in absurd (omega (arith, sums)))
      | Positive h ↦ inr (λ e. let x = ap (λ (q : Place). q.x) e in absurd (omega (arith, sums)))
      | Zero h ↦
          elim (sign_of (a.y -ℤ b.y)) [
            | Negative k ↦ inr (λ e. let y = ap (λ (q : Place). q.y) e in absurd (omega (arith, sums)))
            | Positive k ↦ inr (λ e. let y = ap (λ (q : Place). q.y) e in absurd (omega (arith, sums)))
            | Zero k ↦ inl (same_place a b (omega (arith, sums)) (omega (arith, sums)))
          ]
    ]

-- what a consistent pair says of a place that is no end of its segment
KeepsSide : (v w : Place) (skipped : List Place) (p : Place) → Type 0
KeepsSide v w skipped p = (¬ (IsOnSegment v w p)) × (is_odd (count_edges (is_crossed p) v (skipped ++ w ∷ v ∷ [])) ≡ false)

keeps_side : (v w : Place) (skipped : List Place) (p : Place) → ¬ (p ≡ v) → ¬ (p ≡ w) → IsConsistent v w skipped p → KeepsSide v w skipped p
unfolding KeepsSide
keeps_side v w skipped p not_start not_end (AtStart e) = absurd (not_start e)
keeps_side v w skipped p not_start not_end (AtEnd e) = absurd (not_end e)
keeps_side v w skipped p not_start not_end (SameSide off even) = (λ on. off on, even)

-- a test has the answer that it has both where R holds and where it does not
either_way : (R : Type 0) (b : Bool) → (R → b ≡ false) → (¬ R → b ≡ false) → b ≡ false
either_way R false there away = refl
either_way R true there away = away (λ r. absurd (true≢false (there r)))

consistent_either : (R : Type 0) (v w : Place) (skipped : List Place) (p : Place) → (R → IsConsistent v w skipped p)
    → (¬ R → IsConsistent v w skipped p) → IsConsistent v w skipped p
unfolding KeepsSide
consistent_either R v w skipped p there away =
    elim (same_or_other p v) [
      | inl e ↦ AtStart e
      | inr not_start ↦
          elim (same_or_other p w) [
            | inl e ↦ AtEnd e
            | inr not_end ↦
                let here = λ (r : R). keeps_side v w skipped p not_start not_end (there r) in
                let missed = λ (far : ¬ R). keeps_side v w skipped p not_start not_end (away far) in
                SameSide (λ on. (missed (λ r. (here r).0 on)).0 on)
                (either_way R (is_odd (count_edges (is_crossed p) v (skipped ++ w ∷ v ∷ []))) (λ r. (here r).1) (λ far. (missed far).1))
          ]
    ]

pub only_close_counts : OnlyCloseCounts
only_close_counts frame wx wy v ws e i j none p one_x one_y bound monotone order within near reached =
    consistent_either (IsCloseBy wx wy e p v ws) (get_or (v ∷ ws) i none) (get_or (v ∷ ws) j none) (between (i + 1) j (v ∷ ws)) p reached
    (λ away. consistent_far frame wx wy (get_or (v ∷ ws) i none) (get_or (v ∷ ws) j none) (between (i + 1) j (v ∷ ws)) p e one_x one_y bound
    (monotone_between frame v ws i j none order within monotone) near
    (edges_between (λ a b. ¬ (IsCloseToSegment wx wy e p a b)) v ws i j none order within (far_from wx wy e p v ws away)))

pub close_is_in_reach : CloseIsInReach
close_is_in_reach wx wy e p v ws h =
    record {
      start = h.start;
      end = h.end;
      edge = h.edge;
      box = by_in_box (pos 2 *ℤ e) (pos 2 *ℤ e) (weighted wx wy p) (weighted wx wy h.start) (weighted wx wy h.end) h.close;
    }

pub only_reach_counts : OnlyReachCounts
only_reach_counts frame wx wy v ws e i j none p one_x one_y bound monotone order within near reached =
    only_close_counts frame wx wy v ws e i j none p one_x one_y bound monotone order within near (λ close.
    reached (close_is_in_reach wx wy e p v ws close))

-- ---- the law for a pair of vertices

vertex_place : (k : Chain) (i : ℕ) → i ≤ length k.rest → get_or (k.first.place ∷ places k.rest) i nowhere ≡ (vertex_at k i).place
vertex_place k i within = let known : i < length (vertices_of k) = omega arith in
    get_or-map (λ (v : Vertex). v.place) (vertices_of k) i k.first nowhere known

between_places : (k : Chain) (a b : ℕ) → between a b (k.first.place ∷ places k.rest) ≡ places (between a b (vertices_of k))
between_places k a b = ap (take (b - a)) (drop-map (λ (v : Vertex). v.place) a (vertices_of k))
    ∙ take-map (λ (v : Vertex). v.place) (b - a) (drop a (vertices_of k))

-- the premise and the conclusion of the law for these two places and what is between them
PairLaw : (wx wy e : ℤ) (k : Chain) (p v w : Place) (skipped : List Place) → Type 0
PairLaw wx wy e k p v w skipped = All (λ q. IsNear wx wy v w q e) skipped
    → (IsCloseBy wx wy e p k.first.place (places k.rest) → IsConsistent v w skipped p) → IsConsistent v w skipped p

pub only_close_counts_of_chain : OnlyCloseCountsOfChain
unfolding PairLaw
only_close_counts_of_chain k wx wy e i j p one_x one_y bound monotone order within near reached =
    let ps = k.first.place ∷ places k.rest in
    let size : length (places k.rest) ≡ length k.rest = length-map k.rest (λ (v : Vertex). v.place) in
    let law : PairLaw wx wy e k p (get_or ps i nowhere) (get_or ps j nowhere) (between (i + 1) j ps) =
    only_close_counts k.frame wx wy k.first.place (places k.rest) e i j nowhere p one_x one_y bound monotone order (omega (arith, size))
    in
    let at_start : PairLaw wx wy e k p (vertex_at k i).place (get_or ps j nowhere) (between (i + 1) j ps) =
    subst (λ (v : Place). PairLaw wx wy e k p v (get_or ps j nowhere) (between (i + 1) j ps))
    (vertex_place k i (omega (arith, order, within))) law in
    let at_end : PairLaw wx wy e k p (vertex_at k i).place (vertex_at k j).place (between (i + 1) j ps) =
    subst (λ (w : Place). PairLaw wx wy e k p (vertex_at k i).place w (between (i + 1) j ps)) (vertex_place k j within) at_start in
    let in_between : PairLaw wx wy e k p (vertex_at k i).place (vertex_at k j).place (places (between (i + 1) j (vertices_of k))) =
    subst (λ (qs : List Place). PairLaw wx wy e k p (vertex_at k i).place (vertex_at k j).place qs) (between_places k (i + 1) j) at_end
    in
    in_between (All-map (λ q. IsNear wx wy (vertex_at k i).place (vertex_at k j).place q e) (λ (u : Vertex). u.place)
    (between (i + 1) j (vertices_of k)) near) reached

pub only_reach_counts_of_chain : OnlyReachCountsOfChain
only_reach_counts_of_chain k wx wy e i j p one_x one_y bound monotone order within near reached =
    only_close_counts_of_chain k wx wy e i j p one_x one_y bound monotone order within near (λ close.
    reached (close_is_in_reach wx wy e p k.first.place (places k.rest) close))

-- ---- whole steps

in_steps : (w r c a b : ℤ) → pos 1 ≤ℤ w → c <ℤ (w *ℤ (r +ℤ pos 1)) → (w *ℤ a) ≤ℤ (w *ℤ b +ℤ c) → a ≤ℤ (b +ℤ r)
in_steps w r c a b one room near = elim (at_most_or_above a (b +ℤ r)) [
  | inl h ↦ h
  | inr h ↦
      let e = identity_4 w a b r (λ w a b r. w ⊗ (a ⊖ b ⊖ (r ⊕ Whole (pos 1))) ≈ w ⊗ a ⊖ w ⊗ b ⊖ w ⊗ (r ⊕ Whole (pos 1))) refl in
      let far : pos 0 ≤ℤ (w *ℤ (a -ℤ b -ℤ (r +ℤ pos 1))) = times_nonnegative w (a -ℤ b -ℤ (r +ℤ pos 1)) (omega (arith, sums))
      (omega (arith, sums)) in
      absurd (omega (arith, sums, e))
]

either_in_steps : (w r c a b d f : ℤ) → pos 1 ≤ℤ w → c <ℤ (w *ℤ (r +ℤ pos 1)) → ((w *ℤ a) ≤ℤ (w *ℤ b +ℤ c)) ⊎ ((w *ℤ d) ≤ℤ (w *ℤ f +ℤ c))
    → (a ≤ℤ (b +ℤ r)) ⊎ (d ≤ℤ (f +ℤ r))
either_in_steps w r c a b d f one room (inl h) = inl (in_steps w r c a b one room h)
either_in_steps w r c a b d f one room (inr h) = inr (in_steps w r c d f one room h)

pub reach_is_in_steps : ReachIsInSteps
reach_is_in_steps wx wy e r s p v ws one_x one_y room_x room_y h =
    record {
      start = h.start;
      end = h.end;
      edge = h.edge;
      box = record {
        left = either_in_steps wx r (pos 2 *ℤ e) h.start.x p.x h.end.x p.x one_x room_x h.box.left;
        right = either_in_steps wx r (pos 2 *ℤ e) p.x h.start.x p.x h.end.x one_x room_x h.box.right;
        bottom = either_in_steps wy s (pos 2 *ℤ e) h.start.y p.y h.end.y p.y one_y room_y h.box.bottom;
        top = either_in_steps wy s (pos 2 *ℤ e) p.y h.start.y p.y h.end.y one_y room_y h.box.top;
      };
    }

-- on one axis: what is less than c + 1 away in weighted lengths is less than r + 1 away in steps
under_steps : (w r c n i z a b : ℤ) → pos 1 ≤ℤ w → pos 1 ≤ℤ n → c <ℤ (w *ℤ (r +ℤ pos 1))
    → IsUnder (n *ℤ (c +ℤ pos 1)) (n *ℤ (w *ℤ z -ℤ w *ℤ a) -ℤ i *ℤ (w *ℤ b -ℤ w *ℤ a))
    → IsUnder (n *ℤ (r +ℤ pos 1)) (n *ℤ (z -ℤ a) -ℤ i *ℤ (b -ℤ a))
under_steps w r c n i z a b one whole room h =
    let x = Variable in
    let low = h.low in let high = h.high in
    let u = by_identity (w ∷ r ∷ c ∷ n ∷ i ∷ z ∷ a ∷ b ∷ [])
    (x 0 ⊗ (x 3 ⊗ (x 1 ⊕ Whole (pos 1)) ⊖ (x 3 ⊗ (x 5 ⊖ x 6) ⊖ x 4 ⊗ (x 7 ⊖ x 6)))
    ≈ x 3 ⊗ (x 0 ⊗ (x 1 ⊕ Whole (pos 1)) ⊖ (x 2 ⊕ Whole (pos 1)))
    ⊕ (x 3 ⊗ (x 2 ⊕ Whole (pos 1)) ⊖ (x 3 ⊗ (x 0 ⊗ x 5 ⊖ x 0 ⊗ x 6) ⊖ x 4 ⊗ (x 0 ⊗ x 7 ⊖ x 0 ⊗ x 6)))) refl in
    let l = by_identity (w ∷ r ∷ c ∷ n ∷ i ∷ z ∷ a ∷ b ∷ [])
    (x 0 ⊗ ((x 3 ⊗ (x 5 ⊖ x 6) ⊖ x 4 ⊗ (x 7 ⊖ x 6)) ⊕ x 3 ⊗ (x 1 ⊕ Whole (pos 1)))
    ≈ x 3 ⊗ (x 0 ⊗ (x 1 ⊕ Whole (pos 1)) ⊖ (x 2 ⊕ Whole (pos 1)))
    ⊕ (x 3 ⊗ (x 2 ⊕ Whole (pos 1)) ⊕ (x 3 ⊗ (x 0 ⊗ x 5 ⊖ x 0 ⊗ x 6) ⊖ x 4 ⊗ (x 0 ⊗ x 7 ⊖ x 0 ⊗ x 6)))) refl in
    let more : pos 0 ≤ℤ (n *ℤ (w *ℤ (r +ℤ pos 1) -ℤ (c +ℤ pos 1))) = times_nonnegative n (w *ℤ (r +ℤ pos 1) -ℤ (c +ℤ pos 1))
    (omega (arith, sums)) (omega (arith, sums)) in
    let up = positive_from_times w (n *ℤ (r +ℤ pos 1) -ℤ (n *ℤ (z -ℤ a) -ℤ i *ℤ (b -ℤ a))) (omega (arith, sums)) (omega (arith, sums, u)) in
    let down = positive_from_times w ((n *ℤ (z -ℤ a) -ℤ i *ℤ (b -ℤ a)) +ℤ n *ℤ (r +ℤ pos 1)) (omega (arith, sums))
    (omega (arith, sums, l)) in
    record { low = omega (arith, sums); high = omega (arith, sums) }

pub close_is_in_steps : CloseIsInSteps
close_is_in_steps wx wy e r s p v ws one_x one_y room_x room_y h =
    let c = h.close in
    record {
      start = h.start;
      end = h.end;
      edge = h.edge;
      by = record {
        denominator = c.denominator;
        numerator = c.numerator;
        whole = c.whole;
        from_start = c.from_start;
        to_end = c.to_end;
        across = under_steps wx r (pos 2 *ℤ e) c.denominator c.numerator p.x h.start.x h.end.x one_x c.whole room_x c.across;
        up = under_steps wy s (pos 2 *ℤ e) c.denominator c.numerator p.y h.start.y h.end.y one_y c.whole room_y c.up;
      };
    }
