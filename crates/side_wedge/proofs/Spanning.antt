-- The one edge of a chain between whose ends a place stands.
use Rattle.std.proofs.Common.{◌≡◌, ◌↔◌, inl, inr, ℕ, zero, suc, ◌+◌, ◌-◌, ◌<◌, ◌≤◌, Bool, IsTrue, List, [], ◌∷◌, length, subst}
use Rattle.std.proofs.Common.{arith}
use Rattle.std.proofs.lemmas.Bool.{cases_lt}
use Rattle.grid_exact.specs.Geometry.{Place}
use Rattle.grid_exact.specs.Walks.{EachEdge}
use Rattle.grid_exact.specs.Frame.{IsBeforeIn}
use Rattle.grid_exact.specs.declared.frame.Frame.{Frame}
use Rattle.chain_side.specs.Along.{IsAlong, vertex_at}
use Rattle.chain_side.specs.Sides.{IsMonotoneChain}
use Rattle.chain_side.proofs.AlongOrder.{then_along, one_way}
use Rattle.chain_side.proofs.Told.{runs_along, last_vertex}
use Rattle.side_wedge.specs.Strays.{RunsAlong, IsOverEdge}

-- ---- which way a chain runs

along_numbers : (frame : Frame) (rising : Bool) (v : Place) (ws : List Place) → EachEdge (IsAlong frame rising) v ws → (b : ℕ)
    → b < length ws → IsAlong frame rising v (vertex_at ws b)
along_numbers frame rising v [] way b h = absurd (omega arith)
along_numbers frame rising v (w ∷ ws) way zero h = way.0
along_numbers frame rising v (w ∷ ws) way (suc b) h = then_along frame rising v w (vertex_at ws b) way.0
    (along_numbers frame rising w ws way.1 b (omega arith))

pub runs_by_number : (frame : Frame) (rising : Bool) (v : Place) (ws : List Place) → EachEdge (IsAlong frame rising) v ws
    → RunsAlong frame rising (v ∷ ws)
runs_by_number frame rising v ws way a zero ab h = absurd (omega arith)
runs_by_number frame rising v ws way zero (suc b) ab h = along_numbers frame rising v ws way b (omega arith)
runs_by_number frame rising v [] way (suc a) (suc b) ab h = absurd (omega arith)
runs_by_number frame rising v (w ∷ ws) way (suc a) (suc b) ab h = runs_by_number frame rising w ws way.1 a b (omega arith) (omega arith)

-- the first vertex and the last tell
pub runs_by_ends : (frame : Frame) (chain : List Place) (rising : Bool) → IsMonotoneChain frame chain
    → (IsTrue rising ↔ IsBeforeIn frame (vertex_at chain 0) (vertex_at chain (length chain - 1))) → RunsAlong frame rising chain
runs_by_ends frame [] rising monotone test = absurd monotone
runs_by_ends frame (v ∷ []) rising monotone test = absurd monotone
runs_by_ends frame (v ∷ w ∷ ws) rising monotone test = runs_by_number frame rising v (w ∷ ws)
    (runs_along frame rising v w ws monotone (subst (λ (x : Place). IsTrue rising ↔ IsBeforeIn frame v x) (last_vertex v w ws) test))

-- ---- before one vertex and after another

-- what comes before a vertex comes before each later one
pub before_later : (frame : Frame) (rising : Bool) (chain : List Place) (p : Place) (a b : ℕ) → RunsAlong frame rising chain → a ≤ b
    → b < length chain → IsAlong frame rising p (vertex_at chain a) → IsAlong frame rising p (vertex_at chain b)
before_later frame rising chain p a b runs ab inside h =
    elim (cases_lt a b) [
      | inl less ↦ then_along frame rising p (vertex_at chain a) (vertex_at chain b) h (runs a b less inside)
      | inr more ↦ let same : a ≡ b = omega arith in subst (λ (i : ℕ). IsAlong frame rising p (vertex_at chain i)) same h
    ]

pub after_earlier : (frame : Frame) (rising : Bool) (chain : List Place) (p : Place) (a b : ℕ) → RunsAlong frame rising chain → a ≤ b
    → b < length chain → IsAlong frame rising (vertex_at chain b) p → IsAlong frame rising (vertex_at chain a) p
after_earlier frame rising chain p a b runs ab inside h =
    elim (cases_lt a b) [
      | inl less ↦ then_along frame rising (vertex_at chain a) (vertex_at chain b) p (runs a b less inside) h
      | inr more ↦ let same : b ≡ a = omega arith in subst (λ (i : ℕ). IsAlong frame rising (vertex_at chain i) p) same h
    ]

-- nothing comes before a vertex and after the same or a later one
pub not_both : (frame : Frame) (rising : Bool) (chain : List Place) (p : Place) (a b : ℕ) → RunsAlong frame rising chain → a ≤ b
    → b < length chain → IsAlong frame rising p (vertex_at chain a) → IsAlong frame rising (vertex_at chain b) p → ⊥
not_both frame rising chain p a b runs ab inside h k = one_way frame rising p (vertex_at chain b)
    (before_later frame rising chain p a b runs ab inside h) k

-- ---- the edge that a place is over

pub over_past_start : (frame : Frame) (rising : Bool) (chain : List Place) (p : Place) (s : ℕ) → RunsAlong frame rising chain
    → IsOverEdge frame rising chain p s → IsAlong frame rising p (vertex_at chain 0) → ⊥
over_past_start frame rising chain p s runs over h = let inside = over.in_chain in
    not_both frame rising chain p 0 s runs (omega arith) (omega arith) h over.start

pub over_before_end : (frame : Frame) (rising : Bool) (chain : List Place) (p : Place) (s : ℕ) → RunsAlong frame rising chain
    → IsOverEdge frame rising chain p s → IsAlong frame rising (vertex_at chain (length chain - 1)) p → ⊥
over_before_end frame rising chain p s runs over h = let inside = over.in_chain in
    not_both frame rising chain p (s + 1) (length chain - 1) runs (omega arith) (omega arith) over.end h

-- an edge whose start p does not come before and whose end does not come before p is the one that p is over
pub is_over : (frame : Frame) (rising : Bool) (chain : List Place) (p : Place) (e s : ℕ) → RunsAlong frame rising chain
    → IsOverEdge frame rising chain p s → e + 1 < length chain → ¬ (IsAlong frame rising p (vertex_at chain e))
    → ¬ (IsAlong frame rising (vertex_at chain (e + 1)) p) → e ≡ s
is_over frame rising chain p e s runs over within from to =
    let inside = over.in_chain in
    elim (cases_lt e s) [
      | inl less ↦ absurd (to (after_earlier frame rising chain p (e + 1) s runs (omega arith) (omega arith) over.start))
      | inr more ↦
          elim (cases_lt s e) [
            | inl less ↦ absurd (from (before_later frame rising chain p (s + 1) e runs (omega arith) (omega arith) over.end))
            | inr same ↦ omega arith
          ]
    ]
