-- A walk along the order of a chain: of its edges at most one spans a place, and the others are passed.
use Rattle.std.proofs.Common.{◌≡◌, ◌⊎◌, inl, inr, ℕ, zero, suc, ◌+◌, ◌<◌, Bool, List, [], ◌∷◌, length, refl, sym, ◌∙◌, subst, add-one}
use Rattle.std.proofs.Common.{arith}
use Rattle.grid_exact.specs.Geometry.{Place}
use Rattle.grid_exact.specs.Walks.{EachEdge, end_of}
use Rattle.grid_exact.specs.Runs.{IsEdgeOf}
use Rattle.grid_exact.specs.declared.frame.Frame.{Frame}
pub use Rattle.grid_exact.proofs.Walks.{edge_has}
use Rattle.chain_side.specs.Along.{IsAlong, vertex_at}
use Rattle.chain_side.proofs.AlongOrder.{then_along, IsPassed, Ahead, Behind}

-- the walk starts ahead of p
pub ahead_from : (frame : Frame) (rising : Bool) (p v : Place) (ws : List Place) → EachEdge (IsAlong frame rising) v ws
    → IsAlong frame rising p v → EachEdge (IsPassed frame rising p) v ws
ahead_from frame rising p v [] way h = tt
ahead_from frame rising p v (w ∷ ws) way h =
    let k = then_along frame rising p v w h way.0 in
    (Ahead h k, ahead_from frame rising p w ws way.1 k)

pub start_behind : (frame : Frame) (rising : Bool) (p v : Place) (ws : List Place) → EachEdge (IsAlong frame rising) v ws
    → IsAlong frame rising (end_of v ws) p → IsAlong frame rising v p
start_behind frame rising p v [] way h = h
start_behind frame rising p v (w ∷ ws) way h = then_along frame rising v w p way.0 (start_behind frame rising p w ws way.1 h)

-- the walk ends behind p
pub behind_to : (frame : Frame) (rising : Bool) (p v : Place) (ws : List Place) → EachEdge (IsAlong frame rising) v ws
    → IsAlong frame rising (end_of v ws) p → EachEdge (IsPassed frame rising p) v ws
behind_to frame rising p v [] way h = tt
behind_to frame rising p v (w ∷ ws) way h = (
  Behind (start_behind frame rising p v (w ∷ ws) way h) (start_behind frame rising p w ws way.1 h),
  behind_to frame rising p w ws way.1
      h,
)

-- a walk with an edge that starts behind p starts behind it
pub behind_edge : (frame : Frame) (rising : Bool) (p v : Place) (ws : List Place) (a b : Place) → EachEdge (IsAlong frame rising) v ws
    → IsEdgeOf v ws a b → IsAlong frame rising a p → IsAlong frame rising v p
behind_edge frame rising p v [] a b way e h = absurd e
behind_edge frame rising p v (w ∷ ws) a b way (inl e) h = subst (λ (x : Place). IsAlong frame rising x p) (sym e.0) h
behind_edge frame rising p v (w ∷ ws) a b way (inr e) h = then_along frame rising v w p way.0
    (behind_edge frame rising p w ws a b way.1 e h)

-- Each edge is the one that spans p, or is passed.
pub others_passed : (frame : Frame) (rising : Bool) (p v : Place) (ws : List Place) (a b c d : Place) → EachEdge (IsAlong frame rising) v ws
    → IsEdgeOf v ws a b → IsAlong frame rising a p → IsAlong frame rising p b → IsEdgeOf v ws c d
    → ((c ≡ a) × (d ≡ b)) ⊎ IsPassed frame rising p c d
others_passed frame rising p v [] a b c d way e h k f = absurd e
others_passed frame rising p v (w ∷ ws) a b c d way (inl e) h k (inl f) = inl (sym f.0 ∙ e.0, sym f.1 ∙ e.1)
others_passed frame rising p v (w ∷ ws) a b c d way (inl e) h k (inr f) =
    inr (edge_has (IsPassed frame rising p) w ws c d (ahead_from frame rising p w ws way.1
    (subst (λ (x : Place). IsAlong frame rising p x) (sym e.1) k)) f)
others_passed frame rising p v (w ∷ ws) a b c d way (inr e) h k (inl f) =
    let wp = behind_edge frame rising p w ws a b way.1 e h in
    let vp = then_along frame rising v w p way.0 wp in
    inr (Behind (subst (λ (x : Place). IsAlong frame rising x p) f.0 vp) (subst (λ (x : Place). IsAlong frame rising x p) f.1 wp))
others_passed frame rising p v (w ∷ ws) a b c d way (inr e) h k (inr f) = others_passed frame rising p w ws a b c d way.1 e h k f

-- ---- vertices by number

edge_by_next : (v : Place) (ws : List Place) (k : ℕ) → suc k < length (v ∷ ws)
    → IsEdgeOf v ws (vertex_at (v ∷ ws) k) (vertex_at (v ∷ ws) (suc k))
edge_by_next v [] k h = absurd (omega arith)
edge_by_next v (w ∷ ws) zero h = inl (refl, refl)
edge_by_next v (w ∷ ws) (suc k) h = inr (edge_by_next w ws k (omega arith))

pub edge_by_number : (v : Place) (ws : List Place) (k : ℕ) → k + 1 < length (v ∷ ws)
    → IsEdgeOf v ws (vertex_at (v ∷ ws) k) (vertex_at (v ∷ ws) (k + 1))
edge_by_number v ws k h = rw add-one (edge_by_next v ws k (omega arith))

pub vertex_at-last : (v : Place) (ws : List Place) → vertex_at (v ∷ ws) (length ws) ≡ end_of v ws
vertex_at-last v [] = refl
vertex_at-last v (w ∷ ws) = vertex_at-last w ws
