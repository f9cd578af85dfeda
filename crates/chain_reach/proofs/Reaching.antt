-- The law of reach: what would change sides is in reach of the run.
use Rattle.std.proofs.Common.{◌≡◌, ◌⊎◌, inl, inr, Bool, true, false, List, [], ◌∷◌, ◌++◌, All, map, ℤ, zero, suc, pos, negsuc, ◌+ℤ◌}
use Rattle.std.proofs.Common.{◌-ℤ◌, ◌*ℤ◌}
use Rattle.std.proofs.Common.{◌≤ℤ◌, ◌<ℤ◌, refl, sym, subst, ◌∙◌, append_assoc, arith}
use Rattle.std.proofs.lemmas.Int.{ints}
use Rattle.std.proofs.lemmas.List.Elements.{All-weaker}
use Rattle.grid_exact.specs.Geometry.{Place, turned, area_of, length2_of, IsBefore, IsOnSegment}
use Rattle.grid_exact.specs.Near.{IsNear, weighted}
use Rattle.grid_exact.proofs.Weighted.{near_is_within}
use Rattle.grid_exact.specs.Geometry.IsBefore.{Left, Below as LowerOf}
use Rattle.grid_exact.specs.Segments.{IsOffSegment}
use Rattle.grid_exact.specs.Crossing.{is_crossed}
use Rattle.grid_exact.specs.Walks.{EachEdge, end_of, IsOff, count_edges, is_odd}
use Rattle.grid_exact.specs.Runs.{IsEdgeOf, IsMonotone}
use Rattle.grid_exact.specs.declared.frame.Frame.{Frame}
use Rattle.grid_exact.specs.declared.frame.Frame.TheVariants.{Plain, Turned}
use Rattle.grid_exact.proofs.WholeLaws.{sums}
use Rattle.grid_exact.proofs.Signs.{Negative, Zero, Positive, sign_of, at_most_or_above, square_nonnegative, zero_from_times}
use Rattle.grid_exact.proofs.Polynomial.{Whole, ◌⊕◌, ◌⊖◌, ◌⊗◌, ◌≈◌, Variable, identity_2, identity_3, identity_4, by_identity}
use Rattle.grid_exact.proofs.Commons.{on_turned}
use Rattle.grid_exact.proofs.Walks.{end_of-pushed, each_edge_mapped}
use Rattle.chain_side.specs.declared.sides.Side.{Side}
use Rattle.chain_side.specs.declared.sides.Side.TheVariants.{Above, On, Below, Outside}
use Rattle.chain_side.specs.Along.{IsAlong}
use Rattle.chain_side.specs.Sides.{SpanningEdge, EdgeUnder, IsSideOf}
use Rattle.chain_side.proofs.Passed.{edge_has}
use Rattle.chain_side.proofs.Told.{way_of, ends_rise, one_side, outside_spans_none}
use Rattle.chain_side.proofs.Parity.{sides_tell_crossings}
use Rattle.chain_reach.specs.Reach.{ahead_of, EachVertex, IsInHull, IsBeyond, IsInGrownBox, IsOutOfReachBy, IsBySegment, IsCloseToSegment}
use Rattle.chain_reach.specs.Reach.IsBeyond.{LeftOf, RightOf, Under, Over}
use Rattle.chain_reach.specs.Laws.{OutOfHullIsEven, OutOfHullKeepsSide, OutOfReachKeepsSide, OutOfReachIsEven}
use Rattle.chain_reach.proofs.Corridor.{IsTo, IsHeld, held_within, held_flat}
use Rattle.chain_reach.proofs.Hull.{vertices_also, first_vertex, end_vertex, both_ends, all_vertices, on_in_hull, between_in_hull}
use Rattle.chain_reach.proofs.Passing.{steps_same, by_in_box}
use Rattle.chain_reach.proofs.Stepping.{reached_in_corridor}
use Rattle.chain_reach.proofs.Sided.{side_along}

-- ---- the hull of a walk in the corridor is in the corridor

area_gap : (c k m x y r s : ℤ) → c *ℤ (k *ℤ y -ℤ m *ℤ x) -ℤ c *ℤ (k *ℤ s -ℤ m *ℤ r) ≡ (pos 0 -ℤ c *ℤ m) *ℤ (x -ℤ r) +ℤ (c *ℤ k) *ℤ (y -ℤ s)
area_gap c k m x y r s = let n = Variable in by_identity (c ∷ k ∷ m ∷ x ∷ y ∷ r ∷ s ∷ [])
    (n 0 ⊗ (n 1 ⊗ n 4 ⊖ n 2 ⊗ n 3) ⊖ n 0 ⊗ (n 1 ⊗ n 6 ⊖ n 2 ⊗ n 5) ≈ (Whole (pos 0) ⊖ n 0 ⊗ n 2) ⊗ (n 3 ⊖ n 5) ⊕ (n 0 ⊗ n 1) ⊗ (n 4 ⊖ n 6))
    refl

area_ahead : (c : ℤ) (v w p q : Place) → c *ℤ area_of v w q -ℤ c *ℤ area_of v w p
    ≡ ahead_of (pos 0 -ℤ c *ℤ (w.y -ℤ v.y)) (c *ℤ (w.x -ℤ v.x)) p q
area_ahead c v w p q =
    area_gap c (w.x -ℤ v.x) (w.y -ℤ v.y) (q.x -ℤ v.x) (q.y -ℤ v.y) (p.x -ℤ v.x) (p.y -ℤ v.y)
    ∙ sym (steps_same (pos 0 -ℤ c *ℤ (w.y -ℤ v.y)) (c *ℤ (w.x -ℤ v.x)) q.x p.x q.y p.y v.x v.y)

in_hull_under : (c b : ℤ) (v w p a : Place) (bs : List Place) → IsInHull p a bs → EachVertex (λ q. (c *ℤ area_of v w q) ≤ℤ b) a bs
    → (c *ℤ area_of v w p) ≤ℤ b
in_hull_under c b v w p a bs hull h =
    elim (at_most_or_above (c *ℤ area_of v w p) b) [
      | inl k ↦ k
      | inr k ↦
          absurd (hull (pos 0 -ℤ c *ℤ (w.y -ℤ v.y)) (c *ℤ (w.x -ℤ v.x))
          (vertices_also (λ q. (c *ℤ area_of v w q) ≤ℤ b) (λ q. ahead_of (pos 0 -ℤ c *ℤ (w.y -ℤ v.y)) (c *ℤ (w.x -ℤ v.x)) p q <ℤ pos 0)
          (λ q l. let e = area_ahead c v w p q in omega (arith, sums, e)) a bs h))
    ]

turned_times : (c z : ℤ) → (pos 0 -ℤ c) *ℤ z ≡ pos 0 -ℤ c *ℤ z
turned_times c z = identity_2 c z (λ c z. (Whole (pos 0) ⊖ c) ⊗ z ≈ Whole (pos 0) ⊖ c ⊗ z) refl

in_hull_to : (c b : ℤ) (v w p a : Place) (bs : List Place) → IsInHull p a bs → EachVertex (λ q. IsTo b (c *ℤ area_of v w q)) a bs
    → IsTo b (c *ℤ area_of v w p)
in_hull_to c b v w p a bs hull h =
    let high = in_hull_under c b v w p a bs hull (vertices_also (λ q. IsTo b (c *ℤ area_of v w q)) (λ q. (c *ℤ area_of v w q) ≤ℤ b) (λ q t.
    t.high) a bs h) in
    let low = in_hull_under (pos 0 -ℤ c) b v w p a bs hull (vertices_also (λ q. IsTo b (c *ℤ area_of v w q)) (λ q.
    ((pos 0 -ℤ c) *ℤ area_of v w q) ≤ℤ b) (λ q t. let l = t.low in let e = turned_times c (area_of v w q) in omega (arith, sums, e)) a
    bs h) in
    let e = turned_times c (area_of v w p) in
    record { low = omega (arith, sums, e); high = high }

in_hull_held : (v w p : Place) (e : ℤ) (a : Place) (bs : List Place) → IsInHull p a bs → EachVertex (IsHeld v w e) a bs → IsHeld v w e p
in_hull_held v w p e a bs hull h =
    record {
      up = in_hull_to (w.y -ℤ v.y) (e *ℤ length2_of v w) v w p a bs hull
          (vertices_also (IsHeld v w e) (λ q. IsTo (e *ℤ length2_of v w) ((w.y -ℤ v.y) *ℤ area_of v w q)) (λ q t. t.up) a bs h);
      across = in_hull_to (w.x -ℤ v.x) (e *ℤ length2_of v w) v w p a bs hull
          (vertices_also (IsHeld v w e) (λ q. IsTo (e *ℤ length2_of v w) ((w.x -ℤ v.x) *ℤ area_of v w q)) (λ q t. t.across) a bs h);
    }

-- ---- the segment of a run has a length

square_positive : (a : ℤ) → ¬ (a ≡ pos 0) → pos 0 <ℤ (a *ℤ a)
square_positive (pos zero) other = absurd (other refl)
square_positive (pos (suc n)) other = omega (arith, ints)
square_positive (negsuc n) other = omega (arith, ints)

long_apart : (a b : Place) → (a.x ≡ b.x → a.y ≡ b.y → ⊥) → pos 0 <ℤ length2_of a b
long_apart a b other =
    let xx = square_nonnegative (b.x -ℤ a.x) in
    let yy = square_nonnegative (b.y -ℤ a.y) in
    elim (sign_of (b.x -ℤ a.x)) [
      | Negative h ↦ let r = square_positive (b.x -ℤ a.x) (λ e. omega (arith, sums)) in omega (arith, sums)
      | Zero h ↦ let r = square_positive (b.y -ℤ a.y) (λ e. other (omega (arith, sums)) (omega (arith, sums))) in omega (arith, sums)
      | Positive h ↦ let r = square_positive (b.x -ℤ a.x) (λ e. omega (arith, sums)) in omega (arith, sums)
    ]

before_apart : (a b : Place) → IsBefore a b → a.x ≡ b.x → a.y ≡ b.y → ⊥
before_apart a b (Left h) e f = omega (arith, sums)
before_apart a b (LowerOf g h) e f = omega (arith, sums)

along_apart : (frame : Frame) (rising : Bool) (a b : Place) → IsAlong frame rising a b → a.x ≡ b.x → a.y ≡ b.y → ⊥
along_apart Plain true a b h e f = before_apart a b h e f
along_apart Plain false a b h e f = before_apart b a h (sym e) (sym f)
along_apart Turned true a b h e f = before_apart (turned a) (turned b) h f e
along_apart Turned false a b h e f = before_apart (turned b) (turned a) h (sym f) (sym e)

ends_apart : (frame : Frame) (rising : Bool) (v x : Place) (xs : List Place) → EachEdge (IsAlong frame rising) v (x ∷ xs)
    → v.x ≡ (end_of x xs).x → v.y ≡ (end_of x xs).y → ⊥
ends_apart frame rising v x xs way = along_apart frame rising v (end_of x xs) (ends_rise frame rising v x xs way)

-- ---- what is in the hull

pub each_edge_by : {A : Type 0} (P : A → A → Type 0) (v : A) (ws : List A) → ((a b : A) → IsEdgeOf v ws a b → P a b) → EachEdge P v ws
each_edge_by P v [] f = tt
each_edge_by P v (w ∷ ws) f = (f v w (inl (refl, refl)), each_edge_by P w ws (λ a b e. f a b (inr e)))

each_edge_pushed : {A : Type 0} (P : A → A → Type 0) (v : A) (ws : List A) (u : A) → EachEdge P v ws → P (end_of v ws) u
    → EachEdge P v (ws ++ u ∷ [])
each_edge_pushed P v [] u h k = (k, tt)
each_edge_pushed P v (w ∷ ws) u h k = (h.0, each_edge_pushed P w ws u h.1 k)

edge_in_hull : (p v : Place) (ws : List Place) (a b : Place) → IsEdgeOf v ws a b → IsOnSegment a b p → IsInHull p v ws
edge_in_hull p v ws a b edge on k m h =
    let both = edge_has (λ a b. (ahead_of k m p a <ℤ pos 0) × (ahead_of k m p b <ℤ pos 0)) v ws a b
    (both_ends (λ q. ahead_of k m p q <ℤ pos 0) v ws h) edge in
    on_in_hull a b p k m on both.0 both.1

back_in_hull : (p v : Place) (ws : List Place) → IsOnSegment (end_of v ws) v p → IsInHull p v ws
back_in_hull p v ws on k m h = on_in_hull (end_of v ws) v p k m on (end_vertex (λ q. ahead_of k m p q <ℤ pos 0) v ws h)
    (first_vertex (λ q. ahead_of k m p q <ℤ pos 0) v ws h)

spanning_ends : (P : Place → Type 0) (frame : Frame) (v : Place) (ws : List Place) (p : Place) → EachVertex P v ws
    → (e : SpanningEdge frame v ws p) → P e.first × P e.second
spanning_ends P frame v ws p h e =
    elim e.edge [
      | inl edge ↦ edge_has (λ a b. P a × P b) v ws e.first e.second (both_ends P v ws h) edge
      | inr edge ↦ let both = edge_has (λ a b. P a × P b) v ws e.second e.first (both_ends P v ws h) edge in (both.1, both.0)
    ]

above_and_below : (frame : Frame) (p v : Place) (ws : List Place) → IsSideOf frame v ws p Above
    → IsSideOf frame v (end_of v ws ∷ []) p Below → IsInHull p v ws
above_and_below frame p v ws s t k m h =
    let run = spanning_ends (λ q. ahead_of k m p q <ℤ pos 0) frame v ws p h s.0 in
    let back = spanning_ends (λ q. ahead_of k m p q <ℤ pos 0) frame v (end_of v ws ∷ []) p
    (first_vertex (λ q. ahead_of k m p q <ℤ pos 0) v ws h, end_vertex (λ q. ahead_of k m p q <ℤ pos 0) v ws h) t.0 in
    between_in_hull frame s.0.first s.0.second t.0.first t.0.second p k m s.0.from s.0.to t.0.from t.0.to s.1 t.1 run.0 run.1 back.0 back.1

below_and_above : (frame : Frame) (p v : Place) (ws : List Place) → IsSideOf frame v ws p Below
    → IsSideOf frame v (end_of v ws ∷ []) p Above → IsInHull p v ws
below_and_above frame p v ws s t k m h =
    let run = spanning_ends (λ q. ahead_of k m p q <ℤ pos 0) frame v ws p h s.0 in
    let back = spanning_ends (λ q. ahead_of k m p q <ℤ pos 0) frame v (end_of v ws ∷ []) p
    (first_vertex (λ q. ahead_of k m p q <ℤ pos 0) v ws h, end_vertex (λ q. ahead_of k m p q <ℤ pos 0) v ws h) t.0 in
    between_in_hull frame t.0.first t.0.second s.0.first s.0.second p k m t.0.from t.0.to s.0.from s.0.to t.1 s.1 back.0 back.1 run.0 run.1

-- ---- the law for a walk by its first two vertices

one_side_out_of_hull : (frame : Frame) (rising : Bool) (p v x : Place) (xs : List Place) → EachEdge (IsAlong frame rising) v (x ∷ xs)
    → ¬ (IsInHull p v (x ∷ xs)) → (s t : Side) → IsSideOf frame v (x ∷ xs) p s → IsSideOf frame v (end_of x xs ∷ []) p t → s ≡ t
one_side_out_of_hull frame rising p v x xs way out Above Above h k = refl
one_side_out_of_hull frame rising p v x xs way out Above Below h k = absurd (out (above_and_below frame p v (x ∷ xs) h k))
one_side_out_of_hull frame rising p v x xs way out Above Outside h k = absurd (outside_spans_none frame rising v (x ∷ xs) p way k h.0)
one_side_out_of_hull frame rising p v x xs way out Below Above h k = absurd (out (below_and_above frame p v (x ∷ xs) h k))
one_side_out_of_hull frame rising p v x xs way out Below Below h k = refl
one_side_out_of_hull frame rising p v x xs way out Below Outside h k = absurd (outside_spans_none frame rising v (x ∷ xs) p way k h.0)
one_side_out_of_hull frame rising p v x xs way out Outside Above h k =
    absurd (outside_spans_none frame rising v (end_of x xs ∷ []) p (ends_rise frame rising v x xs way, tt) h k.0)
one_side_out_of_hull frame rising p v x xs way out Outside Below h k =
    absurd (outside_spans_none frame rising v (end_of x xs ∷ []) p (ends_rise frame rising v x xs way, tt) h k.0)
one_side_out_of_hull frame rising p v x xs way out Outside Outside h k = refl
one_side_out_of_hull frame rising p v x xs way out On t h k = absurd (out (edge_in_hull p v (x ∷ xs) h.start h.end h.edge h.on))
one_side_out_of_hull frame rising p v x xs way out Above On h k = absurd (out (back_in_hull p v (x ∷ xs) (segment_back k)))
  where
    segment_back : EdgeUnder v (end_of x xs ∷ []) p → IsOnSegment (end_of x xs) v p
    segment_back u = elim u.edge [
      | inl e ↦ on_turned v (end_of x xs) p
          (subst (λ (y : Place). IsOnSegment y (end_of x xs) p) (sym e.0) (subst (λ (z : Place). IsOnSegment u.start z p) (sym e.1) u.on))
      | inr e ↦ absurd e
    ]
one_side_out_of_hull frame rising p v x xs way out Below On h k = absurd (out (back_in_hull p v (x ∷ xs) (segment_back k)))
  where
    segment_back : EdgeUnder v (end_of x xs ∷ []) p → IsOnSegment (end_of x xs) v p
    segment_back u = elim u.edge [
      | inl e ↦ on_turned v (end_of x xs) p
          (subst (λ (y : Place). IsOnSegment y (end_of x xs) p) (sym e.0) (subst (λ (z : Place). IsOnSegment u.start z p) (sym e.1) u.on))
      | inr e ↦ absurd e
    ]
one_side_out_of_hull frame rising p v x xs way out Outside On h k = absurd (out (back_in_hull p v (x ∷ xs) (segment_back k)))
  where
    segment_back : EdgeUnder v (end_of x xs ∷ []) p → IsOnSegment (end_of x xs) v p
    segment_back u = elim u.edge [
      | inl e ↦ on_turned v (end_of x xs) p
          (subst (λ (y : Place). IsOnSegment y (end_of x xs) p) (sym e.0) (subst (λ (z : Place). IsOnSegment u.start z p) (sym e.1) u.on))
      | inr e ↦ absurd e
    ]

-- what holds of a walk by its first two vertices
record IsKept (frame : Frame) (v w : Place) (ws : List Place) (p : Place) : Type 0 where
  off : IsOff p v ws
  off_back : IsOffSegment p w v
  side : Side
  of_run : IsSideOf frame v ws p side
  of_segment : IsSideOf frame v (w ∷ []) p side

kept_along : (frame : Frame) (rising : Bool) (v x : Place) (xs : List Place) (p : Place) → EachEdge (IsAlong frame rising) v (x ∷ xs)
    → ¬ (IsInHull p v (x ∷ xs)) → IsKept frame v (end_of x xs) (x ∷ xs) p
kept_along frame rising v x xs p way clear =
    let w = end_of x xs in
    let run = side_along frame rising v x xs p way in
    let segment = side_along frame rising v w [] p (ends_rise frame rising v x xs way, tt) in
    let same : segment.side ≡ run.side = sym (one_side_out_of_hull frame rising p v x xs way clear run.side segment.side run.there
    segment.there) in
    record {
      off = each_edge_by (IsOffSegment p) v (x ∷ xs) (λ a b edge on. clear (edge_in_hull p v (x ∷ xs) a b edge on));
      off_back = λ on. clear (back_in_hull p v (x ∷ xs) on);
      side = run.side;
      of_run = run.there;
      of_segment = subst (λ (s : Side). IsSideOf frame v (w ∷ []) p s) same segment.there;
    }

kept : (frame : Frame) (v w : Place) (skipped : List Place) (p : Place) → IsMonotone frame v (skipped ++ w ∷ [])
    → ¬ (IsInHull p v (skipped ++ w ∷ [])) → IsKept frame v w (skipped ++ w ∷ []) p
kept frame v w [] p monotone clear = let way = way_of frame v (w ∷ []) monotone in kept_along frame way.rising v w [] p way.runs clear
kept frame v w (x ∷ xs) p monotone clear =
    let way = way_of frame v (x ∷ (xs ++ w ∷ [])) monotone in
    let ends : end_of x (xs ++ w ∷ []) ≡ w = end_of-pushed x xs w in
    subst (λ (y : Place). IsKept frame v y (x ∷ (xs ++ w ∷ [])) p) ends (kept_along frame way.rising v x (xs ++ w ∷ []) p way.runs clear)

-- A place out of the hull of a run does not change sides.
pub out_of_hull_is_even : OutOfHullIsEven
out_of_hull_is_even frame v w skipped p monotone out =
    let clear = λ (hull : IsInHull p v (skipped ++ w ∷ [])). out hull in
    let k = kept frame v w skipped p monotone clear in
    let ends : end_of v (skipped ++ w ∷ []) ≡ w = end_of-pushed v skipped w in
    let joined : (skipped ++ w ∷ []) ++ v ∷ [] ≡ skipped ++ w ∷ v ∷ [] = append_assoc skipped (w ∷ []) (v ∷ []) in
    let off : IsOff p v (skipped ++ w ∷ v ∷ []) = subst (λ (ys : List Place). IsOff p v ys) joined
    (each_edge_pushed (IsOffSegment p) v (skipped ++ w ∷ []) v k.off (subst (λ (y : Place). IsOffSegment p y v) (sym ends) k.off_back))
    in
    (off, (sides_tell_crossings frame v w skipped p k.side k.side monotone off k.of_run k.of_segment).0 refl)

pub out_of_hull_keeps_side : OutOfHullKeepsSide
out_of_hull_keeps_side frame v w skipped p side monotone out h =
    let clear = λ (hull : IsInHull p v (skipped ++ w ∷ [])). out hull in
    let k = kept frame v w skipped p monotone clear in
    let way = way_of frame v (skipped ++ w ∷ []) monotone in
    let same : k.side ≡ side = one_side frame way.rising v (skipped ++ w ∷ []) p way.runs k.side side k.of_run h in
    subst (λ (s : Side). IsSideOf frame v (w ∷ []) p s) same k.of_segment

-- ---- the plane with its axes stretched

stretched_ahead : (wx wy : ℤ) (k m : ℤ) (p q : Place) → ahead_of k m (weighted wx wy p) (weighted wx wy q)
    ≡ ahead_of (k *ℤ wx) (m *ℤ wy) p q
stretched_ahead wx wy k m p q =
    let e = identity_4 k wx q.x p.x (λ k w a b. k ⊗ (w ⊗ a ⊖ w ⊗ b) ≈ (k ⊗ w) ⊗ (a ⊖ b)) refl in
    let f = identity_4 m wy q.y p.y (λ k w a b. k ⊗ (w ⊗ a ⊖ w ⊗ b) ≈ (k ⊗ w) ⊗ (a ⊖ b)) refl in
    omega (arith, sums, e, f)

vertices_seen : (P : Place → Type 0) (f : Place → Place) (a : Place) (bs : List Place) → EachVertex (λ q. P (f q)) a bs
    → EachVertex P (f a) (map f bs)
vertices_seen P f a [] h = h
vertices_seen P f a (b ∷ bs) h = (h.0, vertices_seen P f b bs h.1)

vertices_back : (P : Place → Type 0) (f : Place → Place) (a : Place) (bs : List Place) → EachVertex P (f a) (map f bs)
    → EachVertex (λ q. P (f q)) a bs
vertices_back P f a [] h = h
vertices_back P f a (b ∷ bs) h = (h.0, vertices_back P f b bs h.1)

edges_seen : (P : Place → Place → Type 0) (f : Place → Place) (a : Place) (bs : List Place) → EachEdge (λ v w. P (f v) (f w)) a bs
    → EachEdge P (f a) (map f bs)
edges_seen P f a [] h = tt
edges_seen P f a (b ∷ bs) h = (h.0, edges_seen P f b bs h.1)

stretched_hull : (wx wy : ℤ) (p a : Place) (bs : List Place) → IsInHull p a bs
    → IsInHull (weighted wx wy p) (weighted wx wy a) (map (weighted wx wy) bs)
stretched_hull wx wy p a bs hull k m h =
    hull (k *ℤ wx) (m *ℤ wy)
    (vertices_also (λ q. ahead_of k m (weighted wx wy p) (weighted wx wy q) <ℤ pos 0) (λ q. ahead_of (k *ℤ wx) (m *ℤ wy) p q <ℤ pos 0)
    (λ q l. let e = stretched_ahead wx wy k m p q in omega (arith, sums, e)) a bs
    (vertices_back (λ q. ahead_of k m (weighted wx wy p) q <ℤ pos 0) (weighted wx wy) a bs h))

stretched_same : (w a b : ℤ) → pos 1 ≤ℤ w → w *ℤ a ≡ w *ℤ b → a ≡ b
stretched_same w a b one e =
    let d = identity_3 w a b (λ w a b. w ⊗ (a ⊖ b) ≈ w ⊗ a ⊖ w ⊗ b) refl in
    let z : a -ℤ b ≡ pos 0 = zero_from_times w (a -ℤ b) (omega (arith, sums)) (omega (arith, sums, d)) in
    omega (arith, sums)

-- no edge of the walk is close to p
abbrev pub IsFarBy : ℤ → ℤ → ℤ → Place → Place → List Place → Type 0
IsFarBy wx wy e p v ws = EachEdge (λ a b. ¬ (IsCloseToSegment wx wy e p a b)) v ws

-- far is out of the hull
out_of_hull : (frame : Frame) (rising : Bool) (wx wy : ℤ) (v x : Place) (xs : List Place) (p : Place) (e : ℤ) → pos 1 ≤ℤ wx → pos 1 ≤ℤ wy
    → EachEdge (IsAlong frame rising) v (x ∷ xs)
    → EachVertex (λ q. IsHeld (weighted wx wy v) (weighted wx wy (end_of x xs)) e (weighted wx wy q)) v (x ∷ xs)
    → IsFarBy wx wy e p v (x ∷ xs) → ¬ (IsInHull p v (x ∷ xs))
out_of_hull frame rising wx wy v x xs p e one_x one_y way held out hull =
    let view = weighted wx wy in
    let w = end_of x xs in
    let long : pos 0 <ℤ length2_of (view v) (view w) = long_apart (view v) (view w) (λ e f.
    ends_apart frame rising v x xs way (stretched_same wx v.x w.x one_x e) (stretched_same wy v.y w.y one_y f)) in
    let seen = vertices_seen (IsHeld (view v) (view w) e) view v (x ∷ xs) held in
    let seen_hull = stretched_hull wx wy p v (x ∷ xs) hull in
    reached_in_corridor (view v) (view w) (view p) e (view v) (view x) (map view xs) long
    (in_hull_held (view v) (view w) (view p) e (view v) (map view (x ∷ xs)) seen_hull seen) seen
    (edges_seen (λ a b. ¬ (IsBySegment (pos 2 *ℤ e +ℤ pos 1) (pos 2 *ℤ e +ℤ pos 1) (view p) a b)) view v (x ∷ xs) out) seen_hull

out_of_run_hull : (frame : Frame) (wx wy : ℤ) (v w : Place) (skipped : List Place) (p : Place) (e : ℤ) → pos 1 ≤ℤ wx → pos 1 ≤ℤ wy
    → IsMonotone frame v (skipped ++ w ∷ [])
    → EachVertex (λ q. IsHeld (weighted wx wy v) (weighted wx wy w) e (weighted wx wy q)) v (skipped ++ w ∷ [])
    → IsFarBy wx wy e p v (skipped ++ w ∷ []) → ¬ (IsInHull p v (skipped ++ w ∷ []))
out_of_run_hull frame wx wy v w [] p e one_x one_y monotone held out = let way = way_of frame v (w ∷ []) monotone in
    out_of_hull frame way.rising wx wy v w [] p e one_x one_y way.runs held out
out_of_run_hull frame wx wy v w (x ∷ xs) p e one_x one_y monotone held out =
    let way = way_of frame v (x ∷ (xs ++ w ∷ [])) monotone in
    let ends : end_of x (xs ++ w ∷ []) ≡ w = end_of-pushed x xs w in
    out_of_hull frame way.rising wx wy v x (xs ++ w ∷ []) p e one_x one_y way.runs
    (subst (λ (y : Place). EachVertex (λ q. IsHeld (weighted wx wy v) (weighted wx wy y) e (weighted wx wy q)) v (x ∷ (xs ++ w ∷ [])))
    (sym ends) held) out

flat_start : (v w : Place) → area_of v w v ≡ pos 0
flat_start v w = identity_4 v.x v.y w.x w.y (λ k m g h. (g ⊖ k) ⊗ (m ⊖ m) ⊖ (h ⊖ m) ⊗ (k ⊖ k) ≈ Whole (pos 0)) refl

flat_end : (v w : Place) → area_of v w w ≡ pos 0
flat_end v w = identity_4 v.x v.y w.x w.y (λ k m g h. (g ⊖ k) ⊗ (h ⊖ m) ⊖ (h ⊖ m) ⊗ (g ⊖ k) ≈ Whole (pos 0)) refl

held_skipped : (wx wy : ℤ) (v w : Place) (e : ℤ) (skipped : List Place) → pos 0 ≤ℤ e → All (λ q. IsNear wx wy v w q e) skipped
    → EachVertex (λ q. IsHeld (weighted wx wy v) (weighted wx wy w) e (weighted wx wy q)) v (skipped ++ w ∷ [])
held_skipped wx wy v w e skipped bound near =
    let view = weighted wx wy in
    all_vertices (λ q. IsHeld (view v) (view w) e (view q)) v w skipped
    (held_flat (view v) (view w) (view v) e bound (flat_start (view v) (view w)))
    (held_flat (view v) (view w) (view w) e bound (flat_end (view v) (view w)))
    (All-weaker (λ q. IsNear wx wy v w q e) (λ q. IsHeld (view v) (view w) e (view q)) (λ q h.
    held_within (view v) (view w) (view q) e bound ((near_is_within wx wy v w q e).0 h)) skipped near)

-- what is far from a run does not change sides
pub far_is_even : (frame : Frame) (wx wy : ℤ) (v w : Place) (skipped : List Place) (p : Place) (e : ℤ) → pos 1 ≤ℤ wx → pos 1 ≤ℤ wy
    → pos 0 ≤ℤ e → IsMonotone frame v (skipped ++ w ∷ []) → All (λ q. IsNear wx wy v w q e) skipped
    → IsFarBy wx wy e p v (skipped ++ w ∷ []) → IsOff p v (skipped ++ w ∷ v ∷ [])
    × (is_odd (count_edges (is_crossed p) v (skipped ++ w ∷ v ∷ [])) ≡ false)
far_is_even frame wx wy v w skipped p e one_x one_y bound monotone near far =
    out_of_hull_is_even frame v w skipped p monotone (out_of_run_hull frame wx wy v w skipped p e one_x one_y monotone
    (held_skipped wx wy v w e skipped bound near) far)

-- ---- out of the grown boxes of the edges

both_past : (a b c d : ℤ) → (a ≤ℤ b) ⊎ (c ≤ℤ d) → b <ℤ a → d <ℤ c → ⊥
both_past a b c d (inl h) l m = omega (arith, sums)
both_past a b c d (inr h) l m = omega (arith, sums)

not_beyond_box : (r : ℤ) (p a b : Place) → IsInGrownBox r r p a b → ¬ (IsBeyond r p a b)
not_beyond_box r p a b h (LeftOf k m) = both_past a.x (p.x +ℤ r) b.x (p.x +ℤ r) h.left k m
not_beyond_box r p a b h (RightOf k m) = both_past p.x (a.x +ℤ r) p.x (b.x +ℤ r) h.right k m
not_beyond_box r p a b h (Under k m) = both_past a.y (p.y +ℤ r) b.y (p.y +ℤ r) h.bottom k m
not_beyond_box r p a b h (Over k m) = both_past p.y (a.y +ℤ r) p.y (b.y +ℤ r) h.top k m

-- what is out of reach of a walk is far from it
far_out_of_reach : (wx wy e : ℤ) (p v : Place) (ws : List Place) → IsOutOfReachBy wx wy e p v ws → IsFarBy wx wy e p v ws
far_out_of_reach wx wy e p v ws out =
    let view = weighted wx wy in
    each_edge_mapped (λ a b. IsBeyond (pos 2 *ℤ e) (view p) (view a) (view b)) (λ a b. ¬ (IsCloseToSegment wx wy e p a b))
    (λ a b beyond close.
    not_beyond_box (pos 2 *ℤ e) (view p) (view a) (view b) (by_in_box (pos 2 *ℤ e) (pos 2 *ℤ e) (view p) (view a)
    (view b) close) beyond) v ws
    out

pub out_of_reach_is_even : OutOfReachIsEven
out_of_reach_is_even frame wx wy v w skipped p e one_x one_y bound monotone near out =
    far_is_even frame wx wy v w skipped p e one_x one_y bound monotone near (far_out_of_reach wx wy e p v (skipped ++ w ∷ []) out)

pub out_of_reach_keeps_side : OutOfReachKeepsSide
out_of_reach_keeps_side frame wx wy v w skipped p e side one_x one_y bound monotone near out h =
    out_of_hull_keeps_side frame v w skipped p side monotone (out_of_run_hull frame wx wy v w skipped p e one_x one_y monotone
    (held_skipped wx wy v w e skipped bound near) (far_out_of_reach wx wy e p v (skipped ++ w ∷ []) out)) h
