-- Each place has one side of a chain, and the edge that it has come to tells which.
use Rattle.std.proofs.Common.{◌≡◌, ◌⊎◌, ◌↔◌, inl, inr, ℕ, ◌+◌, ◌-◌, ◌<◌, ◌≤◌, Bool, true, false, IsTrue, List, [], ◌∷◌, length, pos, refl}
use Rattle.std.proofs.Common.{sym, ap, ◌∙◌, subst, arith}
use Rattle.grid_exact.specs.Geometry.{Place, area_of, IsOnSegment}
use Rattle.grid_exact.specs.Frame.{IsBeforeIn}
use Rattle.grid_exact.specs.Walks.{EachEdge, end_of}
use Rattle.grid_exact.specs.Runs.{IsEdgeOf, IsMonotone}
use Rattle.grid_exact.specs.Runs.IsMonotone.{Increasing, Decreasing}
use Rattle.grid_exact.specs.declared.frame.Frame.{Frame}
use Rattle.grid_exact.specs.declared.frame.Frame.TheVariants.{Plain, Turned}
use Rattle.grid_exact.proofs.WholeLaws.{sums}
use Rattle.grid_exact.proofs.Segments.{area_of-on}
use Rattle.grid_exact.proofs.Commons.{start_on, end_is_on}
use Rattle.grid_exact.proofs.Areas.{area_turned}
use Rattle.chain_side.specs.declared.sides.Side.{Side}
use Rattle.chain_side.specs.declared.sides.Side.TheVariants.{Above, On, Below, Outside}
use Rattle.chain_side.specs.Along.{IsAlong, vertex_at}
use Rattle.chain_side.specs.Sides.{IsMonotoneChain, IsAboveEdge, IsBelowEdge, IsOutside, SpanningEdge, EdgeUnder, IsSideOf, IsSideOfChain}
use Rattle.chain_side.specs.Sides.{IsSideOfEdge}
use Rattle.chain_side.specs.Sides.IsOutside.{Before as OutsideBefore, After as OutsideAfter}
use Rattle.chain_side.proofs.AlongOrder.{Earlier, There, Later, compared_along, then_along, one_way, IsPassed, passed_off}
use Rattle.chain_side.proofs.AlongOrder.{spanned_not_passed, on_along}
use Rattle.chain_side.proofs.Passed.{edge_has, ahead_from, behind_to, others_passed, edge_by_number, vertex_at-last}

-- ---- which way a chain runs

pub ends_rise : (frame : Frame) (rising : Bool) (v w : Place) (ws : List Place) → EachEdge (IsAlong frame rising) v (w ∷ ws)
    → IsAlong frame rising v (end_of w ws)
ends_rise frame rising v w [] way = way.0
ends_rise frame rising v w (x ∷ ws) way = then_along frame rising v w (end_of x ws) way.0 (ends_rise frame rising w x ws way.1)

pub runs_along : (frame : Frame) (rising : Bool) (v w : Place) (ws : List Place) → IsMonotone frame v (w ∷ ws)
    → (IsTrue rising ↔ IsBeforeIn frame v (end_of w ws)) → EachEdge (IsAlong frame rising) v (w ∷ ws)
runs_along frame true v w ws (Increasing h) test = h
runs_along frame true v w ws (Decreasing h) test =
    absurd (one_way frame false v (end_of w ws) (ends_rise frame false v w ws h) (test.0 refl))
runs_along frame false v w ws (Increasing h) test = let yes = test.1 (ends_rise frame true v w ws h) in absurd (cc)
runs_along frame false v w ws (Decreasing h) test = h

-- some direction along which a monotone chain runs
pub record Way (frame : Frame) (v : Place) (ws : List Place) : Type 0 where
  pub rising : Bool
  pub runs : EachEdge (IsAlong frame rising) v ws

pub way_of : (frame : Frame) (v : Place) (ws : List Place) → IsMonotone frame v ws → Way frame v ws
way_of frame v ws (Increasing h) = record { rising = true; runs = h }
way_of frame v ws (Decreasing h) = record { rising = false; runs = h }

-- ---- the edge that spans p, as the walk passes it

pub record SpannedAlong (frame : Frame) (rising : Bool) (v : Place) (ws : List Place) (p : Place) : Type 0 where
  pub start : Place
  pub end : Place
  pub edge : IsEdgeOf v ws start end
  pub from : IsAlong frame rising start p
  pub to : IsAlong frame rising p end

-- its ends are those of the edge e
pub data HasEnds (frame : Frame) (v : Place) (ws : List Place) (p : Place) (e : SpanningEdge frame v ws p) : Bool → Type 0 where
  Forwards : (a : SpannedAlong frame true v ws p) → a.start ≡ e.first → a.end ≡ e.second → HasEnds frame v ws p e true
  Backwards : (a : SpannedAlong frame false v ws p) → a.start ≡ e.second → a.end ≡ e.first → HasEnds frame v ws p e false

pub spanned_along : (frame : Frame) (rising : Bool) (v : Place) (ws : List Place) (p : Place) → EachEdge (IsAlong frame rising) v ws
    → (e : SpanningEdge frame v ws p) → HasEnds frame v ws p e rising
spanned_along frame true v ws p way e =
    elim e.edge [
      | inl edge ↦ Forwards (record { start = e.first; end = e.second; edge = edge; from = e.from; to = e.to }) refl refl
      | inr edge ↦ absurd (one_way frame true e.first e.second (then_along frame true e.first p e.second e.from e.to)
          (edge_has (IsAlong frame true) v ws e.second e.first way edge))
    ]
spanned_along frame false v ws p way e =
    elim e.edge [
      | inl edge ↦ absurd (one_way frame true e.first e.second (then_along frame true e.first p e.second e.from e.to)
          (edge_has (IsAlong frame false) v ws e.first e.second way edge))
      | inr edge ↦ Backwards (record { start = e.second; end = e.first; edge = edge; from = e.to; to = e.from }) refl refl
    ]

-- ---- no place has two sides

pub outside_passed : (frame : Frame) (rising : Bool) (v : Place) (ws : List Place) (p : Place) → EachEdge (IsAlong frame rising) v ws
    → IsOutside frame v (end_of v ws) p → EachEdge (IsPassed frame rising p) v ws
outside_passed frame true v ws p way (OutsideBefore h k) = ahead_from frame true p v ws way h
outside_passed frame true v ws p way (OutsideAfter h k) = behind_to frame true p v ws way k
outside_passed frame false v ws p way (OutsideBefore h k) = behind_to frame false p v ws way k
outside_passed frame false v ws p way (OutsideAfter h k) = ahead_from frame false p v ws way h

not_outside_on : (frame : Frame) (rising : Bool) (v : Place) (ws : List Place) (p : Place) → EachEdge (IsAlong frame rising) v ws
    → IsOutside frame v (end_of v ws) p → EdgeUnder v ws p → ⊥
not_outside_on frame rising v ws p way out u =
    passed_off frame rising p u.start u.end (edge_has (IsPassed frame rising p) v ws u.start u.end
    (outside_passed frame rising v ws p way out) u.edge) u.on

not_outside_spanned : (frame : Frame) (rising : Bool) (v : Place) (ws : List Place) (p : Place) → EachEdge (IsAlong frame rising) v ws
    → IsOutside frame v (end_of v ws) p → SpannedAlong frame rising v ws p → ⊥
not_outside_spanned frame rising v ws p way out a =
    spanned_not_passed frame rising p a.start a.end a.from a.to
    (edge_has (IsPassed frame rising p) v ws a.start a.end (outside_passed frame rising v ws p way out) a.edge)

-- the edge that has p on it and one that spans p are one edge
under_is_spanned : (frame : Frame) (rising : Bool) (v : Place) (ws : List Place) (p : Place) → EachEdge (IsAlong frame rising) v ws
    → EdgeUnder v ws p → (a : SpannedAlong frame rising v ws p) → IsOnSegment a.start a.end p
under_is_spanned frame rising v ws p way u a =
    elim (others_passed frame rising p v ws a.start a.end u.start u.end way a.edge a.from a.to u.edge) [
      | inl same ↦ subst (λ (x : Place). IsOnSegment x a.end p) same.0 (subst (λ (y : Place). IsOnSegment u.start y p) same.1 u.on)
      | inr passed ↦ absurd (passed_off frame rising p u.start u.end passed u.on)
    ]

one_spans : (frame : Frame) (rising : Bool) (v : Place) (ws : List Place) (p : Place) → EachEdge (IsAlong frame rising) v ws
    → (a b : SpannedAlong frame rising v ws p) → (b.start ≡ a.start) × (b.end ≡ a.end)
one_spans frame rising v ws p way a b =
    elim (others_passed frame rising p v ws a.start a.end b.start b.end way a.edge a.from a.to b.edge) [
      | inl same ↦ same
      | inr passed ↦ absurd (spanned_not_passed frame rising p b.start b.end b.from b.to passed)
    ]

above_is_off : (frame : Frame) (a b p : Place) → IsAboveEdge frame a b p → area_of a b p ≡ pos 0 → ⊥
above_is_off Plain a b p h e = omega (arith, sums)
above_is_off Turned a b p h e = omega (arith, sums)

below_is_off : (frame : Frame) (a b p : Place) → IsBelowEdge frame a b p → area_of a b p ≡ pos 0 → ⊥
below_is_off Plain a b p h e = omega (arith, sums)
below_is_off Turned a b p h e = omega (arith, sums)

not_both_sides : (frame : Frame) (a b p : Place) → IsAboveEdge frame a b p → IsBelowEdge frame a b p → ⊥
not_both_sides Plain a b p h k = omega (arith, sums)
not_both_sides Turned a b p h k = omega (arith, sums)

-- the edge e and the edge f that span p have the same ends
pub spanning_same : (frame : Frame) (rising : Bool) (v : Place) (ws : List Place) (p : Place) → EachEdge (IsAlong frame rising) v ws
    → (e f : SpanningEdge frame v ws p) → (f.first ≡ e.first) × (f.second ≡ e.second)
spanning_same frame rising v ws p way e f = joined rising way (spanned_along frame rising v ws p way e)
    (spanned_along frame rising v ws p way f)
  where
    joined : (rising : Bool) → EachEdge (IsAlong frame rising) v ws → HasEnds frame v ws p e rising → HasEnds frame v ws p f rising
        → (f.first ≡ e.first) × (f.second ≡ e.second)
    joined true way (Forwards a s t) (Forwards b u w) = let one = one_spans frame true v ws p way a b in
        (sym u ∙ one.0 ∙ s, sym w ∙ one.1 ∙ t)
    joined false way (Backwards a s t) (Backwards b u w) = let one = one_spans frame false v ws p way a b in
        (sym w ∙ one.1 ∙ t, sym u ∙ one.0 ∙ s)

-- the area at an edge that spans p, where p is on some edge
flat_under : (frame : Frame) (rising : Bool) (v : Place) (ws : List Place) (p : Place) → EachEdge (IsAlong frame rising) v ws
    → EdgeUnder v ws p → (e : SpanningEdge frame v ws p) → area_of e.first e.second p ≡ pos 0
flat_under frame rising v ws p way u e = flat rising way (spanned_along frame rising v ws p way e)
  where
    flat : (rising : Bool) → EachEdge (IsAlong frame rising) v ws → HasEnds frame v ws p e rising → area_of e.first e.second p ≡ pos 0
    flat true way (Forwards a s t) = subst (λ (x : Place). area_of x e.second p ≡ pos 0) s
        (subst (λ (y : Place). area_of a.start y p ≡ pos 0) t (area_of-on a.start a.end p (under_is_spanned frame true v ws p way u a)))
    flat false way (Backwards a s t) =
        let level : area_of e.second e.first p ≡ pos 0 = subst (λ (x : Place). area_of x e.first p ≡ pos 0) s
        (subst (λ (y : Place). area_of a.start y p ≡ pos 0) t
        (area_of-on a.start a.end p (under_is_spanned frame false v ws p way u a))) in
        let turn = area_turned p e.first e.second in
        omega (arith, sums)

pub outside_spans_none : (frame : Frame) (rising : Bool) (v : Place) (ws : List Place) (p : Place) → EachEdge (IsAlong frame rising) v ws
    → IsOutside frame v (end_of v ws) p → SpanningEdge frame v ws p → ⊥
outside_spans_none frame rising v ws p way out e = none rising way (spanned_along frame rising v ws p way e)
  where
    none : (rising : Bool) → EachEdge (IsAlong frame rising) v ws → HasEnds frame v ws p e rising → ⊥
    none true way (Forwards a s t) = not_outside_spanned frame true v ws p way out a
    none false way (Backwards a s t) = not_outside_spanned frame false v ws p way out a

above_not_below : (frame : Frame) (rising : Bool) (v : Place) (ws : List Place) (p : Place) → EachEdge (IsAlong frame rising) v ws
    → IsSideOf frame v ws p Above → IsSideOf frame v ws p Below → ⊥
above_not_below frame rising v ws p way h k =
    let same = spanning_same frame rising v ws p way h.0 k.0 in
    not_both_sides frame h.0.first h.0.second p h.1 (subst (λ (x : Place). IsBelowEdge frame x h.0.second p) same.0
    (subst (λ (y : Place). IsBelowEdge frame k.0.first y p) same.1 k.1))

pub one_side : (frame : Frame) (rising : Bool) (v : Place) (ws : List Place) (p : Place) → EachEdge (IsAlong frame rising) v ws
    → (s t : Side) → IsSideOf frame v ws p s → IsSideOf frame v ws p t → s ≡ t
one_side frame rising v ws p way Above Above h k = refl
one_side frame rising v ws p way Above On h k =
    absurd (above_is_off frame h.0.first h.0.second p h.1 (flat_under frame rising v ws p way k h.0))
one_side frame rising v ws p way Above Below h k = absurd (above_not_below frame rising v ws p way h k)
one_side frame rising v ws p way Above Outside h k = absurd (outside_spans_none frame rising v ws p way k h.0)
one_side frame rising v ws p way On Above h k =
    absurd (above_is_off frame k.0.first k.0.second p k.1 (flat_under frame rising v ws p way h k.0))
one_side frame rising v ws p way On On h k = refl
one_side frame rising v ws p way On Below h k =
    absurd (below_is_off frame k.0.first k.0.second p k.1 (flat_under frame rising v ws p way h k.0))
one_side frame rising v ws p way On Outside h k = absurd (not_outside_on frame rising v ws p way k h)
one_side frame rising v ws p way Below Above h k = absurd (above_not_below frame rising v ws p way k h)
one_side frame rising v ws p way Below On h k =
    absurd (below_is_off frame h.0.first h.0.second p h.1 (flat_under frame rising v ws p way k h.0))
one_side frame rising v ws p way Below Below h k = refl
one_side frame rising v ws p way Below Outside h k = absurd (outside_spans_none frame rising v ws p way k h.0)
one_side frame rising v ws p way Outside Above h k = absurd (outside_spans_none frame rising v ws p way h k.0)
one_side frame rising v ws p way Outside On h k = absurd (not_outside_on frame rising v ws p way h k)
one_side frame rising v ws p way Outside Below h k = absurd (outside_spans_none frame rising v ws p way h k.0)
one_side frame rising v ws p way Outside Outside h k = refl

-- a side that p has is just the one that it has
pub exactly : (frame : Frame) (rising : Bool) (v : Place) (ws : List Place) (p : Place) → EachEdge (IsAlong frame rising) v ws → (s : Side)
    → IsSideOf frame v ws p s → (t : Side) → (s ≡ t) ↔ IsSideOf frame v ws p t
exactly frame rising v ws p way s h t = (λ e. subst (IsSideOf frame v ws p) e h, λ k. one_side frame rising v ws p way s t h k)

-- ---- the side that an edge tells

flat_at_start : (a b p : Place) → p ≡ a → area_of a b p ≡ pos 0
flat_at_start a b p e = area_of-on a b p (start_on a b p e)

flat_at_end : (a b p : Place) → p ≡ b → area_of a b p ≡ pos 0
flat_at_end a b p e = area_of-on a b p (end_is_on a b p e)

strictly_from : (frame : Frame) (rising : Bool) (a b p : Place) → ¬ (IsAlong frame rising p a) → ¬ (area_of a b p ≡ pos 0)
    → IsAlong frame rising a p
strictly_from frame rising a b p from off = elim (compared_along frame rising a p) [
  | Earlier h ↦ h
  | There e ↦ absurd (off (flat_at_start a b p (sym e)))
  | Later h ↦ absurd (from h)
]

strictly_to : (frame : Frame) (rising : Bool) (a b p : Place) → ¬ (IsAlong frame rising b p) → ¬ (area_of a b p ≡ pos 0)
    → IsAlong frame rising p b
strictly_to frame rising a b p to off = elim (compared_along frame rising p b) [
  | Earlier h ↦ h
  | There e ↦ absurd (off (flat_at_end a b p e))
  | Later h ↦ absurd (to h)
]

-- an edge of a walk that rises, or falls, read in the order of the frame: p has come to its start, and not passed its end
pub told_rising : (frame : Frame) (v : Place) (ws : List Place) (p a b : Place) → IsEdgeOf v ws a b → ¬ (IsAlong frame true p a)
    → ¬ (IsAlong frame true b p) → (s : Side) → IsSideOfEdge frame a b p s → IsSideOf frame v ws p s
told_rising frame v ws p a b edge from to Above h = (
  record {
    first = a;
    second = b;
    edge = inl edge;
    from = strictly_from frame true a b p from (above_is_off frame a b p h);
    to =
        strictly_to frame true a b p to (above_is_off frame a b p h);
  },
  h,
)
told_rising frame v ws p a b edge from to On h = record { start = a; end = b; edge = edge; on = on_along frame true a b p from to h }
told_rising frame v ws p a b edge from to Below h = (
  record {
    first = a;
    second = b;
    edge = inl edge;
    from = strictly_from frame true a b p from (below_is_off frame a b p h);
    to =
        strictly_to frame true a b p to (below_is_off frame a b p h);
  },
  h,
)
told_rising frame v ws p a b edge from to Outside h = absurd h

pub told_falling : (frame : Frame) (v : Place) (ws : List Place) (p a b : Place) → IsEdgeOf v ws a b → ¬ (IsAlong frame false p a)
    → ¬ (IsAlong frame false b p) → (s : Side) → IsSideOfEdge frame b a p s → IsSideOf frame v ws p s
told_falling frame v ws p a b edge from to Above h = (
  record {
    first = b;
    second = a;
    edge = inr edge;
    from = strictly_from frame true b a p to (above_is_off frame b a p h);
    to =
        strictly_to frame true b a p from (above_is_off frame b a p h);
  },
  h,
)
told_falling frame v ws p a b edge from to On h = let turn = area_turned p a b in
    record { start = a; end = b; edge = edge; on = on_along frame false a b p from to (omega (arith, sums)) }
told_falling frame v ws p a b edge from to Below h = (
  record {
    first = b;
    second = a;
    edge = inr edge;
    from = strictly_from frame true b a p to (below_is_off frame b a p h);
    to =
        strictly_to frame true b a p from (below_is_off frame b a p h);
  },
  h,
)
told_falling frame v ws p a b edge from to Outside h = absurd h

-- p comes before the start of a chain along it, or the end comes before p
outside_along : (frame : Frame) (rising : Bool) (v w : Place) (ws : List Place) (p : Place) → EachEdge (IsAlong frame rising) v (w ∷ ws)
    → (IsAlong frame rising p v) ⊎ (IsAlong frame rising (end_of w ws) p) → IsOutside frame v (end_of w ws) p
outside_along frame true v w ws p way (inl h) = OutsideBefore h
    (then_along frame true p v (end_of w ws) h (ends_rise frame true v w ws way))
outside_along frame true v w ws p way (inr h) = OutsideAfter (then_along frame true v (end_of w ws) p (ends_rise frame true v w ws way) h) h
outside_along frame false v w ws p way (inl h) = OutsideAfter h
    (then_along frame false p v (end_of w ws) h (ends_rise frame false v w ws way))
outside_along frame false v w ws p way (inr h) =
    OutsideBefore (then_along frame false v (end_of w ws) p (ends_rise frame false v w ws way) h) h

-- ---- of a chain by its list

pub last_vertex : (v w : Place) (ws : List Place) → vertex_at (v ∷ w ∷ ws) (length (v ∷ w ∷ ws) - 1) ≡ end_of w ws
last_vertex v w ws = let e : length (v ∷ w ∷ ws) - 1 ≡ length (w ∷ ws) = omega arith in ap (vertex_at (v ∷ w ∷ ws)) e
    ∙ vertex_at-last v (w ∷ ws)

-- the test of the first vertex and the last tells the direction of the chain
pub record Directed (frame : Frame) (chain : List Place) (rising : Bool) : Type 0 where
  pub monotone : IsMonotoneChain frame chain
  pub test : IsTrue rising ↔ IsBeforeIn frame (vertex_at chain 0) (vertex_at chain (length chain - 1))

way_along : (frame : Frame) (v w : Place) (ws : List Place) (rising : Bool) → Directed frame (v ∷ w ∷ ws) rising
    → EachEdge (IsAlong frame rising) v (w ∷ ws)
way_along frame v w ws rising d = runs_along frame rising v w ws d.monotone
    (subst (λ (x : Place). IsTrue rising ↔ IsBeforeIn frame v x) (last_vertex v w ws) d.test)

pub told_outside : (frame : Frame) (chain : List Place) (rising : Bool) (p : Place) → Directed frame chain rising
    → (IsAlong frame rising p (vertex_at chain 0)) ⊎ (IsAlong frame rising (vertex_at chain (length chain - 1)) p) → (t : Side)
    → (Outside ≡ t) ↔ IsSideOfChain frame chain p t
told_outside frame [] rising p d h t = absurd d.monotone
told_outside frame (v ∷ []) rising p d h t = absurd d.monotone
told_outside frame (v ∷ w ∷ ws) rising p d h t =
    let way = way_along frame v w ws rising d in
    let out : (IsAlong frame rising p v) ⊎ (IsAlong frame rising (end_of w ws) p) =
    elim h [ inl k ↦ inl k | inr k ↦ inr (subst (λ (x : Place). IsAlong frame rising x p) (last_vertex v w ws) k) ] in
    exactly frame rising v (w ∷ ws) p way Outside (outside_along frame rising v w ws p way out) t

-- the edge number k, to whose start p has come and whose end it has not passed
pub record ReachesEdge (frame : Frame) (chain : List Place) (rising : Bool) (p : Place) (k : ℕ) : Type 0 where
  pub in_chain : k + 1 < length chain
  pub from_start : ¬ (IsAlong frame rising p (vertex_at chain k))
  pub to_end : ¬ (IsAlong frame rising (vertex_at chain (k + 1)) p)

pub told_by_rising : (frame : Frame) (chain : List Place) (p : Place) (k : ℕ) → Directed frame chain true → ReachesEdge frame chain true p k
    → (s : Side) → IsSideOfEdge frame (vertex_at chain k) (vertex_at chain (k + 1)) p s → (t : Side) → (s ≡ t)
    ↔ IsSideOfChain frame chain p t
told_by_rising frame [] p k d r s h t = absurd d.monotone
told_by_rising frame (v ∷ []) p k d r s h t = absurd d.monotone
told_by_rising frame (v ∷ w ∷ ws) p k d r s h t =
    exactly frame true v (w ∷ ws) p (way_along frame v w ws true d) s
    (told_rising frame v (w ∷ ws) p (vertex_at (v ∷ w ∷ ws) k) (vertex_at (v ∷ w ∷ ws) (k + 1)) (edge_by_number v (w ∷ ws) k r.in_chain)
    r.from_start r.to_end s h) t

pub told_by_falling : (frame : Frame) (chain : List Place) (p : Place) (k : ℕ) → Directed frame chain false
    → ReachesEdge frame chain false p k → (s : Side) → IsSideOfEdge frame (vertex_at chain (k + 1)) (vertex_at chain k) p s → (t : Side)
    → (s ≡ t) ↔ IsSideOfChain frame chain p t
told_by_falling frame [] p k d r s h t = absurd d.monotone
told_by_falling frame (v ∷ []) p k d r s h t = absurd d.monotone
told_by_falling frame (v ∷ w ∷ ws) p k d r s h t =
    exactly frame false v (w ∷ ws) p (way_along frame v w ws false d) s
    (told_falling frame v (w ∷ ws) p (vertex_at (v ∷ w ∷ ws) k) (vertex_at (v ∷ w ∷ ws) (k + 1))
    (edge_by_number v (w ∷ ws) k r.in_chain) r.from_start r.to_end s h) t

pub two_or_more : (frame : Frame) (chain : List Place) → IsMonotoneChain frame chain → 2 ≤ length chain
two_or_more frame [] h = absurd h
two_or_more frame (v ∷ []) h = absurd h
two_or_more frame (v ∷ w ∷ ws) h = omega arith

-- the same, by the two vertices that were read
pub directed_by : (frame : Frame) (chain : List Place) (rising : Bool) (first last : Place) → IsMonotoneChain frame chain
    → first ≡ vertex_at chain 0 → last ≡ vertex_at chain (length chain - 1) → (IsTrue rising ↔ IsBeforeIn frame first last)
    → Directed frame chain rising
directed_by frame chain rising first last monotone is_first is_last test =
    record {
      monotone = monotone;
      test = subst (λ (x : Place). IsTrue rising ↔ IsBeforeIn frame x (vertex_at chain (length chain - 1))) is_first
          (subst (λ (y : Place). IsTrue rising ↔ IsBeforeIn frame first y) is_last test);
    }
