-- What is before a run or behind it is on no edge of its closed walk, and what is between its ends and on no edge is spanned by one.
use Rattle.std.proofs.Common.{inl, inr, Bool, true, false, List, [], ◌∷◌, ◌++◌, refl, ◌∙◌}
use Rattle.grid_exact.specs.Geometry.{Place}
use Rattle.grid_exact.specs.Walks.{EachEdge, end_of, IsOff}
use Rattle.grid_exact.specs.declared.frame.Frame.{Frame}
use Rattle.grid_exact.proofs.Commons.{end_is_on}
use Rattle.chain_side.specs.Along.{IsAlong}
use Rattle.chain_side.specs.Sides.{IsSpanned, IsOutside, SpanningEdge, EdgeUnder}
use Rattle.chain_side.specs.Sides.IsSpanned.{Upwards, Downwards}
use Rattle.chain_side.specs.Sides.IsOutside.{Before as OutsideBefore, After as OutsideAfter}
use Rattle.chain_side.specs.Laws.{OutsideIsEven, OneEdgeSpans}
use Rattle.chain_side.proofs.AlongOrder.{compared_along, Earlier, There, Later, then_along, one_way, IsPassed, Ahead, Behind, passed_off}
use Rattle.chain_side.proofs.Told.{way_of, ends_rise, SpannedAlong, spanning_same, outside_passed}
use Rattle.chain_side.proofs.Parity.{all_uncrossed, counted_in}

-- ---- outside

passed_back : (frame : Frame) (rising : Bool) (v w p : Place) → IsOutside frame v w p → IsPassed frame rising p w v
passed_back frame true v w p (OutsideBefore h k) = Ahead k h
passed_back frame true v w p (OutsideAfter h k) = Behind k h
passed_back frame false v w p (OutsideBefore h k) = Behind k h
passed_back frame false v w p (OutsideAfter h k) = Ahead k h

closed_passed : (frame : Frame) (rising : Bool) (p v x : Place) (ws : List Place) → EachEdge (IsPassed frame rising p) v ws
    → IsPassed frame rising p (end_of v ws) x → EachEdge (IsPassed frame rising p) v (ws ++ x ∷ [])
closed_passed frame rising p v x [] h k = (k, tt)
closed_passed frame rising p v x (w ∷ ws) h k = (h.0, closed_passed frame rising p w x ws h.1 k)

all_off : (frame : Frame) (rising : Bool) (p v : Place) (ws : List Place) → EachEdge (IsPassed frame rising p) v ws → IsOff p v ws
all_off frame rising p v [] h = tt
all_off frame rising p v (w ∷ ws) h = (passed_off frame rising p v w h.0, all_off frame rising p w ws h.1)

pub outside_is_even : OutsideIsEven
outside_is_even frame v ws p monotone out =
    let way = way_of frame v ws monotone in
    let passed = closed_passed frame way.rising p v v ws (outside_passed frame way.rising v ws p way.runs out)
    (passed_back frame way.rising v (end_of v ws) p out) in
    let off = all_off frame way.rising p v (ws ++ v ∷ []) passed in
    (off, counted_in frame p v ws off ∙ all_uncrossed frame way.rising p v (ws ++ v ∷ []) passed)

-- ---- between the ends

some_spans : (frame : Frame) (rising : Bool) (v : Place) (ws : List Place) (p : Place) → EachEdge (IsAlong frame rising) v ws
    → ¬ (EdgeUnder v ws p) → IsAlong frame rising v p → IsAlong frame rising p (end_of v ws) → SpannedAlong frame rising v ws p
some_spans frame rising v [] p way off h k = absurd (one_way frame rising v p h k)
some_spans frame rising v (w ∷ ws) p way off h k =
    elim (compared_along frame rising p w) [
      | Earlier l ↦ record { start = v; end = w; edge = inl (refl, refl); from = h; to = l }
      | There e ↦ absurd (off (record { start = v; end = w; edge = inl (refl, refl); on = end_is_on v w p e }))
      | Later l ↦
          let later = some_spans frame rising w ws p way.1 (λ u.
          off (record { start = u.start; end = u.end; edge = inr u.edge; on = u.on })) l k in
          record { start = later.start; end = later.end; edge = inr later.edge; from = later.from; to = later.to }
    ]

spanning : (frame : Frame) (rising : Bool) (v : Place) (ws : List Place) (p : Place) → SpannedAlong frame rising v ws p
    → SpanningEdge frame v ws p
spanning frame true v ws p a = record { first = a.start; second = a.end; edge = inl a.edge; from = a.from; to = a.to }
spanning frame false v ws p a = record { first = a.end; second = a.start; edge = inr a.edge; from = a.to; to = a.from }

-- p comes behind the start of the run and before its end
between_along : (frame : Frame) (rising : Bool) (v w : Place) (ws : List Place) (p : Place) → EachEdge (IsAlong frame rising) v (w ∷ ws)
    → IsSpanned frame v (end_of w ws) p → IsAlong frame rising v p × IsAlong frame rising p (end_of w ws)
between_along frame true v w ws p way (Upwards h k) = (h, k)
between_along frame true v w ws p way (Downwards h k) =
    absurd (one_way frame true v (end_of w ws) (ends_rise frame true v w ws way) (then_along frame true (end_of w ws) p v h k))
between_along frame false v w ws p way (Upwards h k) =
    absurd (one_way frame false v (end_of w ws) (ends_rise frame false v w ws way) (then_along frame false (end_of w ws) p v k h))
between_along frame false v w ws p way (Downwards h k) = (k, h)

not_at_one : (frame : Frame) (v p : Place) → IsSpanned frame v v p → ⊥
not_at_one frame v p (Upwards h k) = one_way frame true v p h k
not_at_one frame v p (Downwards h k) = one_way frame true v p h k

pub one_edge_spans : OneEdgeSpans
one_edge_spans frame v [] p monotone off between = absurd (not_at_one frame v p between)
one_edge_spans frame v (w ∷ ws) p monotone off between =
    let way = way_of frame v (w ∷ ws) monotone in
    let ends = between_along frame way.rising v w ws p way.runs between in
    let edge = spanning frame way.rising v (w ∷ ws) p (some_spans frame way.rising v (w ∷ ws) p way.runs off ends.0 ends.1) in
    record { edge = edge; only = λ other. spanning_same frame way.rising v (w ∷ ws) p way.runs edge other }
