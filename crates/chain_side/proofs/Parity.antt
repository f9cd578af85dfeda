-- Sides and crossings: a walk that runs one way is crossed once from below it, and not at all from elsewhere.
use Rattle.std.proofs.Common.{◌≡◌, ◌↔◌, inl, inr, Bool, true, false, List, [], ◌∷◌, ◌++◌, pos, refl, sym, ap, subst, ◌∙◌, append_assoc}
use Rattle.std.proofs.Common.{arith}
use Rattle.grid_exact.specs.Geometry.{Place, turned, area_of, IsOnSegment}
use Rattle.grid_exact.specs.Crossing.{is_crossed, is_crossed_sideways}
use Rattle.grid_exact.specs.Walks.{EachEdge, end_of, count_edges, is_odd, differ, IsOff}
use Rattle.grid_exact.specs.Runs.{IsEdgeOf, IsMonotone}
use Rattle.grid_exact.specs.Spans.{placed_in}
use Rattle.grid_exact.specs.declared.frame.Frame.{Frame}
use Rattle.grid_exact.specs.declared.frame.Frame.TheVariants.{Plain, Turned}
use Rattle.grid_exact.proofs.WholeLaws.{sums}
use Rattle.grid_exact.proofs.Commons.{on_turned}
use Rattle.grid_exact.proofs.Areas.{area_of-turned}
use Rattle.grid_exact.proofs.Orders.{lt_yes, lt_no}
use Rattle.grid_exact.proofs.Crossings.{crossed_turned, crossed_between, crossed_after, crossed_before, sideways_is_turned, differ_false}
use Rattle.grid_exact.proofs.Walks.{is_odd-counted, is_odd-pushed, end_of-pushed, closed_walk}
use Rattle.chain_side.specs.declared.sides.Side.{Side}
use Rattle.chain_side.specs.declared.sides.Side.TheVariants.{Above, On, Below, Outside}
use Rattle.chain_side.specs.Along.{IsAlong}
use Rattle.chain_side.specs.Sides.{IsAboveEdge, IsBelowEdge, IsOutside, SpanningEdge, EdgeUnder, IsSideOf}
use Rattle.chain_side.specs.Laws.{SidesTellCrossings}
use Rattle.chain_side.proofs.AlongOrder.{then_along, IsPassed, Ahead, Behind}
use Rattle.chain_side.proofs.Passed.{ahead_from, behind_edge}
use Rattle.chain_side.proofs.Told.{way_of, ends_rise, HasEnds, Forwards, Backwards, spanned_along, outside_passed, outside_spans_none}

-- ---- crossings as they are seen in a frame

abbrev pub crossed_in : Frame → Place → Place → Place → Bool
crossed_in frame p a b = is_crossed (placed_in frame p) (placed_in frame a) (placed_in frame b)

abbrev pub oddly : Frame → Place → Place → List Place → Bool
oddly frame p v ws = is_odd (count_edges (crossed_in frame p) v ws)

passed_uncrossed : (frame : Frame) (rising : Bool) (p a b : Place) → IsPassed frame rising p a b → crossed_in frame p a b ≡ false
passed_uncrossed Plain true p a b (Ahead h k) = crossed_before p a b h k
passed_uncrossed Plain true p a b (Behind h k) = crossed_after p a b h k
passed_uncrossed Plain false p a b (Ahead h k) = crossed_after p a b h k
passed_uncrossed Plain false p a b (Behind h k) = crossed_before p a b h k
passed_uncrossed Turned true p a b (Ahead h k) = crossed_before (turned p) (turned a) (turned b) h k
passed_uncrossed Turned true p a b (Behind h k) = crossed_after (turned p) (turned a) (turned b) h k
passed_uncrossed Turned false p a b (Ahead h k) = crossed_after (turned p) (turned a) (turned b) h k
passed_uncrossed Turned false p a b (Behind h k) = crossed_before (turned p) (turned a) (turned b) h k

pub all_uncrossed : (frame : Frame) (rising : Bool) (p v : Place) (ws : List Place) → EachEdge (IsPassed frame rising p) v ws
    → oddly frame p v ws ≡ false
all_uncrossed frame rising p v [] h = refl
all_uncrossed frame rising p v (w ∷ ws) h =
    is_odd-counted (crossed_in frame p) v w ws ∙ ap (λ (t : Bool). differ t (oddly frame p w ws)) (passed_uncrossed frame rising p v w h.0)
    ∙ all_uncrossed frame rising p w ws h.1

-- the edge that spans p is the only one that may be crossed
crossed_once : (frame : Frame) (rising : Bool) (p v : Place) (ws : List Place) (a b : Place) → EachEdge (IsAlong frame rising) v ws
    → IsEdgeOf v ws a b → IsAlong frame rising a p → IsAlong frame rising p b → oddly frame p v ws ≡ crossed_in frame p a b
crossed_once frame rising p v [] a b way e h k = absurd e
crossed_once frame rising p v (w ∷ ws) a b way (inl e) h k =
    let rest = ahead_from frame rising p w ws way.1 (subst (λ (x : Place). IsAlong frame rising p x) (sym e.1) k) in
    is_odd-counted (crossed_in frame p) v w ws
    ∙ ap (λ (t : Bool). differ (crossed_in frame p v w) t) (all_uncrossed frame rising p w ws rest)
    ∙ differ_false (crossed_in frame p v w)
    ∙ ap (λ (x : Place). crossed_in frame p x w) e.0
    ∙ ap (λ (x : Place). crossed_in frame p a x) e.1
crossed_once frame rising p v (w ∷ ws) a b way (inr e) h k =
    let wp = behind_edge frame rising p w ws a b way.1 e h in
    let vp = then_along frame rising v w p way.0 wp in
    is_odd-counted (crossed_in frame p) v w ws ∙ ap (λ (t : Bool). differ t (oddly frame p w ws))
    (passed_uncrossed frame rising p v w (Behind vp wp)) ∙ crossed_once frame rising p w ws a b way.1 e h k

-- ---- the bit of a side

-- whether a place on this side is below
is_below : Side → Bool
is_below Above = false
is_below On = false
is_below Below = true
is_below Outside = false

crossed_above : (frame : Frame) (v : Place) (ws : List Place) (p : Place) (e : SpanningEdge frame v ws p)
    → IsAboveEdge frame e.first e.second p → crossed_in frame p e.first e.second ≡ false
crossed_above Plain v ws p e h = crossed_between p e.first e.second e.from e.to
    ∙ lt_no (area_of e.first e.second p) (pos 0) (omega (arith, sums))
crossed_above Turned v ws p e h = let turn = area_of-turned e.first e.second p in
    crossed_between (turned p) (turned e.first) (turned e.second) e.from e.to
    ∙ lt_no (area_of (turned e.first) (turned e.second) (turned p)) (pos 0) (omega (arith, sums))

crossed_below : (frame : Frame) (v : Place) (ws : List Place) (p : Place) (e : SpanningEdge frame v ws p)
    → IsBelowEdge frame e.first e.second p → crossed_in frame p e.first e.second ≡ true
crossed_below Plain v ws p e h = crossed_between p e.first e.second e.from e.to ∙ lt_yes (area_of e.first e.second p) (pos 0) h
crossed_below Turned v ws p e h = let turn = area_of-turned e.first e.second p in
    crossed_between (turned p) (turned e.first) (turned e.second) e.from e.to
    ∙ lt_yes (area_of (turned e.first) (turned e.second) (turned p)) (pos 0) (omega (arith, sums))

crossed_spanning : (frame : Frame) (rising : Bool) (v : Place) (ws : List Place) (p : Place) → EachEdge (IsAlong frame rising) v ws
    → (e : SpanningEdge frame v ws p) → oddly frame p v ws ≡ crossed_in frame p e.first e.second
crossed_spanning frame rising v ws p way e = seen rising way (spanned_along frame rising v ws p way e)
  where
    seen : (rising : Bool) → EachEdge (IsAlong frame rising) v ws → HasEnds frame v ws p e rising
        → oddly frame p v ws ≡ crossed_in frame p e.first e.second
    seen true way (Forwards a s t) =
        crossed_once frame true p v ws a.start a.end way a.edge a.from a.to ∙ ap (λ (x : Place). crossed_in frame p x a.end) s
        ∙ ap (λ (x : Place). crossed_in frame p e.first x) t
    seen false way (Backwards a s t) =
        crossed_once frame false p v ws a.start a.end way a.edge a.from a.to
        ∙ crossed_turned (placed_in frame p) (placed_in frame a.start) (placed_in frame a.end)
        ∙ ap (λ (x : Place). crossed_in frame p x a.start) t
        ∙ ap (λ (x : Place). crossed_in frame p e.first x) s

side_tells : (frame : Frame) (rising : Bool) (v : Place) (ws : List Place) (p : Place) → EachEdge (IsAlong frame rising) v ws → (s : Side)
    → IsSideOf frame v ws p s → ¬ (EdgeUnder v ws p) → oddly frame p v ws ≡ is_below s
unfolding is_below
side_tells frame rising v ws p way Above h off = crossed_spanning frame rising v ws p way h.0 ∙ crossed_above frame v ws p h.0 h.1
side_tells frame rising v ws p way On h off = absurd (off h)
side_tells frame rising v ws p way Below h off = crossed_spanning frame rising v ws p way h.0 ∙ crossed_below frame v ws p h.0 h.1
side_tells frame rising v ws p way Outside h off = all_uncrossed frame rising p v ws (outside_passed frame rising v ws p way h)

-- ---- closed walks

counted_same : (f g : Place → Place → Bool) → ((a b : Place) → f a b ≡ g a b) → (v : Place) (ws : List Place)
    → is_odd (count_edges f v ws) ≡ is_odd (count_edges g v ws)
counted_same f g same v [] = refl
counted_same f g same v (w ∷ ws) = is_odd-counted f v w ws ∙ ap (λ (t : Bool). differ t (is_odd (count_edges f w ws))) (same v w)
    ∙ ap (λ (t : Bool). differ (g v w) t) (counted_same f g same w ws) ∙ sym (is_odd-counted g v w ws)

-- crossings of a closed walk, counted in the frame
pub counted_in : (frame : Frame) (p v : Place) (ws : List Place) → IsOff p v (ws ++ v ∷ [])
    → is_odd (count_edges (is_crossed p) v (ws ++ v ∷ [])) ≡ oddly frame p v (ws ++ v ∷ [])
counted_in Plain p v ws off = refl
counted_in Turned p v ws off = closed_walk p v (ws ++ v ∷ []) off (end_of-pushed v ws v)
    ∙ counted_same (is_crossed_sideways p) (crossed_in Turned p) (sideways_is_turned p) v (ws ++ v ∷ [])

under_not_off : (p v x : Place) (ws : List Place) → IsOff p v (ws ++ x ∷ []) → ¬ (EdgeUnder v ws p)
under_not_off p v x ws off u = edge_off v ws off u.edge u.on
  where
    edge_off : (v : Place) (ws : List Place) → IsOff p v (ws ++ x ∷ []) → IsEdgeOf v ws u.start u.end → ¬ (IsOnSegment u.start u.end p)
    edge_off v [] off e on = absurd e
    edge_off v (w ∷ ws) off (inl e) on = off.0 (subst (λ (y : Place). IsOnSegment y w p) (sym e.0)
        (subst (λ (z : Place). IsOnSegment u.start z p) (sym e.1) on))
    edge_off v (w ∷ ws) off (inr e) on = edge_off w ws off.1 e on

last_off : (p v x : Place) (ws : List Place) → IsOff p v (ws ++ x ∷ []) → ¬ (IsOnSegment (end_of v ws) x p)
last_off p v x [] off = off.0
last_off p v x (w ∷ ws) off = last_off p w x ws off.1

segment_not_under : (p v w : Place) → ¬ (IsOnSegment w v p) → ¬ (EdgeUnder v (w ∷ []) p)
segment_not_under p v w off u = off (on_turned v w p (at_ends u.edge))
  where
    at_ends : IsEdgeOf v (w ∷ []) u.start u.end → IsOnSegment v w p
    at_ends (inl e) = subst (λ (y : Place). IsOnSegment y w p) (sym e.0) (subst (λ (z : Place). IsOnSegment u.start z p) (sym e.1) u.on)
    at_ends (inr e) = absurd e

-- the two sides are one where their bits are
sides_meet : (frame : Frame) (rising : Bool) (v w x : Place) (ws : List Place) (p : Place) → EachEdge (IsAlong frame rising) v (x ∷ ws)
    → EachEdge (IsAlong frame rising) v (w ∷ []) → end_of x ws ≡ w → (s t : Side) → IsSideOf frame v (x ∷ ws) p s
    → IsSideOf frame v (w ∷ []) p t → ¬ (EdgeUnder v (x ∷ ws) p) → ¬ (EdgeUnder v (w ∷ []) p) → (s ≡ t)
    ↔ (differ (is_below s) (is_below t) ≡ false)
unfolding is_below
sides_meet frame rising v w x ws p way back ends Above Above h k off clear = (λ e. refl, λ e. refl)
sides_meet frame rising v w x ws p way back ends Above Below h k off clear = (λ e. cc, λ e. cc)
sides_meet frame rising v w x ws p way back ends Below Above h k off clear = (λ e. cc, λ e. cc)
sides_meet frame rising v w x ws p way back ends Below Below h k off clear = (λ e. refl, λ e. refl)
sides_meet frame rising v w x ws p way back ends Outside Outside h k off clear = (λ e. refl, λ e. refl)
sides_meet frame rising v w x ws p way back ends Outside Above h k off clear =
    absurd (outside_spans_none frame rising v (w ∷ []) p back (subst (λ (y : Place). IsOutside frame v y p) ends h) k.0)
sides_meet frame rising v w x ws p way back ends Outside Below h k off clear =
    absurd (outside_spans_none frame rising v (w ∷ []) p back (subst (λ (y : Place). IsOutside frame v y p) ends h) k.0)
sides_meet frame rising v w x ws p way back ends Above Outside h k off clear =
    absurd (outside_spans_none frame rising v (x ∷ ws) p way (subst (λ (y : Place). IsOutside frame v y p) (sym ends) k) h.0)
sides_meet frame rising v w x ws p way back ends Below Outside h k off clear =
    absurd (outside_spans_none frame rising v (x ∷ ws) p way (subst (λ (y : Place). IsOutside frame v y p) (sym ends) k) h.0)
sides_meet frame rising v w x ws p way back ends On t h k off clear = absurd (off h)
sides_meet frame rising v w x ws p way back ends Above On h k off clear = absurd (clear k)
sides_meet frame rising v w x ws p way back ends Below On h k off clear = absurd (clear k)
sides_meet frame rising v w x ws p way back ends Outside On h k off clear = absurd (clear k)

closed_parity : (frame : Frame) (v x : Place) (ws : List Place) (p : Place) (s t : Side) → IsMonotone frame v (x ∷ ws)
    → IsOff p v ((x ∷ ws) ++ v ∷ []) → IsSideOf frame v (x ∷ ws) p s → IsSideOf frame v (end_of x ws ∷ []) p t → (s ≡ t)
    ↔ (is_odd (count_edges (is_crossed p) v ((x ∷ ws) ++ v ∷ [])) ≡ false)
closed_parity frame v x ws p s t monotone off h k =
    let way = way_of frame v (x ∷ ws) monotone in
    let w = end_of x ws in
    let back : EachEdge (IsAlong frame way.rising) v (w ∷ []) = (ends_rise frame way.rising v x ws way.runs, tt) in
    let clear = under_not_off p v v (x ∷ ws) off in
    let aside = segment_not_under p v w (last_off p v v (x ∷ ws) off) in
    let run = side_tells frame way.rising v (x ∷ ws) p way.runs s h clear in
    let segment : crossed_in frame p w v ≡ is_below t = crossed_turned (placed_in frame p) (placed_in frame w) (placed_in frame v)
    ∙ sym (differ_false (crossed_in frame p v w)) ∙ sym (is_odd-counted (crossed_in frame p) v w [])
    ∙ side_tells frame way.rising v (w ∷ []) p back t k aside in
    let whole : is_odd (count_edges (is_crossed p) v ((x ∷ ws) ++ v ∷ [])) ≡ differ (is_below s) (is_below t) =
    counted_in frame p v (x ∷ ws) off ∙ is_odd-pushed (crossed_in frame p) v (x ∷ ws) v
    ∙ ap (λ (b : Bool). differ b (crossed_in frame p w v)) run ∙ ap (λ (b : Bool). differ (is_below s) b) segment in
    let both = sides_meet frame way.rising v w x ws p way.runs back refl s t h k clear aside in
    (λ e. whole ∙ both.0 e, λ e. both.1 (sym whole ∙ e))

pub sides_tell_crossings : SidesTellCrossings
sides_tell_crossings frame v w [] p s t monotone off h k = closed_parity frame v w [] p s t monotone off h k
sides_tell_crossings frame v w (x ∷ xs) p s t monotone off h k =
    let ends : end_of x (xs ++ w ∷ []) ≡ w = end_of-pushed x xs w in
    let same : (x ∷ (xs ++ w ∷ [])) ++ v ∷ [] ≡ x ∷ (xs ++ w ∷ v ∷ []) =
    ap (λ (ys : List Place). x ∷ ys) (append_assoc xs (w ∷ []) (v ∷ [])) in
    let both = closed_parity frame v x (xs ++ w ∷ []) p s t monotone (subst (λ (ys : List Place). IsOff p v ys) (sym same) off) h
    (subst (λ (y : Place). IsSideOf frame v (y ∷ []) p t) (sym ends) k) in
    subst (λ (ys : List Place). (s ≡ t) ↔ (is_odd (count_edges (is_crossed p) v ys) ≡ false)) same both
