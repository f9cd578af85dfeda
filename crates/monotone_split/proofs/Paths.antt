-- A path of allowed pairs: its edges beside those of other chains, beside feature points and beside one another, and its crossings.
use Rattle.std.proofs.Common.{◌≡◌, Bool, List, [], ◌∷◌, ◌++◌, refl, sym, ap, subst, ◌∙◌}
use Rattle.grid_exact.specs.declared.frame.Frame.{Frame}
use Rattle.grid_exact.specs.Geometry.{Place, IsBefore, IsOnSegment}
use Rattle.grid_exact.specs.Frame.{IsBeforeIn}
use Rattle.grid_exact.specs.Crossing.{is_crossed}
use Rattle.grid_exact.specs.Walks.{count_edges, is_odd, differ, EachEdge}
use Rattle.grid_exact.specs.Views.{IsView}
use Rattle.grid_exact.proofs.Crossings.{crossed_turned, differ_false}
use Rattle.grid_exact.proofs.Walks.{is_odd-counted, same_from, is_odd-pushed, differ_assoc}
use Rattle.grid_exact.proofs.Orders.{then_before, up_to, up_to_same, after_meets, not_before_itself}
use Rattle.grid_exact.proofs.Commons.{start_on, end_is_on}
use Rattle.arc_map.specs.Vertices.{Vertex, places, MeetLawfully}
use Rattle.arc_map.specs.Vertices.MayJoin.{One}
use Rattle.arc_map.specs.Vertices.IsJunction.{EndAndStart}
use Rattle.grid_exact.specs.Runs.{EachTwoEdges, IsMonotone}
use Rattle.grid_exact.specs.Runs.IsMonotone.{Increasing, Decreasing}
use Rattle.arc_map.specs.Allowed.{IsConsistent, IsAllowed, IsPath}
use Rattle.arc_map.specs.Allowed.IsConsistent.{AtStart, AtEnd, SameSide}
use Rattle.arc_map.specs.Allowed.IsAllowed.{Neighbours, Shortcut}
use Rattle.arc_map.specs.Clear.{IsWithinChain, EachButLast}
use Rattle.arc_map.proofs.Cutting.{before_in}
use Rattle.monotone_split.proofs.RisingViews.{Increases, increases}
use Rattle.monotone_split.proofs.WalkParts.{first_part, later_part, last_edge, first_edge, first_skipped, later_but_last, to_places}
use Rattle.monotone_split.proofs.WalkParts.{from_places, end_of-places, closed_walk-places, first_way, later_way}
use Rattle.monotone_split.proofs.Shortcuts.{shortcut_meets_lawfully}

-- ---- beside other chains

pub kept_others : (IsNear : Place → Place → Place → Type 0) (IsEdge : Vertex → Vertex → Type 0) (IsPoint : Place → Type 0) (c d : Vertex)
    → IsEdge c d → ¬ (c.place ≡ d.place) → (v : Vertex) (ws kept : List Vertex) → Increases v.place (places ws)
    → EachButLast (IsWithinChain IsEdge) ws → EachEdge (λ a b. MeetLawfully a b c d) v ws
    → IsPath (IsAllowed IsNear IsEdge IsPoint) v ws kept → EachEdge (λ a b. MeetLawfully a b c d) v kept
kept_others IsNear IsEdge IsPoint c d edge cd v ws [] way within lawful path = tt
kept_others IsNear IsEdge IsPoint c d edge cd v ws (w ∷ kept) way within lawful path =
    let way' = subst (λ (us : List Vertex). Increases v.place (places us)) path.2 way in
    let within' = subst (λ (us : List Vertex). EachButLast (IsWithinChain IsEdge) us) path.2 within in
    let lawful' = subst (λ (us : List Vertex). EachEdge (λ a b. MeetLawfully a b c d) v us) path.2 lawful in
    let run = first_part (λ a b. MeetLawfully a b c d) v path.0 w path.1 lawful' in (
      (elim path.3 [
        | Neighbours e ↦ (subst (λ (us : List Vertex). EachEdge (λ a b. MeetLawfully a b c d) v (us ++ w ∷ [])) e run).0
        | Shortcut s ↦
            shortcut_meets_lawfully IsEdge v path.0 w c d edge (first_way v path.0 w path.1 way')
            (first_skipped (IsWithinChain IsEdge) path.0 w path.1 within') cd run (s.starts c d edge) (s.ends c d edge)
            (s.single c d edge)
      ]),
      kept_others IsNear IsEdge IsPoint c d edge cd w path.1 kept (later_way v path.0 w path.1 way')
          (later_but_last (IsWithinChain IsEdge) path.0 w path.1 within')
          (later_part (λ a b. MeetLawfully a b c d) v path.0 w path.1 lawful') path.4,
    )

-- ---- beside feature points

off_step : (v : Vertex) (skipped : List Vertex) (w : Vertex) (p : Place)
    → EachEdge (λ a b. ¬ (IsOnSegment a.place b.place p)) v (skipped ++ w ∷ []) → IsConsistent v.place w.place (places skipped) p
    → ¬ (IsOnSegment v.place w.place p)
off_step v skipped w p off (AtStart e) on = let first = first_edge (λ a b. ¬ (IsOnSegment a.place b.place p)) v skipped w off in
    first.holds (start_on v.place first.to.place p e)
off_step v skipped w p off (AtEnd e) on = let last = last_edge (λ a b. ¬ (IsOnSegment a.place b.place p)) v skipped w off in
    last.holds (end_is_on last.from.place w.place p e)
off_step v skipped w p off (SameSide across even) on = across on

pub kept_off : (IsNear : Place → Place → Place → Type 0) (IsEdge : Vertex → Vertex → Type 0) (IsPoint : Place → Type 0) (p : Place)
    → IsPoint p → (v : Vertex) (ws kept : List Vertex) → EachEdge (λ a b. ¬ (IsOnSegment a.place b.place p)) v ws
    → IsPath (IsAllowed IsNear IsEdge IsPoint) v ws kept → EachEdge (λ a b. ¬ (IsOnSegment a.place b.place p)) v kept
kept_off IsNear IsEdge IsPoint p point v ws [] off path = tt
kept_off IsNear IsEdge IsPoint p point v ws (w ∷ kept) off path =
    let off' = subst (λ (us : List Vertex). EachEdge (λ a b. ¬ (IsOnSegment a.place b.place p)) v us) path.2 off in
    let run = first_part (λ a b. ¬ (IsOnSegment a.place b.place p)) v path.0 w path.1 off' in (
      (elim path.3 [
        | Neighbours e ↦ (subst (λ (us : List Vertex). EachEdge (λ a b. ¬ (IsOnSegment a.place b.place p)) v (us ++ w ∷ [])) e run).0
        | Shortcut s ↦ off_step v path.0 w p run (s.points p point)
      ]),
      kept_off IsNear IsEdge IsPoint p point w path.1 kept (later_part (λ a b. ¬ (IsOnSegment a.place b.place p)) v path.0 w path.1 off')
          path.4,
    )

-- ---- crossings

-- a walk is crossed as its two parts are
parts_crossed : (p : Place) (v : Vertex) (skipped : List Vertex) (w : Vertex) (rest : List Vertex)
    → is_odd (count_edges (is_crossed p) v.place (places (skipped ++ w ∷ rest)))
    ≡ differ (is_odd (count_edges (is_crossed p) v.place (places (skipped ++ w ∷ []))))
    (is_odd (count_edges (is_crossed p) w.place (places rest)))
parts_crossed p v [] w rest =
    is_odd-counted (is_crossed p) v.place w.place (places rest)
    ∙ ap (λ (t : Bool). differ t (is_odd (count_edges (is_crossed p) w.place (places rest))))
    (sym (is_odd-counted (is_crossed p) v.place w.place [] ∙ differ_false (is_crossed p v.place w.place)))
parts_crossed p v (k ∷ ks) w rest =
    is_odd-counted (is_crossed p) v.place k.place (places (ks ++ w ∷ rest))
    ∙ ap (λ (t : Bool). differ (is_crossed p v.place k.place) t) (parts_crossed p k ks w rest)
    ∙ differ_assoc (is_crossed p v.place k.place) (is_odd (count_edges (is_crossed p) k.place (places (ks ++ w ∷ []))))
    (is_odd (count_edges (is_crossed p) w.place (places rest)))
    ∙ ap (λ (t : Bool). differ t (is_odd (count_edges (is_crossed p) w.place (places rest))))
    (sym (is_odd-counted (is_crossed p) v.place k.place (places (ks ++ w ∷ []))))

-- the run and the segment that replaces it are crossed alike
step_crossed : (v : Vertex) (skipped : List Vertex) (w : Vertex) (p : Place)
    → EachEdge (λ a b. ¬ (IsOnSegment a.place b.place p)) v (skipped ++ w ∷ []) → IsConsistent v.place w.place (places skipped) p
    → is_crossed p v.place w.place ≡ is_odd (count_edges (is_crossed p) v.place (places (skipped ++ w ∷ [])))
step_crossed v skipped w p off (AtStart e) = let first = first_edge (λ a b. ¬ (IsOnSegment a.place b.place p)) v skipped w off in
    absurd (first.holds (start_on v.place first.to.place p e))
step_crossed v skipped w p off (AtEnd e) = let last = last_edge (λ a b. ¬ (IsOnSegment a.place b.place p)) v skipped w off in
    absurd (last.holds (end_is_on last.from.place w.place p e))
step_crossed v skipped w p off (SameSide across even) =
    crossed_turned p v.place w.place
    ∙ sym
    (same_from (is_odd (count_edges (is_crossed p) v.place (places (skipped ++ w ∷ [])))) (is_crossed p w.place v.place)
    (ap (λ (x : Place). differ (is_odd (count_edges (is_crossed p) v.place (places (skipped ++ w ∷ [])))) (is_crossed p x v.place))
    (sym (end_of-places v skipped w))
    ∙ sym (is_odd-pushed (is_crossed p) v.place (places (skipped ++ w ∷ [])) v.place)
    ∙ ap (λ (us : List Place). is_odd (count_edges (is_crossed p) v.place us)) (closed_walk-places skipped w v.place)
    ∙ even))

pub kept_crossed : (IsNear : Place → Place → Place → Type 0) (IsEdge : Vertex → Vertex → Type 0) (IsPoint : Place → Type 0) (p : Place)
    → IsPoint p → (v : Vertex) (ws kept : List Vertex) → EachEdge (λ a b. ¬ (IsOnSegment a.place b.place p)) v ws
    → IsPath (IsAllowed IsNear IsEdge IsPoint) v ws kept → is_odd (count_edges (is_crossed p) v.place (places kept))
    ≡ is_odd (count_edges (is_crossed p) v.place (places ws))
kept_crossed IsNear IsEdge IsPoint p point v ws [] off path = ap (λ (us : List Vertex).
    is_odd (count_edges (is_crossed p) v.place (places us))) (sym path)
kept_crossed IsNear IsEdge IsPoint p point v ws (w ∷ kept) off path =
    let off' = subst (λ (us : List Vertex). EachEdge (λ a b. ¬ (IsOnSegment a.place b.place p)) v us) path.2 off in
    let run = first_part (λ a b. ¬ (IsOnSegment a.place b.place p)) v path.0 w path.1 off' in
    let step : is_crossed p v.place w.place ≡ is_odd (count_edges (is_crossed p) v.place (places (path.0 ++ w ∷ []))) =
    (elim path.3 [
      | Neighbours e ↦
          sym (is_odd-counted (is_crossed p) v.place w.place [] ∙ differ_false (is_crossed p v.place w.place))
          ∙ ap (λ (us : List Vertex). is_odd (count_edges (is_crossed p) v.place (places (us ++ w ∷ [])))) (sym e)
      | Shortcut s ↦ step_crossed v path.0 w p run (s.points p point)
    ]) in
    is_odd-counted (is_crossed p) v.place w.place (places kept)
    ∙ ap (λ (t : Bool). differ t (is_odd (count_edges (is_crossed p) w.place (places kept)))) step
    ∙ ap (λ (t : Bool). differ (is_odd (count_edges (is_crossed p) v.place (places (path.0 ++ w ∷ [])))) t)
    (kept_crossed IsNear IsEdge IsPoint p point w path.1 kept
    (later_part (λ a b. ¬ (IsOnSegment a.place b.place p)) v path.0 w path.1 off') path.4)
    ∙ sym (parts_crossed p v path.0 w path.1)
    ∙ ap (λ (us : List Vertex). is_odd (count_edges (is_crossed p) v.place (places us))) (sym path.2)

-- ---- in the order of the chain

-- a walk whose edges each have a relation that passes on: the kept vertices have it too
over_run : {A : Type 0} (R : A → A → Type 0) → ((a b c : A) → R a b → R b c → R a c) → (v : A) (skipped : List A) (w : A)
    → EachEdge R v (skipped ++ w ∷ []) → R v w
over_run R passes v [] w h = h.0
over_run R passes v (k ∷ ks) w h = passes v k w h.0 (over_run R passes k ks w h.1)

pub kept_in_order : (Allowed : Vertex → List Vertex → Vertex → Type 0) (R : Vertex → Vertex → Type 0)
    → ((a b c : Vertex) → R a b → R b c → R a c) → (v : Vertex) (ws kept : List Vertex) → EachEdge R v ws → IsPath Allowed v ws kept
    → EachEdge R v kept
kept_in_order Allowed R passes v ws [] h path = tt
kept_in_order Allowed R passes v ws (w ∷ kept) h path =
    let h' = subst (λ (us : List Vertex). EachEdge R v us) path.2 h in (
      over_run R passes v path.0 w (first_part R v path.0 w path.1 h'),
      kept_in_order Allowed R passes w path.1 kept
          (later_part R v path.0 w path.1 h') path.4,
    )

pub kept_monotone : (Allowed : Vertex → List Vertex → Vertex → Type 0) (frame : Frame) (v : Vertex) (ws kept : List Vertex)
    → IsMonotone frame v.place (places ws) → IsPath Allowed v ws kept → IsMonotone frame v.place (places kept)
kept_monotone Allowed frame v ws kept (Increasing h) path =
    Increasing
    (to_places (λ a b. IsBeforeIn frame a b) v kept
    (kept_in_order Allowed (λ a b. IsBeforeIn frame a.place b.place) (λ a b c k l. before_in frame a.place b.place c.place k l) v ws kept
    (from_places (λ a b. IsBeforeIn frame a b) v ws h) path))
kept_monotone Allowed frame v ws kept (Decreasing h) path =
    Decreasing
    (to_places (λ a b. IsBeforeIn frame b a) v kept
    (kept_in_order Allowed (λ a b. IsBeforeIn frame b.place a.place) (λ a b c k l. before_in frame c.place b.place a.place l k) v ws kept
    (from_places (λ a b. IsBeforeIn frame b a) v ws h) path))

-- ---- the edges of one chain

-- the edge vw and each edge of the walk from a place that is past w
past_lawful : (view : Place → Place) → IsView view → (v w a : Vertex) (ws : List Vertex) → IsBefore (view v.place) (view w.place)
    → IsBefore (view w.place) (view a.place) → EachEdge (λ a b. IsBefore (view a.place) (view b.place)) a ws
    → EachEdge (MeetLawfully v w) a ws
past_lawful view is_view v w a [] vw wa rising = tt
past_lawful view is_view v w a (b ∷ bs) vw wa rising = (
  (λ h.
      let seen = is_view.common v.place w.place a.place b.place h in
      absurd (not_before_itself (view w.place) (view a.place)
      ((after_meets (view v.place) (view w.place) (view a.place) (view b.place) vw (up_to (view w.place) (view a.place) wa) rising.0
      seen.point).one_place) wa)),
  past_lawful view is_view v w b bs vw (then_before (view w.place) (view a.place) (view b.place) wa rising.0) rising.1,
)

next_lawful : (view : Place → Place) → IsView view → (v w : Vertex) (ws : List Vertex) → IsBefore (view v.place) (view w.place)
    → EachEdge (λ a b. IsBefore (view a.place) (view b.place)) w ws → EachEdge (MeetLawfully v w) w ws
next_lawful view is_view v w [] vw rising = tt
next_lawful view is_view v w (x ∷ xs) vw rising = (
  (λ h.
      let seen = is_view.common v.place w.place w.place x.place h in
      let joined = after_meets (view v.place) (view w.place) (view w.place) (view x.place) vw
      (up_to_same (view w.place) (view w.place) refl) rising.0 seen.point in
      EndAndStart (sym seen.first ∙ joined.at_end ∙ seen.denominator) (sym seen.second ∙ joined.at_start) (One refl)),
  past_lawful view is_view v w x xs vw rising.0 rising.1,
)

own_in_view : (view : Place → Place) → IsView view → (v : Vertex) (ws : List Vertex)
    → EachEdge (λ a b. IsBefore (view a.place) (view b.place)) v ws → EachTwoEdges MeetLawfully v ws
own_in_view view is_view v [] rising = tt
own_in_view view is_view v (w ∷ ws) rising = (next_lawful view is_view v w ws rising.0 rising.1, own_in_view view is_view w ws rising.1)

-- The edges of a monotone chain do not clash with one another.
pub own_lawful : (frame : Frame) (v : Vertex) (ws : List Vertex) → IsMonotone frame v.place (places ws) → EachTwoEdges MeetLawfully v ws
own_lawful frame v ws h =
    let way = increases frame v.place (places ws) h in
    own_in_view way.view way.is_view v ws (from_places (λ a b. IsBefore (way.view a) (way.view b)) v ws way.rising)
