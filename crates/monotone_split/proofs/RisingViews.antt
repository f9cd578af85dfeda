-- Runs that are monotone in a frame increase in some view of the plane; edges beside such a run are apart from the segment that replaces
-- it.
use Rattle.std.proofs.Common.{◌≡◌, List, [], ◌∷◌, ◌++◌, map, sym, ap, subst, ◌∙◌}
use Rattle.grid_exact.specs.declared.frame.Frame.{Frame}
use Rattle.grid_exact.specs.declared.frame.Frame.TheVariants.{Plain, Turned}
use Rattle.grid_exact.specs.Geometry.{Place, turned, IsBefore, IsOnSegment, CommonPoint}
use Rattle.grid_exact.specs.Crossing.{is_crossed}
use Rattle.grid_exact.specs.Walks.{count_edges, is_odd, end_of, IsOff, EachEdge}
use Rattle.grid_exact.specs.Segments.{IsApart}
use Rattle.grid_exact.specs.Views.{IsView, negated, same_view}
use Rattle.grid_exact.proofs.Commons.{on_turned, common_at_start, common_swapped}
use Rattle.grid_exact.proofs.Orders.{not_before_itself}
use Rattle.grid_exact.proofs.Views.{end_of-map, map-pushed, apart_turned, apart_in_view, rising_in_view, negated_before, plain_view}
use Rattle.grid_exact.proofs.Views.{turned_view, negated_view, view_of_view}
use Rattle.grid_exact.proofs.Walks.{before_end, each_edge_mapped, end_of-pushed}
use Rattle.grid_exact.specs.Runs.{IsMonotone}
use Rattle.grid_exact.specs.Runs.IsMonotone.{Increasing, Decreasing}
use Rattle.monotone_split.proofs.Runs.{IsAside, no_common_either_way}

-- ---- walks in a view

-- p is on no edge of the closed walk
off_closed : (v u : Place) (ws : List Place) (c d : Place) → end_of v ws ≡ u → EachEdge (IsApart c d) v ws → (x : Place)
    → ¬ (IsOnSegment u x c) → IsOff c v (ws ++ x ∷ [])
off_closed v u [] c d end apart x off = (subst (λ (y : Place). ¬ (IsOnSegment y x c)) (sym end) off, tt)
off_closed v u (w ∷ ws) c d end apart x off =
    ((λ on. apart.0 (common_swapped v w c d (common_at_start c d v w on))), off_closed w u ws c d end apart.1 x off)

aside_in_view : (view : Place → Place) → IsView view → (v u : Place) (ws : List Place) (c d : Place) → end_of v ws ≡ u
    → EachEdge (IsApart c d) v ws → IsAside v u ws c → IsAside (view v) (view u) (map view ws) (view c)
aside_in_view view h v u ws c d end apart aside =
    record {
      off = λ on. aside.off (h.on_back v u c on);
      even =
          ap (λ (us : List Place). is_odd (count_edges (is_crossed (view c)) (view v) us)) (sym (map-pushed view ws v))
          ∙ sym (h.parity c v (ws ++ v ∷ []) (off_closed v u ws c d end apart v (λ on. aside.off (on_turned u v c on)))
          (end_of-pushed v ws v))
          ∙ aside.even;
    }

-- ---- runs that are monotone in a frame

-- the walk increases in some view
pub record Increases (v : Place) (ws : List Place) : Type 0 where
  pub view : Place → Place
  pub is_view : IsView view
  pub rising : EachEdge (λ a b. IsBefore (view a) (view b)) v ws

pub increases : (frame : Frame) (v : Place) (ws : List Place) → IsMonotone frame v ws → Increases v ws
increases Plain v ws (Increasing h) = record { view = same_view; is_view = plain_view; rising = h }
increases Plain v ws (Decreasing h) = record {
  view = negated;
  is_view = negated_view;
  rising =
      each_edge_mapped _ _ (λ a b k. negated_before b a k) v ws h;
}
increases Turned v ws (Increasing h) = record { view = turned; is_view = turned_view; rising = h }
increases Turned v ws (Decreasing h) = record {
  view = λ p. negated (turned p);
  is_view =
      view_of_view turned negated turned_view negated_view;
  rising =
      each_edge_mapped _ _ (λ a b k. negated_before (turned b) (turned a) k) v ws h;
}

increasing_run : (v u : Place) (ws : List Place) (c d : Place) → end_of v ws ≡ u → ¬ (v ≡ u) → ¬ (c ≡ d) → EachEdge IsBefore v ws
    → EachEdge (IsApart c d) v ws → IsAside v u ws c → IsAside v u ws d → ¬ (CommonPoint v u c d)
increasing_run v u [] c d end vu cd rising apart at_c at_d h = vu end
increasing_run v u (w ∷ ws) c d end vu cd rising apart at_c at_d h =
    no_common_either_way v w ws c d cd rising.0 rising.1 apart
    (subst (λ (x : Place). IsAside v x (w ∷ ws) c) (sym end) at_c)
    (subst (λ (x : Place). IsAside v x (w ∷ ws) d) (sym end) at_d)
    (subst (λ (x : Place). CommonPoint v x c d) (sym end) h)

-- An edge that has no common point with a monotone run, and whose ends are off the segment between the run's ends and on one side of it and
-- of the run, has no common point with the segment.
pub apart_from_segment : (v u : Place) (ws : List Place) (c d : Place) → Increases v ws → end_of v ws ≡ u → ¬ (v ≡ u) → ¬ (c ≡ d)
    → EachEdge (IsApart c d) v ws → IsAside v u ws c → IsAside v u ws d → ¬ (CommonPoint v u c d)
apart_from_segment v u ws c d way end vu cd apart at_c at_d h =
    increasing_run (way.view v) (way.view u) (map way.view ws) (way.view c) (way.view d)
    (end_of-map way.view v ws ∙ ap way.view end)
    (λ e. vu (way.is_view.one_to_one v u e))
    (λ e. cd (way.is_view.one_to_one c d e))
    (rising_in_view way.view v ws way.rising)
    (apart_in_view way.view way.is_view c d v ws apart)
    (aside_in_view way.view way.is_view v u ws c d end apart at_c)
    (aside_in_view way.view way.is_view v u ws d c end (apart_turned c d v ws apart) at_d)
    ((way.is_view.common v u c d h).point)

pub ends_apart : (v w : Place) (ws : List Place) → Increases v (w ∷ ws) → ¬ (v ≡ end_of w ws)
ends_apart v w ws way e =
    not_before_itself (way.view v) (way.view (end_of w ws)) (ap way.view e)
    (subst (λ (x : Place). IsBefore (way.view v) x) (end_of-map way.view w ws)
    (before_end (way.view v) (way.view w) (map way.view ws) way.rising.0 (rising_in_view way.view w ws way.rising.1)))
