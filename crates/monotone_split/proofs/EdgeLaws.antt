-- The laws of an edge of another chain, beside a run and beside the shortcut that takes its place.
use Rattle.std.proofs.Common.{◌≡◌, ◌⊎◌, ◌∙◌, inl, inr, ℕ, pos, ◌*ℤ◌, List, [], ◌∷◌, ◌++◌, sym, ap, subst}
use Rattle.grid_exact.specs.Geometry.{Place, turned, IsBefore, IsOnSegment, CommonPoint}
use Rattle.grid_exact.specs.Frame.{IsBeforeIn}
use Rattle.grid_exact.specs.Spans.{IsUpTo, placed_in}
use Rattle.grid_exact.specs.Segments.{SameEnds, IsApart}
use Rattle.grid_exact.specs.Walks.{EachEdge}
use Rattle.grid_exact.specs.Runs.{IsEdgeOf, IsMonotone}
use Rattle.grid_exact.specs.Runs.IsMonotone.{Increasing, Decreasing}
use Rattle.grid_exact.specs.declared.frame.Frame.{Frame}
use Rattle.grid_exact.specs.declared.frame.Frame.TheVariants.{Plain, Turned}
use Rattle.grid_exact.proofs.Commons.{common_at_start, common_at_end, common_end_and_start, first_turned, second_turned, start_on}
use Rattle.grid_exact.proofs.Commons.{end_is_on, starts_are_one, start_is_end, end_is_start, ends_are_one}
use Rattle.grid_exact.proofs.Orders.{compared}
use Rattle.grid_exact.proofs.Orders.Compared.{Before, Same, After}
use Rattle.grid_exact.proofs.Views.{common_turned_back}
use Rattle.grid_exact.proofs.Walks.{each_edge_mapped}
use Rattle.arc_map.specs.Vertices.{Vertex, places, MeetLawfully}
use Rattle.arc_map.specs.Vertices.IsJunction.{Starts, StartAndEnd, EndAndStart, Ends}
use Rattle.arc_map.specs.Allowed.{IsConsistent}
use Rattle.arc_map.specs.Allowed.IsConsistent.{AtStart, AtEnd, SameSide}
use Rattle.arc_map.specs.Chains.{Chain, IsOtherEdge}
use Rattle.segment_tests.specs.Laws.{SpansMeet}
use Rattle.segment_tests.proofs.Overlaps.{apart_are_ordered}
use Rattle.segment_tests.proofs.Lines.{all_alike, none_alike}
use Rattle.monotone_split.specs.Shortcuts.{IsBesideRun, ShareEnd, IsOver, IsUnder, HasToEach, KeepsSide, EdgeKeepsSide, EdgeMissesShortcut}
use Rattle.monotone_split.specs.Shortcuts.{EdgeMeetsShortcutOnce}
use Rattle.monotone_split.specs.Shortcuts.ShareEnd.{Starts as AtStarts, StartAndEnd as AtStartAndEnd, EndAndStart as AtEndAndStart}
use Rattle.monotone_split.specs.Shortcuts.ShareEnd.{Ends as AtBothEnds}
use Rattle.monotone_split.proofs.RisingViews.{increases, apart_from_segment}
use Rattle.monotone_split.proofs.WalkParts.{edge_has, end_of-places, run_ends_apart}
use Rattle.monotone_split.proofs.Shortcuts.{Excludes, apart_run, excluded_within, aside, shortcut_meets_lawfully}
use Rattle.monotone_split.proofs.OneSided.{ComesFirst, EachUp, EachDown, one_sided_up, one_sided_down, not_behind}

-- ---- no common point with the run

no_end_shared : (v w c d : Vertex) → ¬ (ShareEnd v.place w.place c.place d.place) → Excludes c d v × Excludes c d w
no_end_shared v w c d none = (
  record { start = λ _ e. none (AtStarts e); end = λ _ e. none (AtStartAndEnd e) },
  record { start = λ _ e. none (AtEndAndStart e); end = λ _ e. none (AtBothEnds e) },
)

apart_beside : (frame : Frame) (chains : List Chain) (k : ℕ) (v : Vertex) (skipped : List Vertex) (w c d : Vertex)
    → IsBesideRun frame chains k v skipped w c d → ¬ (ShareEnd v.place w.place c.place d.place)
    → EachEdge (IsApart c.place d.place) v.place (places (skipped ++ w ∷ []))
apart_beside frame chains k v skipped w c d beside none =
    let ends = no_end_shared v w c d none in
    apart_run v skipped w c d ends.0 (excluded_within (IsOtherEdge chains k) c d beside.other skipped beside.within) ends.1 beside.lawful

-- ---- one side of the run

seen_before : (frame : Frame) (a b : Place) → IsBeforeIn frame a b → IsBefore (placed_in frame a) (placed_in frame b)
seen_before Plain a b h = h
seen_before Turned a b h = h

seen_apart : (frame : Frame) (a b c d : Place) → ¬ (CommonPoint a b c d)
    → ¬ (CommonPoint (placed_in frame a) (placed_in frame b) (placed_in frame c) (placed_in frame d))
seen_apart Plain a b c d apart h = apart h
seen_apart Turned a b c d apart h = apart (common_turned_back a b c d h)

-- what holds of each edge, taken as the run goes, holds of each edge taken in the order of the frame
to_each_up : (frame : Frame) (R : Place → Place → Place → Place → Type 0) (v : Place) (ws : List Place) (c d : Place)
    → EachEdge (ComesFirst (placed_in frame)) v ws → EachUp (placed_in frame) (λ a b. R a b c d) c d v ws → (a b : Place)
    → IsEdgeOf v ws a b ⊎ IsEdgeOf v ws b a → SpansMeet frame a b c d → R a b c d
to_each_up frame R v ws c d rising each a b (inl e) meet = each a b e meet.second_starts_in_time meet.first_starts_in_time
to_each_up frame R v ws c d rising each a b (inr e) meet = absurd
    (not_behind (placed_in frame a) (placed_in frame b) meet.first (edge_has (ComesFirst (placed_in frame)) v ws b a rising e))

to_each_down : (frame : Frame) (R : Place → Place → Place → Place → Type 0) (v : Place) (ws : List Place) (c d : Place)
    → EachEdge (λ a b. ComesFirst (placed_in frame) b a) v ws → EachDown (placed_in frame) (λ a b. R a b c d) c d v ws → (a b : Place)
    → IsEdgeOf v ws a b ⊎ IsEdgeOf v ws b a → SpansMeet frame a b c d → R a b c d
to_each_down frame R v ws c d falling each a b (inl e) meet = absurd
    (not_behind (placed_in frame a) (placed_in frame b) meet.first (edge_has (λ x y. ComesFirst (placed_in frame) y x) v ws a b falling e))
to_each_down frame R v ws c d falling each a b (inr e) meet = each b a e meet.second_starts_in_time meet.first_starts_in_time

abbrev OneSideOf : Frame → Place → List Place → Place → Place → Type 0
OneSideOf frame v ws c d = ((a b : Place) → IsEdgeOf v ws a b ⊎ IsEdgeOf v ws b a → SpansMeet frame a b c d → IsOver frame a b c d)
    ⊎ ((a b : Place) → IsEdgeOf v ws a b ⊎ IsEdgeOf v ws b a → SpansMeet frame a b c d → IsUnder frame a b c d)

-- cd from c to d in the order of the frame
one_side : (frame : Frame) (v : Place) (ws : List Place) (c d : Place) → IsMonotone frame v ws → EachEdge (IsApart c d) v ws
    → IsBefore (placed_in frame c) (placed_in frame d) → OneSideOf frame v ws c d
one_side frame v ws c d (Increasing h) apart cd =
    let rising = each_edge_mapped _ _ (seen_before frame) v ws h in
    elim (one_sided_up (placed_in frame) c d v ws rising (each_edge_mapped _ _ (λ a b none. seen_apart frame a b c d none) v ws apart) cd) [
      | inl over ↦ inl (to_each_up frame (IsOver frame) v ws c d rising over)
      | inr under ↦ inr (to_each_up frame (IsUnder frame) v ws c d rising under)
    ]
one_side frame v ws c d (Decreasing h) apart cd =
    let falling = each_edge_mapped _ _ (λ a b. seen_before frame b a) v ws h in
    elim (one_sided_down (placed_in frame) c d v ws falling (each_edge_mapped _ _ (λ a b none.
    seen_apart frame b a c d (λ k. none (first_turned b a c d k))) v ws apart) cd) [
      | inl over ↦ inl (to_each_down frame (IsOver frame) v ws c d falling over)
      | inr under ↦ inr (to_each_down frame (IsUnder frame) v ws c d falling under)
    ]

-- the one way to take cd in the order of the frame
taken_in_order : (frame : Frame) (R : Place → Place → Place → Place → Type 0) (v : Place) (ws : List Place) (c d : Place)
    → IsBefore (placed_in frame c) (placed_in frame d) → ((a b : Place) → IsEdgeOf v ws a b ⊎ IsEdgeOf v ws b a → SpansMeet frame a b c d
    → R a b c d) → HasToEach R frame v ws c d
taken_in_order frame R v ws c d cd each a b p q edge (inl e) meet =
    subst (λ x. R a b x q) e.0 (subst (λ y. R a b c y) e.1 (each a b edge
    (subst (λ y. SpansMeet frame a b c y) (sym e.1) (subst (λ x. SpansMeet frame a b x q) (sym e.0) meet))))
taken_in_order frame R v ws c d cd each a b p q edge (inr e) meet =
    let back : IsUpTo (placed_in frame d) (placed_in frame c) =
    subst (λ x. IsUpTo (placed_in frame x) (placed_in frame c)) (sym e.1)
    (subst (λ y. IsUpTo (placed_in frame p) (placed_in frame y)) (sym e.0) meet.second) in
    absurd (not_behind (placed_in frame d) (placed_in frame c) back cd)

turned_ends : (frame : Frame) (R : Place → Place → Place → Place → Type 0) (v : Place) (ws : List Place) (c d : Place)
    → HasToEach R frame v ws d c → HasToEach R frame v ws c d
turned_ends frame R v ws c d each a b p q edge (inl e) = each a b p q edge (inr (e.1, e.0))
turned_ends frame R v ws c d each a b p q edge (inr e) = each a b p q edge (inl (e.1, e.0))

keeps_in_order : (frame : Frame) (v : Place) (ws : List Place) (c d : Place) → IsMonotone frame v ws → EachEdge (IsApart c d) v ws
    → IsBefore (placed_in frame c) (placed_in frame d) → KeepsSide frame v ws c d
keeps_in_order frame v ws c d way apart cd =
    elim (one_side frame v ws c d way apart cd) [
      | inl over ↦ inl (taken_in_order frame (IsOver frame) v ws c d cd over)
      | inr under ↦ inr (taken_in_order frame (IsUnder frame) v ws c d cd under)
    ]

other_way : (frame : Frame) (v : Place) (ws : List Place) (c d : Place) → KeepsSide frame v ws d c → KeepsSide frame v ws c d
other_way frame v ws c d (inl over) = inl (turned_ends frame (IsOver frame) v ws c d over)
other_way frame v ws c d (inr under) = inr (turned_ends frame (IsUnder frame) v ws c d under)

seen_apart_ends : (frame : Frame) (c d : Place) → placed_in frame c ≡ placed_in frame d → c ≡ d
seen_apart_ends Plain c d e = e
seen_apart_ends Turned c d e = ap turned e

pub edge_keeps_side : EdgeKeepsSide
edge_keeps_side frame chains k v skipped w c d beside none =
    let apart = apart_beside frame chains k v skipped w c d beside none in
    let ws = places (skipped ++ w ∷ []) in
    elim (compared (placed_in frame c.place) (placed_in frame d.place)) [
      | Before cd ↦ keeps_in_order frame v.place ws c.place d.place beside.one_way apart cd
      | Same e ↦ absurd (beside.two_ends (seen_apart_ends frame c.place d.place e))
      | After dc ↦
          other_way frame v.place ws c.place d.place
          (keeps_in_order frame v.place ws d.place c.place beside.one_way
          (each_edge_mapped _ _ (λ a b none h. none (second_turned a b d.place c.place h)) v.place ws apart) dc)
    ]

-- ---- no shared end

off_shortcut : (v : Vertex) (skipped : List Vertex) (w : Vertex) (p : Place) → ¬ (p ≡ v.place) → ¬ (p ≡ w.place)
    → IsConsistent v.place w.place (places skipped) p → ¬ (IsOnSegment v.place w.place p)
off_shortcut v skipped w p not_start not_end (AtStart e) = absurd (not_start e)
off_shortcut v skipped w p not_start not_end (AtEnd e) = absurd (not_end e)
off_shortcut v skipped w p not_start not_end (SameSide off even) = off

same_ends_apart : (a b c d e f p q : Place) → SameEnds a b e f → SameEnds c d p q → ¬ (CommonPoint a b c d) → ¬ (CommonPoint e f p q)
same_ends_apart a b c d e f p q first second apart h = apart (back_second second (back_first first h))
  where
    back_first : SameEnds a b e f → CommonPoint e f p q → CommonPoint a b p q
    back_first (inl s) k = subst (λ x. CommonPoint x b p q) (sym s.0) (subst (λ y. CommonPoint e y p q) (sym s.1) k)
    back_first (inr s) k = first_turned b a p q (subst (λ x. CommonPoint b x p q) (sym s.0) (subst (λ y. CommonPoint y f p q) (sym s.1) k))

    back_second : SameEnds c d p q → CommonPoint a b p q → CommonPoint a b c d
    back_second (inl s) k = subst (λ x. CommonPoint a b x d) (sym s.0) (subst (λ y. CommonPoint a b p y) (sym s.1) k)
    back_second (inr s) k = second_turned a b d c (subst (λ x. CommonPoint a b d x) (sym s.0)
        (subst (λ y. CommonPoint a b y q) (sym s.1) k))

pub edge_misses_shortcut : EdgeMissesShortcut
edge_misses_shortcut frame chains k v skipped w c d beside stays none =
    let ws = places (skipped ++ w ∷ []) in
    let way = increases frame v.place ws beside.one_way in
    let off_c = off_shortcut v skipped w c.place (λ e. none (AtStarts (sym e))) (λ e. none (AtEndAndStart (sym e))) stays.start in
    let off_d = off_shortcut v skipped w d.place (λ e. none (AtStartAndEnd (sym e))) (λ e. none (AtBothEnds (sym e))) stays.end in
    let apart : ¬ (CommonPoint v.place w.place c.place d.place) =
    apart_from_segment v.place w.place ws c.place d.place way (end_of-places v skipped w) (run_ends_apart v skipped w way) beside.two_ends
    (apart_beside frame chains k v skipped w c d beside none) (aside v skipped w c.place off_c stays.start)
    (aside v skipped w d.place off_d stays.end) in
    record {
      ordered = λ e f p q first second meet. apart_are_ordered frame e f p q meet
          (same_ends_apart v.place w.place c.place d.place e f p q first second apart);
      apart = apart;
    }

-- ---- a shared end

-- a common point of two segments, at an end of each
data AtBoth (a b c d : Place) (h : CommonPoint a b c d) : Type 0 where
  First : h.first ≡ pos 0 → h.second ≡ pos 0 → a ≡ c → AtBoth a b c d h
  Second : h.first ≡ pos 0 → h.second ≡ h.denominator → a ≡ d → AtBoth a b c d h
  Third : h.first ≡ h.denominator → h.second ≡ pos 0 → b ≡ c → AtBoth a b c d h
  Fourth : h.first ≡ h.denominator → h.second ≡ h.denominator → b ≡ d → AtBoth a b c d h

at_both : (v w c d : Vertex) → MeetLawfully v w c d → (h : CommonPoint v.place w.place c.place d.place)
    → AtBoth v.place w.place c.place d.place h
at_both v w c d lawful h =
    elim (lawful h) [
      | Starts e f m ↦ First e f (starts_are_one v.place w.place c.place d.place h e f)
      | StartAndEnd e f m ↦ Second e f (start_is_end v.place w.place c.place d.place h e f)
      | EndAndStart e f m ↦ Third e f (end_is_start v.place w.place c.place d.place h e f)
      | Ends e f m ↦ Fourth e f (ends_are_one v.place w.place c.place d.place h e f)
    ]

record AreOnePoint (a b c d : Place) (h k : CommonPoint a b c d) : Type 0 where
  first : h.first *ℤ k.denominator ≡ k.first *ℤ h.denominator
  second : h.second *ℤ k.denominator ≡ k.second *ℤ h.denominator

one_point : (a b c d : Place) → ¬ (a ≡ b) → ¬ (c ≡ d) → ¬ (SameEnds a b c d) → (h k : CommonPoint a b c d) → AtBoth a b c d h
    → AtBoth a b c d k → AreOnePoint a b c d h k
one_point a b c d ab cd other h k (First e f s) (First e' f' s') =
    record {
      first = none_alike h.denominator h.first k.denominator k.first e e';
      second =
          none_alike h.denominator h.second k.denominator k.second f f';
    }
one_point a b c d ab cd other h k (First e f s) (Second e' f' s') = absurd (cd (sym s ∙ s'))
one_point a b c d ab cd other h k (First e f s) (Third e' f' s') = absurd (ab (s ∙ sym s'))
one_point a b c d ab cd other h k (First e f s) (Fourth e' f' s') = absurd (other (inl (s, s')))
one_point a b c d ab cd other h k (Second e f s) (First e' f' s') = absurd (cd (sym s' ∙ s))
one_point a b c d ab cd other h k (Second e f s) (Second e' f' s') =
    record {
      first = none_alike h.denominator h.first k.denominator k.first e e';
      second =
          all_alike h.denominator h.second k.denominator k.second f f';
    }
one_point a b c d ab cd other h k (Second e f s) (Third e' f' s') = absurd (other (inr (s, s')))
one_point a b c d ab cd other h k (Second e f s) (Fourth e' f' s') = absurd (ab (s ∙ sym s'))
one_point a b c d ab cd other h k (Third e f s) (First e' f' s') = absurd (ab (s' ∙ sym s))
one_point a b c d ab cd other h k (Third e f s) (Second e' f' s') = absurd (other (inr (s', s)))
one_point a b c d ab cd other h k (Third e f s) (Third e' f' s') =
    record {
      first = all_alike h.denominator h.first k.denominator k.first e e';
      second =
          none_alike h.denominator h.second k.denominator k.second f f';
    }
one_point a b c d ab cd other h k (Third e f s) (Fourth e' f' s') = absurd (cd (sym s ∙ s'))
one_point a b c d ab cd other h k (Fourth e f s) (First e' f' s') = absurd (other (inl (s', s)))
one_point a b c d ab cd other h k (Fourth e f s) (Second e' f' s') = absurd (ab (s' ∙ sym s))
one_point a b c d ab cd other h k (Fourth e f s) (Third e' f' s') = absurd (cd (sym s' ∙ s))
one_point a b c d ab cd other h k (Fourth e f s) (Fourth e' f' s') =
    record {
      first = all_alike h.denominator h.first k.denominator k.first e e';
      second =
          all_alike h.denominator h.second k.denominator k.second f f';
    }

shared : (a b c d : Place) → ShareEnd a b c d → CommonPoint a b c d
shared a b c d (AtStarts e) = common_at_start a b c d (start_on c d a e)
shared a b c d (AtStartAndEnd e) = common_at_start a b c d (end_is_on c d a e)
shared a b c d (AtEndAndStart e) = common_end_and_start a b c d e
shared a b c d (AtBothEnds e) = common_at_end a b c d (end_is_on c d b e)

pub edge_meets_shortcut_once : EdgeMeetsShortcutOnce
edge_meets_shortcut_once frame chains k v skipped w c d beside stays share other =
    let way = increases frame v.place (places (skipped ++ w ∷ [])) beside.one_way in
    let lawful = shortcut_meets_lawfully (IsOtherEdge chains k) v skipped w c d beside.other way beside.within beside.two_ends beside.lawful
    stays.start stays.end other in
    let one : (h l : CommonPoint v.place w.place c.place d.place)
    → AreOnePoint v.place w.place c.place d.place h l = λ h l.
    one_point v.place w.place c.place d.place (run_ends_apart v skipped w way) beside.two_ends other h l (at_both v w c d lawful h)
    (at_both v w c d lawful l) in
    record {
      once = record {
        common = shared v.place w.place c.place d.place share;
        first = λ h l. (one h l).first;
        second = λ h l.
            (one h l).second;
      };
      lawful = lawful;
    }
