-- One shortcut, beside an edge of another chain.
use Rattle.std.proofs.Common.{◌≡◌, Bool, false, IsTrue, List, [], ◌∷◌, ◌++◌, sym, ap, ◌∙◌}
use Rattle.grid_exact.specs.Geometry.{Place, IsOnSegment, CommonPoint}
use Rattle.grid_exact.specs.Crossing.{is_crossed}
use Rattle.grid_exact.specs.Walks.{count_edges, is_odd, EachEdge}
use Rattle.grid_exact.specs.Segments.{SameEnds, IsApart}
use Rattle.grid_exact.proofs.Commons.{Standing}
use Rattle.grid_exact.proofs.Commons.{start_on, end_is_on, meet_at_ends, starts_are_one, start_is_end, end_is_start, ends_are_one}
use Rattle.grid_exact.proofs.Commons.AtEnds.{Starts as AtStarts, StartAndEnd as AtStartAndEnd, EndAndStart as AtEndAndStart}
use Rattle.grid_exact.proofs.Commons.AtEnds.{Ends as AtBothEnds}
use Rattle.grid_exact.proofs.Commons.Standing.{AtStart as StandsAtStart, AtEnd as StandsAtEnd, Off as StandsOff}
use Rattle.grid_exact.proofs.Orders.{denied}
use Rattle.arc_map.specs.Vertices.{Vertex, places, MayJoin, MeetLawfully}
use Rattle.arc_map.specs.Vertices.MayJoin.{One, BothEnd}
use Rattle.arc_map.specs.Vertices.IsJunction.{Starts, StartAndEnd, EndAndStart, Ends}
use Rattle.arc_map.specs.Allowed.{IsConsistent}
use Rattle.arc_map.specs.Allowed.IsConsistent.{AtStart, AtEnd, SameSide}
use Rattle.arc_map.specs.Edges.{EachOf}
use Rattle.arc_map.specs.Clear.{IsWithinChain}
use Rattle.monotone_split.proofs.Runs.{IsAside}
use Rattle.monotone_split.proofs.RisingViews.{Increases, apart_from_segment}
use Rattle.monotone_split.proofs.Junctions.{join_at_starts, join_at_start_and_end, join_at_end_and_start, join_at_ends, start_on_other}
use Rattle.monotone_split.proofs.Junctions.{end_on_other}
use Rattle.monotone_split.proofs.WalkParts.{last_edge, first_edge, end_of-places, closed_walk-places, run_ends_apart}

-- the vertex x of a run is at no end of the edge cd where they may join
pub record Excludes (c d x : Vertex) : Type 0 where
  pub start : MayJoin x c → ¬ (x.place ≡ c.place)
  pub end : MayJoin x d → ¬ (x.place ≡ d.place)

apart_by : (a b c d : Vertex) → Excludes c d a → Excludes c d b → MeetLawfully a b c d → IsApart c.place d.place a.place b.place
apart_by a b c d at_a at_b lawful h =
    elim (lawful h) [
      | Starts e f m ↦ at_a.start m (starts_are_one a.place b.place c.place d.place h e f)
      | StartAndEnd e f m ↦ at_a.end m (start_is_end a.place b.place c.place d.place h e f)
      | EndAndStart e f m ↦ at_b.start m (end_is_start a.place b.place c.place d.place h e f)
      | Ends e f m ↦ at_b.end m (ends_are_one a.place b.place c.place d.place h e f)
    ]

pub apart_run : (v : Vertex) (skipped : List Vertex) (w c d : Vertex) → Excludes c d v → EachOf (Excludes c d) skipped → Excludes c d w
    → EachEdge (λ a b. MeetLawfully a b c d) v (skipped ++ w ∷ []) → EachEdge (IsApart c.place d.place) v.place (places (skipped ++ w ∷ []))
apart_run v [] w c d at_v at_skipped at_w lawful = (apart_by v w c d at_v at_w lawful.0, tt)
apart_run v (k ∷ ks) w c d at_v at_skipped at_w lawful =
    (apart_by v k c d at_v at_skipped.0 lawful.0, apart_run k ks w c d at_skipped.0 at_skipped.1 at_w lawful.1)

pub excluded_within : (IsEdge : Vertex → Vertex → Type 0) (c d : Vertex) → IsEdge c d → (skipped : List Vertex)
    → EachOf (IsWithinChain IsEdge) skipped → EachOf (Excludes c d) skipped
excluded_within IsEdge c d edge [] h = tt
excluded_within IsEdge c d edge (k ∷ ks) h = (
  record { start = λ m e. joins c m (h.0.no_start_of c d edge); end = λ m e. joins d m (h.0.no_end_of c d edge) },
  excluded_within IsEdge
      c d edge ks h.1,
)
  where
    joins : (x : Vertex) → MayJoin k x → ¬ (k ≡ x) → ⊥
    joins x (One e) other = other e
    joins x (BothEnd e f) other = denied k.is_end h.0.no_end e

excluded_off : (c d x : Vertex) → ¬ (x.place ≡ c.place) → ¬ (x.place ≡ d.place) → Excludes c d x
excluded_off c d x p q = record { start = λ m. p; end = λ m. q }

pub standing : (v w : Place) (skipped : List Place) (p : Place) → IsConsistent v w skipped p → Standing v w p
standing v w skipped p (AtStart e) = StandsAtStart e
standing v w skipped p (AtEnd e) = StandsAtEnd e
standing v w skipped p (SameSide off even) = StandsOff off

pub aside : (v : Vertex) (skipped : List Vertex) (w : Vertex) (p : Place) → ¬ (IsOnSegment v.place w.place p)
    → IsConsistent v.place w.place (places skipped) p → IsAside v.place w.place (places (skipped ++ w ∷ [])) p
aside v skipped w p off (AtStart e) = absurd (off (start_on v.place w.place p e))
aside v skipped w p off (AtEnd e) = absurd (off (end_is_on v.place w.place p e))
aside v skipped w p off (SameSide across even) = record {
  off = across;
  even =
      ap (λ (us : List Place). is_odd (count_edges (is_crossed p) v.place us)) (closed_walk-places skipped w v.place) ∙ even;
}

-- The edge of a shortcut and an edge of another chain do not clash, where the run that it replaces does not clash with that edge.
pub shortcut_meets_lawfully : (IsEdge : Vertex → Vertex → Type 0) (v : Vertex) (skipped : List Vertex) (w c d : Vertex) → IsEdge c d
    → Increases v.place (places (skipped ++ w ∷ [])) → EachOf (IsWithinChain IsEdge) skipped → ¬ (c.place ≡ d.place)
    → EachEdge (λ a b. MeetLawfully a b c d) v (skipped ++ w ∷ []) → IsConsistent v.place w.place (places skipped) c.place
    → IsConsistent v.place w.place (places skipped) d.place → ¬ (SameEnds v.place w.place c.place d.place) → MeetLawfully v w c d
shortcut_meets_lawfully IsEdge v skipped w c d edge way within cd lawful at_c at_d other h =
    let first = first_edge (λ a b. MeetLawfully a b c d) v skipped w lawful in
    let last = last_edge (λ a b. MeetLawfully a b c d) v skipped w lawful in
    let vw : ¬ (v.place ≡ w.place) = run_ends_apart v skipped w way in
    let apart : ¬ (IsOnSegment v.place w.place c.place) → ¬ (IsOnSegment v.place w.place d.place)
    → ¬ (CommonPoint v.place w.place c.place d.place) = (λ off_c off_d.
    apart_from_segment v.place w.place (places (skipped ++ w ∷ [])) c.place d.place way (end_of-places v skipped w) vw cd
    (apart_run v skipped w c d
    (excluded_off c d v (λ e. off_c (start_on v.place w.place c.place (sym e))) (λ e. off_d (start_on v.place w.place d.place (sym e))))
    (excluded_within IsEdge c d edge skipped within)
    (excluded_off c d w (λ e. off_c (end_is_on v.place w.place c.place (sym e))) (λ e. off_d (end_is_on v.place w.place d.place (sym e))))
    lawful)
    (aside v skipped w c.place off_c at_c) (aside v skipped w d.place off_d at_d)) in
    elim (meet_at_ends v.place w.place c.place d.place vw cd (start_on_other v first.to c d first.holds)
    (end_on_other last.from w c d last.holds) (standing v.place w.place (places skipped) c.place at_c)
    (standing v.place w.place (places skipped) d.place at_d) other apart h) [
      | AtStarts e f ↦ Starts e f (join_at_starts v first.to c d first.holds (starts_are_one v.place w.place c.place d.place h e f))
      | AtStartAndEnd e f ↦ StartAndEnd e f (join_at_start_and_end v first.to c d first.holds
          (start_is_end v.place w.place c.place d.place h e f))
      | AtEndAndStart e f ↦ EndAndStart e f (join_at_end_and_start last.from w c d last.holds
          (end_is_start v.place w.place c.place d.place h e f))
      | AtBothEnds e f ↦ Ends e f (join_at_ends last.from w c d last.holds (ends_are_one v.place w.place c.place d.place h e f))
    ]
