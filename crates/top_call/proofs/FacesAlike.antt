-- `faces` answers a text and what a run writes of it alike.
use Rattle.std.proofs.Common.{◌≡◌, ◌∙◌, ℕ, ℤ, pos, ◌-ℤ◌, ◌*ℤ◌, ◌≤ℤ◌, ◌<◌, Bool, true, false, List, [], ◌∷◌, Option, None, Some, All, length}
use Rattle.std.proofs.Common.{get_or, ap, refl, sym, subst, inl, inr, arith}
use Rattle.std.proofs.lemmas.List.{get_or_default}
use Rattle.std.proofs.lemmas.List.Elements.{All-contains}
use Rattle.grid_exact.specs.Geometry.{Place, IsGridNumber}
use Rattle.grid_exact.specs.Weights.{Scales, StaysOnGrid}
use Rattle.grid_exact.proofs.WholeLaws.{sums, one-*ℤ}
use Rattle.grid_exact.proofs.Polynomial.{Whole, ◌⊖◌, ◌⊗◌, ◌≈◌, identity_2}
use Rattle.grid_exact.proofs.Signs.{at_most_or_above, times_nonnegative, nonnegative_times_nonpositive}
use Rattle.arc_map.specs.Map.{Map}
use Rattle.arc_map.specs.Arranged.{arc_at, IsMapArranged, IsArranged, IsHeld, ByFirst, BySecond, ByPoint, IsHeldList}
use Rattle.json_scan.specs.Grammar.{document_nodes}
use Rattle.json_scan.specs.Tree.{document_tree}
use Rattle.topo_reader.specs.Reads.{TopologyRead}
use Rattle.topo_writer.specs.Fits.{FitsIn}
use Rattle.topo_writer.specs.Reading.{ReadsAs}
use Rattle.chain_replace.proofs.Replacing.{outcome_keeps_faces}
use Rattle.top_call.specs.declared.forms.Options.{Options}
use Rattle.top_call.specs.Maps.{HasTopology, AreHeldBeside, IsLoaded, ones, scales_of}
use Rattle.top_call.specs.Requests.{AreWeights}
use Rattle.top_call.specs.Answers.{done, plain, terms_of, faces_text, IsSimplified, IsFaced, IsMapAnswer, Refused, Written}
use Rattle.top_call.specs.Laws.{SimplifiedKeepsLines, IsOnlyAnswer, FacesAnswersAlike}
use Rattle.top_call.proofs.Faithful.{arranged_with}
use Rattle.top_call.proofs.NotRefused.{nothing_held, loaded_not_refused}
use Rattle.top_call.proofs.OneAnswer.{written_by}
use Rattle.top_call.proofs.OneTree.{text_has_one_topology}
use Rattle.top_call.proofs.OutcomeFits.{outcome_fits}
use Rattle.top_call.proofs.ReadBack.{simplified_reads_back}
use Rattle.top_call.proofs.ReadMaps.{read_map_is_map}
use Rattle.top_call.proofs.SameLines.{outcome_keeps_lines}

-- ---- the map of what is written

has_written : (bytes : List ℕ) (m : Map) (reads : ReadsAs bytes m) → HasTopology bytes (record { map = m; arcs_at = reads.arcs_at })
has_written bytes m reads = record {
  tree = document_tree reads.document;
  has_tree = record { utf8 = reads.utf8; nodes = document_nodes reads.document; document = reads.document; json = reads.json; is = refl };
  reads = reads.topology;
}

pub simplified_keeps_lines : SimplifiedKeepsLines
simplified_keeps_lines options bound text bytes before after is has_before has_after =
    let loaded = is.run.loaded in
    let reads = (simplified_reads_back options bound text bytes is).reads in
    let here = text_has_one_topology text before is.topology has_before loaded.topology in
    let there =
    text_has_one_topology bytes after (record { map = is.after; arcs_at = reads.arcs_at }) has_after
    (has_written bytes is.after reads) in
    ap (λ (t : TopologyRead). faces_text t.map) there
    ∙ outcome_keeps_lines is.topology.map (terms_of options bound is.held) is.after is.records
    (arranged_with options.hold is.topology.map is.held loaded.beside) is.run.outcome
    ∙ ap (λ (t : TopologyRead). faces_text t.map) (sym here)

-- ---- positions on the grid

-- a number is a grid number where it is one times a weight
unweighed : (w z : ℤ) → pos 1 ≤ℤ w → IsGridNumber (w *ℤ z) → IsGridNumber (pos 1 *ℤ z)
unweighed w z least on_grid =
    let more : (w -ℤ pos 1) *ℤ z ≡ w *ℤ z -ℤ pos 1 *ℤ z =
    identity_2 w z (λ w z. (w ⊖ Whole (pos 1)) ⊗ z ≈ w ⊗ z ⊖ Whole (pos 1) ⊗ z) refl in
    let one = one-*ℤ z in
    let low = on_grid.low in
    let high = on_grid.high in
    elim (at_most_or_above (pos 0) z) [
      | inl up ↦
          let product : pos 0 ≤ℤ ((w -ℤ pos 1) *ℤ z) = times_nonnegative (w -ℤ pos 1) z (omega (arith, sums)) up in
          record { low = omega (arith, sums, more, one, low, high); high = omega (arith, sums, more, one, low, high) }
      | inr down ↦
          let product : ((w -ℤ pos 1) *ℤ z) ≤ℤ pos 0 =
          nonnegative_times_nonpositive (w -ℤ pos 1) z (omega (arith, sums)) (omega (arith, sums)) in
          record { low = omega (arith, sums, more, one, low, high); high = omega (arith, sums, more, one, low, high) }
    ]

-- what stays on the grid with weights does so without
pub stay_unweighed : (weights : Option Scales) (arcs : List (List Place)) → AreWeights weights
    → All (All (StaysOnGrid (scales_of weights))) arcs → All (All (StaysOnGrid ones)) arcs
stay_unweighed None arcs are stay = stay
stay_unweighed (Some w) arcs are stay = λ arc d within at e inside.
    let there = stay arc d within at e inside in
    let p = get_or (get_or arcs arc d) at e in
    record { across = unweighed w.x p.x are.0.low there.across; up = unweighed w.y p.y are.1.low there.up }

-- the positions of a map that fits in the place of another are positions of that
pub fitting_stay : (w : Scales) (m new : Map) → FitsIn m new → All (All (StaysOnGrid w)) m.arcs → All (All (StaysOnGrid w)) new.arcs
fitting_stay w m new fits stay = λ arc d within at e inside.
    let below : arc < length m.arcs = omega (arith, fits.count, within) in
    let same : get_or new.arcs arc d ≡ arc_at new arc = get_or_default new.arcs arc d [] within in
    let each : All (StaysOnGrid w) (arc_at new arc) =
    (λ k f short. All-contains (StaysOnGrid w) (arc_at m arc) (get_or (arc_at new arc) k f) (stay arc [] below)
    ((fits.arcs arc below).places k f short)) in
    subst (λ (ps : List Place). All (StaysOnGrid w) ps) (sym same) each at e inside

-- ---- an arranged map has no held arcs

not_held : (m : Map) (arc : ℕ) → IsArranged m → IsHeld m arc → ⊥
not_held m arc arranged (ByFirst e f is first second ordered clash) = nothing_held e.arc (arranged.clashes e f first second ordered clash).0
not_held m arc arranged (BySecond e f is first second ordered clash) =
    nothing_held e.arc (arranged.clashes e f first second ordered clash).0
not_held m arc arranged (ByPoint k e is within edge on) = nothing_held e.arc (arranged.points k e within edge on)

none_held : (m : Map) (held : List ℕ) → IsArranged m → IsHeldList m held → held ≡ []
none_held m [] arranged are = refl
none_held m (arc ∷ held) arranged are = absurd (not_held m arc arranged ((are.all arc).0 (0, omega arith, refl)))

none_beside : (hold : Bool) (m : Map) (held : List ℕ) → IsArranged m → AreHeldBeside hold m held → held ≡ []
none_beside true m held arranged beside = none_held m held arranged beside
none_beside false m held arranged beside = beside.1

plainly_beside : (hold : Bool) (m : Map) (held : List ℕ) → hold ≡ false → AreHeldBeside hold m held → IsArranged m
plainly_beside false m held plain beside = beside.0
plainly_beside true m held plain beside = absurd cc

-- ---- what `faces` answers

-- the lines of a text that loads are its one answer
only_lines : (text : List ℕ) (t : TopologyRead) (held lines : List ℕ) → IsLoaded plain text t held → lines ≡ faces_text t.map
    → IsOnlyAnswer (IsMapAnswer plain text (IsFaced text)) (done lines)
only_lines text t held lines loaded are a = (only, there)
  where
    only : IsMapAnswer plain text (IsFaced text) a → a ≡ done lines
    only (Refused s why is) = absurd (loaded_not_refused plain text t held s loaded why)
    only (Written bytes faced is) =
        let same = text_has_one_topology text faced.topology t faced.loaded.topology loaded.topology in
        is ∙ ap done (faced.written ∙ ap (λ (u : TopologyRead). faces_text u.map) same ∙ sym are)

    there : a ≡ done lines → IsMapAnswer plain text (IsFaced text) a
    there is = Written lines (record { topology = t; held = held; loaded = loaded; written = are }) is

-- the lines of a text are the one answer to what is written of it
pub lines_written : (options : Options) (bound : ℤ) (text bytes lines : List ℕ) → IsSimplified options bound text bytes → IsFaced text lines
    → IsOnlyAnswer (IsMapAnswer plain bytes (IsFaced bytes)) (done lines)
lines_written options bound text bytes lines is faced =
    let loaded = is.run.loaded in
    let m = is.topology.map in
    let reads = (simplified_reads_back options bound text bytes is).reads in
    let has = has_written bytes is.after reads in
    let same = text_has_one_topology text faced.topology is.topology faced.loaded.topology loaded.topology in
    let as_plain : IsLoaded plain text is.topology faced.held =
    subst (λ (t : TopologyRead). IsLoaded plain text t faced.held) same faced.loaded in
    let none : is.held ≡ [] = none_beside options.hold m is.held as_plain.beside.0 loaded.beside in
    let was : IsMapArranged is.held m = arranged_with options.hold m is.held loaded.beside in
    let kept = outcome_keeps_faces m (terms_of options bound is.held) is.after is.records was is.run.outcome in
    let arranged : IsArranged is.after = subst (λ (held : List ℕ). IsMapArranged held is.after) none kept.arranged in
    let fits =
    outcome_fits m (terms_of options bound is.held) is.after is.records
    (read_map_is_map text is.topology loaded.topology).arcs is.run.outcome in
    let written : IsLoaded plain bytes (record { map = is.after; arcs_at = reads.arcs_at }) [] =
    record { topology = has; weights = fitting_stay ones m is.after fits as_plain.weights; beside = (arranged, refl) } in
    let keeps =
    simplified_keeps_lines options bound text bytes faced.topology
    (record { map = is.after; arcs_at = reads.arcs_at }) is faced.loaded.topology has in
    only_lines bytes (record { map = is.after; arcs_at = reads.arcs_at }) [] lines written (faced.written ∙ sym keeps)

-- where no arcs are to be held, a text that is simplified has lines
pub plain_lines : (options : Options) (bound : ℤ) (text bytes : List ℕ) → options.hold ≡ false → AreWeights options.weights
    → IsSimplified options bound text bytes → (lines : List ℕ) × IsFaced text lines
plain_lines options bound text bytes none weights is =
    let loaded = is.run.loaded in
    let arranged = plainly_beside options.hold is.topology.map is.held none loaded.beside in
    let as_plain : IsLoaded plain text is.topology [] =
    record {
      topology = loaded.topology;
      weights = stay_unweighed options.weights is.topology.map.arcs weights loaded.weights;
      beside =
          (arranged, refl);
    } in
    (faces_text is.topology.map, record { topology = is.topology; held = []; loaded = as_plain; written = refl })

pub faces_answers_alike : FacesAnswersAlike
faces_answers_alike options bound file out read written limits simplifies =
    let is = written_by options read.file (IsSimplified options bound read.file) written.file simplifies in
    record {
      has_lines = λ none.
          let has = plain_lines options bound read.file written.file none limits.0 is in
          (has.0, Written has.0 has.1 refl);
      same_lines = λ lines answer.
          let faced = written_by plain read.file (IsFaced read.file) lines answer in (
            only_lines read.file faced.topology faced.held lines faced.loaded faced.written,
            lines_written options bound read.file
                written.file lines is faced,
          );
    }
