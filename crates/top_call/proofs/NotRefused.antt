-- A text that loads is not refused, and a made coverage is not.
use Rattle.std.proofs.Common.{◌≡◌, ◌∙◌, ℕ, Bool, true, false, List, [], Option, Some, get_or, All, ap, refl, sym, subst, inl, inr, arith}
use Rattle.std.specs.Prelude.{Contains}
use Rattle.std.proofs.lemmas.Option.{none-some, slice_get_within, get_or_from_slice_get}
use Rattle.std.proofs.lemmas.List.Elements.{All-get_or}
use Rattle.grid_exact.specs.Geometry.{Place}
use Rattle.grid_exact.specs.Weights.{Scales, StaysOnGrid, IsFirstOff}
use Rattle.arc_map.specs.Map.{Map}
use Rattle.arc_map.specs.Arranged.{IsArranged}
use Rattle.json_scan.specs.Grammar.{document_nodes}
use Rattle.json_scan.specs.Tree.{document_tree}
use Rattle.json_scan.proofs.Refusals.{not_refused}
use Rattle.topo_reader.specs.Reads.{TopologyRead, topology_of}
use Rattle.topo_reader.proofs.ArcLaws.{not-ok}
use Rattle.map_gen.specs.Make.{made}
use Rattle.map_gen.specs.MadeMap.{made_map}
use Rattle.map_gen.proofs.MadeArranged.{made_maps_are_arranged}
use Rattle.map_gen.proofs.ReadsWhole.{made-reads}
use Rattle.top_call.specs.declared.forms.Options.{Options}
use Rattle.top_call.specs.declared.status.Status.{Status}
use Rattle.top_call.specs.declared.status.Status.TheVariants.{NoMemory}
use Rattle.top_call.specs.Requests.{IsMakeable}
use Rattle.top_call.specs.Maps.{HasTopology, NoTree, NoTopology, IsUnarranged, Clash, OnArc, IsFirstOffIn, AreHeldBeside, IsLoaded}
use Rattle.top_call.specs.Maps.{IsRefused, IsRefusal, NoMap, OffGrid, Unarranged, scales_of}
use Rattle.top_call.specs.Answers.{plain}
use Rattle.top_call.proofs.OneTree.{text_has_one_tree, text_has_one_topology}

pub nothing_held : (arc : ℕ) → Contains [] arc → ⊥
nothing_held arc h = omega (arith, h.1)

-- an arranged map has no meeting
not_unarranged : (hold : Bool) (m : Map) (s : Status) → (hold ≡ false → IsArranged m) → IsUnarranged hold m s → ⊥
not_unarranged hold m s arranged (Clash e f none least is) =
    let clash = (arranged none).clashes e f least.first_edge least.second_edge least.ordered least.clash in
    nothing_held e.arc clash.0
not_unarranged hold m s arranged (OnArc k e none least is) = nothing_held e.arc ((arranged none).points k e least.point least.edge least.on)

-- where all positions stay on the grid there is no first that does not
pub none_first_off : (w : Scales) (places : List Place) (at : ℕ) → All (StaysOnGrid w) places → IsFirstOff w places at → ⊥
none_first_off w places at stay first =
    let within = slice_get_within places at first.place first.there in
    let stays = All-get_or (StaysOnGrid w) places at first.place within stay in
    first.off (subst (StaysOnGrid w) (get_or_from_slice_get places at first.place first.place first.there) stays)

pub not_off : (w : Scales) (arcs : List (List Place)) (arc at : ℕ) → All (All (StaysOnGrid w)) arcs → IsFirstOffIn w arcs arc at → ⊥
not_off w arcs arc at stay off =
    none_first_off w (get_or arcs arc []) at (All-get_or (All (StaysOnGrid w)) arcs arc [] off.within stay) off.first

-- a text is not refused that has a topology, whose positions the weights leave on the grid, and whose map is arranged where no arcs are to
-- be held
never_refused : (options : Options) (text : List ℕ) (t : TopologyRead) (s : Status) → HasTopology text t
    → ((w : Scales) → options.weights ≡ Some w → All (All (StaysOnGrid w)) t.map.arcs) → (options.hold ≡ false → IsArranged t.map)
    → IsRefusal options text s → ⊥
never_refused options text t s has stay arranged (NoMap (NoTree e why is)) =
    not_refused text has.has_tree.nodes e (has.has_tree.utf8, (has.has_tree.document, has.has_tree.json)) why
never_refused options text t s has stay arranged (NoMap (NoTopology tree fault other none is)) =
    let same = text_has_one_tree text has.tree tree has.has_tree other in
    not-ok fault t (sym none ∙ ap topology_of (sym same) ∙ has.reads)
never_refused options text t s has stay arranged (OffGrid u w arc at other some off is) =
    let same = text_has_one_topology text t u has other in
    not_off w t.map.arcs arc at (stay w some) (subst (λ (v : TopologyRead). IsFirstOffIn w v.map.arcs arc at) (sym same) off)
never_refused options text t s has stay arranged (Unarranged u other stays un) =
    let same = text_has_one_topology text t u has other in
    not_unarranged options.hold t.map s arranged (subst (λ (v : TopologyRead). IsUnarranged options.hold v.map s) (sym same) un)

-- ---- texts that load

arranged_alone : (hold : Bool) (m : Map) (held : List ℕ) → AreHeldBeside hold m held → hold ≡ false → IsArranged m
arranged_alone false m held beside none = beside.0
arranged_alone true m held beside none = absurd cc

pub loaded_not_refused : (options : Options) (text : List ℕ) (t : TopologyRead) (held : List ℕ) (s : Status) → IsLoaded options text t held
    → IsRefusal options text s → ⊥
loaded_not_refused options text t held s loaded why =
    never_refused options text t s loaded.topology
    (λ w some. subst (λ (ws : Option Scales). All (All (StaysOnGrid (scales_of ws))) t.map.arcs) some loaded.weights)
    (arranged_alone options.hold t.map held loaded.beside) why

-- ---- made coverages

made_not_refused : (rows cols seed : ℕ) (s : Status) → IsMakeable rows cols seed → IsRefusal plain (made rows cols seed) s → ⊥
made_not_refused rows cols seed s is why =
    let reads = made-reads rows cols seed is.some_rows is.few_rows is.some_cols is.few_cols in
    let t : TopologyRead = record { map = made_map rows cols seed; arcs_at = reads.arcs_at } in
    let has : HasTopology (made rows cols seed) t = record {
      tree = document_tree reads.document;
      has_tree =
          record { utf8 = reads.utf8; nodes = document_nodes reads.document; document = reads.document; json = reads.json; is = refl };
      reads = reads.topology;
    } in
    never_refused plain (made rows cols seed) t s has (λ w some. absurd (none-some w some))
    (λ none. made_maps_are_arranged rows cols seed) why

pub made_wants_memory : (rows cols seed : ℕ) (s : Status) → IsMakeable rows cols seed → IsRefused plain (made rows cols seed) s
    → s ≡ NoMemory
made_wants_memory rows cols seed s is (inl none) = none
made_wants_memory rows cols seed s is (inr why) = absurd (made_not_refused rows cols seed s is why)
