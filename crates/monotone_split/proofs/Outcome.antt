-- Replacements one after the other, from arcs to arcs.
use Rattle.std.proofs.Common.{◌≡◌, ℕ, ℤ, suc, Bool, true, List, [], ◌∷◌, ◌++◌, get_or, refl, sym, ap, subst, ◌∙◌}
use Rattle.std.specs.Prelude.{Contains}
use Rattle.grid_exact.specs.Geometry.{Place}
use Rattle.grid_exact.specs.Walks.{differ}
use Rattle.arc_map.specs.Vertices.{Vertex, places}
use Rattle.arc_map.specs.Chains.{Chain, chain_at, AreChains, IsArrangedBeside, IsWithinBound, thinned}
use Rattle.arc_map.specs.Edges.{is_arc_crossed_oddly}
use Rattle.arc_map.specs.Paths.{vertices_at, Step, AreSteps}
use Rattle.arc_map.specs.Arcs.{vertex, vertices_from, AreKept, IsListCutInto, AreChainsOf, joined_rests, joined_arc, arcs_now}
use Rattle.arc_map.specs.Arcs.{chains_past_arc, map_now, is_list_crossed_oddly, is_inside_of}
use Rattle.monotone_split.specs.Laws.{StepsKeepMap}
use Rattle.monotone_split.proofs.Cuts.{chains_cut_map, parts_of_arc, parts_of_arcs}
use Rattle.monotone_split.proofs.Numbers.{path_in, path_by_numbers_keeps_map}
use Rattle.monotone_split.proofs.Finish.{cut_joined, taken, left_over, joined_arcs_are_arranged}
use Rattle.monotone_split.proofs.Kept.{thinned_are_kept}
use Rattle.monotone_split.proofs.Parity.{parity_of_arcs}

-- ---- nothing thinned yet: the arcs are those of the map

pub places_from : (arc at : ℕ) (ps : List Place) → places (vertices_from arc at ps) ≡ ps
places_from arc at [] = refl
places_from arc at (p ∷ []) = refl
places_from arc at (p ∷ q ∷ qs) = ap (λ (xs : List Place). p ∷ xs) (places_from arc (suc at) (q ∷ qs))

arc_as_read : (arc : ℕ) (ps : List Place) (ks : List Chain) → IsListCutInto (vertices_from arc 0 ps) ks → joined_arc ps ks ≡ ps
arc_as_read arc ps [] cut = refl
arc_as_read arc [] (k ∷ ks) cut = absurd (none k ks cut)
  where
    none : (k : Chain) (ks : List Chain) → k ∷ ks ≡ [] → ⊥
    none k ks e = cc
arc_as_read arc (p ∷ []) (k ∷ ks) cut =
    ap (λ (x : Vertex). x.place ∷ places (joined_rests (k ∷ ks))) cut.0
    ∙ ap (λ (xs : List Vertex). p ∷ places xs) (sym (cut_joined (vertex arc 0 true p) [] (k ∷ ks) cut))
arc_as_read arc (p ∷ q ∷ qs) (k ∷ ks) cut =
    ap (λ (x : Vertex). x.place ∷ places (joined_rests (k ∷ ks))) cut.0
    ∙ ap (λ (xs : List Vertex). p ∷ places xs) (sym (cut_joined (vertex arc 0 true p) (vertices_from arc 1 (q ∷ qs)) (k ∷ ks) cut))
    ∙ ap (λ (xs : List Place). p ∷ xs) (places_from arc 1 (q ∷ qs))

arcs_as_read : (arc : ℕ) (pss : List (List Place)) (ks : List Chain) → AreChainsOf arc pss ks → arcs_now arc pss ks ≡ pss
arcs_as_read arc [] ks cut = refl
arcs_as_read arc (ps ∷ pss) ks cut =
    let firsts = (parts_of_arc arc ps cut.0 cut.3).arcs in
    let seconds = (parts_of_arcs (suc arc) pss cut.1 cut.4).arcs in
    ap (arcs_now arc (ps ∷ pss)) cut.2
    ∙ ap (λ (xs : List Chain). joined_arc ps xs ∷ arcs_now (suc arc) pss (chains_past_arc arc (cut.0 ++ cut.1)))
    (taken arc cut.0 cut.1 firsts seconds)
    ∙ ap (λ (xs : List Chain). joined_arc ps cut.0 ∷ arcs_now (suc arc) pss xs) (left_over arc cut.0 cut.1 firsts seconds)
    ∙ ap (λ (qs : List Place). qs ∷ arcs_now (suc arc) pss cut.1) (arc_as_read arc ps cut.0 cut.3)
    ∙ ap (λ (qss : List (List Place)). ps ∷ qss) (arcs_as_read (suc arc) pss cut.1 cut.4)

-- ---- the steps

record StepsKept (held : List ℕ) (points : List Place) (before chains after : List Chain) : Type 0 where
  are_chains : AreChains after
  kept : AreKept before after
  arranged : IsArrangedBeside held after points
  parity : (p : Place) (arc : ℕ) → Contains points p → is_arc_crossed_oddly p arc after ≡ is_arc_crossed_oddly p arc chains

steps_kept : (wx wy bound : ℤ) (held : List ℕ) (points : List Place) (before chains : List Chain) (steps : List Step) (after : List Chain)
    → AreChains chains → AreKept before chains → IsArrangedBeside held chains points
    → AreSteps (IsWithinBound wx wy bound) held points chains steps after → StepsKept held points before chains after
steps_kept wx wy bound held points before chains [] after are kept arranged steps =
    subst (λ (xs : List Chain). StepsKept held points before chains xs) steps
    (record { are_chains = are; kept = kept; arranged = arranged; parity = λ p arc point. refl })
steps_kept wx wy bound held points before chains (s ∷ ss) after are kept arranged steps =
    let keeps = path_by_numbers_keeps_map wx wy bound chains points s.chain s.numbers steps.0 are (arranged s.chain steps.1) steps.2 in
    let rest = steps_kept wx wy bound held points before (thinned chains s.chain (vertices_at (chain_at chains s.chain) s.numbers)) ss after
    keeps.chains_stay (thinned_are_kept.1 wx wy bound before chains points s.chain (vertices_at (chain_at chains s.chain) s.numbers)
    kept (path_in wx wy bound chains points s.chain s.numbers steps.2)) (keeps.arranged held arranged) steps.3 in
    record {
      are_chains = rest.are_chains;
      kept = rest.kept;
      arranged = rest.arranged;
      parity = λ p arc point. rest.parity p arc point
          ∙ keeps.arc_parity p arc point;
    }

pub inside_alike : (p : Place) (xs ys : List (List Place)) → ((arc : ℕ)
    → is_list_crossed_oddly p (get_or xs arc []) ≡ is_list_crossed_oddly p (get_or ys arc [])) → (numbers : List ℕ)
    → is_inside_of p xs numbers ≡ is_inside_of p ys numbers
inside_alike p xs ys same [] = refl
inside_alike p xs ys same (n ∷ ns) =
    ap (λ (t : Bool). differ t (is_inside_of p xs ns)) (same n)
    ∙ ap (λ (t : Bool). differ (is_list_crossed_oddly p (get_or ys n [])) t) (inside_alike p xs ys same ns)

pub steps_keep_map : StepsKeepMap
steps_keep_map wx wy bound held m chains steps after cut was run =
    let cuts = chains_cut_map m chains cut in
    let end = steps_kept wx wy bound held m.points chains chains steps after cuts.are_chains (thinned_are_kept.0 chains)
    ((cuts.arranged held).0 was) run in
    let same : (p : Place) (arc : ℕ) → Contains m.points p → is_list_crossed_oddly p (get_or (map_now m after).arcs arc [])
    ≡ is_list_crossed_oddly p (get_or m.arcs arc []) = (λ p arc point.
    parity_of_arcs m chains after cut end.kept p arc
    ∙ end.parity p arc point
    ∙ sym (parity_of_arcs m chains chains cut (thinned_are_kept.0 chains) p arc)
    ∙ ap (λ (pss : List (List Place)). is_list_crossed_oddly p (get_or pss arc [])) (arcs_as_read 0 m.arcs chains cut)) in
    record {
      arranged = joined_arcs_are_arranged m chains after cut end.kept end.are_chains held end.arranged;
      parity = same;
      inside = λ p polygon point. inside_alike p (map_now m after).arcs m.arcs (λ arc. same p arc point) (get_or m.polygons polygon []);
    }
