-- The arcs that a run leaves are arcs: no two neighbours are equal.
use Rattle.std.proofs.Common.{◌≡◌, ◌≢◌, ◌∙◌, ℕ, suc, ◌≤◌, List, [], ◌∷◌, ◌++◌, All, AllPairs, map, length, refl, sym, ap, subst, arith}
use Rattle.std.specs.List.{AllZip}
use Rattle.std.proofs.lemmas.List.Elements.{All-nil, All-cons}
use Rattle.grid_exact.specs.Geometry.{Place}
use Rattle.grid_exact.specs.Runs.{IsMonotone}
use Rattle.grid_exact.specs.Walks.{EachEdge, end_of}
use Rattle.grid_exact.specs.declared.frame.Frame.{Frame}
use Rattle.arc_map.specs.Map.{Map, IsArc}
use Rattle.arc_map.specs.Vertices.{Vertex, places}
use Rattle.arc_map.specs.Arcs.{IsNextChain, PlainReaches, TurnedReaches, vertices_from, IsCutInto, IsListCutInto, AreChainsOf}
use Rattle.arc_map.specs.Arcs.{chains_of_arc, chains_past_arc, joined_rests, joined_arc, arcs_now}
use Rattle.arc_map.specs.Chains.{Chain}
use Rattle.arc_map.specs.Edges.{EachOf}
use Rattle.arc_map.specs.Records.{Record}
use Rattle.arc_map.specs.Work.{work_of, chain_in}
use Rattle.arc_map.proofs.Cutting.{distinct_places, pairs_of_run}
use Rattle.monotone_split.proofs.Cuts.{parts_of_arc, parts_of_arcs, next_monotone}
use Rattle.monotone_split.proofs.Finish.{taken, left_over}
use Rattle.monotone_split.proofs.WalkParts.{to_places, from_places}
use Rattle.chain_replace.specs.Run.{Terms, IsOutcome}
use Rattle.top_call.proofs.RunsLeft.{IsRunOf, all_stay, runs_left}

-- ---- one walk

-- no two neighbours on the walk have one place
abbrev AreApart : Vertex → List Vertex → Type 0
AreApart v ws = EachEdge (λ a b. a.place ≢ b.place) v ws

each_apart : (v : Place) (vs : List Place) → AllPairs (λ p q. p ≢ q) (v ∷ vs) → EachEdge (λ p q. p ≢ q) v vs
each_apart v [] apart = tt
each_apart v (w ∷ ws) apart =
    (apart 0 1 v (omega arith) (omega arith), each_apart w ws (λ i j d before within. apart (suc i) (suc j) d (omega arith) (omega arith)))

run_apart : (frame : Frame) (v : Vertex) (ws : List Vertex) → IsMonotone frame v.place (places ws) → AreApart v ws
run_apart frame v ws runs =
    from_places (λ p q. p ≢ q) v ws (each_apart v.place (places ws)
    (distinct_places frame (v.place ∷ places ws) (pairs_of_run frame v.place (places ws) runs)))

apart_joined : (v : Vertex) (ws us : List Vertex) → AreApart v ws → AreApart (end_of v ws) us → AreApart v (ws ++ us)
apart_joined v [] us first later = later
apart_joined v (w ∷ ws) us first later = (first.0, apart_joined w ws us first.1 later)

walk_apart : (v : Vertex) (ws : List Vertex) (ks ls : List Chain) → IsCutInto v ws ks → AllZip IsRunOf ks ls → AreApart v (joined_rests ls)
walk_apart v ws [] [] cut runs = tt
walk_apart v ws [] (l ∷ ls) cut runs = absurd runs
walk_apart v ws (k ∷ ks) [] cut runs = absurd runs
walk_apart v ws (k ∷ ks) (l ∷ ls) cut runs =
    let run = runs.0 in
    let first : l.first ≡ v = run.first ∙ cut.0 in
    let one_way = run.one_way (next_monotone v ws k cut.0 cut.1) in
    let here : AreApart v l.rest = subst (λ (x : Vertex). AreApart x l.rest) first (run_apart l.frame l.first l.rest one_way) in
    let last : end_of v l.rest ≡ end_of v k.rest = ap (λ (x : Vertex). end_of x l.rest) (sym first) ∙ run.last
    ∙ ap (λ (x : Vertex). end_of x k.rest) cut.0 in
    let later = walk_apart (end_of v k.rest) cut.2 ks ls cut.4 runs.1 in
    apart_joined v l.rest (joined_rests ls) here (subst (λ (x : Vertex). AreApart x (joined_rests ls)) (sym last) later)

-- ---- one arc

not_empty : (k : Chain) (ks : List Chain) → k ∷ ks ≡ [] → ⊥
not_empty k ks e = cc

joined_apart : (vs : List Vertex) (k : Chain) (ks : List Chain) (l : Chain) (ls : List Chain) → IsListCutInto vs (k ∷ ks)
    → AllZip IsRunOf (k ∷ ks) (l ∷ ls) → EachEdge (λ p q. p ≢ q) l.first.place (places (joined_rests (l ∷ ls)))
joined_apart [] k ks l ls cut runs = absurd (not_empty k ks cut)
joined_apart (v ∷ vs) k ks l ls cut runs =
    let first : l.first ≡ v = runs.0.first ∙ cut.0 in
    let apart = walk_apart v vs (k ∷ ks) (l ∷ ls) cut runs in
    to_places (λ p q. p ≢ q) l.first (joined_rests (l ∷ ls)) (subst (λ (x : Vertex). AreApart x (joined_rests (l ∷ ls))) (sym first) apart)

arc_stays_arc : (ps : List Place) (vs : List Vertex) (ks ls : List Chain) → IsArc ps → IsListCutInto vs ks → AllZip IsRunOf ks ls
    → IsArc (joined_arc ps ls)
arc_stays_arc ps vs [] [] is cut runs = is
arc_stays_arc ps vs [] (l ∷ ls) is cut runs = absurd runs
arc_stays_arc ps vs (k ∷ ks) [] is cut runs = absurd runs
arc_stays_arc ps vs (k ∷ ks) (l ∷ ls) is cut runs = joined_apart vs k ks l ls cut runs

-- ---- all arcs

record RunParts (here later ls : List Chain) : Type 0 where
  first : List Chain
  second : List Chain
  whole : ls ≡ first ++ second
  first_runs : AllZip IsRunOf here first
  second_runs : AllZip IsRunOf later second

run_parts : (here later ls : List Chain) → AllZip IsRunOf (here ++ later) ls → RunParts here later ls
run_parts [] later ls runs = record { first = []; second = ls; whole = refl; first_runs = tt; second_runs = runs }
run_parts (k ∷ ks) later [] runs = absurd runs
run_parts (k ∷ ks) later (l ∷ ls) runs =
    let rest = run_parts ks later ls runs.1 in
    record {
      first = l ∷ rest.first;
      second = rest.second;
      whole = ap (λ (xs : List Chain). l ∷ xs) rest.whole;
      first_runs =
          (runs.0, rest.first_runs);
      second_runs = rest.second_runs;
    }

firsts_stay : (P : Vertex → Type 0) (ks ls : List Chain) → EachOf (λ k. P k.first) ks → AllZip IsRunOf ks ls → EachOf (λ l. P l.first) ls
firsts_stay P [] [] each runs = tt
firsts_stay P [] (l ∷ ls) each runs = absurd runs
firsts_stay P (k ∷ ks) [] each runs = absurd runs
firsts_stay P (k ∷ ks) (l ∷ ls) each runs = (subst P (sym runs.0.first) each.0, firsts_stay P ks ls each.1 runs.1)

arcs_stay_arcs : (arc : ℕ) (pss : List (List Place)) (ks ls : List Chain) → All IsArc pss → AreChainsOf arc pss ks → AllZip IsRunOf ks ls
    → All IsArc (arcs_now arc pss ls)
arcs_stay_arcs arc [] ks ls are cut runs = All-nil IsArc
arcs_stay_arcs arc (ps ∷ pss) ks ls are cut runs =
    let here = cut.0 in
    let later = cut.1 in
    let parts = run_parts here later ls (subst (λ (xs : List Chain). AllZip IsRunOf xs ls) cut.2 runs) in
    let firsts = firsts_stay (λ v. v.arc ≡ arc) here parts.first (parts_of_arc arc ps here cut.3).arcs parts.first_runs in
    let seconds = firsts_stay (λ v. suc arc ≤ v.arc) later parts.second (parts_of_arcs (suc arc) pss later cut.4).arcs parts.second_runs in
    let own : IsArc (joined_arc ps parts.first) =
    arc_stays_arc ps (vertices_from arc 0 ps) here parts.first (are 0 ps (omega arith)) cut.3 parts.first_runs in
    let more : All IsArc (arcs_now (suc arc) pss parts.second) =
    arcs_stay_arcs (suc arc) pss later parts.second (λ k d below. are (suc k) d (omega arith)) cut.4 parts.second_runs in
    subst (λ (xs : List Chain). All IsArc (arcs_now arc (ps ∷ pss) xs)) (sym parts.whole)
    (All-cons IsArc (joined_arc ps (chains_of_arc arc (parts.first ++ parts.second)))
    (arcs_now (suc arc) pss (chains_past_arc arc (parts.first ++ parts.second)))
    (subst (λ (xs : List Chain). IsArc (joined_arc ps xs)) (sym (taken arc parts.first parts.second firsts seconds)) own)
    (subst (λ (xs : List Chain). All IsArc (arcs_now (suc arc) pss xs)) (sym (left_over arc parts.first parts.second firsts seconds)) more))

pub outcome_has_arcs : (m : Map) (t : Terms) (after : Map) (records : List Record) → All IsArc m.arcs → IsOutcome m t after records
    → All IsArc after.arcs
outcome_has_arcs m t after records are is =
    let start = map (chain_in m) is.refs in
    let runs = runs_left start t (work_of m is.refs) 0 (length is.refs) records is.last (all_stay start) is.replaced in
    subst (λ (n : Map). All IsArc n.arcs) (sym is.made) (arcs_stay_arcs 0 m.arcs start is.last.chains are is.chains.cut runs)
