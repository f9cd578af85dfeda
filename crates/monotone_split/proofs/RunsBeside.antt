-- An edge of another chain is beside each run of a clear chain.
use Rattle.std.proofs.Common.{◌≡◌, List, [], ◌∷◌, ◌++◌, drop, get_or, ap, subst}
use Rattle.grid_exact.specs.Frame.{IsBeforeIn}
use Rattle.grid_exact.specs.Walks.{EachEdge}
use Rattle.grid_exact.specs.Runs.{IsMonotone}
use Rattle.grid_exact.specs.Runs.IsMonotone.{Increasing, Decreasing}
use Rattle.grid_exact.specs.declared.frame.Frame.{Frame}
use Rattle.arc_map.specs.Vertices.{Vertex, places, MeetLawfully}
use Rattle.arc_map.specs.Clear.{IsWithinChain, EachButLast}
use Rattle.arc_map.specs.Chains.{chain_at, IsOtherEdge}
use Rattle.arc_map.specs.Edges.{EachOf}
use Rattle.monotone_split.specs.Shortcuts.{ClearRunsAreBeside}
use Rattle.monotone_split.proofs.WalkParts.{first_part, later_part, first_skipped, later_but_last, to_places, from_places}
use Rattle.monotone_split.proofs.Maps.{other_apart}

-- what holds of each edge of a walk holds of each edge behind one of its vertices
from_vertex : (P : Vertex → Vertex → Type 0) (first : Vertex) (all before : List Vertex) (v : Vertex) (us : List Vertex)
    → first ∷ all ≡ before ++ (v ∷ us) → EachEdge P first all → EachEdge P v us
from_vertex P first all [] v us is h =
    let starts : first ≡ v = ap (λ (xs : List Vertex). get_or xs 0 first) is in
    let goes : all ≡ us = ap (λ (xs : List Vertex). drop 1 xs) is in
    subst (λ (x : Vertex). EachEdge P x us) starts (subst (λ (xs : List Vertex). EachEdge P first xs) goes h)
from_vertex P first all (b ∷ bs) v us is h =
    let goes : all ≡ bs ++ (v ∷ us) = ap (λ (xs : List Vertex). drop 1 xs) is in
    later_part P first bs v us (subst (λ (xs : List Vertex). EachEdge P first xs) goes h)

run_of : (P : Vertex → Vertex → Type 0) (first : Vertex) (all before : List Vertex) (v : Vertex) (skipped : List Vertex) (w : Vertex)
    (rest : List Vertex) → first ∷ all ≡ before ++ (v ∷ (skipped ++ (w ∷ rest))) → EachEdge P first all → EachEdge P v (skipped ++ w ∷ [])
run_of P first all before v skipped w rest is h = first_part P v skipped w rest
    (from_vertex P first all before v (skipped ++ (w ∷ rest)) is h)

run_one_way : (frame : Frame) (first : Vertex) (all before : List Vertex) (v : Vertex) (skipped : List Vertex) (w : Vertex) (rest :
    List Vertex) → first ∷ all ≡ before ++ (v ∷ (skipped ++ (w ∷ rest))) → IsMonotone frame first.place (places all)
    → IsMonotone frame v.place (places (skipped ++ w ∷ []))
run_one_way frame first all before v skipped w rest is (Increasing h) =
    Increasing (to_places (λ a b. IsBeforeIn frame a b) v (skipped ++ w ∷ [])
    (run_of (λ a b. IsBeforeIn frame a.place b.place) first all before v skipped w rest is
    (from_places (λ a b. IsBeforeIn frame a b) first all h)))
run_one_way frame first all before v skipped w rest is (Decreasing h) =
    Decreasing (to_places (λ a b. IsBeforeIn frame b a) v (skipped ++ w ∷ [])
    (run_of (λ a b. IsBeforeIn frame b.place a.place) first all before v skipped w rest is
    (from_places (λ a b. IsBeforeIn frame b a) first all h)))

run_inside : (P : Vertex → Type 0) (first : Vertex) (all before : List Vertex) (v : Vertex) (skipped : List Vertex) (w : Vertex) (rest :
    List Vertex) → first ∷ all ≡ before ++ (v ∷ (skipped ++ (w ∷ rest))) → EachButLast P all → EachOf P skipped
run_inside P first all [] v skipped w rest is h =
    let goes : all ≡ skipped ++ (w ∷ rest) = ap (λ (xs : List Vertex). drop 1 xs) is in
    first_skipped P skipped w rest (subst (EachButLast P) goes h)
run_inside P first all (b ∷ bs) v skipped w rest is h =
    let goes : all ≡ bs ++ (v ∷ (skipped ++ (w ∷ rest))) = ap (λ (xs : List Vertex). drop 1 xs) is in
    first_skipped P skipped w rest (later_but_last P bs v (skipped ++ (w ∷ rest)) (subst (EachButLast P) goes h))

pub clear_runs_are_beside : ClearRunsAreBeside
clear_runs_are_beside chains points k before v skipped w rest c d are clear is other =
    let chain = chain_at chains k in
    record {
      other = other;
      two_ends = other_apart chains k c d are other;
      one_way = run_one_way chain.frame chain.first chain.rest before v skipped w rest is (are.monotone k);
      within = run_inside (IsWithinChain (IsOtherEdge chains k)) chain.first chain.rest before v skipped w rest is (are.within k);
      lawful = run_of (λ a b. MeetLawfully a b c d) chain.first chain.rest before v skipped w rest is (clear.others c d other);
    }
