-- The vertices of an arc by their numbers, and the chain that is cut off at one of them.
use Rattle.std.proofs.Common.{◌≡◌, ◌∙◌, ℕ, zero, suc, ◌+◌, ◌-◌, ◌<◌, ◌≤◌, ◌==◌, ◌||◌, Bool, true, List, [], ◌∷◌, ◌++◌, length, get_or, map}
use Rattle.std.proofs.Common.{take, drop, refl, sym, ap, subst, arith, add-one, drop-cons, length-drop}
use Rattle.std.specs.List.{range_with_len}
use Rattle.std.proofs.lemmas.Bool.Decides.{nat_tests}
use Rattle.std.proofs.lemmas.List.{drop-drop, get_or-drop}
use Rattle.std.proofs.lemmas.List.FromFn.{length-map-range_with_len, take-map-range_with_len}
use Rattle.std.proofs.Math.Seq.{take-append_seam}
use Rattle.std.proofs.lemmas.List.{length-append}
use Rattle.grid_exact.specs.Geometry.{Place}
use Rattle.grid_exact.specs.declared.frame.Frame.{Frame}
use Rattle.grid_exact.specs.declared.frame.Frame.TheVariants.{Plain, Turned}
use Rattle.arc_map.specs.Map.{Map}
use Rattle.arc_map.specs.Vertices.{Vertex, places}
use Rattle.grid_exact.specs.Runs.{IsMonotone}
use Rattle.arc_map.specs.Chains.{Chain}
use Rattle.arc_map.specs.Arcs.{vertex, is_first, vertices_from, most_edges, IsFurthest, IsNextChain, IsCutInto}
use Rattle.arc_map.specs.Arcs.IsNextChain.{PlainReaches, TurnedReaches}
use Rattle.arc_map.proofs.Reading.{end_of_run}
use Rattle.arc_map.specs.Arranged.{arc_at, nowhere, position_at, is_arc_end}
use Rattle.arc_map.specs.Work.{vertex_in, chain_in}
use Rattle.arc_map.specs.declared.refs.ChainRef.{ChainRef}
use Rattle.monotone_split.specs.Cut.{IsRun, IsFurthestRun, IsNextRun, IsNextChainRef}
use Rattle.monotone_split.specs.Cut.IsNextRun.{PlainReaches as PlainRunReaches, TurnedReaches as TurnedRunReaches}

-- the n vertices of the arc after the position number `start`
abbrev pub run_after : Map → ℕ → ℕ → ℕ → List Vertex
run_after m arc start n = map (vertex_in m arc) (range_with_len (start + 1) n)

-- all vertices of the arc after that position
abbrev pub all_after : Map → ℕ → ℕ → List Vertex
all_after m arc start = run_after m arc start (length (arc_at m arc) - (start + 1))

-- ---- the vertices of an arc, one after the other

vertex_same : (m : Map) (arc at : ℕ) (b : Bool) (p : Place) → is_arc_end m arc at ≡ b → position_at m arc at ≡ p
    → vertex_in m arc at ≡ vertex arc at b p
vertex_same m arc at b p e f = ap (λ (c : Bool). vertex arc at c (position_at m arc at)) e ∙ ap (λ (q : Place). vertex arc at b q) f

pub first_place : (l : List Place) (at : ℕ) (p : Place) (ps : List Place) → drop at l ≡ p ∷ ps → get_or l at nowhere ≡ p
first_place l at p ps e =
    let here : at + 0 ≡ at = omega arith in
    ap (λ (k : ℕ). get_or l k nowhere) (sym here) ∙ sym (get_or-drop at l 0 nowhere) ∙ ap (λ (qs : List Place). get_or qs 0 nowhere) e

last_is_end : (at size : ℕ) → at + 1 ≡ size → ((at == 0) || (at + 1 == size)) ≡ true
last_is_end at size e = grind (arith, nat_tests)

inner_or_first : (at size : ℕ) → at + 2 ≤ size → ((at == 0) || (at + 1 == size)) ≡ is_first at
inner_or_first zero size more = grind (arith, nat_tests)
inner_or_first (suc at) size more = grind (arith, nat_tests)

pub vertices_numbered : (m : Map) (arc at : ℕ) (ps : List Place) → drop at (arc_at m arc) ≡ ps
    → vertices_from arc at ps ≡ map (vertex_in m arc) (range_with_len at (length ps))
vertices_numbered m arc at [] e = refl
vertices_numbered m arc at (p ∷ []) e =
    let size = sym (length-drop at (arc_at m arc)) ∙ ap length e in
    ap (λ (v : Vertex). v ∷ []) (sym (vertex_same m arc at true p (last_is_end at (length (arc_at m arc)) (omega arith))
    (first_place (arc_at m arc) at p [] e)))
vertices_numbered m arc at (p ∷ q ∷ ps) e =
    let size = sym (length-drop at (arc_at m arc)) ∙ ap length e in
    let rest : drop (at + 1) (arc_at m arc) ≡ q ∷ ps = sym (drop-drop 1 at (arc_at m arc)) ∙ ap (λ (qs : List Place). drop 1 qs) e in
    let first = sym (vertex_same m arc at (is_first at) p (inner_or_first at (length (arc_at m arc)) (omega arith))
    (first_place (arc_at m arc) at p (q ∷ ps) e)) in
    ap (λ (v : Vertex). v ∷ vertices_from arc (suc at) (q ∷ ps)) first
    ∙ ap (λ (k : ℕ). vertex_in m arc at ∷ vertices_from arc k (q ∷ ps)) (sym (add-one at))
    ∙ ap (λ (vs : List Vertex). vertex_in m arc at ∷ vs) (vertices_numbered m arc (at + 1) (q ∷ ps) rest)

range_parts : {X : Type 0} (f : ℕ → X) (a n k : ℕ) → map f (range_with_len a (n + k)) ≡ map f (range_with_len a n)
    ++ map f (range_with_len (a + n) k)
range_parts f a zero k =
    let none : 0 + k ≡ k = omega arith in
    let same : a + 0 ≡ a = omega arith in
    ap (λ n. map f (range_with_len a n)) none ∙ ap (λ b. map f (range_with_len b k)) (sym same)
range_parts f a (suc n) k =
    let more : suc n + k ≡ suc (n + k) = omega arith in
    let next : a + 1 + n ≡ a + suc n = omega arith in
    ap (λ j. map f (range_with_len a j)) more ∙ ap (λ xs. f a ∷ xs) (range_parts f (a + 1) n k)
    ∙ ap (λ b. f a ∷ (map f (range_with_len (a + 1) n) ++ map f (range_with_len b k))) next

places_of_range : (m : Map) (arc at n : ℕ) → at + n ≤ length (arc_at m arc)
    → places (map (vertex_in m arc) (range_with_len at n)) ≡ take n (drop at (arc_at m arc))
places_of_range m arc at zero inside = refl
places_of_range m arc at (suc n) inside =
    ap (λ (ps : List Place). position_at m arc at ∷ ps) (places_of_range m arc (at + 1) n (omega arith))
    ∙ ap (λ (k : ℕ). position_at m arc at ∷ take n (drop k (arc_at m arc))) (add-one at)
    ∙ ap (λ (ps : List Place). take (suc n) ps) (sym (drop-cons (arc_at m arc) at nowhere (omega arith)))

pub after_in_parts : (m : Map) (arc start n : ℕ) → start + n < length (arc_at m arc)
    → all_after m arc start ≡ run_after m arc start n ++ all_after m arc (start + n)
after_in_parts m arc start n inside =
    let size = length (arc_at m arc) in
    let parts : size - (start + 1) ≡ n + (size - (start + n + 1)) = omega arith in
    let next : start + 1 + n ≡ start + n + 1 = omega arith in
    ap (λ (k : ℕ). map (vertex_in m arc) (range_with_len (start + 1) k)) parts
    ∙ range_parts (vertex_in m arc) (start + 1) n (size - (start + n + 1))
    ∙ ap (λ (b : ℕ). run_after m arc start n ++ map (vertex_in m arc) (range_with_len b (size - (start + n + 1)))) next

-- ---- runs of places and of vertices

start_of_rest : (l : List Place) (start : ℕ) → get_or (drop start l) 0 nowhere ≡ get_or l start nowhere
start_of_rest l start = let here : start + 0 ≡ start = omega arith in get_or-drop start l 0 nowhere
    ∙ ap (λ (k : ℕ). get_or l k nowhere) here

to_vertices : (m : Map) (arc start n : ℕ) (frame : Frame) → start + n < length (arc_at m arc) → IsRun frame (drop start (arc_at m arc)) n
    → IsMonotone frame (vertex_in m arc start).place (places (run_after m arc start n))
to_vertices m arc start n frame inside run =
    let l = arc_at m arc in
    subst (λ (ps : List Place). IsMonotone frame (position_at m arc start) ps) (ap (λ (qs : List Place). take n qs) (drop-drop 1 start l)
    ∙ sym (places_of_range m arc (start + 1) n (omega arith)))
    (subst (λ (p : Place). IsMonotone frame p (take n (drop 1 (drop start l)))) (start_of_rest l start) run)

from_vertices : (m : Map) (arc start n : ℕ) (frame : Frame) → start + n < length (arc_at m arc)
    → IsMonotone frame (vertex_in m arc start).place (places (run_after m arc start n)) → IsRun frame (drop start (arc_at m arc)) n
from_vertices m arc start n frame inside run =
    let l = arc_at m arc in
    subst (λ (p : Place). IsMonotone frame p (take n (drop 1 (drop start l)))) (sym (start_of_rest l start))
    (subst (λ (ps : List Place). IsMonotone frame (position_at m arc start) ps) (places_of_range m arc (start + 1) n (omega arith)
    ∙ sym (ap (λ (qs : List Place). take n qs) (drop-drop 1 start l))) run)

-- the beginning of the vertices after a position
beginning : (m : Map) (arc start : ℕ) (longer more : List Vertex) → all_after m arc start ≡ longer ++ more
    → (length longer ≤ length (arc_at m arc) - (start + 1)) × (longer ≡ run_after m arc start (length longer))
beginning m arc start longer more e =
    let size = length (arc_at m arc) - (start + 1) in
    let whole : length longer + length more ≡ size = sym (length-append longer more) ∙ sym (ap length e)
    ∙ length-map-range_with_len (vertex_in m arc) (start + 1) size in
    let within : length longer ≤ size = omega arith in (
      within,
      sym (take-append_seam longer more) ∙ ap (λ (vs : List Vertex). take (length longer) vs) (sym e)
          ∙ take-map-range_with_len (vertex_in m arc) (start + 1) size (length longer) within,
    )

furthest : (m : Map) (arc start n : ℕ) (frame : Frame) → start + 1 < length (arc_at m arc)
    → IsFurthestRun frame (drop start (arc_at m arc)) n
    → IsFurthest frame (vertex_in m arc start) (all_after m arc start) (run_after m arc start n)
furthest m arc start n frame edge far =
    let size = length-drop start (arc_at m arc) in
    let inside = far.inside in
    let within : start + n < length (arc_at m arc) = omega arith in
    let count = length-map-range_with_len (vertex_in m arc) (start + 1) n in
    record {
      rest = all_after m arc (start + n);
      starts = after_in_parts m arc start n within;
      within = let few = far.within in omega arith;
      one_way = to_vertices m arc start n frame within far.one_way;
      furthest = λ longer more e few one_way.
          let b = beginning m arc start longer more e in
          let short = b.0 in
          let run : IsMonotone frame (vertex_in m arc start).place (places (run_after m arc start (length longer))) =
          subst (λ (vs : List Vertex). IsMonotone frame (vertex_in m arc start).place (places vs)) b.1 one_way in
          let most = far.furthest (length longer) (omega arith) few (from_vertices m arc start (length longer) frame (omega arith) run) in
          omega arith;
    }

-- ---- the chain that is cut off

abbrev made : ℕ → ℕ → ℕ → Frame → ChainRef
made arc start n frame = record { arc = arc; «from» = start; to = start + n; frame = frame }

abbrev chain_made : Map → ℕ → ℕ → ℕ → Frame → Chain
chain_made m arc start n frame = record { frame = frame; first = vertex_in m arc start; rest = run_after m arc start n }

chain_in-made : (m : Map) (arc start n : ℕ) (frame : Frame) → chain_in m (made arc start n frame) ≡ chain_made m arc start n frame
chain_in-made m arc start n frame = let count : start + n - start ≡ n = omega arith in ap (λ (k : ℕ). chain_made m arc start k frame) count

pub ref_made : (arc : ℕ) (ps : List Place) (start : ℕ) (r : ChainRef) → IsNextChainRef arc ps start r
    → r ≡ made arc start (r.to - start) r.frame
ref_made arc ps start r h =
    ap (λ (a : ℕ). record { arc = a; «from» = r.«from»; to = r.to; frame = r.frame }) h.arc_number
    ∙ ap (λ (s : ℕ). record { arc = arc; «from» = s; to = r.to; frame = r.frame }) h.starts
    ∙ ap (λ (t : ℕ). record { arc = arc; «from» = start; to = t; frame = r.frame }) h.ends

next_made : (m : Map) (arc start n : ℕ) (frame : Frame) → start + 1 < length (arc_at m arc) → IsNextRun (drop start (arc_at m arc)) frame n
    → IsNextChain (vertex_in m arc start) (all_after m arc start) (chain_made m arc start n frame)
next_made m arc start n frame edge (PlainRunReaches other e plain turned least) =
    let count = length-map-range_with_len (vertex_in m arc) (start + 1) n in
    let count' = length-map-range_with_len (vertex_in m arc) (start + 1) other in
    PlainReaches (run_after m arc start other) e (furthest m arc start n Plain edge plain) (furthest m arc start other Turned edge turned)
    (omega arith)
next_made m arc start n frame edge (TurnedRunReaches other e plain turned least) =
    let count = length-map-range_with_len (vertex_in m arc) (start + 1) n in
    let count' = length-map-range_with_len (vertex_in m arc) (start + 1) other in
    TurnedReaches (run_after m arc start other) e (furthest m arc start other Plain edge plain) (furthest m arc start n Turned edge turned)
    (omega arith)

-- where the chain ends
pub record Reach (ps : List Place) (start n : ℕ) : Type 0 where
  pub some : 0 < n
  pub inside : start + n < length ps
  pub short : n ≤ most_edges

pub reach_of : (ps : List Place) (start n : ℕ) (frame : Frame) → start + 1 < length ps → IsNextRun (drop start ps) frame n
    → Reach ps start n
reach_of ps start n frame edge (PlainRunReaches other e plain turned least) = let size = length-drop start ps in let inside =
    plain.inside in record { some = plain.some; inside = omega arith; short = plain.within }
reach_of ps start n frame edge (TurnedRunReaches other e plain turned least) = let size = length-drop start ps in let inside =
    turned.inside in record { some = turned.some; inside = omega arith; short = turned.within }

-- a cut from where the chain ends is, with the chain before it, a cut from where it starts
pub cut_before : (m : Map) (arc start n : ℕ) (frame : Frame) (ks : List Chain) → start + 1 < length (arc_at m arc)
    → IsNextRun (drop start (arc_at m arc)) frame n → IsCutInto (vertex_in m arc (start + n)) (all_after m arc (start + n)) ks
    → IsCutInto (vertex_in m arc start) (all_after m arc start) (chain_in m (made arc start n frame) ∷ ks)
cut_before m arc start n frame ks edge run cut =
    let reach = reach_of (arc_at m arc) start n frame edge run in
    let some = reach.some in
    let count = length-map-range_with_len (vertex_in m arc) (start + 1) n in
    subst (λ (k : Chain). IsCutInto (vertex_in m arc start) (all_after m arc start) (k ∷ ks)) (sym (chain_in-made m arc start n frame)) (
      refl,
      next_made m arc start n frame edge run,
      all_after m arc (start + n),
      after_in_parts m arc start n reach.inside,
      subst (λ (v : Vertex). IsCutInto v (all_after m arc (start + n)) ks) (sym (end_of_run m arc start n)) cut,
      omega arith,
    )
