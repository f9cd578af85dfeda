-- A chain of numbered vertices, and what is left of it where some are kept.
use Rattle.std.proofs.Common.{◌≡◌, ◌∙◌, ℕ, suc, ◌+◌, ◌-◌, ◌<◌, ◌≤◌, List, [], ◌∷◌, inl, inr, AllPairs, map, length, get_or, slice_index}
use Rattle.std.proofs.Common.{drop, refl, sym, ap, subst, arith}
use Rattle.std.proofs.lemmas.List.{get_or-map, get_or_default, length-map, drop-map, get_or-drop}
use Rattle.std.proofs.lemmas.Bool.{cases_lt}
use Rattle.std.proofs.lemmas.List.Kept.{AllPairs-from_increasing}
use Rattle.std.proofs.lemmas.Simd.{map-map}
use Rattle.std.specs.List.Sorted.{IsStrictlyIncreasing}
use Rattle.grid_exact.specs.Geometry.{Place}
use Rattle.grid_exact.specs.Frame.{IsBeforeIn}
use Rattle.grid_exact.specs.declared.frame.Frame.{Frame}
use Rattle.arc_map.specs.Map.{Map}
use Rattle.arc_map.specs.Vertices.{places}
use Rattle.arc_map.specs.Chains.{chain_places}
use Rattle.arc_map.specs.Paths.{vertices_of, vertex_at, vertices_at}
use Rattle.arc_map.specs.Arranged.{position_at}
use Rattle.arc_map.specs.Work.{vertex_in, AreKeptIn}
use Rattle.arc_map.specs.Live.{numbered, SpansChain}
use Rattle.arc_map.specs.declared.refs.ChainRef.{ChainRef}
use Rattle.arc_map.proofs.Cutting.{RunsOneWay}
use Rattle.arc_map.proofs.Cutting.RunsOneWay.{Rises, Falls}
use Rattle.arc_map.proofs.Rising.{rising_order}

-- two functions that agree on each element of a list make the same list of it
pub map_same : {X : Type 0} (f g : ℕ → X) (xs : List ℕ) → ((k : ℕ) → k < length xs → f (get_or xs k 0) ≡ g (get_or xs k 0))
    → map f xs ≡ map g xs
map_same f g [] same = refl
map_same f g (x ∷ xs) same =
    let first : f x ≡ g x = same 0 (omega arith) in
    let rest = map_same f g xs (λ k below. same (suc k) (omega arith)) in
    cc

-- the vertices of the chain are those with its numbers
pub numbered_vertices : (m : Map) (r : ChainRef) (numbers : List ℕ) → 1 ≤ length numbers → slice_index numbers 0 ≡ r.«from»
    → vertices_of (numbered m r numbers) ≡ map (vertex_in m r.arc) numbers
numbered_vertices m r [] some first = absurd (omega arith)
numbered_vertices m r (n ∷ ns) some first = ap (λ at. vertex_in m r.arc at ∷ map (vertex_in m r.arc) ns) (sym first)

pub numbered_places : (m : Map) (r : ChainRef) (numbers : List ℕ) → 1 ≤ length numbers → slice_index numbers 0 ≡ r.«from»
    → chain_places (numbered m r numbers) ≡ map (position_at m r.arc) numbers
numbered_places m r numbers some first =
    ap places (numbered_vertices m r numbers some first) ∙ map-map (λ v. v.place) (vertex_in m r.arc) numbers

pub length_rest : (xs : List ℕ) → length (drop 1 xs) ≡ length xs - 1
length_rest [] = refl
length_rest (x ∷ xs) = omega arith

rest_count : (m : Map) (r : ChainRef) (numbers : List ℕ) → length (numbered m r numbers).rest ≡ length numbers - 1
rest_count m r numbers = length-map (drop 1 numbers) (vertex_in m r.arc) ∙ length_rest numbers

pub vertex_at_numbered : (m : Map) (r : ChainRef) (numbers : List ℕ) (at : ℕ) → 1 ≤ length numbers → slice_index numbers 0 ≡ r.«from»
    → at < length numbers → vertex_at (numbered m r numbers) at ≡ vertex_in m r.arc (get_or numbers at 0)
vertex_at_numbered m r numbers at some first inside =
    ap (λ vs. get_or vs at (vertex_in m r.arc r.«from»)) (numbered_vertices m r numbers some first)
    ∙ get_or-map (vertex_in m r.arc) numbers at 0 (vertex_in m r.arc r.«from») inside

-- the kept places are places of the chain
pub kept_below : (m : Map) (r : ChainRef) (numbers kept : List ℕ) → 2 ≤ length numbers → AreKeptIn (numbered m r numbers) kept
    → (k : ℕ) (d : ℕ) → k < length kept → get_or kept k d < length numbers
kept_below m r numbers kept several keep k d below =
    let order = rising_order kept keep.rising k (length kept - 1) (omega arith) (omega (arith, keep.some)) in
    let here = get_or_default kept k d 0 below in
    omega (arith, order, here, keep.last, rest_count m r numbers)

-- the first and the last place are two
kept_several : (m : Map) (r : ChainRef) (numbers kept : List ℕ) → 2 ≤ length numbers → AreKeptIn (numbered m r numbers) kept
    → 2 ≤ length kept
kept_several m r numbers kept several keep =
    elim (cases_lt 1 (length kept)) [
      | inl more ↦ omega arith
      | inr one ↦
          let only : length kept - 1 ≡ 0 = omega arith in
          let last = keep.last in
          let same = rw only at last in
          absurd (omega (arith, same, keep.first, rest_count m r numbers))
    ]

-- the numbers of the kept vertices span the chain
pub kept_spans : (m : Map) (r : ChainRef) (numbers kept : List ℕ) → SpansChain r numbers → AreKeptIn (numbered m r numbers) kept
    → SpansChain r (map (λ at. get_or numbers at 0) kept)
kept_spans m r numbers kept spans keep =
    let number : ℕ → ℕ = λ at. get_or numbers at 0 in
    let count : length (map number kept) ≡ length kept = length-map kept number in
    let several = kept_several m r numbers kept spans.several keep in
    let within = kept_below m r numbers kept spans.several keep in
    record {
      rising = λ k below.
          let inside : k + 1 < length kept = omega (arith, count) in
          let here = get_or-map number kept k 0 0 (omega arith) in
          let next = get_or-map number kept (k + 1) 0 0 inside in
          let less = AllPairs-from_increasing numbers spans.rising (get_or kept k 0) (get_or kept (k + 1) 0) 0 (keep.rising k inside)
          (within (k + 1) 0 inside) in
          omega (arith, here, next, less);
      several = omega (arith, count, several);
      first = get_or-map number kept 0 0 0 (omega (arith, several)) ∙ ap number keep.first ∙ spans.first;
      last = ap (λ n. get_or (map number kept) (n - 1) 0) count ∙ get_or-map number kept (length kept - 1) 0 0 (omega (arith, several))
          ∙ ap number (keep.last ∙ rest_count m r numbers) ∙ spans.last;
    }

-- the positions of the kept vertices are those of their numbers
pub kept_positions : (numbers kept : List ℕ) (position : ℕ → Place) (d : Place)
    → ((k : ℕ) (e : ℕ) → k < length kept → get_or kept k e < length numbers)
    → map (λ at. get_or (map position numbers) at d) kept ≡ map position (map (λ at. get_or numbers at 0) kept)
kept_positions numbers kept position d within =
    map_same (λ at. get_or (map position numbers) at d) (λ at. position (get_or numbers at 0)) kept (λ k below.
    get_or-map position numbers (get_or kept k 0) 0 d (within k 0 below))
    ∙ sym (map-map position (λ at. get_or numbers at 0) kept)

-- any two of the kept elements have a relation that any two of all have
pub kept_pairs : {X : Type 0} (R : X → X → Type 0) (xs : List X) (kept : List ℕ) (d : X) → IsStrictlyIncreasing kept
    → ((k : ℕ) (e : ℕ) → k < length kept → get_or kept k e < length xs) → AllPairs R xs → AllPairs R (map (λ at. get_or xs at d) kept)
kept_pairs R xs kept d rising within pairs i j e before below =
    let inside : j < length kept = omega (arith, length-map kept (λ at. get_or xs at d)) in
    let first = get_or-map (λ at. get_or xs at d) kept i 0 e (omega arith) in
    let second = get_or-map (λ at. get_or xs at d) kept j 0 e inside in
    let both = pairs (get_or kept i 0) (get_or kept j 0) d (AllPairs-from_increasing kept rising i j 0 before inside) (within j 0 inside) in
    subst (λ x. R x (get_or (map (λ at. get_or xs at d) kept) j e)) (sym first)
    (subst (λ y. R (get_or xs (get_or kept i 0) d) y) (sym second) both)

pub kept_one_way : (frame : Frame) (ps : List Place) (kept : List ℕ) (d : Place) → IsStrictlyIncreasing kept
    → ((k : ℕ) (e : ℕ) → k < length kept → get_or kept k e < length ps) → RunsOneWay frame ps
    → RunsOneWay frame (map (λ at. get_or ps at d) kept)
kept_one_way frame ps kept d rising within (Rises pairs) = Rises (kept_pairs (λ p q. IsBeforeIn frame p q) ps kept d rising within pairs)
kept_one_way frame ps kept d rising within (Falls pairs) = Falls (kept_pairs (λ p q. IsBeforeIn frame q p) ps kept d rising within pairs)

-- the chain of the kept numbers is the chain with the kept vertices
pub kept_rest : (m : Map) (r : ChainRef) (numbers kept : List ℕ) → 1 ≤ length numbers → slice_index numbers 0 ≡ r.«from»
    → ((k : ℕ) (e : ℕ) → k < length kept → get_or kept k e < length numbers)
    → map (vertex_in m r.arc) (drop 1 (map (λ at. get_or numbers at 0) kept)) ≡ vertices_at (numbered m r numbers) (drop 1 kept)
kept_rest m r numbers kept some first within =
    ap (map (vertex_in m r.arc)) (drop-map (λ at. get_or numbers at 0) 1 kept)
    ∙ map-map (vertex_in m r.arc) (λ at. get_or numbers at 0) (drop 1 kept)
    ∙ map_same (λ at. vertex_in m r.arc (get_or numbers at 0)) (λ at. vertex_at (numbered m r numbers) at) (drop 1 kept) (λ k below.
    let place : get_or (drop 1 kept) k 0 ≡ get_or kept (1 + k) 0 = get_or-drop 1 kept k 0 in
    let inside = within (1 + k) 0 (omega (arith, length_rest kept)) in
    sym (vertex_at_numbered m r numbers (get_or (drop 1 kept) k 0) some first (rw place inside)))
