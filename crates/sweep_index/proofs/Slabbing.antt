-- The edges of one slab, and those of them whose x range holds x.
use Rattle.std.proofs.Common.{◌≡◌, ◌≢◌, ◌∙◌, ◌+◌, ◌/◌, ◌<◌, ◌≤◌, ◌==◌, nat_le, nat_lt, ℕ, ℤ, Bool, true, false, List, [], ◌∷◌, ◌++◌, All}
use Rattle.std.proofs.Common.{AllPairs, Contains, filter, length, get_or, map, take, drop, min, max, arith, refl, ap, sym, subst}
use Rattle.std.specs.List.{AllWithin}
use Rattle.std.specs.List.Sorted.{IsNonDecreasingBy, IsPartitionedBy}
use Rattle.std.proofs.lemmas.Bool.{and_from, and_parts, cond-false, cond-true, eq-eqb, eqb-true, false_from_ne_true, le-leb, leb-true}
use Rattle.std.proofs.lemmas.Bool.{ltb-false, ltb-true}
use Rattle.std.proofs.lemmas.List.{append-nil, get_or-drop, get_or-map, get_or-take, length-drop, length-map, length-take-le}
use Rattle.std.proofs.lemmas.List.{take-append-drop}
use Rattle.std.proofs.lemmas.List.Elements.{All-filter, All-head, All-map, All-nil, All-tail, Contains-get_or, at_from_Contains}
use Rattle.std.proofs.lemmas.List.Elements.{filter-append, filter_passes}
use Rattle.std.proofs.lemmas.List.Kept.{AllPairs-filter}
use Rattle.grid_exact.specs.Geometry.{IsBetween, IsGridNumber}
use Rattle.grid_exact.specs.Geometry.IsBetween.{Rising, Falling}
use Rattle.grid_exact.proofs.WholeLaws.{sums}
use Rattle.arc_map.specs.Map.{Map}
use Rattle.arc_map.specs.Arranged.{IsMapEdge, edge_end, edge_start}
use Rattle.arc_map.specs.declared.refs.EdgeRef.{EdgeRef}
use Rattle.sweep_index.specs.Offsets.{offset_of}
use Rattle.sweep_index.specs.Slabs.{AreEdgesAt, AreEdgesOf, IsEdgeAt, IsSlabbedOf, edges_at, is_at, place_of, slab_of}
use Rattle.sweep_index.specs.declared.slabs.Slabbed.{Slabbed}
use Rattle.sweep_index.proofs.Distinct.{pairs_from_map, pairs_map}
use Rattle.sweep_index.proofs.Holding.{filter_holds, map_holds, some_of}
use Rattle.sweep_index.proofs.Orders.{div_rises}
use Rattle.sweep_index.proofs.Ranges.{between_from_offsets, offsets_from_between}

-- ---- a run of elements that pass

filter_none : {X : Type 0} (p : X → Bool) (xs : List X) → All (λ x. p x ≡ false) xs → filter p xs ≡ []
filter_none p [] all = refl
filter_none p (x ∷ xs) all = cond-false (p x) (x ∷ filter p xs) (filter p xs) (All-head (λ y. p y ≡ false) x xs all)
    ∙ filter_none p xs (All-tail (λ y. p y ≡ false) x xs all)

filter_all : {X : Type 0} (p : X → Bool) (xs : List X) → All (λ x. p x ≡ true) xs → filter p xs ≡ xs
filter_all p [] all = refl
filter_all p (x ∷ xs) all = cond-true (p x) (x ∷ filter p xs) (filter p xs) (All-head (λ y. p y ≡ true) x xs all)
    ∙ ap (λ ys. x ∷ ys) (filter_all p xs (All-tail (λ y. p y ≡ true) x xs all))

front_all : {X : Type 0} (P : X → Type 0) (xs : List X) (n : ℕ) → n ≤ length xs → AllWithin P xs 0 n → All P (take n xs)
front_all P xs n within all k d below =
    let long = length-take-le n xs within in
    let inside : k < n = omega (arith, long, below) in
    subst P (sym (get_or-take n xs k d inside)) (all k d (omega arith) inside)

back_all : {X : Type 0} (P : X → Type 0) (xs : List X) (n : ℕ) → n ≤ length xs → AllWithin P xs n (length xs) → All P (drop n xs)
back_all P xs n within all k d below =
    let long = length-drop n xs in
    subst P (sym (get_or-drop n xs k d)) (all (n + k) d (omega arith) (omega (arith, long, below, within)))

-- the first n do not pass, and of the others just the first m
filter_run : {X : Type 0} (p : X → Bool) (xs : List X) (n m : ℕ) → n ≤ length xs → m ≤ length (drop n xs)
    → All (λ x. p x ≡ false) (take n xs) → All (λ x. p x ≡ true) (take m (drop n xs)) → All (λ x. p x ≡ false) (drop m (drop n xs))
    → filter p xs ≡ take m (drop n xs)
filter_run p xs n m within inside front mid back =
    ap (filter p) (sym (take-append-drop n xs))
    ∙ filter-append p (take n xs) (drop n xs)
    ∙ ap (λ ys. ys ++ filter p (drop n xs)) (filter_none p (take n xs) front)
    ∙ ap (filter p) (sym (take-append-drop m (drop n xs)))
    ∙ filter-append p (take m (drop n xs)) (drop m (drop n xs))
    ∙ ap (λ ys. filter p (take m (drop n xs)) ++ ys) (filter_none p (drop m (drop n xs)) back)
    ∙ append-nil (filter p (take m (drop n xs)))
    ∙ filter_all p (take m (drop n xs)) mid

-- ---- one slab

other_slab : (a b : ℕ) → (a ≡ b → ⊥) → (a == b) ≡ false
other_slab a b apart = false_from_ne_true (a == b) (λ same. apart (eqb-true a b same))

-- the edges behind those of earlier slabs are in order, those of the slab first
pub slab_first : (edges : List Slabbed) (slab start : ℕ) → IsNonDecreasingBy (λ s. s.slab) edges → start ≤ length edges
    → AllWithin (λ s. nat_lt s.slab slab ≡ false) edges start (length edges) → IsPartitionedBy (λ s. s.slab == slab) (drop start edges)
slab_first edges slab start sorted within late i j d le below same =
    let long = length-drop start edges in
    let first = get_or-drop start edges i d in
    let second = get_or-drop start edges j d in
    let is : (get_or (drop start edges) j d).slab ≡ slab = eqb-true (get_or (drop start edges) j d).slab slab same in
    let rises : (get_or edges (start + i) d).slab ≤ (get_or edges (start + j) d).slab =
    sorted (start + i) (start + j) d (omega (arith, le)) (omega (arith, below, long, within)) in
    let least = ltb-false (get_or edges (start + i) d).slab slab (late (start + i) d (omega arith) (omega (arith, le, below, long, within)))
    in
    let here : (get_or (drop start edges) i d).slab ≡ (get_or edges (start + i) d).slab = ap (λ (s : Slabbed). s.slab) first in
    let there : (get_or (drop start edges) j d).slab ≡ (get_or edges (start + j) d).slab = ap (λ (s : Slabbed). s.slab) second in
    eq-eqb (get_or (drop start edges) i d).slab slab (omega (arith, is, rises, least, here, there))

pub slab_is : (edges : List Slabbed) (slab start count : ℕ) → start ≤ length edges → count ≤ length (drop start edges)
    → AllWithin (λ s. nat_lt s.slab slab ≡ true) edges 0 start → AllWithin (λ s. (s.slab == slab) ≡ true) (drop start edges) 0 count
    → AllWithin (λ s. (s.slab == slab) ≡ false) (drop start edges) count (length (drop start edges))
    → take count (drop start edges) ≡ slab_of slab edges
slab_is edges slab start count within inside before here behind =
    sym (filter_run (λ s. s.slab == slab) edges start count within inside
    (front_all (λ s. (s.slab == slab) ≡ false) edges start within (λ k d from below.
    other_slab (get_or edges k d).slab slab (λ same. let less = ltb-true (get_or edges k d).slab slab (before k d from below) in
    omega (arith, less, same))))
    (front_all (λ s. (s.slab == slab) ≡ true) (drop start edges) count inside here)
    (back_all (λ s. (s.slab == slab) ≡ false) (drop start edges) count inside behind))

-- ---- the edges at x

at_parts : (x : ℕ) (s : Slabbed) → is_at x s ≡ true → (s.west ≤ x) × (x ≤ s.east)
at_parts x s is = let parts = and_parts (nat_le s.west x) (nat_le x s.east) is in (leb-true s.west x parts.0, leb-true x s.east parts.1)

at_from_parts : (x : ℕ) (s : Slabbed) → s.west ≤ x → x ≤ s.east → is_at x s ≡ true
at_from_parts x s west east = and_from (nat_le s.west x) (nat_le x s.east) (le-leb s.west x west) (le-leb x s.east east)

module _ (m : Map) (width : ℕ) (edges : List Slabbed) (wide : 0 < width) (are : AreEdgesOf m width edges) (x : ℤ) (on_grid : IsGridNumber x)
  where
    abbrev here : List Slabbed
    here = slab_of (offset_of x / width) edges

    known : All (λ s. IsSlabbedOf m s × IsMapEdge m s.edge) here
    known = All-filter (λ s. s.slab == offset_of x / width) (λ s. IsSlabbedOf m s × IsMapEdge m s.edge) edges are.only

    only_here : All (IsEdgeAt m x) (edges_at (offset_of x) here)
    only_here = All-map (IsEdgeAt m x) (λ s. s.edge) (filter (is_at (offset_of x)) here) (λ k d within.
        let s = get_or (filter (is_at (offset_of x)) here) k d in
        let has = All-filter (is_at (offset_of x)) (λ s. IsSlabbedOf m s × IsMapEdge m s.edge) here known k d within in
        let range = has.0 in
        let parts = at_parts (offset_of x) s (filter_passes (is_at (offset_of x)) here k d within) in
        let low = parts.0 in
        let high = parts.1 in
        let west = range.west in
        let east = range.east in
        record {
          edge = has.1;
          across = between_from_offsets (edge_start m s.edge).x (edge_end m s.edge).x x range.start_on_grid range.end_on_grid on_grid
              (omega (arith, low, west)) (omega (arith, high, east));
        })

    -- an edge that the slab of x holds
    found_here : (e : EdgeRef) → IsEdgeAt m x e → (k : ℕ) × (k < length edges)
        × ((d : Slabbed) → place_of (get_or edges k d) ≡ (e, offset_of x / width))
    found_here e at =
        let start = (edge_start m e).x in
        let stop = (edge_end m e).x in
        let range = offsets_from_between start stop x at.across in
        let held = are.all e (offset_of x / width) at.edge
        (div_rises (min (offset_of start) (offset_of stop)) (offset_of x) width wide range.0)
        (div_rises (offset_of x) (max (offset_of start) (offset_of stop)) width wide range.1) in
        let found = at_from_Contains (map place_of edges) (e, offset_of x / width) held in
        let long = length-map edges place_of in
        let inside : found.0 < length edges = omega (arith, long, found.1) in
        (found.0, inside, λ d. sym (get_or-map place_of edges found.0 d (place_of d) inside) ∙ found.2 (place_of d))

    all_here : (e : EdgeRef) → IsEdgeAt m x e → Contains (edges_at (offset_of x) here) e
    all_here e at =
        let found = found_here e at in
        let d = some_of edges found.0 found.1 in
        let s = get_or edges found.0 d in
        let range = offsets_from_between (edge_start m e).x (edge_end m e).x x at.across in
        let low = range.0 in
        let high = range.1 in
        let same : s.edge ≡ e = ap (λ p. p.0) (found.2 d) in
        let slab : s.slab ≡ offset_of x / width = ap (λ p. p.1) (found.2 d) in
        let has = (are.only found.0 d found.1).0 in
        let west = has.west ∙ ap (λ f. min (offset_of (edge_start m f).x) (offset_of (edge_end m f).x)) same in
        let east = has.east ∙ ap (λ f. max (offset_of (edge_start m f).x) (offset_of (edge_end m f).x)) same in
        let in_slab = filter_holds (λ t. t.slab == offset_of x / width) edges s (Contains-get_or edges found.0 d found.1)
        (eq-eqb s.slab (offset_of x / width) slab) in
        let at_x = filter_holds (is_at (offset_of x)) here s in_slab
        (at_from_parts (offset_of x) s (omega (arith, low, west)) (omega (arith, high, east))) in
        subst (Contains (edges_at (offset_of x) here)) same (map_holds (λ t. t.edge) (filter (is_at (offset_of x)) here) s at_x)

    once_here : AllPairs (λ e f. e ≢ f) (edges_at (offset_of x) here)
    once_here = pairs_map (λ e f. e ≢ f) (λ s. s.edge) (filter (is_at (offset_of x)) here)
        (AllPairs-filter (λ s t. s.edge ≢ t.edge) (is_at (offset_of x)) here (λ i j d lt within same.
        let apart = AllPairs-filter (λ s t. place_of s ≢ place_of t) (λ s. s.slab == offset_of x / width) edges
        (pairs_from_map (λ s t. s ≢ t) place_of edges are.once) i j d lt within in
        let first = filter_passes (λ s. s.slab == offset_of x / width) edges i d (omega (arith, lt, within)) in
        let second = filter_passes (λ s. s.slab == offset_of x / width) edges j d within in
        let level = eqb-true (get_or here i d).slab (offset_of x / width) first
        ∙ sym (eqb-true (get_or here j d).slab (offset_of x / width) second) in
        apart (ap (λ e. (e, (get_or here i d).slab)) same ∙ ap (λ n. ((get_or here j d).edge, n)) level)))

    pub edges_here : AreEdgesAt m x (edges_at (offset_of x) here)
    edges_here = record { only = only_here; all = all_here; once = once_here }

-- ---- what is off the grid

-- the ends of each edge are on the grid
pub ends_on_grid : (m : Map) (width : ℕ) (edges : List Slabbed) → 0 < width → AreEdgesOf m width edges → (e : EdgeRef) → IsMapEdge m e
    → IsGridNumber (edge_start m e).x × IsGridNumber (edge_end m e).x
ends_on_grid m width edges wide are e edge =
    let low = min (offset_of (edge_start m e).x) (offset_of (edge_end m e).x) in
    let high = max (offset_of (edge_start m e).x) (offset_of (edge_end m e).x) in
    let order : low ≤ high = omega arith in
    let held = are.all e (low / width) edge (omega arith) (div_rises low high width wide order) in
    let found = at_from_Contains (map place_of edges) (e, low / width) held in
    let inside : found.0 < length edges = omega (arith, length-map edges place_of, found.1) in
    let d = some_of edges found.0 inside in
    let s = get_or edges found.0 d in
    let is : place_of s ≡ (e, low / width) = sym (get_or-map place_of edges found.0 d (place_of d) inside) ∙ found.2 (place_of d) in
    let same : s.edge ≡ e = ap (λ p. p.0) is in
    let has = (are.only found.0 d inside).0 in
    (subst (λ f. IsGridNumber (edge_start m f).x) same has.start_on_grid, subst (λ f. IsGridNumber (edge_end m f).x) same has.end_on_grid)

between_on_grid : (a b x : ℤ) → IsGridNumber a → IsGridNumber b → IsBetween a b x → IsGridNumber x
between_on_grid a b x first second (Rising low high) = let p = first.low in let q = second.high in
    record { low = omega (arith, sums); high = omega (arith, sums) }
between_on_grid a b x first second (Falling low high) = let p = first.high in let q = second.low in
    record { low = omega (arith, sums); high = omega (arith, sums) }

-- no edge spans an x that is off the grid
pub none_off_grid : (m : Map) (x : ℤ) → ((e : EdgeRef) → IsMapEdge m e → IsGridNumber (edge_start m e).x × IsGridNumber (edge_end m e).x)
    → ¬ (IsGridNumber x) → AreEdgesAt m x []
none_off_grid m x ends off = record {
  only = All-nil (IsEdgeAt m x);
  all = λ e at. let g = ends e at.edge in absurd (off (between_on_grid (edge_start m e).x (edge_end m e).x x g.0 g.1 at.across));
  once = λ i j d before below. absurd (omega arith);
}
