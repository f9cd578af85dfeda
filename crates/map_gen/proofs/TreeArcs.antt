-- What the walk over a topology reads of positions, arcs and points.
use Rattle.std.proofs.Common.{◌≡◌, ℕ, zero, suc, ◌+◌, ◌*◌, ◌^◌, ◌<◌, ◌≤◌, true, false, Option, Some, None, List, [], ◌∷◌, ◌++◌, length, map}
use Rattle.std.proofs.Common.{Result, Ok, ℤ, pos, neg_ℤ, ◌≤ℤ◌, refl, sym, ap, subst, ◌∙◌, arith, append_assoc, append-nil}
use Rattle.std.proofs.lemmas.Bool.{cond-false}
use Rattle.std.proofs.lemmas.Int.{ints}
use Rattle.std.proofs.lemmas.List.{length-append}
use Rattle.std.specs.List.{range_with_len}
use Rattle.grid_exact.specs.Geometry.{Place}
use Rattle.json_scan.specs.Tree.{Extent, Tree, ListAt, Trees, NoTrees, NextTree}
use Rattle.topo_reader.specs.declared.fault.ReadFault.{ReadFault}
use Rattle.topo_reader.specs.declared.fault.What.TheVariants as what
use Rattle.topo_reader.specs.Sequence.{and_then, each}
use Rattle.topo_reader.specs.Positions.{is_grid_number, position_of, origin}
use Rattle.topo_reader.specs.Arcs.{same_place, last_of, is_at, with_position, ArcRead, positions_of, arc_of, arcs_of, arcs_value}
use Rattle.topo_reader.specs.Geometries.{point_added, points_added}
use Rattle.topo_reader.proofs.Counting.{counted-more}
use Rattle.topo_reader.proofs.Coordinates.{grid-within}
use Rattle.map_gen.specs.Lattice.{IsSmall}
use Rattle.topo_writer.proofs.TreeShapes.{IsListTree, AreTrees, IsPairTree}
use Rattle.topo_writer.proofs.TreeArcs.{pair-read, from-origin, last-push}

-- ---- positions

small-on_grid : (z : ℤ) → IsSmall z → is_grid_number z ≡ true
small-on_grid z small =
    let low : neg_ℤ (pos (2 ^ 29)) ≤ℤ z = omega (arith, ints, small.low) in
    let high : z ≤ℤ pos (2 ^ 29) = omega (arith, ints, small.high) in
    grid-within z low high

-- the tree is read as this position
abbrev pub IsPositionTree : Place → Tree → Type 0
IsPositionTree p t = position_of origin t ≡ Ok p

pub position-read : (p : Place) (t : Tree) → IsSmall p.x → IsSmall p.y → IsPairTree p t → IsPositionTree p t
position-read p t across up is = pair-read origin p p t (small-on_grid p.x across, small-on_grid p.y up) (from-origin p) is

-- ---- arcs

-- each position is another than the one before it
abbrev pub Moves : Option Place → List Place → Type 0
Moves before [] = Unit {0}
Moves before (p ∷ ps) = (is_at before p ≡ false) × Moves (Some p) ps

pub moves-on : (f : ℕ → Place) → ((k : ℕ) → same_place (f k) (f (k + 1)) ≡ false) → (k len : ℕ)
    → Moves (Some (f k)) (map f (range_with_len (k + 1) len))
moves-on f each k zero = tt
moves-on f each k (suc len) = (each k, moves-on f each (k + 1) len)

same-read : (m n : ℕ) (a b : List Place) → m ≡ n → a ≡ b
    → ◌≡◌ {A = Result ArcRead ReadFault} (Ok (record { positions = m; arc = a })) (Ok (record { positions = n; arc = b }))
same-read m n a b p q = rw (p, q) refl

pub positions-read : {A : Type 0} (place : A → Place) (seen : ℕ) (arc : List Place) (ks : List A) (trees : Trees)
    → AreTrees (λ k t. IsPositionTree (place k) t) ks trees → Moves (last_of arc) (map place ks)
    → seen + length ks ≤ 2 ^ 20 → positions_of false seen arc trees
    ≡ Ok (record { positions = seen + length ks; arc = arc ++ map place ks })
positions-read place seen arc [] NoTrees are moves few =
    let e : seen ≡ seen + 0 = omega arith in
    same-read seen (seen + 0) arc (arc ++ []) e (sym (append-nil arc))
positions-read place seen arc [] (NextTree t others) are moves few = absurd are
positions-read place seen arc (k ∷ ks) NoTrees are moves few = absurd are
positions-read place seen arc (k ∷ ks) (NextTree t others) are moves few =
    let below : seen < 2 ^ 20 = omega arith in
    let more : (seen + 1) + length ks ≤ 2 ^ 20 = omega arith in
    let count : (seen + 1) + length ks ≡ seen + suc (length ks) = omega arith in
    counted-more what.Positions (2 ^ 20) seen t _ below
    ∙ ap (λ (r : Result Place ReadFault). and_then r (λ (p : Place). positions_of false (seen + 1) (with_position arc p) others)) are.0
    ∙ ap (λ (l : List Place). positions_of false (seen + 1) l others)
    (cond-false (is_at (last_of arc) (place k)) arc (arc ++ place k ∷ []) moves.0)
    ∙ positions-read place (seen + 1) (arc ++ place k ∷ []) ks others are.1
    (subst (λ (o : Option Place). Moves o (map place ks)) (sym (last-push arc (place k))) moves.1) more
    ∙ same-read ((seen + 1) + length ks) (seen + suc (length ks)) ((arc ++ place k ∷ []) ++ map place ks) (arc ++ (place k ∷ map place ks))
    count (append_assoc arc (place k ∷ []) (map place ks))

-- behind any positions that leave room for its nine the tree is read as this arc
abbrev pub IsArcTree : List Place → Tree → Type 0
IsArcTree arc t = (seen : ℕ) → seen + 9 ≤ 2 ^ 20 → arc_of false seen t ≡ Ok (record { positions = seen + 9; arc = arc })

nine-read : (place : ℕ → Place) (trees : Trees) → AreTrees (λ k t. IsPositionTree (place k) t) (range_with_len 0 9) trees
    → Moves None (map place (range_with_len 0 9)) → (e : Extent) → IsArcTree (map place (range_with_len 0 9)) (ListAt e trees)
nine-read place NoTrees are moves e seen few = absurd are
nine-read place (NextTree first NoTrees) are moves e seen few = absurd are.1
nine-read place (NextTree first (NextTree second more)) are moves e seen few =
    positions-read place seen [] (range_with_len 0 9) (NextTree first (NextTree second more)) are moves few

pub arc-read : (place : ℕ → Place) (t : Tree) → Moves None (map place (range_with_len 0 9))
    → IsListTree (AreTrees (λ k u. IsPositionTree (place k) u) (range_with_len 0 9)) t → IsArcTree (map place (range_with_len 0 9)) t
arc-read place (ListAt e trees) moves is = nine-read place trees is moves e
arc-read place t moves is = absurd is

pub arcs-read : {A : Type 0} (arc : A → List Place) (seen : ℕ) (before : List (List Place)) (ks : List A) (trees : Trees)
    → AreTrees (λ k t. IsArcTree (arc k) t) ks trees → length before + length ks ≤ 2 ^ 20 → seen + 9 * length ks ≤ 2 ^ 20
    → arcs_of false seen before trees ≡ Ok (before ++ map arc ks)
arcs-read arc seen before [] NoTrees are few room = ap Ok (sym (append-nil before))
arcs-read arc seen before [] (NextTree t others) are few room = absurd are
arcs-read arc seen before (k ∷ ks) NoTrees are few room = absurd are
arcs-read arc seen before (k ∷ ks) (NextTree t others) are few room =
    let below : length before < 2 ^ 20 = omega arith in
    let here : seen + 9 ≤ 2 ^ 20 = omega arith in
    let longer : length (before ++ arc k ∷ []) ≡ length before + 1 = length-append before (arc k ∷ []) in
    let fewer : length (before ++ arc k ∷ []) + length ks ≤ 2 ^ 20 = omega (arith, longer) in
    let rest : (seen + 9) + 9 * length ks ≤ 2 ^ 20 = omega arith in
    counted-more what.Arcs (2 ^ 20) (length before) t _ below
    ∙ ap (λ (r : Result ArcRead ReadFault). and_then r (λ (read : ArcRead). arcs_of false read.positions (before ++ read.arc ∷ []) others))
    (are.0 seen here)
    ∙ arcs-read arc (seen + 9) (before ++ arc k ∷ []) ks others are.1 fewer rest
    ∙ ap Ok (append_assoc before (arc k ∷ []) (map arc ks))

-- the tree is read as these arcs
abbrev pub AreArcTrees : List (List Place) → Tree → Type 0
AreArcTrees arcs t = arcs_value false t ≡ Ok arcs

pub all_arcs-read : {A : Type 0} (arc : A → List Place) (ks : List A) (t : Tree) → 9 * length ks ≤ 2 ^ 20
    → IsListTree (AreTrees (λ k u. IsArcTree (arc k) u) ks) t → AreArcTrees (map arc ks) t
all_arcs-read arc ks (ListAt e trees) few is = let fewer : 0 + length ks ≤ 2 ^ 20 = omega arith in let room : 0 + 9 * length ks ≤ 2 ^ 20 =
    omega arith in arcs-read arc 0 [] ks trees is fewer room
all_arcs-read arc ks t few is = absurd is

-- ---- points

abbrev one_more : List Place → Place → Result (List Place) ReadFault
one_more points p = Ok (points ++ p ∷ [])

pub points-read : {A : Type 0} (place : A → Place) (before : List Place) (ks : List A) (trees : Trees)
    → AreTrees (λ k t. IsPositionTree (place k) t) ks trees → length before + length ks ≤ 2 ^ 20
    → points_added trees before ≡ Ok (before ++ map place ks)
points-read place before [] NoTrees are few = ap Ok (sym (append-nil before))
points-read place before [] (NextTree t others) are few = absurd are
points-read place before (k ∷ ks) NoTrees are few = absurd are
points-read place before (k ∷ ks) (NextTree t others) are few =
    let below : length before < 2 ^ 20 = omega arith in
    let longer : length (before ++ place k ∷ []) ≡ length before + 1 = length-append before (place k ∷ []) in
    let fewer : length (before ++ place k ∷ []) + length ks ≤ 2 ^ 20 = omega (arith, longer) in
    ap (λ (r : Result (List Place) ReadFault). and_then r (each point_added others)) (
    counted-more what.Points (2 ^ 20) (length before) t _ below
    ∙ ap (λ (r : Result Place ReadFault). and_then r (one_more before)) are.0
    )
    ∙ points-read place (before ++ place k ∷ []) ks others are.1 fewer
    ∙ ap Ok (append_assoc before (place k ∷ []) (map place ks))
