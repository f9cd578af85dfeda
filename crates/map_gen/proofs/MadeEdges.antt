-- The edges and the towns of the made map, and the numbers of its arcs. The positions of an arc are places of a wavy side by
-- computing: `across_position` is a `side_place`, and `up_position` is one with its axes exchanged.
use Rattle.std.proofs.Common.{◌≡◌, ◌⊎◌, inl, inr, ◌∙◌, ℕ, zero, suc, ◌+◌, ◌-◌, ◌*◌, ◌/◌, ◌%◌, ◌<◌, ◌≤◌, ℤ, pos, ◌+ℤ◌, ◌-ℤ◌, IsTrue, Bool}
use Rattle.std.proofs.Common.{true, false, cond, ◌&&◌, ◌==◌, List, [], length, get_or, map, refl, sym, ap, subst, arith}
use Rattle.std.specs.Prelude.{nat_lt}
use Rattle.std.specs.List.{range_with_len}
use Rattle.std.proofs.lemmas.Int.{ints}
use Rattle.std.proofs.lemmas.Nat.{mul-le}
use Rattle.std.proofs.lemmas.Bool.{cases_lt, cond-true, cond-false, lt-ltb, le-ltb, eq-eqb, and_from, or_right}
use Rattle.std.proofs.lemmas.List.{get_or_past}
use Rattle.std.proofs.lemmas.List.FromFn.{get_or-map-range_with_len, length-map-range_with_len}
use Rattle.grid_exact.specs.Geometry.{Place}
use Rattle.arc_map.specs.Map.{Map}
use Rattle.arc_map.specs.Arranged.{arc_at, position_at, nowhere, is_arc_end, IsMapEdge}
use Rattle.arc_map.specs.declared.refs.EdgeRef.{EdgeRef}
use Rattle.map_gen.specs.Shifts.{shift, number}
use Rattle.map_gen.specs.Make.{across_count, arc_count, offset, across_position, up_position, position, positions, town}
use Rattle.map_gen.specs.Lattice.{IsOffset}
use Rattle.map_gen.specs.MadeMap.{made_map}
use Rattle.map_gen.proofs.Apart.{town_of_side, IsWavy}

-- ---- the arcs, the positions and the towns by their numbers

pub arc_found : (rows cols seed arc : ℕ) → arc < arc_count rows cols → arc_at (made_map rows cols seed) arc ≡ positions rows cols seed arc
unfolding made_map
arc_found rows cols seed arc inside = get_or-map-range_with_len (positions rows cols seed) 0 (arc_count rows cols) arc arc [] inside
    (omega arith)

arc_missing : (rows cols seed arc : ℕ) → arc_count rows cols ≤ arc → arc_at (made_map rows cols seed) arc ≡ []
unfolding made_map
arc_missing rows cols seed arc past = get_or_past (map (positions rows cols seed) (range_with_len 0 (arc_count rows cols))) arc []
    (omega (arith, length-map-range_with_len (positions rows cols seed) 0 (arc_count rows cols)))

pub arc_length : (rows cols seed arc : ℕ) → arc < arc_count rows cols → length (arc_at (made_map rows cols seed) arc) ≡ 9
arc_length rows cols seed arc inside = ap (λ (ps : List Place). length ps) (arc_found rows cols seed arc inside)

pub position_found : (rows cols seed arc k : ℕ) → arc < arc_count rows cols → k < 9
    → position_at (made_map rows cols seed) arc k ≡ position rows cols seed arc k
position_found rows cols seed arc k inside few = ap (λ (ps : List Place). get_or ps k nowhere) (arc_found rows cols seed arc inside)
    ∙ get_or-map-range_with_len (position rows cols seed arc) 0 9 k k nowhere few (omega arith)

pub town_count : (rows cols seed : ℕ) → length (made_map rows cols seed).points ≡ across_count rows cols
unfolding made_map
town_count rows cols seed = length-map-range_with_len (town rows cols seed) 0 (across_count rows cols)

pub town_found : (rows cols seed arc : ℕ) → arc < across_count rows cols
    → get_or (made_map rows cols seed).points arc nowhere ≡ town rows cols seed arc
unfolding made_map
town_found rows cols seed arc inside = get_or-map-range_with_len (town rows cols seed) 0 (across_count rows cols) arc arc nowhere inside
    (omega arith)

-- an edge of the made map: its arc is one of the arcs, and it is one of the 8 of the arc
pub record IsInside (rows cols : ℕ) (e : EdgeRef) : Type 0 where
  pub arc : e.arc < arc_count rows cols
  pub at : e.at < 8

pub edge_inside : (rows cols seed : ℕ) (e : EdgeRef) → IsMapEdge (made_map rows cols seed) e → IsInside rows cols e
edge_inside rows cols seed e edge =
    elim (cases_lt e.arc (arc_count rows cols)) [
      | inl inside ↦
          let size : length (arc_at (made_map rows cols seed) e.arc) ≡ 9 = arc_length rows cols seed e.arc inside in
          record { arc = inside; at = omega arith }
      | inr past ↦
          let none : length (arc_at (made_map rows cols seed) e.arc) ≡ 0 =
          ap (λ (ps : List Place). length ps) (arc_missing rows cols seed e.arc past) in
          absurd (omega arith)
    ]

-- ---- positions across and up

pub position_across : (rows cols seed arc k : ℕ) → arc < across_count rows cols
    → position rows cols seed arc k ≡ across_position cols seed arc k
position_across rows cols seed arc k across = cond-true (nat_lt arc (across_count rows cols)) (across_position cols seed arc k)
    (up_position rows cols seed (arc - across_count rows cols) k) (lt-ltb arc (across_count rows cols) across)

-- the number of an arc among those that run up
abbrev pub number_up : ℕ → ℕ → ℕ → ℕ
number_up rows cols arc = arc - across_count rows cols

pub position_up : (rows cols seed arc k : ℕ) → across_count rows cols ≤ arc
    → position rows cols seed arc k ≡ up_position rows cols seed (number_up rows cols arc) k
position_up rows cols seed arc k up = cond-false (nat_lt arc (across_count rows cols)) (across_position cols seed arc k)
    (up_position rows cols seed (arc - across_count rows cols) k) (le-ltb arc (across_count rows cols) up)

-- the positions of an arc that runs across, and of one that runs up
pub edge_across : (rows cols seed : ℕ) (e : EdgeRef) (k : ℕ) → IsInside rows cols e → e.arc < across_count rows cols → k < 9
    → position_at (made_map rows cols seed) e.arc k ≡ across_position cols seed e.arc k
edge_across rows cols seed e k inside across few = position_found rows cols seed e.arc k inside.arc few
    ∙ position_across rows cols seed e.arc k across

pub edge_up : (rows cols seed : ℕ) (e : EdgeRef) (k : ℕ) → IsInside rows cols e → across_count rows cols ≤ e.arc → k < 9
    → position_at (made_map rows cols seed) e.arc k ≡ up_position rows cols seed (number_up rows cols e.arc) k
edge_up rows cols seed e k inside up few = position_found rows cols seed e.arc k inside.arc few ∙ position_up rows cols seed e.arc k up

pub town_above : (rows cols seed arc : ℕ) → arc < across_count rows cols
    → town rows cols seed arc ≡ town_of_side (arc / cols) (arc % cols) (offset seed arc)
town_above rows cols seed arc across = ap (λ (p : Place). record { x = p.x; y = p.y +ℤ pos 1 })
    (position_across rows cols seed arc 4 across)

-- ---- the offsets are those of a wavy side

shift_small : (n : ℕ) → n < 15 → IsOffset (pos n -ℤ pos 7)
shift_small n few = record { low = omega (arith, ints); high = omega (arith, ints) }

offset_small : (b : Bool) (z : ℤ) → IsOffset z → IsOffset (cond b z (pos 0))
offset_small true z small = small
offset_small false z small = record { low = omega (arith, ints); high = omega (arith, ints) }

pub wavy : (seed arc : ℕ) → IsWavy (offset seed arc)
wavy seed arc =
    record {
      each = λ k. offset_small (nat_lt 0 k && nat_lt k 8) (shift seed (7 * arc + k))
          (shift_small (number seed (7 * arc + k) % 15) (omega arith));
      starts = refl;
      ends = refl;
    }

-- ---- the ends of arcs

pub first_is_end : (m : Map) (arc at : ℕ) → at ≡ 0 → IsTrue (is_arc_end m arc at)
first_is_end m arc at e = subst (λ (k : ℕ). IsTrue (is_arc_end m arc k)) (sym e) refl

pub last_is_end : (rows cols seed arc at : ℕ) → arc < arc_count rows cols → at ≡ 7
    → IsTrue (is_arc_end (made_map rows cols seed) arc (at + 1))
last_is_end rows cols seed arc at inside e =
    let size : length (arc_at (made_map rows cols seed) arc) ≡ 9 = arc_length rows cols seed arc inside in
    or_right (at + 1 == 0) (at + 1 + 1 == length (arc_at (made_map rows cols seed) arc))
    (eq-eqb (at + 1 + 1) (length (arc_at (made_map rows cols seed) arc)) (omega arith))

pub are_joined : (arc arc2 at at2 : ℕ) → arc ≡ arc2 → at + 1 ≡ at2 → IsTrue ((arc == arc2) && (at + 1 == at2))
are_joined arc arc2 at at2 e f = and_from (arc == arc2) (at + 1 == at2) (eq-eqb arc arc2 e) (eq-eqb (at + 1) at2 f)

-- ---- numbers of arcs by row and column

pub same_arc : (n x y : ℕ) → 0 < n → x / n ≡ y / n → x % n ≡ y % n → x ≡ y
same_arc n x y some e f =
    let rows : n * (x / n) ≡ n * (y / n) = ap (λ (q : ℕ). n * q) e in
    omega arith

-- of two arcs of one row the later is in a later column
pub later_column : (n x y : ℕ) → 0 < n → x < y → x / n ≡ y / n → x % n < y % n
later_column n x y some later e =
    let rows : n * (x / n) ≡ n * (y / n) = ap (λ (q : ℕ). n * q) e in
    omega arith

-- of two arcs of one column the later is in a later row
pub later_row : (n x y : ℕ) → 0 < n → x < y → x % n ≡ y % n → x / n < y / n
later_row n x y some later e =
    elim (cases_lt (x / n) (y / n)) [
      | inl h ↦ h
      | inr h ↦ let rows : n * (y / n) ≤ n * (x / n) = mul-le n (y / n) n (x / n) (omega arith) h in absurd (omega arith)
    ]

pub before_across : (n x y i j : ℕ) → 0 < n → i < 8 → (x < y) ⊎ ((x ≡ y) × (i < j)) → x / n ≡ y / n → 8 * (x % n) + i < 8 * (y % n) + j
before_across n x y i j some inside (inl later) e = let column = later_column n x y some later e in omega arith
before_across n x y i j some inside (inr same) e = let column : x % n ≡ y % n = ap (λ (a : ℕ). a % n) same.0 in omega (arith, same.1)

pub before_up : (n x y i j : ℕ) → 0 < n → i < 8 → (x < y) ⊎ ((x ≡ y) × (i < j)) → x % n ≡ y % n → 8 * (x / n) + i < 8 * (y / n) + j
before_up n x y i j some inside (inl later) e = let row = later_row n x y some later e in omega arith
before_up n x y i j some inside (inr same) e = let row : x / n ≡ y / n = ap (λ (a : ℕ). a / n) same.0 in omega (arith, same.1)

-- a map with an arc that runs across has a column
pub some_column : (rows cols arc : ℕ) → arc < across_count rows cols → 0 < cols
some_column rows zero arc across = absurd (omega arith)
some_column rows (suc n) arc across = omega arith
