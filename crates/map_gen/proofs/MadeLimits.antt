-- The made map is a map: no two neighbours of an arc are equal, the rings name arcs, and it is within the limits.
use Rattle.std.proofs.Common.{◌≡◌, ◌≢◌, inl, inr, ◌∙◌, ℕ, zero, suc, ◌+◌, ◌*◌, ◌/◌, ◌%◌, ◌<◌, ◌≤◌, pos, All, List, [], length, map, sym}
use Rattle.std.proofs.Common.{subst, arith}
use Rattle.std.specs.List.{range_with_len, sum_by}
use Rattle.std.proofs.lemmas.Int.{ints}
use Rattle.std.proofs.lemmas.Nat.{mul-le, div_below}
use Rattle.std.proofs.lemmas.Bool.{cases_lt}
use Rattle.std.proofs.lemmas.List.Elements.{All-from_get_or, All-from_recursion}
use Rattle.std.proofs.lemmas.List.FromFn.{get_or-map-range_with_len, length-map-range_with_len}
use Rattle.std.proofs.lemmas.List.Sums.{sum_by-le}
use Rattle.grid_exact.specs.Geometry.{Place}
use Rattle.grid_exact.proofs.Commons.{across_of, up_of}
use Rattle.arc_map.specs.Map.{IsArc}
use Rattle.map_gen.specs.Make.{across_count, arc_count, left_side, across_position, up_position, position, positions, town}
use Rattle.map_gen.specs.MadeMap.{ring_of, made_map}
use Rattle.map_gen.specs.Laws.{MadeMapsAreMaps}
use Rattle.map_gen.proofs.MadeEdges.{number_up, position_across, position_up}

all_made : {X : Type 0} (P : X → Type 0) (f : ℕ → X) (n : ℕ) (d : X) → ((k : ℕ) → k < n → P (f k)) → All P (map f (range_with_len 0 n))
all_made P f n d each =
    All-from_get_or P (map f (range_with_len 0 n)) d (λ i inside.
    let below : i < n = omega (arith, length-map-range_with_len f 0 n) in
    subst P (sym (get_or-map-range_with_len f 0 n i i d below (omega arith))) (each i below))

-- ---- neighbours differ

other_number : (start k : ℕ) → pos (64 * start + 8 * k) ≡ pos (64 * start + 8 * (k + 1)) → ⊥
other_number start k e = omega (arith, ints)

neighbours_differ : (rows cols seed arc k : ℕ) → position rows cols seed arc k ≢ position rows cols seed arc (k + 1)
neighbours_differ rows cols seed arc k same =
    elim (cases_lt arc (across_count rows cols)) [
      | inl across ↦
          let place = λ (i : ℕ). across_position cols seed arc i in
          let here = sym (position_across rows cols seed arc k across) ∙ same ∙ position_across rows cols seed arc (k + 1) across in
          other_number (arc % cols) k (across_of (place k) (place (k + 1)) here)
      | inr up ↦
          let n = number_up rows cols arc in
          let place = λ (i : ℕ). up_position rows cols seed n i in
          let here = sym (position_up rows cols seed arc k up) ∙ same ∙ position_up rows cols seed arc (k + 1) up in
          other_number (n / (cols + 1)) k (up_of (place k) (place (k + 1)) here)
    ]

positions_are_arc : (rows cols seed arc : ℕ) → IsArc (positions rows cols seed arc)
positions_are_arc rows cols seed arc = let step = neighbours_differ rows cols seed arc in
    (step 0, (step 1, (step 2, (step 3, (step 4, (step 5, (step 6, (step 7, tt))))))))

-- ---- rings name arcs

row_inside : (rows cols cell : ℕ) → cell < rows * cols → cell / cols < rows
row_inside rows zero cell inside = absurd (omega arith)
row_inside rows (suc n) cell inside = div_below cell (suc n) rows (omega arith) inside

ring_names : (rows cols cell count : ℕ) → cell < rows * cols → arc_count rows cols ≡ count
    → All (λ arc. arc < count) (ring_of rows cols cell)
ring_names rows cols cell count inside size =
    let row = row_inside rows cols cell inside in
    let below : cell < count = omega arith in
    let right : left_side rows cols cell + 1 < count = omega arith in
    let above : cell + cols < count = omega arith in
    let left : left_side rows cols cell < count = omega arith in
    All-from_recursion (λ (arc : ℕ). arc < count) (ring_of rows cols cell) (below, (right, (above, (left, tt))))

-- ---- how much there is

few_cells : (rows cols : ℕ) → rows ≤ 100 → cols ≤ 100 → rows * cols ≤ 10000
few_cells rows cols few_rows few_cols = mul-le rows cols 100 100 few_rows few_cols

few_arcs : (rows cols : ℕ) → rows ≤ 100 → cols ≤ 100 → arc_count rows cols ≤ 20200
few_arcs rows cols few_rows few_cols = omega (arith, few_cells rows cols few_rows few_cols)

few_towns : (rows cols : ℕ) → rows ≤ 100 → cols ≤ 100 → across_count rows cols ≤ 10100
few_towns rows cols few_rows few_cols = omega (arith, few_cells rows cols few_rows few_cols)

pub made_maps_are_maps : MadeMapsAreMaps
unfolding made_map
made_maps_are_maps rows cols seed few_rows few_cols =
    let arcs = map (positions rows cols seed) (range_with_len 0 (arc_count rows cols)) in
    let rings = map (ring_of rows cols) (range_with_len 0 (rows * cols)) in
    let arcs_size : length arcs ≡ arc_count rows cols = length-map-range_with_len (positions rows cols seed) 0 (arc_count rows cols) in
    let towns_size : length (map (town rows cols seed) (range_with_len 0 (across_count rows cols))) ≡ across_count rows cols =
    length-map-range_with_len (town rows cols seed) 0 (across_count rows cols) in
    let rings_size : length rings ≡ rows * cols = length-map-range_with_len (ring_of rows cols) 0 (rows * cols) in
    let few = few_arcs rows cols few_rows few_cols in
    let few_rings = few_cells rows cols few_rows few_cols in
    let few_points = few_towns rows cols few_rows few_cols in
    let most : sum_by length arcs ≤ length arcs * 9 = sum_by-le length 9 arcs
    (all_made (λ (ps : List Place). length ps ≤ 9) (positions rows cols seed) (arc_count rows cols) [] (λ k _. omega arith)) in
    let most_named : sum_by length rings ≤ length rings * 4 = sum_by-le length 4 rings
    (all_made (λ (arcs : List ℕ). length arcs ≤ 4) (ring_of rows cols) (rows * cols) [] (λ k _. omega arith)) in
    record {
      arcs = all_made IsArc (positions rows cols seed) (arc_count rows cols) [] (λ k _. positions_are_arc rows cols seed k);
      names = all_made (All (λ arc. arc < length arcs)) (ring_of rows cols) (rows * cols) [] (λ k inside.
          ring_names rows cols k (length arcs) inside (sym arcs_size));
      few_arcs = omega arith;
      few_positions = omega arith;
      few_points = omega arith;
      few_polygons = omega arith;
      few_references = omega arith;
    }
