-- The outcome of a run fits in the place of the map.
use Rattle.std.proofs.Common.{◌≡◌, ◌∙◌, ℕ, ◌-◌, ◌<◌, ◌≤◌, Some, List, [], ◌∷◌, All, map, length, get_or, slice_index, sym, ap, subst, arith}
use Rattle.std.specs.Prelude.{Contains, slice_get}
use Rattle.std.specs.List.Sorted.{IsStrictlyIncreasing}
use Rattle.std.proofs.lemmas.List.{length-map, get_or-map, get_or_default}
use Rattle.std.proofs.lemmas.List.Elements.{All-map, Contains-get_or}
use Rattle.std.proofs.lemmas.Option.{slice_get-get_or}
use Rattle.grid_exact.specs.Geometry.{Place}
use Rattle.arc_map.specs.Map.{Map, IsArc}
use Rattle.arc_map.specs.Arranged.{arc_at, nowhere}
use Rattle.arc_map.specs.Records.{Record}
use Rattle.arc_map.proofs.Rising.{rising_order, rising-length}
use Rattle.arc_map.proofs.Finishing.{has_position}
use Rattle.topo_writer.specs.Fits.{StandsFor, FitsIn}
use Rattle.chain_replace.specs.Run.{Terms, NearBy, IsOutcome}
use Rattle.chain_replace.specs.Thinned.{place_at, IsThinned}
use Rattle.chain_replace.proofs.ThinnedArcs.{outcome_thins_arcs}
use Rattle.top_call.proofs.ArcsLeft.{outcome_has_arcs}

-- numbers that rise to the last one below n are below n
numbers_below : (n : ℕ) (numbers : List ℕ) → 0 < n → IsStrictlyIncreasing numbers → slice_index numbers (length numbers - 1) ≡ n - 1
    → (k d : ℕ) → k < length numbers → get_or numbers k d < n
numbers_below n numbers some rising last k d below =
    let up : get_or numbers k 0 ≤ get_or numbers (length numbers - 1) 0 =
    rising_order numbers rising k (length numbers - 1) (omega arith) (omega arith) in
    let top : get_or numbers (length numbers - 1) 0 ≡ n - 1 = last in
    let same : get_or numbers k d ≡ get_or numbers k 0 = get_or_default numbers k d 0 below in
    omega arith

-- the place that is left by the k-th number, n
left_place : (before after : List Place) (numbers : List ℕ) (k n : ℕ) → after ≡ map (place_at before) numbers → k < length numbers
    → slice_index numbers k ≡ n → n < length before → slice_get after k ≡ slice_get before n
left_place before after numbers k n places below is under =
    let size : length (map (place_at before) numbers) ≡ length numbers = length-map numbers (place_at before) in
    let inside : k < length (map (place_at before) numbers) = omega arith in
    let number : get_or numbers k 0 ≡ n = is in
    ap (λ (ps : List Place). slice_get ps k) places
    ∙ slice_get-get_or (map (place_at before) numbers) k nowhere inside
    ∙ ap Some (get_or-map (place_at before) numbers k 0 nowhere below)
    ∙ ap (λ (i : ℕ). Some (place_at before i)) number
    ∙ sym (slice_get-get_or before n nowhere under)

thinned_stands : (Near : Place → Place → Place → Type 0) (before after : List Place) (numbers : List ℕ) → IsArc before → IsArc after
    → IsThinned Near before after numbers → StandsFor before after
thinned_stands Near before after numbers was is thinned =
    let filled : 0 < length before = has_position before was in
    let some : 0 < length numbers = thinned.some.1 filled in
    let size : length after ≡ length numbers = ap length thinned.places ∙ length-map numbers (place_at before) in
    let below = numbers_below (length before) numbers filled thinned.rising thinned.last in
    let few : length numbers ≤ length before = rising-length (length before) numbers thinned.rising below in
    record {
      is_arc = is;
      first = left_place before after numbers 0 0 thinned.places some thinned.first filled;
      last =
          ap (λ (n : ℕ). slice_get after (n - 1)) size
          ∙ left_place before after numbers (length numbers - 1) (length before - 1) thinned.places (omega arith) thinned.last
          (omega arith);
      places =
          subst (λ (ps : List Place). All (Contains before) ps) (sym thinned.places)
          (All-map (Contains before) (place_at before) numbers (λ k d inside.
          Contains-get_or before (get_or numbers k d) nowhere (below k d inside)));
      short = omega arith;
    }

pub outcome_fits : (m : Map) (t : Terms) (after : Map) (records : List Record) → All IsArc m.arcs → IsOutcome m t after records
    → FitsIn m after
outcome_fits m t after records were is =
    let thins = outcome_thins_arcs m t after records is in
    let are = outcome_has_arcs m t after records were is in
    record {
      count = thins.count;
      arcs = λ arc below.
          let keeps = thins.arcs arc below in
          let within : arc < length after.arcs = omega (arith, thins.count) in
          thinned_stands (NearBy t) (arc_at m arc) (arc_at after arc) keeps.numbers (were arc [] below) (are arc [] within) keeps.thinned;
      points = thins.points;
      polygons = thins.polygons;
      coded = thins.coded;
    }
