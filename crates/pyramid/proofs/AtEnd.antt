-- The ranks once the last level is reached, and what each level has.
use Rattle.std.proofs.Common.{◌≡◌, ◌∙◌, ◌↔◌, ℕ, ◌-◌, ◌<◌, ◌≤◌, true, nat_le, ℤ, List, [], map, length, get_or, slice_index, sym, ap, arith}
use Rattle.std.specs.Prelude.{Contains}
use Rattle.std.specs.List.{range_with_len}
use Rattle.std.specs.List.Sorted.{IsStrictlyIncreasing}
use Rattle.std.proofs.lemmas.Bool.Decides.{nat_tests}
use Rattle.std.proofs.lemmas.List.{length-map, get_or-map}
use Rattle.std.proofs.lemmas.List.Elements.{filter_passes, All-contains, All-contains_itself, All-filter}
use Rattle.std.proofs.lemmas.List.Kept.{IsStrictlyIncreasing-filter}
use Rattle.std.proofs.lemmas.List.FromFn.{length-range_with_len}
use Rattle.grid_exact.specs.Geometry.{Place}
use Rattle.arc_map.specs.Map.{Map}
use Rattle.arc_map.specs.Arranged.{arc_at, nowhere, position_at}
use Rattle.arc_map.proofs.Rising.{rising_is_one}
use Rattle.sweep_index.proofs.Holding.{filter_holds}
use Rattle.chain_replace.specs.Thinned.{place_at}
use Rattle.pyramid.specs.Levels.{Level, places_of_rank, TellsLevel, AreRanks}
use Rattle.pyramid.specs.UnderWay.{ArePlaces, IsReached, IsUpTo}
use Rattle.pyramid.proofs.Rising.{at-place, contains-at, range-at, range-rises, in-range}
use Rattle.pyramid.proofs.Stepping.{place-within}

-- ---- the places of a rank or more

is-tested : (m n : ℕ) → m ≤ n → nat_le m n ≡ true
is-tested m n h = grind (arith, nat_tests)

from-test : (m n : ℕ) → nat_le m n ≡ true → m ≤ n
from-test m n h = grind (arith, nat_tests)

in-range-only : (n x : ℕ) → Contains (range_with_len 0 n) x → x < n
in-range-only n x held =
    let there = at-place (range_with_len 0 n) x held in
    let count = length-range_with_len 0 n in
    let below = there.below in
    omega (arith, range-at n there.place (omega arith), there.is)

-- rising places of a list of so many
record IsPlaced (n : ℕ) (places : List ℕ) : Type 0 where
  rising : IsStrictlyIncreasing places
  within : (at : ℕ) → Contains places at → at < n

places-are : (k : ℕ) (ranks places : List ℕ) (n : ℕ) → length ranks ≡ n → IsPlaced n places
    → ((at : ℕ) → at < n → (k ≤ get_or ranks at 0) ↔ Contains places at) → places_of_rank k ranks ≡ places
places-are k ranks places n long placed ranked =
    rising_is_one (places_of_rank k ranks) places (IsStrictlyIncreasing-filter (λ at. nat_le k (get_or ranks at 0))
    (range_with_len 0 (length ranks)) (range-rises (length ranks))) placed.rising
    (λ at held.
    let there = All-contains (Contains (range_with_len 0 (length ranks))) (places_of_rank k ranks) at
    (All-filter (λ i. nat_le k (get_or ranks i 0)) (Contains (range_with_len 0 (length ranks))) (range_with_len 0 (length ranks))
    (All-contains_itself (range_with_len 0 (length ranks)))) held in
    let passes = All-contains (λ i. nat_le k (get_or ranks i 0) ≡ true) (places_of_rank k ranks) at
    (filter_passes (λ i. nat_le k (get_or ranks i 0)) (range_with_len 0 (length ranks))) held in
    let below = in-range-only (length ranks) at there in
    (ranked at (omega arith)).0 (from-test k (get_or ranks at 0) passes))
    (λ at held.
    let below = placed.within at held in
    filter_holds (λ i. nat_le k (get_or ranks i 0)) (range_with_len 0 (length ranks)) at (in-range (length ranks) at (omega arith))
    (is-tested k (get_or ranks at 0) ((ranked at below).1 held)))

-- ---- one level

position-on : (read now : List Place) (places : List ℕ) (i at : ℕ) → ArePlaces read now places → i < length places
    → slice_index places i ≡ at → get_or now i nowhere ≡ get_or read at nowhere
position-on read now places i at are below is = ap (λ (ps : List Place). get_or ps i nowhere) are.positions
    ∙ get_or-map (place_at read) places i 0 nowhere below ∙ ap (place_at read) is

tells : (m : Map) (bounds : List ℤ) (ranks : List (List ℕ)) (k : ℕ) (l : Level)
    → ((arc : ℕ) → arc < length m.arcs → 0 < length (arc_at m arc))
    → ((arc : ℕ) → arc < length m.arcs → length (get_or ranks arc []) ≡ length (arc_at m arc)) → IsReached m bounds ranks k l
    → TellsLevel m bounds ranks k
tells m bounds ranks k l some long is = record {
  level = l;
  is = is.is;
  ranked = is.ranked;
  count = is.of_map.count;
  arcs = λ arc below.
      let are = is.of_map.arcs arc below in
      let same = places-are k (get_or ranks arc []) (l.places arc) (length (arc_at m arc)) (long arc below)
      (record {
        rising = are.rising;
        within = λ at held. place-within (arc_at m arc) (arc_at l.left arc) (l.places arc) at (some arc below)
            are held;
      })
      (λ at within. is.ranked arc at below within) in
      are.positions ∙ ap (map (place_at (arc_at m arc))) (sym same);
  arranged = is.of_map.arranged;
  starts = λ arc below.
      let are = is.of_map.arcs arc below in
      position-on (arc_at m arc) (arc_at l.left arc) (l.places arc) 0 0 are are.some are.first;
  ends = λ arc below.
      let are = is.of_map.arcs arc below in
      let any = are.some in
      let count = ap length are.positions ∙ length-map (l.places arc) (place_at (arc_at m arc)) in
      let last : length (arc_at l.left arc) - 1 ≡ length (l.places arc) - 1 = omega arith in
      ap (position_at l.left arc) last ∙ position-on (arc_at m arc) (arc_at l.left arc) (l.places arc) (length (l.places arc) - 1)
      (length (arc_at m arc) - 1) are (omega arith) are.last;
  inside = is.of_map.inside;
}

-- ---- all levels

pub at-end : (m : Map) (bounds : List ℤ) (ranks : List (List ℕ)) (l : Level) → IsUpTo m bounds ranks (length bounds) l
    → AreRanks m bounds ranks
at-end m bounds ranks l up = record {
  count = up.count;
  long = up.long;
  most = up.most;
  levels = λ k low. let one = up.levels k low in tells m bounds ranks k one.0 up.some up.long one.1;
  drops = up.drops;
  edgeless = λ arc below single.
      let are = up.last.of_map.arcs arc below in
      let within : 0 < length (arc_at m arc) = omega arith in
      let high = (up.last.ranked arc 0 below within).1 (contains-at (l.places arc) 0 0 are.some are.first) in
      let most = up.most arc 0 below within in
      omega arith;
}
