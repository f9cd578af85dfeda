-- A chain in memory, and what becomes of it and of the list of chains where it is thinned.
use Rattle.std.proofs.Common.{◌≡◌, ◌≢◌, ◌∙◌, ℕ, ◌<◌, List, map, length, get_or, drop, ap, sym, subst, arith}
use Rattle.std.proofs.lemmas.List.{get_or-map, length-map}
use Rattle.std.proofs.lemmas.Simd.{map-map}
use Rattle.arc_map.specs.declared.refs.ChainRef.{ChainRef}
use Rattle.grid_exact.specs.Geometry.{Place}
use Rattle.arc_map.specs.Map.{Map}
use Rattle.arc_map.specs.Vertices.{places}
use Rattle.arc_map.specs.Chains.{chain_places}
use Rattle.arc_map.specs.Paths.{vertices_at}
use Rattle.arc_map.specs.Arranged.{position_at, nowhere}
use Rattle.arc_map.specs.Work.{AreKeptIn}
use Rattle.arc_map.specs.Live.{number_of, numbers_of, live_chain, IsLive, SpansChain, LiveChain}
use Rattle.arc_map.proofs.Rising.{rising-length}
use Rattle.arc_map.proofs.Cutting.{RunsOneWay, pairs_of_run, run_of_pairs}
use Rattle.arc_map.proofs.Thinning.{map_same, kept_below, kept_spans, kept_positions, kept_pairs, kept_one_way, kept_rest, numbered_places}

-- now is what is left of the chain before where the vertices at these places are kept
pub record IsThinned (before now : LiveChain) (kept : List ℕ) : Type 0 where
  pub place : now.place ≡ before.place
  pub vertices : now.vertices ≡ map (λ at. get_or before.vertices at nowhere) kept

pub places_below : (m : Map) (x : LiveChain) (kept : List ℕ) → IsLive m x → AreKeptIn (live_chain m x) kept → (k : ℕ) (d : ℕ)
    → k < length kept → get_or kept k d < length (numbers_of m x)
places_below m x kept live keep = kept_below m x.place (numbers_of m x) kept live.spans.several keep

pub count_alike : (m : Map) (x : LiveChain) → IsLive m x → length x.vertices ≡ length (numbers_of m x)
count_alike m x live = ap length live.positions ∙ length-map (numbers_of m x) (position_at m x.place.arc)

-- the positions of a chain in memory are the places of its vertices
pub places_alike : (m : Map) (x : LiveChain) → SpansChain x.place (numbers_of m x)
    → x.vertices ≡ map (position_at m x.place.arc) (numbers_of m x) → x.vertices ≡ chain_places (live_chain m x)
places_alike m x spans positions = positions ∙ sym (numbered_places m x.place (numbers_of m x) (omega (arith, spans.several)) spans.first)

-- the numbers of the kept vertices are those that they had
kept_numbers : (m : Map) (x y : LiveChain) (kept : List ℕ) → IsLive m x → AreKeptIn (live_chain m x) kept → IsThinned x y kept
    → numbers_of m y ≡ map (λ at. get_or (numbers_of m x) at 0) kept
kept_numbers m x y kept live keep thinned =
    let within = places_below m x kept live keep in
    let alike = count_alike m x live in
    ap (λ (ps : List Place). map (number_of m y.place) ps) thinned.vertices
    ∙ ap (λ (r : ChainRef). map (number_of m r) (map (λ at. get_or x.vertices at nowhere) kept)) thinned.place
    ∙ map-map (number_of m x.place) (λ at. get_or x.vertices at nowhere) kept
    ∙ map_same (λ at. number_of m x.place (get_or x.vertices at nowhere)) (λ at. get_or (numbers_of m x) at 0) kept (λ k below.
    sym (get_or-map (number_of m x.place) x.vertices (get_or kept k 0) nowhere 0 (omega (arith, alike, within k 0 below))))

pub live_after : (m : Map) (x y : LiveChain) (kept : List ℕ) → IsLive m x → AreKeptIn (live_chain m x) kept → IsThinned x y kept
    → IsLive m y
live_after m x y kept live keep thinned =
    let within = places_below m x kept live keep in
    let numbers = kept_numbers m x y kept live keep thinned in
    let position : ℕ → Place = position_at m x.place.arc in
    let positions = ap (λ ps. map (λ at. get_or ps at nowhere) kept) live.positions
    ∙ kept_positions (numbers_of m x) kept position nowhere within in
    let spans = kept_spans m x.place (numbers_of m x) kept live.spans keep in
    let distinct = kept_pairs (λ p q. p ≢ q) x.vertices kept nowhere keep.rising (λ k e below.
    rw (count_alike m x live) (within k e below)) live.distinct in
    let one_way = kept_one_way x.place.frame x.vertices kept nowhere keep.rising (λ k e below.
    rw (count_alike m x live) (within k e below)) (subst (RunsOneWay x.place.frame) (sym (places_alike m x live.spans live.positions))
    (pairs_of_run x.place.frame (live_chain m x).first.place (places (live_chain m x).rest) live.one_way)) in
    let spans_now : SpansChain y.place (numbers_of m y) = rw (numbers, thinned.place) spans in
    let positions_now : y.vertices ≡ map (position_at m y.place.arc) (numbers_of m y) =
    rw (numbers, thinned.place, thinned.vertices) positions in
    let one_way_now : RunsOneWay y.place.frame y.vertices = rw (thinned.place, thinned.vertices) one_way in
    record {
      lies = rw thinned.place live.lies;
      spans = spans_now;
      short = rw numbers (omega (
        arith,
        length-map kept (λ at. get_or (numbers_of m x) at 0),
        rising-length (length (numbers_of m x))
            kept keep.rising within,
        live.short,
      ));
      positions = positions_now;
      distinct = rw thinned.vertices distinct;
      one_way = run_of_pairs y.place.frame (live_chain m y).first.place (places (live_chain m y).rest)
          (subst (RunsOneWay y.place.frame) (places_alike m y spans_now positions_now) one_way_now);
    }

pub chain_after : (m : Map) (x y : LiveChain) (kept : List ℕ) → IsLive m x → AreKeptIn (live_chain m x) kept → IsThinned x y kept
    → live_chain m y ≡ record (live_chain m x) { rest = vertices_at (live_chain m x) (drop 1 kept) }
chain_after m x y kept live keep thinned =
    let rest = kept_rest m x.place (numbers_of m x) kept (omega (arith, live.spans.several)) live.spans.first
    (places_below m x kept live keep) in
    let numbers = kept_numbers m x y kept live keep thinned in
    rw (numbers, thinned.place, rest)
