-- The chains of a map as they are read into memory.
use Rattle.std.proofs.Common.{◌≢◌, cond, AllPairs}
use Rattle.std.proofs.Common.{◌≡◌, ◌∙◌, ℕ, zero, suc, ◌+◌, ◌-◌, ◌<◌, ◌≤◌, List, [], ◌∷◌, ◌++◌, All, map, length, get_or, slice_range, take}
use Rattle.std.proofs.Common.{drop, refl, sym, ap, subst, arith, length-drop}
use Rattle.std.specs.List.{AllByRecursion, AllZip, AllAdjacentBelow, range_with_len}
use Rattle.std.proofs.lemmas.List.{ext_get_or, get_or-take, get_or-drop, get_or-map, length-map, length-take-le}
use Rattle.std.proofs.lemmas.List.FromFn.{length-range_with_len, get_or-range_with_len}
use Rattle.std.proofs.lemmas.List.Elements.{All-head, All-tail, All-push}
use Rattle.std.proofs.Common.{length-append}
use Rattle.std.proofs.lemmas.List.{map-append}
use Rattle.arc_map.specs.declared.work.Span.{Span}
use Rattle.arc_map.proofs.Parts.{grown_parts, last_part, still_part, pairs_more}
use Rattle.std.proofs.lemmas.Simd.{map-map}
use Rattle.grid_exact.specs.Walks.{end_of}
use Rattle.arc_map.specs.Map.{Map}
use Rattle.arc_map.specs.Vertices.{Vertex, places}
use Rattle.arc_map.specs.Chains.{chain_places}
use Rattle.arc_map.specs.Arranged.{arc_at, position_at, nowhere}
use Rattle.arc_map.specs.Work.{vertex_in, chain_in, LiesInArc}
use Rattle.arc_map.specs.Live.{chain_of, IsPartOf, places_before, number_of, numbers_of, numbered, live_chain, IsLive, IsRead}
use Rattle.arc_map.specs.Live.{SpansChain, AreJoined, AreInOrder, LiveChain}
use Rattle.arc_map.specs.declared.refs.ChainRef.{ChainRef}
use Rattle.std.proofs.lemmas.List.Elements.{All-from_recursion}
use Rattle.std.proofs.lemmas.List.Kept.{AllPairs-cons}
use Rattle.grid_exact.specs.Runs.{IsMonotone}
use Rattle.arc_map.specs.Chains.{Chain}
use Rattle.arc_map.proofs.Listing.{compared_places}
use Rattle.arc_map.proofs.Listing.Same.{Yes, No}
use Rattle.grid_exact.specs.Geometry.{Place}
use Rattle.arc_map.proofs.Cutting.{IsRun, AreLinked, AreByArc, distinct_places, pairs_of_run, weaken_all}

-- the numbers of a chain as read
abbrev range_of : ChainRef → List ℕ
range_of r = range_with_len r.«from» (r.to + 1 - r.«from»)

numbers_count : (r : ChainRef) → length (range_of r) ≡ r.to + 1 - r.«from»
numbers_count r = length-range_with_len r.«from» (r.to + 1 - r.«from»)

number_at : (r : ChainRef) (k : ℕ) → k < r.to + 1 - r.«from» → get_or (range_of r) k 0 ≡ r.«from» + k
number_at r k below = get_or-range_with_len r.«from» (r.to + 1 - r.«from») k 0 below

spans_read : (r : ChainRef) → r.«from» < r.to → SpansChain r (range_of r)
spans_read r edge =
    let count = numbers_count r in
    record {
      rising = λ k below. omega (arith, number_at r k (omega arith), number_at r (k + 1) (omega arith));
      several = omega arith;
      first = number_at r 0 (omega arith) ∙ omega arith;
      last = ap (λ n. get_or (range_of r) (n - 1) 0) count ∙ number_at r (r.to + 1 - r.«from» - 1) (omega arith) ∙ omega arith;
    }

rest_of_numbers : (r : ChainRef) → r.«from» < r.to → drop 1 (range_of r) ≡ range_with_len (r.«from» + 1) (r.to - r.«from»)
rest_of_numbers r edge =
    let more : r.to + 1 - r.«from» ≡ suc (r.to - r.«from») = omega arith in
    ap (λ n. drop 1 (range_with_len r.«from» n)) more

positions_read : (m : Map) (r : ChainRef) → LiesInArc m r → slice_range (arc_at m r.arc) r.«from» (r.to + 1)
    ≡ map (position_at m r.arc) (range_of r)
positions_read m r lies =
    let n = r.to + 1 - r.«from» in
    let rest = drop r.«from» (arc_at m r.arc) in
    let size = length-drop r.«from» (arc_at m r.arc) in
    let within = lies.within in
    let edge = lies.edge in
    let count : length (take n rest) ≡ n = length-take-le n rest (omega arith) in
    ext_get_or nowhere (take n rest) (map (position_at m r.arc) (range_of r)) (count
    ∙ sym (length-map (range_of r) (position_at m r.arc) ∙ numbers_count r))
    (λ k below.
    let inside : k < n = omega arith in
    get_or-take n rest k nowhere inside ∙ get_or-drop r.«from» (arc_at m r.arc) k nowhere
    ∙ sym (get_or-map (position_at m r.arc) (range_of r) k 0 nowhere (omega (arith, numbers_count r))
    ∙ ap (position_at m r.arc) (number_at r k inside)))

places_of_chain_in : (m : Map) (r : ChainRef) → r.«from» < r.to → chain_places (chain_in m r) ≡ map (position_at m r.arc) (range_of r)
places_of_chain_in m r edge =
    let more : r.to + 1 - r.«from» ≡ suc (r.to - r.«from») = omega arith in
    ap (λ ps. position_at m r.arc r.«from» ∷ ps) (map-map (λ v. v.place) (vertex_in m r.arc)
    (range_with_len (r.«from» + 1) (r.to - r.«from»)))
    ∙ sym (ap (λ n. map (position_at m r.arc) (range_with_len r.«from» n)) more)

distinct_read : (m : Map) (r : ChainRef) → LiesInArc m r → IsRun (chain_in m r)
    → AllPairs (λ p q. p ≢ q) (slice_range (arc_at m r.arc) r.«from» (r.to + 1))
distinct_read m r lies run =
    subst (AllPairs (λ p q. p ≢ q)) (places_of_chain_in m r lies.edge ∙ sym (positions_read m r lies))
    (distinct_places r.frame (chain_places (chain_in m r))
    (pairs_of_run r.frame (chain_in m r).first.place (places (chain_in m r).rest) run.one_way))

-- a place of a list of distinct places is the first of its kind
before_place : (ps : List Place) (k : ℕ) → AllPairs (λ p q. p ≢ q) ps → k < length ps → places_before (get_or ps k nowhere) ps ≡ k
before_place [] k distinct below = absurd (omega arith)
before_place (q ∷ qs) zero distinct below =
    elim (compared_places q q) [
      | Yes alike e ↦ ap (λ b. cond b 0 (suc (places_before q qs))) alike
      | No unlike differ ↦ absurd (differ refl)
    ]
before_place (q ∷ qs) (suc k) distinct below =
    let p = get_or qs k nowhere in
    elim (compared_places p q) [
      | Yes alike e ↦ absurd (distinct 0 (suc k) nowhere (omega arith) below (sym e))
      | No unlike differ ↦ ap (λ b. cond b 0 (suc (places_before p qs))) unlike
          ∙ ap suc (before_place qs k (λ i j d before inside. distinct (suc i) (suc j) d (omega arith) (omega arith)) (omega arith))
    ]

-- the numbers of a chain as it was read
numbers_read : (m : Map) (r : ChainRef) (c : LiveChain) → LiesInArc m r → IsRun (chain_in m r) → IsRead m r c → numbers_of m c ≡ range_of r
numbers_read m r c lies run read =
    let slice = slice_range (arc_at m r.arc) r.«from» (r.to + 1) in
    let size : length slice ≡ length (range_of r) =
    ap length (positions_read m r lies) ∙ length-map (range_of r) (position_at m r.arc) in
    let all : map (number_of m r) slice ≡ range_of r =
    ext_get_or 0 (map (number_of m r) slice) (range_of r) (length-map slice (number_of m r) ∙ size) (λ k below.
    let inside : k < length slice = omega (arith, length-map slice (number_of m r)) in
    get_or-map (number_of m r) slice k nowhere 0 inside
    ∙ ap (λ n. r.«from» + n) (before_place slice k (distinct_read m r lies run) inside)
    ∙ sym (number_at r k (omega (arith, size, numbers_count r)))) in
    ap (λ (ps : List Place). map (number_of m c.place) ps) read.vertices ∙ ap (λ (s : ChainRef). map (number_of m s) slice) read.place ∙ all

pub chain_read : (m : Map) (r : ChainRef) (c : LiveChain) → LiesInArc m r → IsRun (chain_in m r) → IsRead m r c
    → live_chain m c ≡ chain_in m r
chain_read m r c lies run read =
    ap (λ (s : ChainRef). numbered m s (numbers_of m c)) read.place
    ∙ ap (numbered m r) (numbers_read m r c lies run read)
    ∙ ap (λ ns. record (chain_in m r) { rest = map (vertex_in m r.arc) ns }) (rest_of_numbers r lies.edge)

pub live_read : (m : Map) (r : ChainRef) (c : LiveChain) → LiesInArc m r → IsRun (chain_in m r) → IsRead m r c → IsLive m c
live_read m r c lies run read =
    let numbers = numbers_read m r c lies run read in
    let spans : SpansChain c.place (numbers_of m c) =
    subst (λ ns. SpansChain c.place ns) (sym numbers) (subst (λ (s : ChainRef). SpansChain s (range_of r)) (sym read.place)
    (spans_read r lies.edge)) in
    let positions : c.vertices ≡ map (position_at m c.place.arc) (numbers_of m c) =
    read.vertices ∙ positions_read m r lies ∙ ap (λ (s : ChainRef). map (position_at m s.arc) (range_of r)) (sym read.place)
    ∙ ap (map (position_at m c.place.arc)) (sym numbers) in
    let count = ap length numbers in
    record {
      lies = rw read.place lies;
      spans = spans;
      short = omega (
        arith,
        count,
        numbers_count r,
        run.short,
        length-map (range_with_len (r.«from» + 1) (r.to - r.«from»))
            (vertex_in m r.arc),
        length-range_with_len (r.«from» + 1) (r.to - r.«from»),
      );
      positions = positions;
      distinct = rw read.vertices (distinct_read m r lies run);
      one_way = subst (λ (k : Chain). IsMonotone k.frame k.first.place (places k.rest)) (sym (chain_read m r c lies run read)) run.one_way;
    }

-- ---- all chains

pub zipped-push : {X Y : Type 0} (R : X → Y → Type 0) (xs : List X) (ys : List Y) (x : X) (y : Y) → AllZip R xs ys → R x y
    → AllZip R (xs ++ x ∷ []) (ys ++ y ∷ [])
zipped-push R [] [] x y all one = (one, tt)
zipped-push R [] (v ∷ vs) x y all one = absurd all
zipped-push R (u ∷ us) [] x y all one = absurd all
zipped-push R (u ∷ us) (v ∷ vs) x y all one = (all.0, zipped-push R us vs x y all.1 one)

pub all_live : (m : Map) (refs : List ChainRef) (cs : List LiveChain) → AllZip (IsRead m) refs cs → All (LiesInArc m) refs
    → AllByRecursion IsRun (map (chain_in m) refs) → AllByRecursion (IsLive m) cs
all_live m [] [] read lie runs = tt
all_live m [] (c ∷ cs) read lie runs = absurd read
all_live m (r ∷ rs) [] read lie runs = absurd read
all_live m (r ∷ rs) (c ∷ cs) read lie runs =
    (live_read m r c (All-head (LiesInArc m) r rs lie) runs.0 read.0, all_live m rs cs read.1 (All-tail (LiesInArc m) r rs lie) runs.1)

pub refs_read : (m : Map) (refs : List ChainRef) (cs : List LiveChain) → AllZip (IsRead m) refs cs → map (λ c. c.place) cs ≡ refs
refs_read m [] [] read = refl
refs_read m [] (c ∷ cs) read = absurd read
refs_read m (r ∷ rs) [] read = absurd read
refs_read m (r ∷ rs) (c ∷ cs) read = let rest = refs_read m rs cs read.1 in let first = read.0.place in cc

pub chains_read : (m : Map) (refs : List ChainRef) (cs : List LiveChain) → AllZip (IsRead m) refs cs → All (LiesInArc m) refs
    → AllByRecursion IsRun (map (chain_in m) refs) → map (live_chain m) cs ≡ map (chain_in m) refs
chains_read m [] [] read lie runs = refl
chains_read m [] (c ∷ cs) read lie runs = absurd read
chains_read m (r ∷ rs) [] read lie runs = absurd read
chains_read m (r ∷ rs) (c ∷ cs) read lie runs =
    let first = chain_read m r c (All-head (LiesInArc m) r rs lie) runs.0 read.0 in
    let rest = chains_read m rs cs read.1 (All-tail (LiesInArc m) r rs lie) runs.1 in
    cc

pub end_of_run : (m : Map) (arc at n : ℕ) → end_of (vertex_in m arc at) (map (vertex_in m arc) (range_with_len (at + 1) n))
    ≡ vertex_in m arc (at + n)
end_of_run m arc at zero = ap (vertex_in m arc) (omega arith)
end_of_run m arc at (suc n) = end_of_run m arc (at + 1) n ∙ ap (vertex_in m arc) (omega arith)

adjacent-cons : {X : Type 0} (R : X → X → Type 0) (x y : X) (ys : List X) → R x y → AllAdjacentBelow R (y ∷ ys) (length (y ∷ ys))
    → AllAdjacentBelow R (x ∷ y ∷ ys) (length (x ∷ y ∷ ys))
adjacent-cons R x y ys first rest zero d below = first
adjacent-cons R x y ys first rest (suc k) d below = let next : suc k + 1 ≡ suc (k + 1) = omega arith in rw next (rest k d (omega arith))

next_begins : (m : Map) (r s : ChainRef) → LiesInArc m r → end_of (chain_in m r).first (chain_in m r).rest ≡ (chain_in m s).first
    → r.to ≡ s.«from»
next_begins m r s lies linked =
    let last = end_of_run m r.arc r.«from» (r.to - r.«from») in
    let at = ap (λ (v : Vertex). v.at) (sym last ∙ linked) in
    let edge = lies.edge in
    omega arith

pub joined_refs : (m : Map) (refs : List ChainRef) → All (LiesInArc m) refs → AreLinked (map (chain_in m) refs) → AreJoined refs
joined_refs m [] lie linked = λ k d below. absurd (omega arith)
joined_refs m (r ∷ []) lie linked = λ k d below. absurd (omega arith)
joined_refs m (r ∷ s ∷ rs) lie linked =
    let here = All-head (LiesInArc m) r (s ∷ rs) lie in
    adjacent-cons (λ a b. a.arc ≡ b.arc → a.to ≡ b.«from») r s rs
    (λ same. next_begins m r s here (linked.0 same))
    (joined_refs m (s ∷ rs) (All-tail (LiesInArc m) r (s ∷ rs) lie) linked.1)

-- the chain s is behind the chain r in the order of arcs, and of one arc it begins where that has ended
record IsBehind (r s : ChainRef) : Type 0 where
  arcs : r.arc ≤ s.arc
  ends : r.arc ≡ s.arc → r.to ≤ s.«from»

all_behind : (m : Map) (r : ChainRef) (refs : List ChainRef) → All (LiesInArc m) (r ∷ refs) → AreLinked (map (chain_in m) (r ∷ refs))
    → AreByArc (map (chain_in m) (r ∷ refs)) → AllByRecursion (IsBehind r) refs
all_behind m r [] lie linked sorted = tt
all_behind m r (s ∷ rs) lie linked sorted =
    let here = All-head (LiesInArc m) r (s ∷ rs) lie in
    let rest = All-tail (LiesInArc m) r (s ∷ rs) lie in
    let next : IsBehind r s = record {
      arcs = sorted.0;
      ends = λ same. let joins = next_begins m r s here (linked.0 same) in omega arith;
    } in (
      next,
      weaken_all (IsBehind s) (IsBehind r) (λ t later. further t (All-head (LiesInArc m) s rs rest) next later) rs
          (all_behind m s rs rest linked.1 sorted.1),
    )
  where
    further : (t : ChainRef) → LiesInArc m s → IsBehind r s → IsBehind s t → IsBehind r t
    further t lies next later =
        let first = next.arcs in
        let second = later.arcs in
        record {
          arcs = omega arith;
          ends = λ same.
              let ends = next.ends (omega arith) in
              let begins = later.ends (omega arith) in
              let edge = lies.edge in
              omega arith;
        }

pub refs_in_order : (m : Map) (refs : List ChainRef) → All (LiesInArc m) refs → AreLinked (map (chain_in m) refs)
    → AreByArc (map (chain_in m) refs) → AreInOrder refs
refs_in_order m [] lie linked sorted = λ i j d before below. absurd (omega arith)
refs_in_order m (r ∷ []) lie linked sorted = λ i j d before below. absurd (omega arith)
refs_in_order m (r ∷ s ∷ rs) lie linked sorted =
    let behind = weaken_all (IsBehind r) (λ t. r.arc ≡ t.arc → r.to ≤ t.«from») (λ t is. is.ends) (s ∷ rs)
    (all_behind m r (s ∷ rs) lie linked sorted) in
    AllPairs-cons (λ a b. a.arc ≡ b.arc → a.to ≤ b.«from») r (s ∷ rs)
    (All-from_recursion (λ t. r.arc ≡ t.arc → r.to ≤ t.«from») (s ∷ rs) behind)
    (refs_in_order m (s ∷ rs) (All-tail (LiesInArc m) r (s ∷ rs) lie) linked.1 sorted.1)

-- ---- the chains in memory so far

-- these parts of the list are the chains of these places, one behind the other
pub record IsSoFar (m : Map) (refs : List ChainRef) (vs : List Place) (ss : List Span) : Type 0 where
  pub read : AllZip (IsRead m) refs (map (chain_of vs) ss)
  pub apart : AllPairs (λ s t. s.end ≤ t.start) ss
  pub within : All (IsPartOf vs) ss

pub so_far_more : (m : Map) (refs : List ChainRef) (vs more : List Place) (ss : List Span) (r : ChainRef) → LiesInArc m r
    → more ≡ slice_range (arc_at m r.arc) r.«from» (r.to + 1) → IsSoFar m refs vs ss
    → IsSoFar m (refs ++ r ∷ []) (vs ++ more) (ss ++ record { place = r; start = length vs; end = length (vs ++ more) } ∷ [])
so_far_more m refs vs more ss r lies slice old =
    let now = vs ++ more in
    let s : Span = record { place = r; start = length vs; end = length now } in
    let new : LiveChain = record { place = r; vertices = more } in
    let lists : map (chain_of now) (ss ++ s ∷ []) ≡ map (chain_of vs) ss ++ new ∷ [] =
    map-append (chain_of now) ss (s ∷ [])
    ∙ ap (λ (cs : List LiveChain). cs ++ chain_of now s ∷ []) (grown_parts vs more ss old.within)
    ∙ ap (λ (c : LiveChain). map (chain_of vs) ss ++ c ∷ []) (last_part vs more r) in
    let edge = lies.edge in
    let size = ap length slice ∙ ap length (positions_read m r lies) ∙ length-map (range_of r) (position_at m r.arc) ∙ numbers_count r in
    let count = length-append vs more in
    record {
      read = subst (AllZip (IsRead m) (refs ++ r ∷ [])) (sym lists)
          (zipped-push (IsRead m) refs (map (chain_of vs) ss) r new old.read (record { place = refl; vertices = slice }));
      apart = pairs_more ss s (length vs) old.apart (λ k d below. (old.within k d below).within) refl;
      within = All-push (IsPartOf now) ss s (λ k d below. still_part vs more (get_or ss k d) (old.within k d below))
          (record { some = omega (arith, count, size); within = omega arith });
    }
