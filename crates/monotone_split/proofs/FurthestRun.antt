-- The furthest run from a position: how far its edges go the way of the first one.
use Rattle.std.proofs.Common.{◌≡◌, ◌↔◌, ◌∙◌, ◌==◌, Bool, true, false, not, ℕ, zero, suc, ◌+◌, ◌<◌, ◌≤◌, List, [], ◌∷◌, length, get_or, take}
use Rattle.std.proofs.Common.{refl, sym, ap, subst, arith, add-one}
use Rattle.std.specs.Ordering.{ordering_index}
use Rattle.std.specs.declared.cmp.Ordering.{Ordering}
use Rattle.std.specs.declared.cmp.Ordering.TheVariants.{Less, Equal, Greater}
use Rattle.grid_exact.specs.Geometry.{Place, turned}
use Rattle.grid_exact.specs.Frame.{IsBeforeIn}
use Rattle.grid_exact.specs.Walks.{EachEdge}
use Rattle.grid_exact.specs.declared.frame.Frame.{Frame}
use Rattle.grid_exact.specs.declared.frame.Frame.TheVariants.{Plain, Turned}
use Rattle.grid_exact.proofs.Orders.{not_both_ways, not_before_itself}
use Rattle.arc_map.specs.Map.{IsArc}
use Rattle.grid_exact.specs.Runs.IsMonotone.{Increasing, Decreasing}
use Rattle.arc_map.specs.Arcs.{most_edges}
use Rattle.arc_map.specs.Arranged.{nowhere}
use Rattle.monotone_split.specs.Cut.{IsRun, IsFurthestRun}

-- ---- the way of an edge

-- the edge from a to b goes this way in the order of the frame
abbrev pub Goes : Frame → Ordering → Place → Place → Type 0
Goes frame Less a b = IsBeforeIn frame a b
Goes frame Equal a b = a ≡ b
Goes frame Greater a b = IsBeforeIn frame b a

-- each of the first n edges of the walk goes this way
abbrev pub RunsSo : Frame → Ordering → List Place → ℕ → Type 0
RunsSo frame way ps n = (k : ℕ) → k < n → Goes frame way (get_or ps k nowhere) (get_or ps (k + 1) nowhere)

one_of_two : (frame : Frame) (a b : Place) → IsBeforeIn frame a b → IsBeforeIn frame b a → ⊥
one_of_two Plain a b h k = not_both_ways a b h k
one_of_two Turned a b h k = not_both_ways (turned a) (turned b) h k

not_itself : (frame : Frame) (a b : Place) → a ≡ b → IsBeforeIn frame a b → ⊥
not_itself Plain a b same h = not_before_itself a b same h
not_itself Turned a b same h = not_before_itself (turned a) (turned b) (ap turned same) h

rises : (frame : Frame) (way : Ordering) (a b : Place) → Goes frame way a b → IsBeforeIn frame a b → way ≡ Less
rises frame Less a b goes h = refl
rises frame Equal a b goes h = absurd (not_itself frame a b goes h)
rises frame Greater a b goes h = absurd (one_of_two frame a b h goes)

falls : (frame : Frame) (way : Ordering) (a b : Place) → Goes frame way a b → IsBeforeIn frame b a → way ≡ Greater
falls frame Less a b goes h = absurd (one_of_two frame a b goes h)
falls frame Equal a b goes h = absurd (not_itself frame b a (sym goes) h)
falls frame Greater a b goes h = refl

-- ---- edges by number

next_place : (P : Place → Place → Type 0) (ps : List Place) (k : ℕ) → P (get_or ps k nowhere) (get_or ps (k + 1) nowhere)
    → P (get_or ps k nowhere) (get_or ps (suc k) nowhere)
next_place P ps k h = subst (λ (i : ℕ). P (get_or ps k nowhere) (get_or ps i nowhere)) (add-one k) h

this_place : (P : Place → Place → Type 0) (ps : List Place) (k : ℕ) → P (get_or ps k nowhere) (get_or ps (suc k) nowhere)
    → P (get_or ps k nowhere) (get_or ps (k + 1) nowhere)
this_place P ps k h = subst (λ (i : ℕ). P (get_or ps k nowhere) (get_or ps i nowhere)) (sym (add-one k)) h

each_from : (P : Place → Place → Type 0) (n : ℕ) (v : Place) (ws : List Place) → n ≤ length ws
    → ((k : ℕ) → k < n → P (get_or (v ∷ ws) k nowhere) (get_or (v ∷ ws) (suc k) nowhere)) → EachEdge P v (take n ws)
each_from P zero v ws few f = tt
each_from P (suc n) v [] few f = absurd (omega arith)
each_from P (suc n) v (w ∷ ws) few f = (f 0 (omega arith), each_from P n w ws (omega arith) (λ k below. f (suc k) (omega arith)))

edge_at : (P : Place → Place → Type 0) (n : ℕ) (v : Place) (ws : List Place) (k : ℕ) → k < n → n ≤ length ws → EachEdge P v (take n ws)
    → P (get_or (v ∷ ws) k nowhere) (get_or (v ∷ ws) (suc k) nowhere)
edge_at P zero v ws k below few h = absurd (omega arith)
edge_at P (suc n) v [] k below few h = absurd (omega arith)
edge_at P (suc n) v (w ∷ ws) zero below few h = h.0
edge_at P (suc n) v (w ∷ ws) (suc k) below few h = edge_at P n w ws k (omega arith) (omega arith) h.1

-- ---- runs

-- the first two positions of an arc differ
firsts_differ : (frame : Frame) (ps : List Place) → 1 < length ps → IsArc ps → Goes frame Equal (get_or ps 0 nowhere) (get_or ps 1 nowhere)
    → ⊥
firsts_differ frame [] more arc same = omega arith
firsts_differ frame (p ∷ []) more arc same = omega arith
firsts_differ frame (p ∷ q ∷ ps) more arc same = arc.0 same

run_from : (frame : Frame) (way : Ordering) (ps : List Place) (n : ℕ) → 1 < length ps → IsArc ps → 0 < n → n < length ps
    → RunsSo frame way ps n → IsRun frame ps n
run_from frame way [] n more arc some inside runs = absurd (omega arith)
run_from frame Less (p ∷ ps) n more arc some inside runs = Increasing
    (each_from (λ a b. IsBeforeIn frame a b) n p ps (omega arith) (λ k below.
    next_place (λ a b. IsBeforeIn frame a b) (p ∷ ps) k (runs k below)))
run_from frame Equal (p ∷ ps) n more arc some inside runs = absurd (firsts_differ frame (p ∷ ps) more arc (runs 0 some))
run_from frame Greater (p ∷ ps) n more arc some inside runs = Decreasing
    (each_from (λ a b. IsBeforeIn frame b a) n p ps (omega arith) (λ k below.
    next_place (λ a b. IsBeforeIn frame b a) (p ∷ ps) k (runs k below)))

-- an edge that goes another way than the first one is in no run
pub run_stops : (frame : Frame) (way : Ordering) (ps : List Place) (n k : ℕ) → Goes frame way (get_or ps 0 nowhere) (get_or ps 1 nowhere)
    → (Goes frame way (get_or ps n nowhere) (get_or ps (n + 1) nowhere) → ⊥) → n < k → k < length ps → IsRun frame ps k → ⊥
run_stops frame way [] n k first stops past inside run = omega arith
run_stops frame way (p ∷ ps) n k first stops past inside (Increasing h) =
    let low : IsBeforeIn frame p (get_or (p ∷ ps) 1 nowhere) = edge_at (λ a b. IsBeforeIn frame a b) k p ps 0 (omega arith) (omega arith) h
    in
    let same : way ≡ Less = rises frame way p (get_or (p ∷ ps) 1 nowhere) first low in
    stops (this_place (Goes frame way) (p ∷ ps) n (subst (λ (w : Ordering).
    Goes frame w (get_or (p ∷ ps) n nowhere) (get_or (p ∷ ps) (suc n) nowhere)) (sym same)
    (edge_at (λ a b. IsBeforeIn frame a b) k p ps n past (omega arith) h)))
run_stops frame way (p ∷ ps) n k first stops past inside (Decreasing h) =
    let low : IsBeforeIn frame (get_or (p ∷ ps) 1 nowhere) p = edge_at (λ a b. IsBeforeIn frame b a) k p ps 0 (omega arith) (omega arith) h
    in
    let same : way ≡ Greater = falls frame way p (get_or (p ∷ ps) 1 nowhere) first low in
    stops (this_place (Goes frame way) (p ∷ ps) n (subst (λ (w : Ordering).
    Goes frame w (get_or (p ∷ ps) n nowhere) (get_or (p ∷ ps) (suc n) nowhere)) (sym same)
    (edge_at (λ a b. IsBeforeIn frame b a) k p ps n past (omega arith) h)))

-- ---- what `order` and a test of its answers say

pub goes_by : (frame : Frame) (way : Ordering) (a b : Place) → (way ≡ Less ↔ IsBeforeIn frame a b) → (way ≡ Equal ↔ (a ≡ b))
    → (way ≡ Greater ↔ IsBeforeIn frame b a) → Goes frame way a b
goes_by frame Less a b less equal greater = less.0 refl
goes_by frame Equal a b less equal greater = equal.0 refl
goes_by frame Greater a b less equal greater = greater.0 refl

way_by : (frame : Frame) (way other : Ordering) (a b : Place) → (way ≡ Less ↔ IsBeforeIn frame a b) → (way ≡ Equal ↔ (a ≡ b))
    → (way ≡ Greater ↔ IsBeforeIn frame b a) → Goes frame other a b → way ≡ other
way_by frame way Less a b less equal greater goes = less.1 goes
way_by frame way Equal a b less equal greater goes = equal.1 goes
way_by frame way Greater a b less equal greater goes = greater.1 goes

not_true : true ≡ false → ⊥
not_true e = cc

same_by_test : (way other : Ordering) (t : Bool) → t ≡ not (ordering_index way == ordering_index other) → t ≡ false → way ≡ other
same_by_test Less Less t e f = refl
same_by_test Less Equal t e f = absurd (not_true (sym e ∙ f))
same_by_test Less Greater t e f = absurd (not_true (sym e ∙ f))
same_by_test Equal Less t e f = absurd (not_true (sym e ∙ f))
same_by_test Equal Equal t e f = refl
same_by_test Equal Greater t e f = absurd (not_true (sym e ∙ f))
same_by_test Greater Less t e f = absurd (not_true (sym e ∙ f))
same_by_test Greater Equal t e f = absurd (not_true (sym e ∙ f))
same_by_test Greater Greater t e f = refl

other_by_test : (way other : Ordering) (t : Bool) → t ≡ not (ordering_index way == ordering_index other) → t ≡ true → way ≡ other → ⊥
other_by_test way other t e f same = itself other (subst (λ (w : Ordering). t ≡ not (ordering_index w == ordering_index other)) same e)
  where
    itself : (w : Ordering) → t ≡ not (ordering_index w == ordering_index w) → ⊥
    itself Less g = not_true (sym f ∙ g)
    itself Equal g = not_true (sym f ∙ g)
    itself Greater g = not_true (sym f ∙ g)

-- the place read at k
pub place_at : (ps : List Place) (k : ℕ) (p : Place) → k < length ps → p ≡ get_or ps k p → get_or ps k nowhere ≡ p
place_at [] k p below read = absurd (omega arith)
place_at (q ∷ ps) zero p below read = sym read
place_at (q ∷ ps) (suc k) p below read = place_at ps k p (omega arith) read

-- an edge that was read goes this way in the list
pub goes_in_list : (frame : Frame) (way : Ordering) (ps : List Place) (k : ℕ) (a b : Place) → k + 1 < length ps → a ≡ get_or ps k a
    → b ≡ get_or ps (k + 1) b → Goes frame way a b → Goes frame way (get_or ps k nowhere) (get_or ps (k + 1) nowhere)
goes_in_list frame way ps k a b inside first second goes = rw (place_at ps k a (omega arith) first, place_at ps (k + 1) b inside second)
    goes

pub goes_same_way : (frame : Frame) (way other : Ordering) (ps : List Place) (k : ℕ) (a b : Place) (t : Bool) → k + 1 < length ps
    → a ≡ get_or ps k a → b ≡ get_or ps (k + 1) b → (way ≡ Less ↔ IsBeforeIn frame a b) → (way ≡ Equal ↔ (a ≡ b))
    → (way ≡ Greater ↔ IsBeforeIn frame b a) → t ≡ not (ordering_index way == ordering_index other) → t ≡ false
    → Goes frame other (get_or ps k nowhere) (get_or ps (k + 1) nowhere)
goes_same_way frame way other ps k a b t inside first second less equal greater test answer =
    goes_in_list frame other ps k a b inside first second (subst (λ (w : Ordering). Goes frame w a b) (same_by_test way other t test answer)
    (goes_by frame way a b less equal greater))

pub goes_other_way : (frame : Frame) (way other : Ordering) (ps : List Place) (k : ℕ) (a b : Place) (t : Bool) → k + 1 < length ps
    → a ≡ get_or ps k a → b ≡ get_or ps (k + 1) b → (way ≡ Less ↔ IsBeforeIn frame a b) → (way ≡ Equal ↔ (a ≡ b))
    → (way ≡ Greater ↔ IsBeforeIn frame b a) → t ≡ not (ordering_index way == ordering_index other) → t ≡ true
    → Goes frame other (get_or ps k nowhere) (get_or ps (k + 1) nowhere) → ⊥
goes_other_way frame way other ps k a b t inside first second less equal greater test answer goes =
    let there : Goes frame other a b = subst (λ (p : Place). Goes frame other p b) (place_at ps k a (omega arith) first)
    (subst (λ (q : Place). Goes frame other (get_or ps k nowhere) q) (place_at ps (k + 1) b inside second) goes) in
    other_by_test way other t test answer (way_by frame way other a b less equal greater there)

-- ---- the furthest run

-- the run ends where an edge goes another way
pub furthest_where_it_turns : (frame : Frame) (way : Ordering) (ps : List Place) (n limit : ℕ) → 1 < length ps → IsArc ps → 0 < n
    → n < limit → limit < length ps → limit ≤ most_edges → RunsSo frame way ps n
    → (Goes frame way (get_or ps n nowhere) (get_or ps (n + 1) nowhere) → ⊥) → IsFurthestRun frame ps n
furthest_where_it_turns frame way ps n limit more arc some below inside within runs stops =
    record {
      some = some;
      inside = omega arith;
      within = omega arith;
      one_way = run_from frame way ps n more arc some (omega arith) runs;
      furthest = λ k k_inside k_within run. at_most_unless n k (λ past. run_stops frame way ps n k (runs 0 some) stops past k_inside run);
    }
  where
    at_most_unless : (n k : ℕ) → (n < k → ⊥) → k ≤ n
    at_most_unless n k not = omega (arith, not)

-- or where the arc or the limit ends
pub furthest_to_the_end : (frame : Frame) (way : Ordering) (ps : List Place) (n : ℕ) → 1 < length ps → IsArc ps → 0 < n → n < length ps
    → n ≤ most_edges → (n + 1 < length ps → n ≡ most_edges) → RunsSo frame way ps n → IsFurthestRun frame ps n
furthest_to_the_end frame way ps n more arc some inside within last runs =
    record {
      some = some;
      inside = inside;
      within = within;
      one_way = run_from frame way ps n more arc some inside runs;
      furthest = λ k k_inside k_within run. at_most n k (length ps) most_edges k_inside k_within last;
    }
  where
    at_most : (n k size most : ℕ) → k < size → k ≤ most → (n + 1 < size → n ≡ most) → k ≤ n
    at_most n k size most k_inside k_within last = grind (arith, last)
