-- The chains of a map in memory, joined into its arcs: they are arcs again, and those that the chains make up.
use Rattle.std.proofs.Common.{◌≡◌, ◌≢◌, ◌∙◌, ℕ, zero, suc, ◌+◌, ◌-◌, ◌<◌, ◌≤◌, Bool, true, false, List, [], ◌∷◌, ◌++◌, nat_eq, All}
use Rattle.std.proofs.Common.{AllPairs, map, length, get_or, take, drop, set, sum_by, refl, sym, ap, subst, inl, inr, arith, append_assoc}
use Rattle.std.proofs.Common.{length-append, length-drop}
use Rattle.std.specs.List.{AllByRecursion}
use Rattle.std.specs.List.Sorted.{IsStrictlyIncreasing}
use Rattle.std.proofs.lemmas.Bool.Decides.{eqb_tells}
use Rattle.std.proofs.lemmas.List.{get_or-map, get_or-drop, length-map, map-append, take_more_set, drop_more, drop-drop, drop-set-lt}
use Rattle.std.proofs.lemmas.List.Elements.{All-set}
use Rattle.std.proofs.lemmas.List.Sums.{sum_by-set}
use Rattle.std.proofs.lemmas.Simd.{map-map}
use Rattle.grid_exact.specs.Geometry.{Place}
use Rattle.grid_exact.specs.Walks.{EachEdge, end_of}
use Rattle.arc_map.specs.Map.{Map, IsArc}
use Rattle.arc_map.specs.Vertices.{places}
use Rattle.arc_map.specs.Arcs.{chains_of_arc, chains_past_arc, joined_rests, joined_arc, arcs_now}
use Rattle.arc_map.specs.Arranged.{arc_at, position_at, nowhere}
use Rattle.arc_map.specs.Work.{vertex_in}
use Rattle.arc_map.specs.Live.{live_chain, IsLive, AreJoined, LiveChain, numbers_of}
use Rattle.arc_map.specs.Rejoin.{run_of, tails, rejoined}
use Rattle.arc_map.proofs.Cutting.{edges_of_pairs}
use Rattle.arc_map.proofs.Rejoining.{run_of-cons, run_of-other}

-- ---- one chain

-- the numbers of a strictly rising list rise by one at least
rising_gap : (xs : List ℕ) → IsStrictlyIncreasing xs → (k : ℕ) → k < length xs → get_or xs 0 0 + k ≤ get_or xs k 0
rising_gap xs rising zero within = omega arith
rising_gap xs rising (suc k) within =
    let before = rising_gap xs rising k (omega arith) in
    let step = rising k (omega arith) in
    let next : k + 1 ≡ suc k = omega arith in
    omega (arith, rw next at step)

end_place : (v : Place) (vs : List Place) (d : Place) → get_or (v ∷ vs) (length vs) d ≡ end_of v vs
end_place v [] d = refl
end_place v (w ∷ ws) d = end_place w ws d

-- the positions of a chain as a walk
pub record IsWalk (m : Map) (c : LiveChain) : Type 0 where
  pub rest : List Place
  pub positions : c.vertices ≡ position_at m c.place.arc c.place.«from» ∷ rest
  pub edges : EachEdge (λ p q. p ≢ q) (position_at m c.place.arc c.place.«from») rest
  pub last : end_of (position_at m c.place.arc c.place.«from») rest ≡ position_at m c.place.arc c.place.to
  pub short : c.place.«from» + length rest ≤ c.place.to
  pub within : c.place.to < length (arc_at m c.place.arc)
  pub chain_rest : places (live_chain m c).rest ≡ rest

walk_from : (m : Map) (c : LiveChain) (n : ℕ) (ns : List ℕ) → (numbers_of m c) ≡ n ∷ ns → IsLive m c → IsWalk m c
walk_from m c n ns numbers live =
    let position : ℕ → Place = position_at m c.place.arc in
    let first : n ≡ c.place.«from» = sym (ap (λ xs. get_or xs 0 0) numbers) ∙ live.spans.first in
    let positions : c.vertices ≡ position c.place.«from» ∷ map position ns = live.positions ∙ ap (map position) numbers
    ∙ ap (λ k. position k ∷ map position ns) first in
    let count : length (numbers_of m c) ≡ suc (length ns) = ap length numbers in
    let back : length (numbers_of m c) - 1 ≡ length ns = omega arith in
    let last : get_or (numbers_of m c) (length ns) 0 ≡ c.place.to = ap (λ k. get_or (numbers_of m c) k 0) (sym back) ∙ live.spans.last in
    let gap = rising_gap (numbers_of m c) live.spans.rising (length ns) (omega arith) in
    record {
      rest = map position ns;
      positions = positions;
      edges = edges_of_pairs (λ p q. p ≢ q) (position c.place.«from») (map position ns)
          (subst (AllPairs (λ p q. p ≢ q)) positions live.distinct);
      last =
          sym (end_place (position c.place.«from») (map position ns) nowhere)
          ∙ ap (λ ps. get_or ps (length (map position ns)) nowhere) (sym positions ∙ live.positions)
          ∙ ap (λ k. get_or (map position (numbers_of m c)) k nowhere) (length-map ns position)
          ∙ get_or-map position (numbers_of m c) (length ns) 0 nowhere (omega arith)
          ∙ ap position last;
      short = let first_number = live.spans.first in omega (arith, gap, last, first_number, length-map ns position);
      within = live.lies.within;
      chain_rest = map-map (λ v. v.place) (vertex_in m c.place.arc) (drop 1 (numbers_of m c)) ∙ ap (λ xs. map position (drop 1 xs)) numbers;
    }

pub walk_of : (m : Map) (c : LiveChain) → IsLive m c → IsWalk m c
walk_of m c live = by_numbers (numbers_of m c) refl
  where
    by_numbers : (xs : List ℕ) → (numbers_of m c) ≡ xs → IsWalk m c
    by_numbers [] e = let some = live.spans.several in let none = ap length e in absurd (omega arith)
    by_numbers (n ∷ ns) e = walk_from m c n ns e live

pub walks_of : (m : Map) (cs : List LiveChain) → AllByRecursion (IsLive m) cs → AllByRecursion (IsWalk m) cs
walks_of m [] live = tt
walks_of m (c ∷ cs) live = (walk_of m c live.0, walks_of m cs live.1)

pub all_behind : {X : Type 0} (P : X → Type 0) (n : ℕ) (xs : List X) → AllByRecursion P xs → AllByRecursion P (drop n xs)
all_behind P zero xs all = all
all_behind P (suc n) [] all = tt
all_behind P (suc n) (x ∷ xs) all = all_behind P n xs all.1

-- ---- chains that follow one another

-- of one arc, each chain ends where the next begins
abbrev pub AreEndToEnd : List LiveChain → Type 0
AreEndToEnd [] = Unit {0}
AreEndToEnd (c ∷ []) = Unit {0}
AreEndToEnd (c ∷ d ∷ cs) = (c.place.arc ≡ d.place.arc → c.place.to ≡ d.place.«from») × AreEndToEnd (d ∷ cs)

pub end_to_end : (cs : List LiveChain) → AreJoined (map (λ c. c.place) cs) → AreEndToEnd cs
end_to_end [] joined = tt
end_to_end (c ∷ []) joined = tt
end_to_end (c ∷ d ∷ cs) joined = (
  joined 0 c.place (omega arith),
  end_to_end (d ∷ cs) (λ k e below.
      let next : suc k + 1 ≡ suc (k + 1) = omega arith in
      subst (λ n. (get_or (map (λ x. x.place) (d ∷ cs)) k e).arc ≡ (get_or (map (λ x. x.place) (c ∷ d ∷ cs)) n e).arc
      → (get_or (map (λ x. x.place) (d ∷ cs)) k e).to ≡ (get_or (map (λ x. x.place) (c ∷ d ∷ cs)) n e).«from») next
      (joined (suc k) e (omega arith))),
)

end_to_end_tail : (c : LiveChain) (cs : List LiveChain) → AreEndToEnd (c ∷ cs) → AreEndToEnd cs
end_to_end_tail c [] linked = tt
end_to_end_tail c (d ∷ ds) linked = linked.1

pub end_to_end_behind : (n : ℕ) (cs : List LiveChain) → AreEndToEnd cs → AreEndToEnd (drop n cs)
end_to_end_behind zero cs linked = linked
end_to_end_behind (suc n) [] linked = tt
end_to_end_behind (suc n) (c ∷ cs) linked = end_to_end_behind n cs (end_to_end_tail c cs linked)

-- ---- the run of one arc

-- whether the chain is of the arc
data OfArc (number : ℕ) (c : LiveChain) : Type 0 where
  Of : nat_eq c.place.arc number ≡ true → c.place.arc ≡ number → OfArc number c
  Other : nat_eq c.place.arc number ≡ false → OfArc number c

of_arc : (number : ℕ) (c : LiveChain) → OfArc number c
of_arc number c =
    elim (eqb_tells c.place.arc number) [
      | inl same ↦ Of same.0 same.1
      | inr differs ↦ Other differs.0
    ]

pub each_append : (P : Place → Place → Type 0) (v : Place) (ws us : List Place) → EachEdge P v ws → EachEdge P (end_of v ws) us
    → EachEdge P v (ws ++ us)
each_append P v [] us first later = later
each_append P v (w ∷ ws) us first later = (first.0, each_append P w ws us first.1 later)

first_of : Map → LiveChain → Place
first_of m c = position_at m c.place.arc c.place.«from»

-- the positions of the chains of the arc, behind the first
record IsJoinedRun (m : Map) (number : ℕ) (c : LiveChain) (cs : List LiveChain) : Type 0 where
  room : c.place.«from» + length (tails (run_of number (c ∷ cs))) < length (arc_at m number)
  edges : EachEdge (λ p q. p ≢ q) (position_at m c.place.arc c.place.«from») (tails (run_of number (c ∷ cs)))

one_more : (m : Map) (number : ℕ) (c : LiveChain) (cs : List LiveChain) → c.place.arc ≡ number → IsWalk m c
    → c.place.to + length (tails (run_of number cs)) < length (arc_at m number)
    → EachEdge (λ p q. p ≢ q) (position_at m c.place.arc c.place.to) (tails (run_of number cs)) → IsJoinedRun m number c cs
one_more m number c cs arc walk room edges =
    let us = tails (run_of number cs) in
    let here : tails (run_of number (c ∷ cs)) ≡ walk.rest ++ us = ap tails (run_of-cons number c cs arc)
    ∙ ap (λ vs. drop 1 vs ++ us) walk.positions in
    let count = ap length here ∙ length-append walk.rest us in
    let short = walk.short in
    record {
      room = omega (arith, count, short, room);
      edges = rw here (each_append (λ p q. p ≢ q) (position_at m c.place.arc c.place.«from») walk.rest us walk.edges (rw walk.last edges));
    }

joined_run : (m : Map) (number : ℕ) (c : LiveChain) (cs : List LiveChain) → c.place.arc ≡ number → IsWalk m c → AllByRecursion (IsWalk m) cs
    → AreEndToEnd (c ∷ cs) → IsJoinedRun m number c cs
joined_run m number c [] arc walk walks linked =
    one_more m number c [] arc walk (let within = walk.within in let same = ap (λ a. length (arc_at m a)) arc in
    omega (arith, within, same)) tt
joined_run m number c (d ∷ ds) arc walk walks linked =
    elim (of_arc number d) [
      | Of test is ↦
          let behind = joined_run m number d ds is walks.0 walks.1 linked.1 in
          let same = arc ∙ sym is in
          let joint = linked.0 same in
          let room = behind.room in
          one_more m number c (d ∷ ds) arc walk (omega (arith, joint, room)) (rw (same, joint) behind.edges)
      | Other test ↦
          let none = ap tails (run_of-other number d ds test) in
          let empty = ap length none in
          let within = walk.within in
          let same = ap (λ a. length (arc_at m a)) arc in
          one_more m number c (d ∷ ds) arc walk (omega (arith, within, same, empty)) (rw none tt)
    ]

-- what becomes of an arc
pub record IsRejoined (m : Map) (number : ℕ) (cs : List LiveChain) : Type 0 where
  pub room : 1 + length (tails (run_of number cs)) ≤ length (arc_at m number)
  pub shorter : length (rejoined (arc_at m number) (run_of number cs)) ≤ length (arc_at m number)
  pub proper : IsArc (rejoined (arc_at m number) (run_of number cs))

pub has_position : (ps : List Place) → IsArc ps → 1 ≤ length ps
has_position [] proper = absurd proper
has_position (p ∷ ps) proper = omega arith

as_it_was : (m : Map) (number : ℕ) (cs : List LiveChain) → IsArc (arc_at m number) → run_of number cs ≡ [] → IsRejoined m number cs
as_it_was m number cs proper none =
    let some = has_position (arc_at m number) proper in
    let empty = ap (λ r. length (tails r)) none in
    record {
      room = omega (arith, some, empty);
      shorter = rw none (omega arith);
      proper = rw none proper;
    }

pub rejoined_arc : (m : Map) (number : ℕ) (cs : List LiveChain) → IsArc (arc_at m number) → AllByRecursion (IsWalk m) cs → AreEndToEnd cs
    → IsRejoined m number cs
rejoined_arc m number [] proper walks linked = as_it_was m number [] proper refl
rejoined_arc m number (c ∷ cs) proper walks linked =
    elim (of_arc number c) [
      | Of test is ↦
          let run = joined_run m number c cs is walks.0 walks.1 linked in
          let room = run.room in
          let here : rejoined (arc_at m number) (run_of number (c ∷ cs)) ≡ position_at m c.place.arc c.place.«from»
          ∷ tails (run_of number (c ∷ cs)) =
          ap (rejoined (arc_at m number)) (run_of-cons number c cs is)
          ∙ ap (λ vs. take 1 vs ++ tails (c ∷ run_of number cs)) walks.0.positions
          ∙ ap (λ r. position_at m c.place.arc c.place.«from» ∷ tails r) (sym (run_of-cons number c cs is))
          in
          record {
            room = omega (arith, room);
            shorter = let count = ap length here in omega (arith, count, room);
            proper = rw here run.edges;
          }
      | Other test ↦ as_it_was m number (c ∷ cs) proper (run_of-other number c cs test)
    ]

-- ---- the same chains, as the map's arcs are defined

pub run_is : (m : Map) (number : ℕ) (cs : List LiveChain) → chains_of_arc number (map (live_chain m) cs)
    ≡ map (live_chain m) (run_of number cs)
run_is m number [] = refl
run_is m number (c ∷ cs) =
    let rest = run_is m number cs in
    elim (of_arc number c) [
      | Of test is ↦
          ap (λ (b : Bool). elim b [ true ↦ live_chain m c ∷ chains_of_arc number (map (live_chain m) cs) | false ↦ [] ]) test
          ∙ ap (λ ks. live_chain m c ∷ ks) rest
          ∙ sym (ap (map (live_chain m)) (run_of-cons number c cs is))
      | Other test ↦
          ap (λ (b : Bool). elim b [ true ↦ live_chain m c ∷ chains_of_arc number (map (live_chain m) cs) | false ↦ [] ]) test
          ∙ sym (ap (map (live_chain m)) (run_of-other number c cs test))
    ]

pub past_is : (m : Map) (number : ℕ) (cs : List LiveChain) → chains_past_arc number (map (live_chain m) cs)
    ≡ map (live_chain m) (drop (length (run_of number cs)) cs)
past_is m number [] = refl
past_is m number (c ∷ cs) =
    let rest = past_is m number cs in
    elim (of_arc number c) [
      | Of test is ↦
          ap (λ (b : Bool). elim b [
            | true ↦ chains_past_arc number (map (live_chain m) cs)
            | false ↦ live_chain m c ∷ map (live_chain m) cs
          ]) test
          ∙ rest
          ∙ sym (ap (λ r. map (live_chain m) (drop (length r) (c ∷ cs))) (run_of-cons number c cs is))
      | Other test ↦
          ap (λ (b : Bool). elim b [
            | true ↦ chains_past_arc number (map (live_chain m) cs)
            | false ↦ live_chain m c ∷ map (live_chain m) cs
          ]) test
          ∙ sym (ap (λ r. map (live_chain m) (drop (length r) (c ∷ cs))) (run_of-other number c cs test))
    ]

rests_are : (m : Map) (cs : List LiveChain) → AllByRecursion (IsWalk m) cs → places (joined_rests (map (live_chain m) cs)) ≡ tails cs
rests_are m [] walks = refl
rests_are m (c ∷ cs) walks =
    map-append (λ v. v.place) (live_chain m c).rest (joined_rests (map (live_chain m) cs))
    ∙ ap (λ ps. ps ++ places (joined_rests (map (live_chain m) cs))) (walks.0.chain_rest ∙ sym (ap (drop 1) walks.0.positions))
    ∙ ap (λ ps. drop 1 c.vertices ++ ps) (rests_are m cs walks.1)

joined_is : (m : Map) (ps : List Place) (cs : List LiveChain) → AllByRecursion (IsWalk m) cs
    → joined_arc ps (map (live_chain m) cs) ≡ rejoined ps cs
joined_is m ps [] walks = refl
joined_is m ps (c ∷ cs) walks =
    ap (λ qs. position_at m c.place.arc c.place.«from» ∷ qs) (rests_are m (c ∷ cs) walks)
    ∙ ap (λ vs. take 1 vs ++ tails (c ∷ cs)) (sym walks.0.positions)

run_walks : (m : Map) (number : ℕ) (cs : List LiveChain) → AllByRecursion (IsWalk m) cs → AllByRecursion (IsWalk m) (run_of number cs)
run_walks m number [] walks = tt
run_walks m number (c ∷ cs) walks =
    elim (of_arc number c) [
      | Of test is ↦ rw (run_of-cons number c cs is) (walks.0, run_walks m number cs walks.1)
      | Other test ↦ rw (run_of-other number c cs test) tt
    ]

-- the arc number and those behind it
pub arcs_step : (m : Map) (number : ℕ) (ps : List Place) (pss : List (List Place)) (cs : List LiveChain) → AllByRecursion (IsWalk m) cs
    → arcs_now number (ps ∷ pss) (map (live_chain m) cs) ≡ rejoined ps (run_of number cs)
    ∷ arcs_now (suc number) pss (map (live_chain m) (drop (length (run_of number cs)) cs))
arcs_step m number ps pss cs walks =
    let arc = ap (joined_arc ps) (run_is m number cs) ∙ joined_is m ps (run_of number cs) (run_walks m number cs walks) in
    let behind = ap (arcs_now (suc number) pss) (past_is m number cs) in
    cc

-- ---- all arcs

run_length : (number : ℕ) (cs : List LiveChain) → length (run_of number cs) ≤ length cs
run_length number [] = omega arith
run_length number (c ∷ cs) =
    elim (of_arc number c) [
      | Of test is ↦ omega (arith, ap length (run_of-cons number c cs is), run_length number cs)
      | Other test ↦ omega (arith, ap length (run_of-other number c cs test))
    ]

-- the arcs below number are as the chains make them up, the others as they were; the chains from number next on are left
pub record IsSettled (m : Map) (cs : List LiveChain) (arcs : List (List Place)) (number next : ℕ) : Type 0 where
  pub known : next ≤ length cs
  pub settled : take number arcs ++ arcs_now number (drop number m.arcs) (map (live_chain m) (drop next cs))
      ≡ arcs_now 0 m.arcs (map (live_chain m) cs)
  pub left : drop number arcs ≡ drop number m.arcs
  pub proper : All IsArc arcs
  pub fewer : sum_by length arcs ≤ sum_by length m.arcs

pub arc_left : (arcs before : List (List Place)) (number : ℕ) → drop number arcs ≡ drop number before
    → get_or arcs number [] ≡ get_or before number []
arc_left arcs before number left =
    let here : number + 0 ≡ number = omega arith in
    ap (λ n. get_or arcs n []) (sym here) ∙ sym (get_or-drop number arcs 0 []) ∙ ap (λ ps. get_or ps 0 []) left
    ∙ get_or-drop number before 0 [] ∙ ap (λ n. get_or before n []) here

-- the arc that comes next, and what becomes of it
pub record IsNext (m : Map) (cs : List LiveChain) (arcs : List (List Place)) (number next : ℕ) : Type 0 where
  pub inside : number < length arcs
  pub arc : get_or arcs number [] ≡ arc_at m number
  pub joined : IsRejoined m number (drop next cs)

pub next_arc : (m : Map) (cs : List LiveChain) (arcs : List (List Place)) (number next : ℕ) → AllByRecursion (IsWalk m) cs → AreEndToEnd cs
    → drop number arcs ≡ drop number m.arcs → All IsArc arcs → number < length m.arcs → IsNext m cs arcs number next
next_arc m cs arcs number next walks linked left proper below =
    let inside : number < length arcs = omega (arith, ap length left, length-drop number arcs, length-drop number m.arcs) in
    let arc = arc_left arcs m.arcs number left in
    record {
      inside = inside;
      arc = arc;
      joined = rejoined_arc m number (drop next cs) (subst IsArc arc (proper number [] inside)) (all_behind (IsWalk m) next cs walks)
          (end_to_end_behind next cs linked);
    }

pub settle_more : (m : Map) (cs : List LiveChain) (arcs : List (List Place)) (number next : ℕ) → AllByRecursion (IsWalk m) cs
    → AreEndToEnd cs → number < length m.arcs → IsSettled m cs arcs number next
    → IsSettled m cs (set arcs number (rejoined (get_or arcs number []) (run_of number (drop next cs)))) (number + 1)
    (next + length (run_of number (drop next cs)))
settle_more m cs arcs number next walks linked below old =
    let coming = next_arc m cs arcs number next walks linked old.left old.proper below in
    let behind = drop next cs in
    let run = run_of number behind in
    let new = rejoined (get_or arcs number []) run in
    let X = arcs_now (number + 1) (drop (number + 1) m.arcs) (map (live_chain m) (drop (next + length run) cs)) in
    let one : suc number ≡ number + 1 = omega arith in
    let step : arcs_now number (drop number m.arcs) (map (live_chain m) behind) ≡ new ∷ X =
    ap (λ pss. arcs_now number pss (map (live_chain m) behind)) (drop_more m.arcs number [] below)
    ∙ arcs_step m number (get_or m.arcs number []) (drop (number + 1) m.arcs) behind (all_behind (IsWalk m) next cs walks)
    ∙ ap (λ ps. rejoined ps run ∷ arcs_now (suc number) (drop (number + 1) m.arcs) (map (live_chain m) (drop (length run) behind)))
    (sym coming.arc)
    ∙ ap (λ ds. new ∷ arcs_now (suc number) (drop (number + 1) m.arcs) (map (live_chain m) ds)) (drop-drop (length run) next cs)
    ∙ ap (λ n. new ∷ arcs_now n (drop (number + 1) m.arcs) (map (live_chain m) (drop (next + length run) cs))) one
    in
    let size = length-drop next cs in
    let sum = sum_by-set length arcs number new [] coming.inside in
    let shorter : length new ≤ length (get_or arcs number []) =
    subst (λ ps. length (rejoined ps run) ≤ length ps) (sym coming.arc) coming.joined.shorter in
    let fewer = old.fewer in
    let known = old.known in
    record {
      known = omega (arith, run_length number behind, size, known);
      settled =
          ap (λ ps. ps ++ X) (take_more_set arcs number new coming.inside)
          ∙ append_assoc (take number arcs) (new ∷ []) X
          ∙ ap (λ ps. take number arcs ++ ps) (sym step)
          ∙ old.settled;
      left =
          drop-set-lt (number + 1) arcs number new (omega arith)
          ∙ sym (drop-drop 1 number arcs)
          ∙ ap (drop 1) old.left
          ∙ drop-drop 1 number m.arcs;
      proper = All-set IsArc arcs number new (subst (λ ps. IsArc (rejoined ps run)) (sym coming.arc) coming.joined.proper) old.proper;
      fewer = omega (arith, sum, shorter, fewer);
    }
