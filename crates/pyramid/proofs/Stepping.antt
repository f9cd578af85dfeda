-- One level after another, with the ranks by them.
use Rattle.std.proofs.Common.{◌≡◌, ◌∙◌, ◌↔◌, ℕ, suc, ◌+◌, ◌-◌, ◌<◌, ◌≤◌, ℤ, pos, List, [], map, length, get_or, slice_index, inl, inr, refl}
use Rattle.std.proofs.Common.{sym, ap, subst, arith}
use Rattle.std.specs.Prelude.{Contains}
use Rattle.std.specs.List.{range_with_len}
use Rattle.std.specs.List.Sorted.{IsStrictlyIncreasing}
use Rattle.std.proofs.lemmas.Bool.{cases_lt}
use Rattle.std.proofs.lemmas.List.{length-map, get_or-map}
use Rattle.std.proofs.lemmas.List.FromFn.{length-range_with_len, fill_by_all}
use Rattle.grid_exact.specs.Geometry.{Place}
use Rattle.arc_map.specs.Map.{Map}
use Rattle.arc_map.specs.Arcs.{is_inside}
use Rattle.arc_map.specs.Arranged.{IsArranged, arc_at, nowhere, position_at}
use Rattle.arc_map.specs.Records.{Record}
use Rattle.monotone_split.proofs.Arranged.{held_or_not}
use Rattle.chain_replace.specs.Run.{NearBy, IsOutcome}
use Rattle.chain_replace.specs.Laws.{KeepsFaces}
use Rattle.chain_replace.specs.Thinned.{place_at, IsThinned}
use Rattle.chain_replace.proofs.ThinnedArcs.{outcome_thins_arcs}
use Rattle.pyramid.specs.Levels.{Level, kept_of, level_terms, rank_at, AreNeighbours, DropsNear}
use Rattle.pyramid.specs.Places.{AreRaised}
use Rattle.pyramid.specs.UnderWay.{ArePlaces, IsLevelOf, IsReached, IsUpTo}
use Rattle.pyramid.proofs.Rising.{at-place, contains-at, rises, earlier, up-to-last, picked, picked-rise, picked-is, map-picked, range-at}
use Rattle.pyramid.proofs.Rising.{range-rises, in-range}
use Rattle.pyramid.proofs.RunPlaces.{run_keeps_places}

-- ---- level 0

all-places : (ps : List Place) → 0 < length ps → ArePlaces ps ps (range_with_len 0 (length ps))
all-places ps some =
    let n = length ps in
    let count = length-range_with_len 0 n in
    let behind : length (range_with_len 0 n) - 1 ≡ n - 1 = omega arith in
    record {
      some = omega arith;
      first = range-at n 0 some;
      last = ap (slice_index (range_with_len 0 n)) behind ∙ range-at n (n - 1) (omega arith);
      rising = range-rises n;
      positions = fill_by_all (place_at ps) ps n nowhere refl (λ k below. refl);
    }

pub start : (m : Map) (bounds : List ℤ) (ranks : List (List ℕ)) (l : Level) → IsArranged m
    → ((arc : ℕ) → arc < length m.arcs → 0 < length (arc_at m arc)) → l.left ≡ m
    → ((arc : ℕ) → arc < length m.arcs → l.places arc ≡ range_with_len 0 (length (arc_at m arc))) → length ranks ≡ length m.arcs
    → ((arc : ℕ) → arc < length m.arcs → length (get_or ranks arc []) ≡ length (arc_at m arc))
    → ((arc : ℕ) → arc < length m.arcs → (at : ℕ) → rank_at ranks arc at ≡ 0) → IsUpTo m bounds ranks 0 l
start m bounds ranks l arranged some left places count long none =
    let reached : IsReached m bounds ranks 0 l = record {
      is = record { left = left; places = places };
      of_map = record {
        count = ap (λ (n : Map). length n.arcs) left;
        arcs = λ arc below. subst (ArePlaces (arc_at m arc) (arc_at l.left arc)) (sym (places arc below))
            (subst (λ (n : Map). ArePlaces (arc_at m arc) (arc_at n arc) (range_with_len 0 (length (arc_at m arc)))) (sym left)
            (all-places (arc_at m arc) (some arc below)));
        arranged = subst IsArranged (sym left) arranged;
        points = ap (λ (n : Map). n.points) left;
        inside = λ p polygon held. ap (λ (n : Map). is_inside p n polygon) left;
      };
      ranked = λ arc at below within. (
        (λ any. subst (λ (ns : List ℕ). Contains ns at) (sym (places arc below)) (in-range (length (arc_at m arc)) at within)),
        (λ held.
            omega arith),
      );
    } in
    record {
      some = some;
      count = count;
      long = long;
      most = λ arc at below within. omega (arith, none arc below at);
      last = reached;
      levels = λ j low. (l, subst (λ (n : ℕ). IsReached m bounds ranks n l) (omega arith) reached);
      drops = λ j none. absurd (omega arith);
    }

-- ---- what is between two neighbours

near-between : (Near : Place → Place → Place → Type 0) (read before after : List Place) (xs ks : List ℕ) → before ≡ map (place_at read) xs
    → IsStrictlyIncreasing xs → IsThinned Near before after ks → ((n : ℕ) → n < length ks → slice_index ks n < length xs) → (a at b : ℕ)
    → Contains (map (slice_index xs) ks) a → Contains xs at → Contains (map (slice_index xs) ks) b → a < at → at < b
    → ((i : ℕ) → a < i → i < b → ¬ (Contains (map (slice_index xs) ks) i)) → Near (place_at read a) (place_at read b) (place_at read at)
near-between Near read before after xs ks same rising thinned within a at b first there second low high none =
    let count = length-map ks (slice_index xs) in
    let pa = at-place (map (slice_index xs) ks) a first in
    let pb = at-place (map (slice_index xs) ks) b second in
    let px = at-place xs at there in
    let pa_below = pa.below in
    let pb_below = pb.below in
    let n_in : pa.place < length ks = omega arith in
    let e_in : pb.place < length ks = omega arith in
    let is_a : slice_index xs (slice_index ks pa.place) ≡ a = sym (picked xs ks pa.place n_in) ∙ pa.is in
    let is_b : slice_index xs (slice_index ks pb.place) ≡ b = sym (picked xs ks pb.place e_in) ∙ pb.is in
    let is_x = px.is in
    let after_a : slice_index ks pa.place < px.place = earlier xs rising (slice_index ks pa.place) px.place (within pa.place n_in) px.below
    (omega arith) in
    let before_b : px.place < slice_index ks pb.place = earlier xs rising px.place (slice_index ks pb.place) px.below (within pb.place e_in)
    (omega arith) in
    let order : pa.place < pb.place = earlier ks thinned.rising pa.place pb.place n_in e_in (omega arith) in
    let next : pb.place ≡ pa.place + 1 = elim (cases_lt (pa.place + 1) pb.place) [
      | inr few ↦ omega arith
      | inl more ↦
          let c_in : pa.place + 1 < length ks = omega arith in
          let one = thinned.rising pa.place c_in in
          let two = rises ks thinned.rising (pa.place + 1) pb.place more e_in in
          let up = rises xs rising (slice_index ks pa.place) (slice_index ks (pa.place + 1)) one (within (pa.place + 1) c_in) in
          let down = rises xs rising (slice_index ks (pa.place + 1)) (slice_index ks pb.place) two (within pb.place e_in) in
          absurd (none (slice_index xs (slice_index ks (pa.place + 1))) (omega arith) (omega arith)
          (contains-at (map (slice_index xs) ks) (slice_index xs (slice_index ks (pa.place + 1))) (pa.place + 1) (omega arith)
          (picked xs ks (pa.place + 1) c_in)))
    ] in
    let before_next : px.place < slice_index ks (pa.place + 1) = subst (λ (n : ℕ). px.place < slice_index ks n) next before_b in
    let near = thinned.near pa.place px.place (omega arith) after_a before_next in
    let place : (i x : ℕ) → i < length xs → slice_index xs i ≡ x
    → place_at before i ≡ place_at read x = (λ i x below is. ap (λ (ps : List Place). place_at ps i) same
    ∙ get_or-map (place_at read) xs i 0 nowhere below ∙ ap (place_at read) is) in
    let is_next : slice_index xs (slice_index ks (pa.place + 1)) ≡ b = subst (λ (n : ℕ). slice_index xs (slice_index ks n) ≡ b) next is_b in
    subst (λ (p : Place). Near p (place_at read b) (place_at read at)) (place (slice_index ks pa.place) a (within pa.place n_in) is_a)
    (subst (λ (p : Place). Near (place_at before (slice_index ks pa.place)) p (place_at read at))
    (place (slice_index ks (pa.place + 1)) b (within (pa.place + 1) (omega arith)) is_next)
    (subst (λ (p : Place). Near (place_at before (slice_index ks pa.place)) (place_at before (slice_index ks (pa.place + 1))) p)
    (place px.place at px.below is_x) near))

-- ---- the next level

-- the places that are picked of an arc's places are those of its positions in the next level
places-on : (Near : Place → Place → Place → Type 0) (read before after : List Place) (xs ks : List ℕ) → ArePlaces read before xs
    → IsThinned Near before after ks → 0 < length ks → ((n : ℕ) → n < length ks → slice_index ks n < length xs)
    → ArePlaces read after (map (slice_index xs) ks)
places-on Near read before after xs ks at thinned some within =
    let count = length-map ks (slice_index xs) in
    let long = ap length at.positions ∙ length-map xs (place_at read) in
    let behind : length (map (slice_index xs) ks) - 1 ≡ length ks - 1 = omega arith in
    let end : length before - 1 ≡ length xs - 1 = omega arith in
    record {
      some = omega arith;
      first = picked xs ks 0 some ∙ ap (slice_index xs) thinned.first ∙ at.first;
      last = ap (slice_index (map (slice_index xs) ks)) behind ∙ picked xs ks (length ks - 1) (omega arith)
          ∙ ap (slice_index xs) (thinned.last ∙ end) ∙ at.last;
      rising = picked-rise xs ks at.rising thinned.rising within;
      positions = thinned.places ∙ map-picked (place_at read) xs ks before nowhere at.positions within;
    }

numbers-within : (Near : Place → Place → Place → Type 0) (read before after : List Place) (xs ks : List ℕ) → ArePlaces read before xs
    → IsThinned Near before after ks → (n : ℕ) → n < length ks → slice_index ks n < length xs
numbers-within Near read before after xs ks at thinned n below =
    let long = ap length at.positions ∙ length-map xs (place_at read) in
    let some = at.some in
    omega (arith, up-to-last ks thinned.rising n below, thinned.last)

-- the places of an arc are places of it
pub place-within : (read before : List Place) (xs : List ℕ) (x : ℕ) → 0 < length read → ArePlaces read before xs → Contains xs x
    → x < length read
place-within read before xs x some at held =
    let there = at-place xs x held in
    omega (arith, up-to-last xs at.rising there.place there.below, at.last, there.is)

-- the outcome of the run, level by level
pub record IsNext (m : Map) (bound : ℤ) (l next : Level) (records : List Record) : Type 0 where
  pub outcome : IsOutcome l.left (level_terms bound) next.left records
  pub faces : KeepsFaces [] l.left next.left
  pub places : (arc : ℕ) → arc < length m.arcs → next.places arc ≡ map (slice_index (l.places arc)) (kept_of records arc)

-- what the run to the next level leaves of an arc
pub record ArcOn (m : Map) (bound : ℤ) (l next : Level) (records : List Record) (arc : ℕ) : Type 0 where
  pub thinned : IsThinned (NearBy (level_terms bound)) (arc_at l.left arc) (arc_at next.left arc) (kept_of records arc)
  pub within : (n : ℕ) → n < length (kept_of records arc) → slice_index (kept_of records arc) n < length (l.places arc)

pub arc-on : (m : Map) (bound : ℤ) (l next : Level) (records : List Record) → IsLevelOf m l
    → IsOutcome l.left (level_terms bound) next.left records → (arc : ℕ) → arc < length m.arcs → ArcOn m bound l next records arc
arc-on m bound l next records of_map outcome arc below =
    let at = of_map.arcs arc below in
    let count = of_map.count in
    let long = ap length at.positions ∙ length-map (l.places arc) (place_at (arc_at m arc)) in
    let some = at.some in
    let thinned = run_keeps_places l.left (level_terms bound) next.left records refl outcome arc (omega arith) (omega arith) in
    record {
      thinned = thinned;
      within = numbers-within (NearBy (level_terms bound)) (arc_at m arc) (arc_at l.left arc)
          (arc_at next.left arc) (l.places arc) (kept_of records arc) at thinned;
    }

pub level-on : (m : Map) (bound : ℤ) (l next : Level) (records : List Record) → IsLevelOf m l → IsNext m bound l next records
    → IsLevelOf m next
level-on m bound l next records of_map is =
    let thins = outcome_thins_arcs l.left (level_terms bound) next.left records is.outcome in
    let held : (p : Place) → Contains m.points p → Contains l.left.points p =
    (λ p there. subst (λ (ps : List Place). Contains ps p) (sym of_map.points) there) in
    record {
      count = thins.count ∙ of_map.count;
      arcs = λ arc below.
          let on = arc-on m bound l next records of_map is.outcome arc below in
          subst (ArePlaces (arc_at m arc) (arc_at next.left arc)) (sym (is.places arc below))
          (places-on (NearBy (level_terms bound)) (arc_at m arc) (arc_at l.left arc) (arc_at next.left arc) (l.places arc)
          (kept_of records arc) (of_map.arcs arc below) on.thinned (omega arith) on.within);
      arranged = is.faces.arranged;
      points = thins.points ∙ of_map.points;
      inside = λ p polygon there. is.faces.inside p polygon (held p there) ∙ of_map.inside p polygon there;
    }

-- the rank of a position stays, or the last so far is raised by one
data IsStep (k old new : ℕ) : Type 0 where
  Stays : new ≡ old → IsStep k old new
  Rises : new ≡ suc k → old ≡ k → IsStep k old new

-- a position is raised where the next level keeps it
record StepsOn (m : Map) (next : Level) (ranks raised : List (List ℕ)) (k arc at : ℕ) : Type 0 where
  step : IsStep k (rank_at ranks arc at) (rank_at raised arc at)
  kept : (suc k ≤ rank_at raised arc at) ↔ Contains (next.places arc) at

steps-on : (m : Map) (bounds : List ℤ) (bound : ℤ) (l next : Level) (records : List Record) (ranks raised : List (List ℕ)) (k : ℕ)
    → IsUpTo m bounds ranks k l → IsNext m bound l next records → (arc at : ℕ) → arc < length m.arcs → at < length (arc_at m arc)
    → AreRaised (get_or ranks arc []) (get_or raised arc []) (next.places arc) (suc k) → StepsOn m next ranks raised k arc at
steps-on m bounds bound l next records ranks raised k up is arc at below within are =
    let on = arc-on m bound l next records up.last.of_map is.outcome arc below in
    let most = up.most arc at below within in
    elim (held_or_not (next.places arc) at) [
      | inl held ↦
          let new = are.raised at held in
          let picked_at = subst (λ (ns : List ℕ). Contains ns at) (is.places arc below) held in
          let there = picked-is (l.places arc) (kept_of records arc) at on.within picked_at in
          let high = (up.last.ranked arc at below within).1 there in
          record { step = Rises new (omega arith); kept = ((λ rank. held), (λ keeps. omega arith)) }
      | inr free ↦
          let new = are.other at free in
          record { step = Stays new; kept = ((λ rank. absurd (omega arith)), (λ keeps. absurd (free keeps))) }
    ]

ranked-step : (k old new j : ℕ) → IsStep k old new → j ≤ k → (j ≤ new) ↔ (j ≤ old)
ranked-step k old new j (Stays same) low = ((λ h. omega arith), (λ h. omega arith))
ranked-step k old new j (Rises now was) low = ((λ h. omega arith), (λ h. omega arith))

most-step : (k old new : ℕ) → IsStep k old new → old ≤ k → new ≤ suc k
most-step k old new (Stays same) most = omega arith
most-step k old new (Rises now was) most = omega arith

rank-before : (k old new j : ℕ) → IsStep k old new → j < k → new ≡ j → old ≡ j
rank-before k old new j (Stays same) low is = omega arith
rank-before k old new j (Rises now was) low is = absurd (omega arith)

less-before : (k old new j : ℕ) → IsStep k old new → j ≤ k → new < j → old < j
less-before k old new j (Stays same) low is = omega arith
less-before k old new j (Rises now was) low is = absurd (omega arith)

rank-last : (k old new : ℕ) → IsStep k old new → new ≡ k → k ≤ old
rank-last k old new (Stays same) is = omega arith
rank-last k old new (Rises now was) is = absurd (omega arith)

-- ---- what the levels drop

-- each vertex of rank k between neighbours of the next level is within this bound of their edge
abbrev DropsBy : Map → ℤ → List (List ℕ) → ℕ → Type 0
DropsBy m bound ranks k =
    (arc a at b : ℕ) → arc < length m.arcs → b < length (arc_at m arc) → a < at → at < b → rank_at ranks arc at ≡ k
    → AreNeighbours ranks (k + 1) arc a b
    → NearBy (level_terms bound) (position_at m arc a) (position_at m arc b) (position_at m arc at)

drops-before : (m : Map) (bounds : List ℤ) (next : Level) (ranks raised : List (List ℕ)) (k j : ℕ) → DropsNear m bounds ranks j
    → ((arc at : ℕ) → arc < length m.arcs → at < length (arc_at m arc) → StepsOn m next ranks raised k arc at) → j < k
    → DropsNear m bounds raised j
drops-before m bounds next ranks raised k j drops steps early = λ arc a at b below within low high is neighbours.
    drops arc a at b below within low high (rank-before k (rank_at ranks arc at) (rank_at raised arc at) j
    (steps arc at below (omega arith)).step early is)
    (record {
      first = (ranked-step k (rank_at ranks arc a) (rank_at raised arc a) (j + 1) (steps arc a below (omega arith)).step (omega arith)).0
          neighbours.first;
      second = (ranked-step k (rank_at ranks arc b) (rank_at raised arc b) (j + 1) (steps arc b below within).step (omega arith)).0
          neighbours.second;
      none = λ i past under. less-before k (rank_at ranks arc i) (rank_at raised arc i) (j + 1) (steps arc i below (omega arith)).step
          (omega arith) (neighbours.none i past under);
    })

drops-last : (m : Map) (bounds : List ℤ) (bound : ℤ) (l next : Level) (records : List Record) (ranks raised : List (List ℕ)) (k : ℕ)
    → IsUpTo m bounds ranks k l → IsNext m bound l next records
    → ((arc at : ℕ) → arc < length m.arcs → at < length (arc_at m arc) → StepsOn m next ranks raised k arc at) → DropsBy m bound raised k
drops-last m bounds bound l next records ranks raised k up is steps = λ arc a at b below within low high is_last neighbours.
    let on = arc-on m bound l next records up.last.of_map is.outcome arc below in
    let one = up.last.of_map.arcs arc below in
    let a_in : a < length (arc_at m arc) = omega arith in
    let at_in : at < length (arc_at m arc) = omega arith in
    let first = neighbours.first in
    let second = neighbours.second in
    let keeps : (x : ℕ) → x < length (arc_at m arc) → suc k ≤ rank_at raised arc x
    → Contains (map (slice_index (l.places arc)) (kept_of records arc)) x =
    (λ x inside high_rank. subst (λ (ns : List ℕ). Contains ns x) (is.places arc below) ((steps arc x below inside).kept.0 high_rank))
    in
    let there = (up.last.ranked arc at below at_in).0 (rank-last k (rank_at ranks arc at) (rank_at raised arc at)
    (steps arc at below at_in).step is_last) in
    near-between (NearBy (level_terms bound)) (arc_at m arc) (arc_at l.left arc) (arc_at next.left arc) (l.places arc) (kept_of records arc)
    one.positions one.rising on.thinned on.within a at b
    (keeps a a_in (omega arith)) there (keeps b within (omega arith)) low high
    (λ i past under held.
    let few = neighbours.none i past under in
    let kept = (steps arc i below (omega arith)).kept.1 (subst (λ (ns : List ℕ). Contains ns i) (sym (is.places arc below)) held) in
    absurd (omega arith))

pub next-level : (m : Map) (bounds : List ℤ) (bound : ℤ) (l next : Level) (records : List Record) (ranks raised : List (List ℕ)) (k : ℕ)
    → bound ≡ get_or bounds k (pos 0) → IsUpTo m bounds ranks k l → IsNext m bound l next records → length raised ≡ length ranks
    → ((arc : ℕ) → arc < length m.arcs → AreRaised (get_or ranks arc []) (get_or raised arc []) (next.places arc) (suc k))
    → IsUpTo m bounds raised (suc k) next
next-level m bounds bound l next records ranks raised k by up is count are =
    let steps : (arc at : ℕ) → arc < length m.arcs → at < length (arc_at m arc)
    → StepsOn m next ranks raised k arc at = (λ arc at below within.
    steps-on m bounds bound l next records ranks raised k up is arc at below within (are arc below)) in
    let of_map = up.last.of_map in
    let reached : IsReached m bounds raised (suc k) next = record {
      is = (
        l,
        up.last.is,
        record {
          records = records;
          outcome = subst (λ (b : ℤ). IsOutcome l.left (level_terms b) next.left records) by is.outcome;
          places = λ arc below. is.places arc (subst (λ (n : ℕ). arc < n) of_map.count below);
        },
      );
      of_map = level-on m bound l next records of_map is;
      ranked = λ arc at below within. (steps arc at below within).kept;
    } in
    let before : (j : ℕ) → j ≤ k → (level : Level) × IsReached m bounds raised j level = (λ j low.
    let old = up.levels j low in (
      old.0,
      record {
        is = old.1.is;
        of_map = old.1.of_map;
        ranked = λ arc at below within.
            let same = ranked-step k (rank_at ranks arc at) (rank_at raised arc at) j (steps arc at below within).step low in
            ((λ rank. (old.1.ranked arc at below within).0 (same.0 rank)), (λ keeps. same.1 ((old.1.ranked arc at below within).1 keeps)));
      },
    )) in
    record {
      some = up.some;
      count = count ∙ up.count;
      long = λ arc below. (are arc below).long ∙ up.long arc below;
      most = λ arc at below within. most-step k (rank_at ranks arc at) (rank_at raised arc at) (steps arc at below within).step
          (up.most arc at below within);
      last = reached;
      levels = λ j low. elim (cases_lt j (suc k)) [
        | inl early ↦ before j (omega arith)
        | inr late ↦ (next, subst (λ (n : ℕ). IsReached m bounds raised n next) (omega arith) reached)
      ];
      drops = λ j low. elim (cases_lt j k) [
        | inl early ↦ drops-before m bounds next ranks raised k j (up.drops j early) steps early
        | inr late ↦ subst (DropsNear m bounds raised) (omega arith)
            (subst (λ (b : ℤ). DropsBy m b raised k) by (drops-last m bounds bound l next records ranks raised k up is steps))
      ];
    }
