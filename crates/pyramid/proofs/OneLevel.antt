-- Two levels of one number are one, and so are the ranks by them.
use Rattle.std.proofs.Common.{◌≡◌, ◌∙◌, ℕ, zero, suc, ◌<◌, ◌≤◌, ℤ, List, [], get_or, length, map, pos, slice_index, sym, ap, subst, arith}
use Rattle.std.specs.Prelude.{Contains}
use Rattle.std.proofs.lemmas.Grind.{same_number_lists}
use Rattle.std.proofs.lemmas.List.{same_lists, get_or_default}
use Rattle.arc_map.specs.Map.{Map}
use Rattle.arc_map.specs.Arranged.{arc_at}
use Rattle.arc_map.specs.Records.{Record}
use Rattle.chain_replace.specs.Run.{IsOutcome}
use Rattle.chain_replace.proofs.SameOutcome.{outcome_is_one}
use Rattle.chain_replace.proofs.ThinnedArcs.{outcome_thins_arcs}
use Rattle.pyramid.specs.Levels.{AreRanks, kept_of, level_terms, rank_at}
use Rattle.pyramid.specs.Laws.{LevelsAreOne, RanksAreOne}

pub levels_are_one : LevelsAreOne
levels_are_one m bounds zero l other first second = (
  first.left ∙ sym second.left,
  λ arc below.
      let inside = subst (λ (n : Map). arc < length n.arcs) first.left below in
      first.places arc inside ∙ sym (second.places arc inside),
)
levels_are_one m bounds (suc k) l other first second =
    let same = levels_are_one m bounds k first.0 second.0 first.1 second.1 in
    let bound = get_or bounds k (pos 0) in
    let run = subst (λ (n : Map). IsOutcome n (level_terms bound) other.left second.2.records) (sym same.0) second.2.outcome in
    let one = outcome_is_one first.0.left (level_terms bound) l.left other.left first.2.records second.2.records first.2.outcome run in
    let thins = outcome_thins_arcs first.0.left (level_terms bound) l.left first.2.records first.2.outcome in (
      one.0,
      λ arc below.
          let inside = subst (λ (n : ℕ). arc < n) thins.count below in
          let inside' = subst (λ (n : Map). arc < length n.arcs) same.0 inside in
          first.2.places arc inside
          ∙ ap (λ (ps : List ℕ). map (slice_index ps) (kept_of first.2.records arc)) (same.1 arc inside)
          ∙ ap (λ (rs : List Record). map (slice_index (second.0.places arc)) (kept_of rs arc)) one.1
          ∙ sym (second.2.places arc inside'),
    )

-- ---- ranks

-- the level of a position's rank keeps it, so it has this rank or more by the other ranks too
no-less : (m : Map) (bounds : List ℤ) (ranks others : List (List ℕ)) → AreRanks m bounds ranks → AreRanks m bounds others → (arc at : ℕ)
    → arc < length m.arcs → at < length (arc_at m arc) → rank_at ranks arc at ≤ rank_at others arc at
no-less m bounds ranks others first second arc at below within =
    let k = rank_at ranks arc at in
    let low = first.most arc at below within in
    let a = first.levels k low in
    let b = second.levels k low in
    let same = levels_are_one m bounds k a.level b.level a.is b.is in
    let inside : arc < length a.level.left.arcs = omega (arith, below, a.count) in
    let here = (a.ranked arc at below within).0 (omega arith) in
    (b.ranked arc at below within).1 (subst (λ (ns : List ℕ). Contains ns at) (same.1 arc inside) here)

pub ranks_are_one : RanksAreOne
ranks_are_one m bounds ranks others first second =
    same_lists ranks others (first.count ∙ sym second.count) (λ arc d inside.
    let below : arc < length m.arcs = omega (arith, inside, first.count) in
    let inside' : arc < length others = omega (arith, below, second.count) in
    let long = first.long arc below in
    let same : get_or ranks arc [] ≡ get_or others arc [] = same_number_lists (get_or ranks arc []) (get_or others arc [])
    (first.long arc below ∙ sym (second.long arc below)) (λ at short.
    let within : at < length (arc_at m arc) = omega (arith, short, long) in
    let one = no-less m bounds ranks others first second arc at below within in
    let two = no-less m bounds others ranks second first arc at below within in
    omega (arith, one, two)) in
    get_or_default ranks arc d [] inside ∙ same ∙ get_or_default others arc [] d inside')
