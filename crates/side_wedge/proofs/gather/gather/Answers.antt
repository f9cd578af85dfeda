-- The strays that were found, sorted.
use Rattle.std.proofs.Common.{arith, rules}
use Rattle.std.proofs.lemmas.List.Sorted.{Contains-permutation, IsPermutation-sym, IsNonDecreasingBy-from_sort_by_key}
use Rattle.side_wedge.proofs.Gathering.{strays_sorted}
use Rattle.side_wedge.proofs.gather.gather.Goals as goal

pub returns-clause-strays : goal.returns-clause-strays
returns-clause-strays c =
    let s = c.args.subject.now in
    let old = c.find.new.strays.items in
    let new = c.sort_unstable_by_key.new.self.items in
    let moved = c.sort_unstable_by_key.ensures.permutation in
    strays_sorted s.direction.frame s.direction.rising s.chain.now s.number s.steps c.args.map.now old new c.find.ensures.strays
    (λ x has. Contains-permutation old new x moved has)
    (λ x has. Contains-permutation new old x (IsPermutation-sym old new moved) has)

pub returns-clause-sorted : goal.returns-clause-sorted
returns-clause-sorted c = IsNonDecreasingBy-from_sort_by_key (λ x. x.row) _ c.sort_unstable_by_key.ensures.sorted (λ a r q k. search rules)

pub returns-clause-count : goal.returns-clause-count
returns-clause-count c = omega (arith, c.find.ensures.count, c.sort_unstable_by_key.ensures.len)
