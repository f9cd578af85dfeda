-- One chain more is added at its two ends.
use Rattle.std.proofs.Common.{◌≡◌, ◌∙◌, ◌+◌, [], ◌∷◌, ◌++◌, cond, get_or, sym, ap, subst, rules}
use Rattle.grid_exact.specs.Walks.{end_of}
use Rattle.arc_map.specs.Chains.{chain_at}
use Rattle.arc_map.specs.Ends.{is_same, listed}
use Rattle.arc_map.proofs.Ending.{AreEndingBelow, all_ending, ends_added, last_of_places, ends_differ}
use Rattle.arc_map.proofs.ends.EndTable.build.Goals as goal

pub loop-k-preserved : goal.loop-k-preserved
loop-k-preserved c = λ p.
    let chains = c.args.work.now.chains in
    let k = c.loop-k.k in
    let chain = chain_at chains k in
    let vs = c.chain-chain.result.now in
    let is = c.chain-chain.ensures.places in
    let first : c.index-chain-0.result ≡ chain.first.place = c.index-chain-0.is ∙ ap (λ ps. get_or ps 0 c.index-chain-0.result) is in
    let last = c.index-chain-chain.is ∙ last_of_places chain vs c.index-chain-chain.result is in
    let old = listed c.loop-k.table.places c.loop-k.table.lists p in
    let between = listed c.add.new.self.places c.add.new.self.lists p in
    let one = c.in_ok-add.ensures p ∙ ap (λ q. cond (is_same p q) (old ++ k ∷ []) old) first in
    let two = c.in_ok-add-2.ensures p ∙ ap (λ q. cond (is_same p q) (between ++ k ∷ []) between) last in
    let added = two ∙ ap (λ ns. cond (is_same p (end_of chain.first chain.rest).place) (ns ++ k ∷ []) ns) one in
    subst (AreEndingBelow chains (k + 1) p) (sym added)
    (ends_added chains k p old (ends_differ chain vs is c.chain-chain.ensures.several c.chain-chain.ensures.distinct)
    (c.loop-k.invariant p))

pub returns : goal.returns
returns c = λ p. all_ending c.args.work.now.chains c.loop-k.k p (listed c.loop-k.table.places c.loop-k.table.lists p) (search rules)
    (c.loop-k.invariant p)
