-- The table is that of the chain ends.
use Rattle.std.proofs.Common.{sym, subst}
use Rattle.arc_map.specs.Ends.{AreChainsEndingAt}
use Rattle.arc_map.specs.Work.{Work}
use Rattle.map_index.proofs.indexed.IndexedMap.chains_at.Goals as goal

pub returns : goal.returns
returns c =
    subst (λ (w : Work). AreChainsEndingAt w.chains c.args.p c.chains_at.result.now) c.self.view_is
    (subst (AreChainsEndingAt c.self.inside.work.chains c.args.p) (sym c.chains_at.ensures) (c.self.invariant.chain_ends c.args.p))
