-- The chains in memory are chains of a map.
use Rattle.std.proofs.Common.{subst}
use Rattle.arc_map.specs.Chains.{AreChains}
use Rattle.arc_map.specs.Work.{Work}
use Rattle.arc_map.proofs.Chained.{are_chains}
use Rattle.arc_map.proofs.work.WorkMap.chain_count.Goals as goal

pub returns-clause-chains : goal.returns-clause-chains
returns-clause-chains c = subst (λ (w : Work). AreChains w.chains) c.self.view_is (are_chains c.self.inside c.self.invariant)
