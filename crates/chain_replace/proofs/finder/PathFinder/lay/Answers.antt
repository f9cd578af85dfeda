-- A chain of one edge has one step.
use Rattle.chain_replace.proofs.Ends.{edge_laid}
use Rattle.chain_replace.proofs.finder.PathFinder.lay.Goals as goal

pub returns-then-chain-eq2-clause-layers : goal.returns-then-chain-eq2-clause-layers
returns-then-chain-eq2-clause-layers c = edge_laid c.args.terms.now c.args.map.now c.args.k c.chain.result.now _ c.chain.ensures.places
    c.if-chain-eq2.true c.single.ensures
