-- Kept places are places of the chain.
use Rattle.arc_map.specs.Chains.{chain_at}
use Rattle.cert_checker.proofs.Knowing.{kept_within}
use Rattle.cert_checker.proofs.entry.first_bad_step.Goals as goal

pub allows-requires-clause-within : goal.allows-requires-clause-within
allows-requires-clause-within c = kept_within (chain_at c.args.map.now.chains c.args.subject.now.chain) c.args.kept.now c.loop-at.at
    c.requires.kept c.loop-at-test.true
