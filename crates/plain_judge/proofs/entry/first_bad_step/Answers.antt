-- Kept places are places of the chain.
use Rattle.arc_map.specs.Chains.{chain_at}
use Rattle.cert_checker.proofs.Knowing.{kept_within}
use Rattle.plain_judge.proofs.entry.first_bad_step.Goals as goal

pub allowed-requires-clause-within : goal.allowed-requires-clause-within
allowed-requires-clause-within c = kept_within (chain_at c.args.work.now.chains c.args.k) c.args.kept.now c.loop-at.at c.requires.kept
    c.loop-at-test.true
