-- One chain more lets the run become the segment, or is the chain itself.
use Rattle.std.proofs.Common.{◌<◌, length, subst}
use Rattle.arc_map.specs.Chains.{chain_at, chain_places}
use Rattle.cert_checker.specs.Open.{LetsRun}
use Rattle.cert_checker.specs.Runs.{run_end, run_inner}
use Rattle.cert_checker.proofs.Steps.{others_more}
use Rattle.cert_checker.proofs.plain.chains_let.Goals as goal
use Rattle.cert_checker.proofs.plain.chains_let.Goals.{then-other-k+else-not-chain_lets, else-other-k}

pub loop-other-preserved : goal.loop-other-preserved
loop-other-preserved c =
    let Lets = LetsRun c.args.first (run_inner c.args.rest.now) (run_end c.args.first c.args.rest.now) in
    let chains = c.args.work.now.chains in
    others_more (λ m. 0 < length (chain_at chains m).rest → Lets (chain_places (chain_at chains m))) c.args.k c.loop-other.other
    c.loop-other.invariant
    (elim c.if-other-k.branch [
      | then-other-k+else-not-chain_lets w ↦ λ other some. subst Lets w.chain.ensures.places
          (w.chain_lets.ensures.0 w.if-not-chain_lets.false)
      | else-other-k w ↦ λ other some. absurd (other w.if-other-k.false)
    ])
