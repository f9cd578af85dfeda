-- One vertex more does not change sides; and then the edges decide.
use Rattle.std.proofs.Common.{subst}
use Rattle.std.specs.Prelude.{All}
use Rattle.std.proofs.lemmas.List.{take_all}
use Rattle.std.proofs.lemmas.List.Elements.{All-more}
use Rattle.arc_map.specs.Allowed.{IsConsistent}
use Rattle.cert_checker.specs.Runs.{run_end, run_inner}
use Rattle.cert_checker.proofs.Parts.{last_is_end}
use Rattle.cert_checker.proofs.Steps.{lets_by}
use Rattle.cert_checker.proofs.plain.chain_lets.Goals as goal

pub loop-p-preserved : goal.loop-p-preserved
loop-p-preserved c =
    let Keeps = IsConsistent c.args.first (run_end c.args.first c.args.rest.now) (run_inner c.args.rest.now) in
    let here = c.is_consistent.ensures.0 c.if-not-is_consistent.false in
    All-more Keeps c.args.chain.now c.loop-p.p-index c.p-item.result c.loop-p-test.true c.loop-p.invariant (subst Keeps c.p-item.is here)

pub returns : goal.returns
returns c =
    let Keeps = IsConsistent c.args.first (run_end c.args.first c.args.rest.now) (run_inner c.args.rest.now) in
    lets_by c.args.first (run_inner c.args.rest.now) c.index-rest-rest.result (run_end c.args.first c.args.rest.now) c.args.chain.now
    c.joins.result
    (last_is_end c.args.first c.index-rest-rest.result c.args.rest.now c.requires c.index-rest-rest.is)
    (subst (All Keeps) (take_all c.loop-p.p-index c.args.chain.now c.loop-p-test.false) c.loop-p.invariant) c.joins.ensures
