-- A Yes says what the laws say.
use Rattle.std.proofs.Common.{sym, subst}
use Rattle.arc_map.specs.Work.{Work, work_of}
use Rattle.cert_format.specs.Content.{content_of}
use Rattle.monotone_split.specs.Laws.{OutcomeOf}
use Rattle.cert_checker.specs.Judged.{IsJudged, demand}
use Rattle.cert_checker.specs.Judging.{IsKnown, Judging}
use Rattle.cert_checker.specs.Laws.{KeepsChains}
use Rattle.cert_checker.specs.declared.verdicts.Verdict.{Verdict}
use Rattle.cert_checker.proofs.Keeping.{yes_keeps_chains}
use Rattle.cert_checker.proofs.Knowing.{arranged_of}
use Rattle.cert_checker.proofs.Sound.{yes_is_sound}
use Rattle.cert_checker.proofs.state.judge.Goals as goal

pub returns-clause-sound : goal.returns-clause-sound
returns-clause-sound c = λ yes.
    let before = c.args.state.now in
    let m = before.work.read in
    let refs = before.work.refs in
    let d = demand c.args.version c.args.bound c.args.weights in
    let known = subst (IsKnown before.held) c.requires.fresh.as_read c.verdict_on-verdict.ensures.known in
    let judged = subst (λ (w : Work). IsJudged (demand c.args.version c.args.bound c.args.weights) c.args.state.now.held w
    (content_of c.args.cert.now) c.verdict_on-verdict.result c.verdict_on-verdict.new.state.work.chains) c.requires.fresh.as_read
    c.verdict_on-verdict.ensures.judged in
    let told = subst (λ (verdict : Verdict). IsJudged (demand c.args.version c.args.bound c.args.weights) c.args.state.now.held
    (work_of c.args.state.now.work.read c.args.state.now.work.refs) (content_of c.args.cert.now) verdict
    c.verdict_on-verdict.new.state.work.chains) yes judged in
    subst (λ (s : Judging). OutcomeOf c.args.state.now.held c.args.state.now.work.read s.work.chains) (sym c.state.view_is)
    (yes_is_sound d before.held m refs (content_of c.args.cert.now) c.verdict_on-verdict.new.state.work.chains known.lie
    (arranged_of before.held m refs known) told)

pub returns-clause-chains : goal.returns-clause-chains
returns-clause-chains c = λ yes.
    let before = c.args.state.now in
    let m = before.work.read in
    let refs = before.work.refs in
    let d = demand c.args.version c.args.bound c.args.weights in
    let judged = subst (λ (w : Work). IsJudged (demand c.args.version c.args.bound c.args.weights) c.args.state.now.held w
    (content_of c.args.cert.now) c.verdict_on-verdict.result c.verdict_on-verdict.new.state.work.chains) c.requires.fresh.as_read
    c.verdict_on-verdict.ensures.judged in
    let told = subst (λ (verdict : Verdict). IsJudged (demand c.args.version c.args.bound c.args.weights) c.args.state.now.held
    (work_of c.args.state.now.work.read c.args.state.now.work.refs) (content_of c.args.cert.now) verdict
    c.verdict_on-verdict.new.state.work.chains) yes judged in
    let keeps = yes_keeps_chains d before.held m refs (content_of c.args.cert.now) c.verdict_on-verdict.new.state.work.chains told in
    subst (λ (w : Work). KeepsChains (demand c.args.version c.args.bound c.args.weights) c.args.state.now.held w.chains
    c.state.inside.map.chains) (sym c.requires.fresh.as_read)
    (subst (λ (s : Judging). KeepsChains (demand c.args.version c.args.bound c.args.weights) c.args.state.now.held
    (work_of c.args.state.now.work.read c.args.state.now.work.refs).chains s.work.chains) (sym c.state.view_is) keeps)
