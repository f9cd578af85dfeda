-- The held arcs are those of the state.
use Rattle.std.proofs.Common.{◌∙◌, ap}
use Rattle.cert_checker.specs.Judged.{is_free}
use Rattle.cert_checker.specs.Judging.{Judging}
use Rattle.cert_checker.proofs.Holding.{held_told}
use Rattle.cert_checker.proofs.state.JudgeState.is_free.Goals as goal

pub returns : goal.returns
returns c = λ k. held_told c.self.inside.held c.args.place.arc c.has.result c.has.ensures
    ∙ ap (λ (s : Judging). is_free s.held (k, c.args.place)) c.self.view_is
