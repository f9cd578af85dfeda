-- All that is demanded is there.
use Rattle.std.proofs.Common.{◌∙◌, ap, refl}
use Rattle.cert_checker.specs.Judging.{Judging}
use Rattle.cert_checker.proofs.state.JudgeState.mismatch.Goals as goal

pub returns-in-None-compare_chains-clause-told : goal.returns-in-None-compare_chains-clause-told
returns-in-None-compare_chains-clause-told c = record {
  version = c.if-cert-version.false;
  bound = c.is_bound.ensures.0 c.if-not-is_bound.false;
  weights = c.are_weights.ensures.0 c.if-not-are_weights.false;
  held_arcs = c.in-None.ensures.equal.0 refl ∙ ap (λ (s : Judging). s.held) c.self.view_is;
  chains = c.in-None-compare_chains.ensures.equal.0 refl;
}
