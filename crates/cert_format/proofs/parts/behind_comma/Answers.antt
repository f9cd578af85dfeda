-- The comma is passed, where one is there.
use Rattle.std.proofs.Common.{◌∙◌, sym, true≢false}
use Rattle.cert_format.proofs.Cutting.{comma_passed, no_comma}
use Rattle.cert_format.proofs.parts.behind_comma.Goals as goal

pub returns-then-begins-clause-rest : goal.returns-then-begins-clause-rest
returns-then-begins-clause-rest c = comma_passed c.args.text.now (c.begins.ensures.0 c.if-begins.true)

pub returns-clause-rest : goal.returns-clause-rest
returns-clause-rest c = no_comma c.args.text.now (λ there. true≢false (sym (c.begins.ensures.1 there) ∙ c.if-begins.false))
