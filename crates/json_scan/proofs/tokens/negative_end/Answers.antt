-- What the check leaves to show of `negative_end`.
use Rattle.std.proofs.Common.{sym, refl, arith}
use Rattle.json_scan.specs.declared.tokens.NumberPart.TheVariants.{Minus}
use Rattle.json_scan.specs.Machine.{state, InNumber}
use Rattle.json_scan.proofs.Runs.{Continues-refl}
use Rattle.json_scan.proofs.Lexed.{number_more, number_breaks, ends_as}
use Rattle.json_scan.proofs.tokens.negative_end.Goals as goal

pub returns-then-at-text-clause-number : goal.returns-then-at-text-clause-number
returns-then-at-text-clause-number c =
    λ start opened nodes. number_breaks c.args.text.now _ Minus start opened nodes c.args.at
    (Continues-refl c.args.text.now (state (InNumber Minus start) opened nodes c.args.at)) refl (λ lt. absurd (omega arith))

pub returns-in-Some-clause-number : goal.returns-in-Some-clause-number
returns-in-Some-clause-number c =
    λ start opened nodes. ends_as c.args.text.now Minus c.in-Some.part start opened nodes c.args.at _ c.number_end.result
    (number_more c.args.text.now _ Minus c.in-Some.part start opened nodes c.args.at
    (Continues-refl c.args.text.now (state (InNumber Minus start) opened nodes c.args.at)) (omega arith) (sym c.in-Some.ensures))
    (c.number_end.ensures.number start opened nodes)

pub returns-in-None-clause-number : goal.returns-in-None-clause-number
returns-in-None-clause-number c =
    λ start opened nodes. number_breaks c.args.text.now _ Minus start opened nodes c.args.at
    (Continues-refl c.args.text.now (state (InNumber Minus start) opened nodes c.args.at)) refl (λ lt. sym c.in-None.ensures)
