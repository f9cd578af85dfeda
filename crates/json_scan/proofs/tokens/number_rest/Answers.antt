-- What the check leaves to show of `number_rest`.
use Rattle.std.proofs.Common.{◌≡◌, ◌<◌, length, get_or, None, arith, sym, ◌∙◌}
use Rattle.json_scan.specs.Machine.{number_step}
use Rattle.json_scan.proofs.Runs.{Continues-then}
use Rattle.json_scan.proofs.Lexed.{number_more, number_ends, number_breaks}
use Rattle.json_scan.proofs.tokens.number_rest.Goals as goal
use Rattle.json_scan.proofs.tokens.number_rest.Goals.{else-loop-end-test, then-loop-end-test+in-None}

pub loop-end-preserved : goal.loop-end-preserved
loop-end-preserved c =
    let skip = c.digits_end-end.ensures in record {
      from = omega (arith, skip.within.0);
      within = skip.within.1;
      read = λ start opened nodes. Continues-then c.args.text.now _ _ _
          (number_more c.args.text.now _ _ _ start opened nodes c.loop-end.end
          (c.loop-end.invariant.read start opened nodes) c.loop-end-test.true (sym c.in-Some.ensures))
          (skip.digits start opened nodes);
    }

pub returns-then-may_end-clause-number : goal.returns-then-may_end-clause-number
returns-then-may_end-clause-number c =
    let stops : c.loop-end.end < length c.args.text.now → number_step c.loop-end.part (get_or c.args.text.now c.loop-end.end 0) ≡ None =
    elim c.loop-end-test.branch
    [ else-loop-end-test w ↦ λ lt. absurd (omega arith) | then-loop-end-test+in-None w ↦ λ lt. sym w.in-None.ensures ] in
    λ start opened nodes. number_ends c.args.text.now _ c.loop-end.part start opened nodes c.loop-end.end
    (c.loop-end.invariant.read start opened nodes) (sym c.may_end.ensures ∙ c.if-may_end.true) stops

pub returns-else-may_end-clause-number : goal.returns-else-may_end-clause-number
returns-else-may_end-clause-number c =
    let stops : c.loop-end.end < length c.args.text.now → number_step c.loop-end.part (get_or c.args.text.now c.loop-end.end 0) ≡ None =
    elim c.loop-end-test.branch
    [ else-loop-end-test w ↦ λ lt. absurd (omega arith) | then-loop-end-test+in-None w ↦ λ lt. sym w.in-None.ensures ] in
    λ start opened nodes. number_breaks c.args.text.now _ c.loop-end.part start opened nodes c.loop-end.end
    (c.loop-end.invariant.read start opened nodes) (sym c.may_end.ensures ∙ c.if-may_end.false) stops
