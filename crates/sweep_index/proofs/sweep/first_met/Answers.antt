use Rattle.std.proofs.Common.{◌^◌, ◌≡◌, ◌∙◌, sym, subst, true, false}
use Rattle.sweep_index.specs.Meetings.{is_behind, is_met}
use Rattle.sweep_index.proofs.Skipping.{none_more}
use Rattle.sweep_index.proofs.Sweeps.{stop}
use Rattle.sweep_index.proofs.sweep.first_met.Goals as goal

pub loop-k-preserved : goal.loop-k-preserved
loop-k-preserved c =
    none_more (λ e. is_met (2 ^ c.args.shift) (c.args.head.now, e)) c.args.others.now c.args.from c.loop-k.k c.index-others-k.result
    (subst (λ e. is_met (2 ^ c.args.shift) (c.args.head.now, e) ≡ false) c.index-others-k.is (sym c.meet_here.ensures
    ∙ c.if-meet_here.false)) c.loop-k.invariant

pub returns-then-is_past-clause-none : goal.returns-then-is_past-clause-none
returns-then-is_past-clause-none c =
    stop (2 ^ c.args.shift) c.args.head.now c.args.others.now c.args.from c.loop-k.k c.index-others-k.result c.requires.sorted
    (subst (λ e. is_behind c.args.head.now e ≡ true) c.index-others-k.is (sym c.is_past.ensures ∙ c.if-is_past.true)) c.loop-k.invariant
