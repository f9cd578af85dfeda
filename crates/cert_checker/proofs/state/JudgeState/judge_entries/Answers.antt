-- The entries are judged one after the other.
use Rattle.std.proofs.Common.{◌∙◌, ◌+◌, ◌<◌, ℕ, length, ap, sym, subst, arith}
use Rattle.cert_checker.specs.Judged.{AreJudged, demand, free_numbers}
use Rattle.cert_checker.specs.Judging.{Judging}
use Rattle.cert_checker.specs.Subject.{record_of}
use Rattle.cert_checker.specs.declared.verdicts.Verdict.TheVariants.{No}
use Rattle.cert_checker.proofs.Progress.{IsUnderWay, arc_is_free, entry_there, judged_all, judged_refused, under_way_more, under_way_past}
use Rattle.cert_checker.proofs.state.JudgeState.judge_entries.Goals as goal
use Rattle.cert_checker.proofs.state.JudgeState.judge_entries.Goals.{then-is_free+in-None, else-is_free}

pub get-requires : goal.get-requires
get-requires c = entry_there c.args.self.now c.loop-k.self c.args.records.now.entries c.args.bound c.args.weights c.loop-k.entry c.loop-k.k
    c.place-place.result c.loop-k.invariant c.requires.chains c.place-place.ensures (sym (c.is_free.ensures c.loop-k.k) ∙ c.if-is_free.true)

pub judge_entry-requires-clause-free : goal.judge_entry-requires-clause-free
judge_entry-requires-clause-free c =
    let here : c.loop-k.k < length c.loop-k.self.work.refs = omega
    (arith, c.loop-k-test.true, c.chain_count-k-end.ensures.refs, ap length c.loop-k.invariant.base.refs) in
    arc_is_free c.loop-k.self c.loop-k.k c.place-place.result (c.loop-k.invariant.read c.loop-k.k (omega arith) here) c.place-place.ensures
    (sym (c.is_free.ensures c.loop-k.k) ∙ c.if-is_free.true)

pub returns-in-Some-clause-judged : goal.returns-in-Some-clause-judged
returns-in-Some-clause-judged c =
    λ version.
    subst (λ (s : Judging). AreJudged (demand version c.args.bound c.args.weights) c.args.self.now.work.read.points
    c.args.self.now.work.chains (free_numbers c.args.self.now.held c.args.self.now.work.refs) 0 c.args.records.now.entries
    (No c.in-Some.reason) s.work.chains) (sym c.in-Some.ensures.same)
    (judged_refused c.args.self.now c.loop-k.self c.args.records.now.entries c.args.bound c.args.weights c.loop-k.entry c.loop-k.k
    c.place-place.result (record_of c.get.result) c.in-Some.reason c.loop-k.invariant c.place-place.ensures
    (sym (c.is_free.ensures c.loop-k.k) ∙ c.if-is_free.true) c.get.ensures c.in-Some.ensures.told version)

pub loop-k-preserved : goal.loop-k-preserved
loop-k-preserved c = elim c.if-is_free.branch [
  | then-is_free+in-None w ↦
      subst (λ (e : ℕ). IsUnderWay c.args.self.now c.if-is_free.self c.args.records.now.entries c.args.bound c.args.weights e
      (c.loop-k.k + 1)) (sym w.entry-is)
      (subst (λ (s : Judging). IsUnderWay c.args.self.now s c.args.records.now.entries c.args.bound c.args.weights (c.loop-k.entry + 1)
      (c.loop-k.k + 1)) (sym w.self-is)
      (under_way_more c.args.self.now c.loop-k.self w.judge_entry.new.self c.args.records.now.entries c.args.bound c.args.weights
      c.loop-k.entry c.loop-k.k c.place-place.result (record_of w.get.result) c.loop-k.invariant c.place-place.ensures
      (sym (c.is_free.ensures c.loop-k.k) ∙ w.if-is_free.true) w.get.ensures w.in-None.ensures.told w.in-None.ensures.thinned))
  | else-is_free w ↦
      subst (λ (e : ℕ). IsUnderWay c.args.self.now c.if-is_free.self c.args.records.now.entries c.args.bound c.args.weights e
      (c.loop-k.k + 1)) (sym w.entry-is)
      (subst (λ (s : Judging). IsUnderWay c.args.self.now s c.args.records.now.entries c.args.bound c.args.weights c.loop-k.entry
      (c.loop-k.k + 1)) (sym w.self-is)
      (under_way_past c.args.self.now c.loop-k.self c.args.records.now.entries c.args.bound c.args.weights c.loop-k.entry c.loop-k.k
      c.place-place.result c.loop-k.invariant c.place-place.ensures (sym (c.is_free.ensures c.loop-k.k) ∙ w.if-is_free.false)))
]

pub returns-clause-judged : goal.returns-clause-judged
returns-clause-judged c =
    λ version. judged_all c.args.self.now c.loop-k.self c.args.records.now.entries c.args.bound c.args.weights c.loop-k.entry c.loop-k.k
    c.loop-k.invariant c.requires.chains
    (omega (arith, c.loop-k-test.false, c.chain_count-k-end.ensures.refs, ap length c.loop-k.invariant.base.refs)) version
