-- One chain after the other is compared with the entries.
use Rattle.std.proofs.Common.{◌∙◌, ◌+◌, sym, subst, refl, arith}
use Rattle.std.proofs.lemmas.Bool.{iff_false, true≢false}
use Rattle.cert_checker.specs.Subject.{record_of}
use Rattle.cert_checker.proofs.Differences.{differ_not_equal}
use Rattle.cert_checker.proofs.Listed.{AgreeTo, agree_more, agree_past, agree_whole, differ_here, ended_by_chains, ended_by_entries}
use Rattle.cert_checker.proofs.state.JudgeState.compare_chains.Goals as goal
use Rattle.cert_checker.proofs.state.JudgeState.compare_chains.Goals.{then-is_free+else-entry-count+else-not-is_at, else-is_free}

pub loop-k-init : goal.loop-k-init
loop-k-init c = record { within = omega arith; same = refl; rest = refl }

pub returns-then-entry-count-clause-first : goal.returns-then-entry-count-clause-first
returns-then-entry-count-clause-first c = ended_by_entries c.args.self.now.held c.args.self.now.work.refs c.args.records.now.entries
    c.loop-k.entry c.loop-k.k c.place-place.result c.loop-k.invariant c.place-place.ensures (sym (c.is_free.ensures c.loop-k.k)
    ∙ c.if-is_free.true) (omega (arith, c.if-entry-count.true, c.count.ensures.value))

pub returns-then-entry-count-clause-equal : goal.returns-then-entry-count-clause-equal
returns-then-entry-count-clause-equal c = (
  λ t. absurd (true≢false t),
  λ same.
      absurd (differ_not_equal _ _ c.loop-k.entry (ended_by_entries c.args.self.now.held c.args.self.now.work.refs
      c.args.records.now.entries
      c.loop-k.entry c.loop-k.k c.place-place.result c.loop-k.invariant c.place-place.ensures (sym (c.is_free.ensures c.loop-k.k)
      ∙ c.if-is_free.true) (omega (arith, c.if-entry-count.true, c.count.ensures.value))) same),
)

pub returns-then-not-is_at-clause-first : goal.returns-then-not-is_at-clause-first
returns-then-not-is_at-clause-first c = differ_here c.args.self.now.held c.args.self.now.work.refs c.args.records.now.entries c.loop-k.entry
    c.loop-k.k c.place-place.result (record_of c.get.result) c.loop-k.invariant c.place-place.ensures (sym (c.is_free.ensures c.loop-k.k)
    ∙ c.if-is_free.true) c.get.ensures (iff_false (c.is_at.ensures c.loop-k.k) c.if-not-is_at.true)

pub returns-then-not-is_at-clause-equal : goal.returns-then-not-is_at-clause-equal
returns-then-not-is_at-clause-equal c = (
  λ t. absurd (true≢false t),
  λ same.
      absurd (differ_not_equal _ _ c.loop-k.entry (differ_here c.args.self.now.held c.args.self.now.work.refs c.args.records.now.entries
      c.loop-k.entry c.loop-k.k c.place-place.result (record_of c.get.result) c.loop-k.invariant c.place-place.ensures
      (sym (c.is_free.ensures c.loop-k.k) ∙ c.if-is_free.true) c.get.ensures (iff_false (c.is_at.ensures c.loop-k.k) c.if-not-is_at.true))
      same),
)

pub loop-k-preserved : goal.loop-k-preserved
loop-k-preserved c = elim c.if-is_free.branch [
  | then-is_free+else-entry-count+else-not-is_at w ↦
      subst (λ e. AgreeTo c.args.self.now.held c.args.self.now.work.refs c.args.records.now.entries e (c.loop-k.k + 1)) (sym w.entry-is)
      (agree_more c.args.self.now.held c.args.self.now.work.refs c.args.records.now.entries c.loop-k.entry c.loop-k.k c.place-place.result
      (record_of w.get.result) c.loop-k.invariant c.place-place.ensures (sym (c.is_free.ensures c.loop-k.k) ∙ w.if-is_free.true)
      w.get.ensures ((w.is_at.ensures c.loop-k.k).0 w.if-not-is_at.false))
  | else-is_free w ↦
      subst (λ e. AgreeTo c.args.self.now.held c.args.self.now.work.refs c.args.records.now.entries e (c.loop-k.k + 1)) (sym w.entry-is)
      (agree_past c.args.self.now.held c.args.self.now.work.refs c.args.records.now.entries c.loop-k.entry c.loop-k.k c.place-place.result
      c.loop-k.invariant c.place-place.ensures (sym (c.is_free.ensures c.loop-k.k) ∙ w.if-is_free.false))
]

pub returns-then-entry-count-2-clause-first : goal.returns-then-entry-count-2-clause-first
returns-then-entry-count-2-clause-first c = ended_by_chains c.args.self.now.held c.args.self.now.work.refs c.args.records.now.entries
    c.loop-k.entry c.loop-k.k c.loop-k.invariant (omega (arith, c.loop-k-test.false, c.chain_count-k-end.ensures.refs))
    (omega (arith, c.if-entry-count-2.true, c.count-2.ensures.value))

pub returns-then-entry-count-2-clause-equal : goal.returns-then-entry-count-2-clause-equal
returns-then-entry-count-2-clause-equal c = (
  λ t. absurd (true≢false t),
  λ same.
      absurd (differ_not_equal _ _ c.loop-k.entry (ended_by_chains c.args.self.now.held c.args.self.now.work.refs c.args.records.now.entries
      c.loop-k.entry c.loop-k.k c.loop-k.invariant (omega (arith, c.loop-k-test.false, c.chain_count-k-end.ensures.refs))
      (omega (arith, c.if-entry-count-2.true, c.count-2.ensures.value))) same),
)

pub returns-else-entry-count-2-clause-equal : goal.returns-else-entry-count-2-clause-equal
returns-else-entry-count-2-clause-equal c = (
  λ t. agree_whole c.args.self.now.held c.args.self.now.work.refs c.args.records.now.entries c.loop-k.entry c.loop-k.k c.loop-k.invariant
      (omega (arith, c.loop-k-test.false, c.chain_count-k-end.ensures.refs))
      (omega (arith, c.if-entry-count-2.false, c.count-2.ensures.value)),
  λ same. refl,
)
