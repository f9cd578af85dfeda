use Rattle.std.proofs.Common.{◌^◌, ◌≡◌, ◌∙◌, ◌+◌, ◌∷◌, true, ap, subst, sym}
use Rattle.std.specs.List.Sorted.{IsNonDecreasingBy}
use Rattle.sweep_index.specs.Things.{key_of}
use Rattle.sweep_index.specs.Meetings.{is_met, meetings_from}
use Rattle.sweep_index.proofs.Sweeps.{meetings_from-met, meetings_from-none, sorted_rest}
use Rattle.sweep_index.proofs.sweep.Sweep.next_meeting.Goals as goal

pub first_met-requires-clause-sorted : goal.first_met-requires-clause-sorted
first_met-requires-clause-sorted c = subst (IsNonDecreasingBy key_of) c.in-Some.ensures.cases.0 c.loop-head.invariant.sorted

pub returns-in-Some-first_met-clause-steps : goal.returns-in-Some-first_met-clause-steps
returns-in-Some-first_met-clause-steps c =
    let height = 2 ^ c.args.self.shift in
    let head = c.in-Some.head.now in
    let others = c.in-Some.others.now in
    let k = c.in-Some-first_met.k in
    let x = c.index-others-k.result in
    let says = c.in-Some-first_met.ensures in
    let met = subst (λ e. is_met height (head, e) ≡ true) (sym c.index-others-k.is) (says.found x) in
    c.loop-head.invariant.same
    ∙ ap (λ es. meetings_from height es c.loop-head.passed) c.in-Some.ensures.cases.0
    ∙ meetings_from-met height head others c.loop-head.passed k x says.within.0 says.within.1 c.index-others-k.is met says.none_before
    ∙ ap (λ es. (head, x) ∷ meetings_from height es (k + 1)) (sym c.in-Some.ensures.cases.0)

pub loop-head-preserved : goal.loop-head-preserved
loop-head-preserved c =
    let height = 2 ^ c.args.self.shift in
    let head = c.in-Some.head.now in
    let others = c.in-Some.others.now in
    record {
      same = c.loop-head.invariant.same
          ∙ ap (λ es. meetings_from height es c.loop-head.passed) c.in-Some.ensures.cases.0
          ∙ meetings_from-none height head others c.loop-head.passed c.in_default-first_met.ensures.none;
      sorted = sorted_rest head others (subst (IsNonDecreasingBy key_of) c.in-Some.ensures.cases.0 c.loop-head.invariant.sorted);
    }
