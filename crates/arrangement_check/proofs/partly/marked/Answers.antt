use Rattle.std.proofs.Common.{◌∙◌, ap, arith}
use Rattle.arrangement_check.proofs.Marking.{all_marked, marked_list, marked_more, marked_passed, none_below}
use Rattle.arrangement_check.proofs.partly.marked.Goals as goal
use Rattle.arrangement_check.proofs.partly.marked.Goals.{then-mark+in_ok-push, else-mark}

pub loop-arc-init : goal.loop-arc-init
loop-arc-init c = none_below c.args.marks.now c.new-arcs.result.items c.new-arcs.ensures.items

pub loop-arc-preserved : goal.loop-arc-preserved
loop-arc-preserved c =
    elim c.if-mark.branch [
      | then-mark+in_ok-push w ↦ marked_more c.args.marks.now c.loop-arc.arc c.loop-arc.arcs.items c.if-mark.arcs.items
          (ap (λ v. v.items) w.arcs-is ∙ w.in_ok-push.ensures.items) w.if-mark.true c.loop-arc.invariant
      | else-mark w ↦ marked_passed c.args.marks.now c.loop-arc.arc c.loop-arc.arcs.items c.if-mark.arcs.items (ap (λ v. v.items) w.arcs-is)
          w.if-mark.false c.loop-arc.invariant
    ]

pub returns-clause-list : goal.returns-clause-list
returns-clause-list c = marked_list c.args.marks.now c.loop-arc.arc c.loop-arc.arcs.items
    (omega (arith, c.requires, c.loop-arc.auto.arc-end)) c.loop-arc.invariant

pub returns-clause-exact : goal.returns-clause-exact
returns-clause-exact c = all_marked c.args.marks.now c.loop-arc.arc c.loop-arc.arcs.items c.loop-arc-test.false c.loop-arc.invariant
