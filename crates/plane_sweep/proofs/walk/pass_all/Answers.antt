use Rattle.std.proofs.Common.{sym, ◌∙◌, ap, [], ◌≡◌}
use Rattle.plane_sweep.specs.Spans.{spans_in}
use Rattle.plane_sweep.proofs.Numbers.{spans_parted}
use Rattle.plane_sweep.proofs.Placing.{empty_list, empty_tested}
use Rattle.plane_sweep.proofs.Sweeping.{sweeps_first, sweeps_last, sweeps_next}
use Rattle.plane_sweep.proofs.walk.pass_all.Goals as goal

pub loop-q-init : goal.loop-q-init
loop-q-init c =
    let spans = c.args.spans.now in
    sweeps_first (spans_in spans c.args.numbers.now) c.args.places.now (spans_in spans c.new-active.result.items)
    (ap (spans_in spans) c.new-active.ensures.items) c.requires.places

pub loop-q-preserved : goal.loop-q-preserved
loop-q-preserved c =
    let spans = c.args.spans.now in
    let new = c.split_new.result.0.now in
    let behind = c.split_new.result.1.now in
    sweeps_next (spans_in spans c.args.numbers.now) c.args.places.now (spans_in spans c.loop-q.left.now) c.loop-q.rest.now
    (spans_in spans c.loop-q.active.items) c.in-Some.q.now c.in-Some.others.now (spans_in spans new) (spans_in spans behind)
    (spans_in spans c.pass.new.active.items)
    c.requires.rising c.requires.ends c.in-Some.ensures.cases.0 (spans_parted spans c.loop-q.left.now new behind c.split_new.ensures)
    (c.in_ok-pass.ensures c.if-not-branch.false) c.loop-q.invariant

pub returns : goal.returns
returns c t =
    let spans = c.args.spans.now in
    let none : spans_in spans c.loop-q.left.now ≡ [] = ap (spans_in spans) (empty_tested c.loop-q.left.now (sym c.is_empty.ensures ∙ t)) in
    sweeps_last (spans_in spans c.args.numbers.now) c.args.places.now (spans_in spans c.loop-q.left.now) c.loop-q.rest.now
    (spans_in spans c.loop-q.active.items)
    (empty_list c.loop-q.rest.now c.in_default.ensures.cases) none c.loop-q.invariant
