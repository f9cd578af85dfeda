-- Each item is looked at.
use Rattle.std.proofs.Common.{refl}
use Rattle.std.proofs.lemmas.Bool.{iff_false}
use Rattle.sweep_index.specs.Walk.{items_left}
use Rattle.cert_checker.specs.Indexed.{ItemLets}
use Rattle.cert_checker.specs.Runs.{run_end, run_inner}
use Rattle.cert_checker.proofs.Walked.{walk_done, walk_fails, walk_more, walk_start}
use Rattle.cert_checker.proofs.Steps.{says_no, says_yes}
use Rattle.cert_checker.proofs.indexed.items_let.Goals as goal

pub loop-item-init : goal.loop-item-init
loop-item-init c = walk_start (ItemLets c.args.k c.args.first (run_inner c.args.rest.now) (run_end c.args.first c.args.rest.now))
    (items_left c.args.walk) (items_left c.args.walk) refl

pub loop-item-preserved : goal.loop-item-preserved
loop-item-preserved c = walk_more (ItemLets c.args.k c.args.first (run_inner c.args.rest.now) (run_end c.args.first c.args.rest.now))
    (c.in-Some.field-0-0, c.in-Some.item) (items_left c.next.new.self) (items_left c.loop-item.walk) (items_left c.args.walk)
    c.in-Some.ensures.steps (λ other. absurd (iff_false c.is_other.ensures c.if-is_other.false other)) c.loop-item.invariant

pub loop-item-preserved-else-not-is_consistent : goal.loop-item-preserved-else-not-is_consistent
loop-item-preserved-else-not-is_consistent c =
    walk_more (ItemLets c.args.k c.args.first (run_inner c.args.rest.now) (run_end c.args.first c.args.rest.now))
    (c.in-Some.field-0-0, c.in-Some.item) (items_left c.next.new.self) (items_left c.loop-item.walk) (items_left c.args.walk)
    c.in-Some.ensures.steps (λ other. c.is_consistent.ensures.0 c.if-not-is_consistent.false) c.loop-item.invariant

pub returns-then-not-is_consistent : goal.returns-then-not-is_consistent
returns-then-not-is_consistent c = says_no
    (walk_fails (ItemLets c.args.k c.args.first (run_inner c.args.rest.now) (run_end c.args.first c.args.rest.now))
    (c.in-Some.field-0-0, c.in-Some.item) (items_left c.next.new.self) (items_left c.loop-item.walk) (items_left c.args.walk)
    c.in-Some.ensures.steps (λ lets. iff_false c.is_consistent.ensures c.if-not-is_consistent.true
    (lets (c.is_other.ensures.0 c.if-is_other.true))) c.loop-item.invariant)

pub returns : goal.returns
returns c = says_yes (walk_done (ItemLets c.args.k c.args.first (run_inner c.args.rest.now) (run_end c.args.first c.args.rest.now))
    (items_left c.loop-item.walk) (items_left c.args.walk) c.in_default.ensures.steps.0 c.loop-item.invariant)
