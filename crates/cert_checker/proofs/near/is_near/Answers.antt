-- The culprit is too far away, or all places are tried.
use Rattle.std.proofs.Common.{arith}
use Rattle.std.proofs.lemmas.Bool.{iff_false}
use Rattle.cert_checker.proofs.Nearby.{near_more, run_fails, run_holds, tested_at}
use Rattle.cert_checker.proofs.Steps.{says_no, says_yes}
use Rattle.cert_checker.proofs.near.is_near.Goals as goal

pub returns-then-not-within : goal.returns-then-not-within
returns-then-not-within c =
    let ps = c.args.places.now in
    let at = c.args.culprit.now in
    let told = tested_at c.args.bound ps c.args.i c.args.j at c.index-places-i.result c.index-places-j.result c.index-places-last.result
    c.within.result (omega arith) (omega arith) (omega arith) c.index-places-i.is c.index-places-j.is c.index-places-last.is
    c.within.ensures in
    says_no (run_fails c.args.bound ps c.args.i c.args.j at c.if-i-last.true c.if-last-j.true (omega arith)
    (iff_false told c.if-not-within.true))

pub returns-then-not-within-2 : goal.returns-then-not-within-2
returns-then-not-within-2 c =
    let ps = c.args.places.now in
    let at = c.loop-at.at in
    let told = tested_at c.args.bound ps c.args.i c.args.j at c.index-places-i.result c.index-places-j.result c.index-places-at.result
    c.within-in-loop-at.result (omega arith) (omega arith) (omega arith) c.index-places-i.is c.index-places-j.is c.index-places-at.is
    c.within-in-loop-at.ensures in
    says_no (run_fails c.args.bound ps c.args.i c.args.j at (omega arith) c.loop-at-test.true (omega arith)
    (iff_false told c.if-not-within-2.true))

pub loop-at-preserved : goal.loop-at-preserved
loop-at-preserved c =
    let ps = c.args.places.now in
    let at = c.loop-at.at in
    let told = tested_at c.args.bound ps c.args.i c.args.j at c.index-places-i.result c.index-places-j.result c.index-places-at.result
    c.within-in-loop-at.result (omega arith) (omega arith) (omega arith) c.index-places-i.is c.index-places-j.is c.index-places-at.is
    c.within-in-loop-at.ensures in
    near_more c.args.bound ps c.args.i c.args.j at (told.0 c.if-not-within-2.false) c.loop-at.invariant

pub returns : goal.returns
returns c = says_yes (run_holds c.args.bound c.args.places.now c.args.i c.args.j (omega arith) (λ n after before.
    c.loop-at.invariant n after (omega (arith, before))))
