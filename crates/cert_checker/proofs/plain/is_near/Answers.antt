-- A place is near exactly where the weighted places say so.
use Rattle.std.proofs.Common.{◌∙◌, ◌-◌, length, take, ap, sym, subst}
use Rattle.std.proofs.lemmas.Bool.{iff_false}
use Rattle.std.specs.Prelude.{All}
use Rattle.std.proofs.lemmas.List.{take_all}
use Rattle.std.proofs.lemmas.List.Elements.{All-more, All-weaker}
use Rattle.grid_exact.specs.Geometry.{IsWithin, Place}
use Rattle.grid_exact.specs.Near.{weighted}
use Rattle.arc_map.specs.Chains.{IsWithinBound}
use Rattle.cert_checker.specs.Runs.{run_end, run_inner}
use Rattle.cert_checker.proofs.Nearby.{near_iff}
use Rattle.cert_checker.proofs.Parts.{last_is_end}
use Rattle.cert_checker.proofs.Steps.{fails_at, says_no, says_yes}
use Rattle.cert_checker.proofs.plain.is_near.Goals as goal

pub returns-then-not-within : goal.returns-then-not-within
returns-then-not-within c =
    let rest = c.args.rest.now in
    let near = near_iff c.args.weights.x c.args.weights.y c.args.bound c.args.first c.index-rest-last.result (run_end c.args.first rest)
    c.weigh-from.result c.weigh-to.result c.weigh-from.ensures c.weigh-to.ensures
    (last_is_end c.args.first c.index-rest-last.result rest c.requires.some c.index-rest-last.is) in
    says_no (fails_at (IsWithinBound c.args.weights.x c.args.weights.y c.args.bound c.args.first (run_end c.args.first rest))
    (run_inner rest) c.loop-p.p-index c.p-item.result c.loop-p-test.true c.p-item.is
    (λ h. iff_false c.within.ensures c.if-not-within.true (subst (λ q. IsWithin c.weigh-from.result c.weigh-to.result q c.args.bound)
    (sym c.weigh.ensures) ((near c.p-item.result).0 h))))

pub loop-p-preserved : goal.loop-p-preserved
loop-p-preserved c =
    let rest = c.args.rest.now in
    let Keeps = λ (p : Place). IsWithin c.weigh-from.result c.weigh-to.result (weighted c.args.weights.x c.args.weights.y p) c.args.bound in
    let here = subst (λ q. IsWithin c.weigh-from.result c.weigh-to.result q c.args.bound) (c.weigh.ensures
    ∙ ap (weighted c.args.weights.x c.args.weights.y) c.p-item.is) (c.within.ensures.0 c.if-not-within.false) in
    All-more Keeps (take (length rest - 1) rest) c.loop-p.p-index c.p-item.result c.loop-p-test.true c.loop-p.invariant here

pub returns : goal.returns
returns c =
    let rest = c.args.rest.now in
    let near = near_iff c.args.weights.x c.args.weights.y c.args.bound c.args.first c.index-rest-last.result (run_end c.args.first rest)
    c.weigh-from.result c.weigh-to.result c.weigh-from.ensures c.weigh-to.ensures
    (last_is_end c.args.first c.index-rest-last.result rest c.requires.some c.index-rest-last.is) in
    let Keeps = λ (p : Place). IsWithin c.weigh-from.result c.weigh-to.result (weighted c.args.weights.x c.args.weights.y p) c.args.bound in
    says_yes (All-weaker Keeps (IsWithinBound c.args.weights.x c.args.weights.y c.args.bound c.args.first (run_end c.args.first rest))
    (λ p h. (near p).1 h) (run_inner rest)
    (subst (All Keeps) (take_all c.loop-p.p-index (run_inner rest) c.loop-p-test.false) c.loop-p.invariant))
