-- One feature point more does not change sides.
use Rattle.std.proofs.Common.{sym, subst}
use Rattle.std.proofs.lemmas.List.Elements.{AllWithin-more}
use Rattle.std.proofs.lemmas.Option.{get_or_from_slice_get}
use Rattle.arc_map.specs.Allowed.{IsConsistent}
use Rattle.cert_checker.specs.Runs.{run_end, run_inner}
use Rattle.cert_checker.proofs.plain.towns_let.Goals as goal

pub loop-town-preserved : goal.loop-town-preserved
loop-town-preserved c =
    let points = c.args.work.now.read.points in
    let Keeps = IsConsistent c.args.first (run_end c.args.first c.args.rest.now) (run_inner c.args.rest.now) in
    let here = c.is_consistent.ensures.0 c.if-not-is_consistent.false in
    AllWithin-more Keeps points 0 c.loop-town.town c.loop-town.invariant
    (λ d. subst Keeps (sym (get_or_from_slice_get points c.loop-town.town c.point.result d c.point.ensures)) here)
