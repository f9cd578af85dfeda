use Rattle.std.proofs.Common.{◌≡◌, ◌∙◌, ◌<◌, ◌==◌, true, All, length, ap, subst, sym, arith}
use Rattle.std.specs.Prelude.{◌&&◌}
use Rattle.grid_exact.specs.Walks.{differ}
use Rattle.face_parity.specs.Naming.{is_by, refs_over}
use Rattle.face_parity.specs.Parities.{pass_oddly}
use Rattle.face_parity.specs.Runs.{is_run_crossed}
use Rattle.face_parity.specs.Tally.{is_odd_at}
use Rattle.face_parity.proofs.ByArc.{arc-in, not-floored}
use Rattle.face_parity.proofs.Telling.{named-odd}
use Rattle.face_parity.proofs.faces.turn_run.Goals as goal

pub of_arc-requires : goal.of_arc-requires
of_arc-requires c =
    let within = arc-in c.args.topology.now c.args.run.arc c.args.run.to c.requires.run.within in
    omega (arith, within, c.requires.namings.starts)

pub turn_all-requires-clause-below : goal.turn_all-requires-clause-below
turn_all-requires-clause-below c = subst (λ n. All (λ x. x.polygon < n) c.of_arc.result.now) (sym c.requires.polygons)
    (c.of_arc.ensures.below (length c.args.topology.now.polygons) c.requires.namings.namings.below)

pub returns-then-run-at-clause-odd : goal.returns-then-run-at-clause-odd
returns-then-run-at-clause-odd c k floored =
    let above : c.args.at.y < c.args.run.floor = omega arith in
    not-floored c.args.topology.now c.args.p c.args.at.y (refs_over c.args.namings.now.namings.items c.args.at.y k) c.args.run
    (is_odd_at c.args.tally.now k) above floored

pub returns-clause-odd : goal.returns-clause-odd
returns-clause-odd c k floored =
    let ns = c.args.namings.now.namings.items in
    let y = c.args.at.y in
    let arc = c.args.run.arc in
    let named = pass_oddly (λ a. a == arc) (refs_over ns y k) in
    let crossed : is_run_crossed c.args.topology.now c.args.p c.args.run ≡ true = sym c.is_crossed_oddly.ensures
    ∙ c.if-not-is_crossed_oddly.false in
    c.turn_all.ensures.odd k
    ∙ ap (differ (is_odd_at c.args.tally.now k)) (c.of_arc.ensures.odd (is_by y k) ∙ named-odd ns y k arc
    ∙ ap (λ b. b && named) (sym crossed))
