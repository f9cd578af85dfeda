-- The status of the meeting.
use Rattle.std.proofs.Common.{Err, ap}
use Rattle.std.proofs.lemmas.Result.{err_from_is_err_and}
use Rattle.top_call.proofs.Refusals.{check_refused}
use Rattle.top_call.proofs.loading.arranged.Goals as goal

pub returns-in_err-arranged-clause-refused : goal.returns-in_err-arranged-clause-refused
returns-in_err-arranged-clause-refused c =
    let p = err_from_is_err_and c.from_residual-in_err-arranged.result c.from_residual-in_err-arranged.ensures.1 in
    rw p.1 (check_refused c.args.hold_arcs c.args.map c.in_err-arranged.field-0.0 p.0 c.if-hold_arcs.false p.2
    (λ e f is. c.in_err-arranged.ensures.edges e f (ap Err is)) (λ k e is. c.in_err-arranged.ensures.point k e (ap Err is)))
