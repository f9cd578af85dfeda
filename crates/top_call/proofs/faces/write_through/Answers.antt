-- Where the second write fails, all gathered lines and a prefix of the line are written.
use Rattle.std.proofs.Common.{◌∙◌, ◌++◌, List, ℕ, ap}
use Rattle.std.proofs.lemmas.Result.{err_from_is_err_and}
use Rattle.top_call.proofs.Writing.{prefix_behind}
use Rattle.top_call.proofs.faces.write_through.Goals as goal

pub returns-in_err-write_all-2-clause-failed : goal.returns-in_err-write_all-2-clause-failed
returns-in_err-write_all-2-clause-failed g c = λ tells.
    let p = err_from_is_err_and c.from_residual-in_err-write_all-2.result c.from_residual-in_err-write_all-2.ensures.1 in
    rw p.1 (
    prefix_behind (g.O.Sink.written c.args.out.now) (g.O.Sink.written c.write_all.new.sink)
    (g.O.Sink.written c.write_all-2.new.sink) c.args.lines.now.items c.args.line.now
    (c.in_ok-write_all.ensures.ok tells ∙ ap (λ (xs : List ℕ). g.O.Sink.written c.args.out.now ++ xs) c.deref.ensures.value)
    (c.in_err-write_all-2.ensures.failed tells))
