-- Each line is gathered or written, and at the end the gathered ones are written.
use Rattle.std.proofs.Common.{◌∙◌, ◌++◌, ◌+◌, List, ℕ, ap, refl, arith, subst}
use Rattle.std.proofs.lemmas.Result.{err_from_is_err_and}
use Rattle.outside_io.specs.Texts.{AppendsPrefix}
use Rattle.top_call.specs.Answers.{faces_text}
use Rattle.top_call.proofs.PointLines.{lines_from, next_written, no_more}
use Rattle.top_call.proofs.Writing.{line_added, line_failed, piece_written, all_written, piece_failed}
use Rattle.top_call.proofs.faces.write_lines.Goals as goal

pub returns-in_err-add_line-clause-failed : goal.returns-in_err-add_line-clause-failed
returns-in_err-add_line-clause-failed g c = λ tells.
    let p = err_from_is_err_and c.from_residual.result c.from_residual.ensures.1 in
    let m = c.args.map.now in
    let k = c.loop-point.point in
    rw p.1 (
    line_failed _ _ _ (faces_text m) c.loop-point.lines.items c.line.result.now (lines_from m k) (lines_from m (k + 1))
    (c.loop-point.invariant.told tells)
    (next_written m k c.line.result.now (omega arith) (c.line.ensures ∙ c.write_line.ensures.line))
    (c.in_err-add_line.ensures.failed tells))

pub loop-point-preserved : goal.loop-point-preserved
loop-point-preserved g c =
    let m = c.args.map.now in
    let k = c.loop-point.point in
    record {
      told = λ tells. line_added _ _ _ (faces_text m) c.loop-point.lines.items c.line.result.now c.add_line.new.lines.items (lines_from m k)
          (lines_from m (k + 1)) (c.loop-point.invariant.told tells)
          (next_written m k c.line.result.now (omega arith) (c.line.ensures ∙ c.write_line.ensures.line))
          (c.in_ok-add_line.ensures.ok tells);
      faults = c.in_ok-add_line.ensures.cause.kept ∙ c.loop-point.invariant.faults;
      scratch = c.write_line.ensures.again;
      room = c.add_line.ensures.room;
      few = c.add_line.ensures.few;
    }

pub returns-clause-ok : goal.returns-clause-ok
returns-clause-ok g c = λ tells.
    let m = c.args.map.now in
    let k = c.loop-point.point in
    let more = c.in_ok-write_all.ensures.ok tells ∙ ap (λ (xs : List ℕ). g.O.Sink.written c.loop-point.out ++ xs) c.deref.ensures.value in
    all_written _ _ _ (lines_from m k) (piece_written _ _ _ _ _ c.loop-point.lines.items (lines_from m k)
    (c.loop-point.invariant.told tells) refl more) (no_more m k (omega arith))

pub returns-in_err-write_all-clause-failed : goal.returns-in_err-write_all-clause-failed
returns-in_err-write_all-clause-failed g c = λ tells.
    let m = c.args.map.now in
    let k = c.loop-point.point in
    let failed =
    subst (λ (xs : List ℕ). AppendsPrefix (g.O.Sink.written c.loop-point.out) (g.O.Sink.written c.write_all.new.sink) xs)
    c.deref.ensures.value (c.in_err-write_all.ensures.failed tells) in
    let p = err_from_is_err_and c.from_residual-in_err-write_all.result c.from_residual-in_err-write_all.ensures.1 in
    rw p.1 (
    piece_failed _ _ _ _ _ c.loop-point.lines.items (lines_from m k) (c.loop-point.invariant.told tells) refl failed)
