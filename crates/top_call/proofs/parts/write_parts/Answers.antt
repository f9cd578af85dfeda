-- A part that fails leaves a prefix of the line.
use Rattle.std.proofs.Common.{◌+◌, drop}
use Rattle.std.proofs.lemmas.List.{at_drop_more}
use Rattle.std.proofs.lemmas.Result.{err_from_is_err_and}
use Rattle.top_call.specs.Parts.{spelled}
use Rattle.top_call.proofs.Writing.{piece_failed}
use Rattle.top_call.proofs.parts.write_parts.Goals as goal

pub returns-in_err-write_part-clause-failed : goal.returns-in_err-write_part-clause-failed
returns-in_err-write_part-clause-failed g c = λ tells.
    let p = err_from_is_err_and c.from_residual.result c.from_residual.ensures.1 in
    rw p.1 (
    piece_failed _ _ _ _ _ _ (spelled (drop (c.loop-part.part-index + 1) c.args.parts.now)) (c.loop-part.invariant.told tells)
    (at_drop_more spelled c.args.parts.now c.loop-part.part-index _ c.loop-part-test.true) (c.in_err-write_part.ensures.failed tells))
