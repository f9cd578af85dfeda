-- The gathered lines and those of the points from here on complete the whole.
use Rattle.std.proofs.Common.{◌≡◌, ◌≤◌, ◌++◌, IsTrue, vec_len, vec_capacity}
use Rattle.face_parity.specs.Scratch.{IsScratchOf}
use Rattle.top_call.specs.declared.faces.TheConstants.{GATHERED}
use Rattle.top_call.specs.Answers.{faces_text}
use Rattle.top_call.specs.Endings.{IsPartWritten}
use Rattle.top_call.proofs.PointLines.{lines_from}
use Rattle.top_call.proofs.faces.write_lines.Given as goal

abbrev pub invariant-loop-point : goal.invariant-loop-point
invariant-loop-point g l = record {
  told : IsTrue g.O.Sink.tells → IsPartWritten (g.O.Sink.written l.fn.out) (g.O.Sink.written l.out) (faces_text l.map)
      (l.lines.items ++ lines_from l.map l.point);
  faults : g.O.Sink.faults l.out ≡ g.O.Sink.faults l.fn.out;
  scratch : IsScratchOf l.map l.scratch;
  room : GATHERED ≤ vec_capacity l.lines;
  few : vec_len l.lines ≤ GATHERED;
}
