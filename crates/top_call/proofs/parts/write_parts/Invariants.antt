-- The parts that are left complete the line.
use Rattle.std.proofs.Common.{◌≡◌, IsTrue, drop}
use Rattle.top_call.specs.Parts.{spelled}
use Rattle.top_call.specs.Endings.{IsPartWritten}
use Rattle.top_call.proofs.parts.write_parts.Given as goal

abbrev pub invariant-loop-part : goal.invariant-loop-part
invariant-loop-part g l = record {
  told : IsTrue g.S.Sink.tells → IsPartWritten (g.S.Sink.written l.fn.sink) (g.S.Sink.written l.sink) (spelled l.parts)
      (spelled (drop l.part-index l.parts));
  faults : g.S.Sink.faults l.sink ≡ g.S.Sink.faults l.fn.sink;
}
