-- One more record is written.
use Rattle.cert_format.specs.Certificate.{record_text}
use Rattle.cert_format.proofs.Lists.{written_further}
use Rattle.cert_format.proofs.writer.write_further.Goals as goal

pub loop-k-preserved : goal.loop-k-preserved
loop-k-preserved c = written_further record_text c.args.records.now.entries c.loop-k.k _ _ c.loop-k.out.items _ _ c.get.ensures
    c.loop-k.invariant c.in_ok-extend_from_slice.ensures.items c.in_ok-write_record.ensures
