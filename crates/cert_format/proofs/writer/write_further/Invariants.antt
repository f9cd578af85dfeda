-- What is written and what is left make up the whole.
use Rattle.std.proofs.Common.{◌≡◌, ◌++◌, map, drop}
use Rattle.cert_format.specs.Certificate.{further, record_text}
use Rattle.cert_format.proofs.writer.write_further.Given as goal

abbrev pub invariant-loop-k : goal.invariant-loop-k
invariant-loop-k l = l.out.items ++ further (map record_text (drop l.k l.records.entries)) ≡ l.fn.out.items
    ++ further (map record_text (drop 1 l.fn.records.entries))
