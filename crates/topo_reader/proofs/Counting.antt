-- Counting.
use Rattle.std.proofs.Common.{◌≡◌, ℕ, ◌<◌, nat_lt, Result}
use Rattle.std.proofs.lemmas.Bool.{cond-true, lt-ltb}
use Rattle.json_scan.specs.Tree.{Tree}
use Rattle.topo_reader.specs.declared.fault.ReadFault.{ReadFault}
use Rattle.topo_reader.specs.declared.fault.What.{What}
use Rattle.topo_reader.specs.Sequence.{counted}

pub counted-more : {A : Type 0} (what : What) (limit seen : ℕ) (t : Tree) (rest : Result A ReadFault) → seen < limit
    → counted what limit seen t rest ≡ rest
counted-more what limit seen t rest lt = cond-true (nat_lt seen limit) _ _ (lt-ltb _ _ lt)
