use Rattle.std.proofs.Common.{◌↔◌, length}
use Rattle.std.specs.Prelude.{All}
use Rattle.sweep_index.specs.Walk.{items_left}
use Rattle.cert_checker.specs.Indexed.{ItemLets}
use Rattle.cert_checker.specs.Runs.{run_end, run_inner}
use Rattle.cert_checker.proofs.indexed.items_let.Given as goal

-- the items that are still to come decide
abbrev pub invariant-loop-item : goal.invariant-loop-item
invariant-loop-item l = All (ItemLets l.k l.first (run_inner l.rest) (run_end l.first l.rest)) (items_left l.walk)
    ↔ All (ItemLets l.k l.first (run_inner l.rest) (run_end l.first l.rest)) (items_left l.initial.walk)

abbrev pub decreases-loop-item : goal.decreases-loop-item
decreases-loop-item l = length (items_left l.walk)
