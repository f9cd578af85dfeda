-- One more point stays on the grid, and at the end all of them.
use Rattle.std.proofs.Common.{◌≤◌, length, arith, rules}
use Rattle.std.proofs.lemmas.List.{take_all}
use Rattle.std.proofs.lemmas.List.Elements.{All-more}
use Rattle.grid_exact.specs.Weights.{StaysOnGrid}
use Rattle.grid_exact.proofs.weights.Weights.first_off.Goals as goal

pub loop-k-preserved : goal.loop-k-preserved
loop-k-preserved c =
    let here : StaysOnGrid c.args.self c.index-list-k.result = c.apply.ensures.on_grid.0 (search rules) in
    All-more (StaysOnGrid c.args.self) c.args.list.now c.loop-k.k c.index-list-k.result c.loop-k-test.true c.loop-k.invariant
    (rw (← c.index-list-k.is) here)

pub returns : goal.returns
returns c =
    let all : length c.args.list.now ≤ c.loop-k.k = omega arith in
    rw (take_all c.loop-k.k c.args.list.now all) at c.loop-k.invariant
