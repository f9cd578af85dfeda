-- The last of the places is where the walk ends.
use Rattle.std.proofs.Common.{◌<◌, ◌∙◌, length, sym, rules}
use Rattle.grid_exact.proofs.Walks.{end_is_last}
use Rattle.grid_exact.proofs.crossing.walk_end.Goals as goal

pub returns-else-is_empty : goal.returns-else-is_empty
returns-else-is_empty c =
    let some : 0 < length c.args.rest.now = search rules in
    c.index-rest-rest.is ∙ sym (end_is_last c.args.first c.args.rest.now c.index-rest-rest.result some)
