use Rattle.std.proofs.Common.{◌+◌, subst, arith, rules}
use Rattle.std.specs.Prelude.{slice_index}
use Rattle.sweep_index.specs.Area.{lowest, highest}
use Rattle.sweep_index.specs.Search.{IsStartOf}
use Rattle.sweep_index.proofs.Rows.{ahead_of_start, passed_by_end}
use Rattle.sweep_index.proofs.walk.Search.places_in.Goals as goal

pub returns-clause-ahead : goal.returns-clause-ahead
returns-clause-ahead c =
    let s = c.args.self.now in
    let cell = c.cell_in-first.ensures in
    let start = s.by_cells.starts_right c.cell_in-first.result (omega (arith, cell.within)) in
    ahead_of_start s.grid s.entries.now s.live.now (lowest s.area) (highest s.area) _ c.args.row s.by_cells.placed
    (subst (λ n. IsStartOf s.entries.now n (slice_index s.starts.now c.cell_in-first.result)) (search rules) start)

pub returns-clause-passed : goal.returns-clause-passed
returns-clause-passed c =
    let s = c.args.self.now in
    let cell = c.cell_in-last.ensures in
    let start = s.by_cells.starts_right (c.cell_in-last.result + 1) (omega (arith, cell.within)) in
    passed_by_end s.grid s.entries.now s.live.now (lowest s.area) (highest s.area) _ c.args.row s.by_cells.placed
    (subst (λ n. IsStartOf s.entries.now n (slice_index s.starts.now (c.cell_in-last.result + 1))) (search rules) start)
