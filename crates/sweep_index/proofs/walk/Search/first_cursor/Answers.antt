use Rattle.std.proofs.Common.{◌≡◌, subst, rules}
use Rattle.sweep_index.specs.Cells.{row_of}
use Rattle.sweep_index.specs.Area.{lowest, highest}
use Rattle.sweep_index.specs.Search.{IsAhead}
use Rattle.sweep_index.proofs.Walking.{from_first}
use Rattle.sweep_index.proofs.walk.Search.first_cursor.Goals as goal

pub returns-clause-start : goal.returns-clause-start
returns-clause-start c =
    let s = c.args.self.now in
    let first : c.row-row.result ≡ row_of s.grid s.area.south = search rules in
    let ahead = subst (IsAhead s.grid s.entries.now s.live.now (lowest s.area) (highest s.area) c.places_in-at.result.0) first
    c.places_in-at.ensures.ahead in
    from_first s.grid s.entries.now s.live.now (lowest s.area) (highest s.area) c.places_in-at.result.0 ahead c.places_in-at.ensures.begin
