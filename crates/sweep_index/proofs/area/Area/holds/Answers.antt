use Rattle.std.proofs.Common.{rules}
use Rattle.sweep_index.specs.Box.{is_from_to}
use Rattle.sweep_index.proofs.BothTests.{and_first}
use Rattle.sweep_index.proofs.area.Area.holds.Goals as goal

pub returns-then-is_between : goal.returns-then-is_between
returns-then-is_between c =
    let s = c.args.self.now in
    and_first (is_from_to s.west s.east c.args.p.x) (is_from_to s.south s.north c.args.p.y) _ (search rules) (search rules)
