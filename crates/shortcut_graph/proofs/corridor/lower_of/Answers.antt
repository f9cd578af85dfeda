-- The tighter limit stands for both.
use Rattle.std.proofs.Common.{arith}
use Rattle.grid_exact.proofs.WholeLaws.{fits}
use Rattle.shortcut_graph.proofs.Corridors.{first_lower, second_lower}
use Rattle.shortcut_graph.proofs.corridor.lower_of.Goals as goal

pub returns-then-area-lt0 : goal.returns-then-area-lt0
returns-then-area-lt0 c =
    let e = c.area.ensures.value in let t = c.if-area-lt0.true in
    second_lower c.args.origin c.args.a.place c.args.b.place c.requires.first c.requires.second (omega (arith, fits))

pub returns-else-area-lt0 : goal.returns-else-area-lt0
returns-else-area-lt0 c =
    let e = c.area.ensures.value in let t = c.if-area-lt0.false in
    first_lower c.args.origin c.args.a.place c.args.b.place c.requires.first c.requires.second (omega (arith, fits))
