-- The tighter limit stands for both.
use Rattle.std.proofs.Common.{arith}
use Rattle.grid_exact.proofs.WholeLaws.{fits}
use Rattle.shortcut_graph.proofs.Corridors.{first_upper, second_upper}
use Rattle.shortcut_graph.proofs.corridor.upper_of.Goals as goal

pub returns-then-area-lt0 : goal.returns-then-area-lt0
returns-then-area-lt0 c =
    let e = c.area.ensures.value in let t = c.if-area-lt0.true in
    first_upper c.args.origin c.args.a.place c.args.b.place c.requires.first c.requires.second (omega (arith, fits))

pub returns-else-area-lt0 : goal.returns-else-area-lt0
returns-else-area-lt0 c =
    let e = c.area.ensures.value in let t = c.if-area-lt0.false in
    second_upper c.args.origin c.args.a.place c.args.b.place c.requires.first c.requires.second (omega (arith, fits))
