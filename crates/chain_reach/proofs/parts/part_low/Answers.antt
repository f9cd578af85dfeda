-- The corner is at these two numbers.
use Rattle.std.proofs.Common.{sym, subst}
use Rattle.grid_exact.specs.Geometry.{Place}
use Rattle.chain_reach.specs.Parts.{IsLowOfPart}
use Rattle.chain_reach.proofs.Numbered.{point_made}
use Rattle.chain_reach.proofs.parts.part_low.Goals as goal

pub returns-clause-across : goal.returns-clause-across
returns-clause-across c =
    let made = point_made c.new.result c.unwrap.result c.low_across.result c.low_across-2.result c.unwrap.ensures c.new.ensures.value
    c.low_across.ensures.on_grid c.low_across-2.ensures.on_grid in
    subst (IsLowOfPart c.args.a.x c.args.b.x c.args.parts c.args.part) (sym made.0) c.low_across.ensures.value

pub returns-clause-up : goal.returns-clause-up
returns-clause-up c =
    let made = point_made c.new.result c.unwrap.result c.low_across.result c.low_across-2.result c.unwrap.ensures c.new.ensures.value
    c.low_across.ensures.on_grid c.low_across-2.ensures.on_grid in
    let a = c.mirrored.ensures in
    let b = c.mirrored-2.ensures in
    subst (IsLowOfPart c.args.a.y c.args.b.y c.args.parts c.args.part) (sym made.1)
    (subst (λ (p : Place). IsLowOfPart p.x c.args.b.y c.args.parts c.args.part c.low_across-2.result) a
    (subst (λ (q : Place). IsLowOfPart c.mirrored.result.x q.x c.args.parts c.args.part c.low_across-2.result) b
    c.low_across-2.ensures.value))
