-- The greater end, and the share of the way from it to the part.
use Rattle.std.proofs.Common.{sym, subst, w64, arith}
use Rattle.std.proofs.lemmas.Int.{to_z-of_z}
use Rattle.grid_exact.proofs.WholeLaws.{fits}
use Rattle.chain_reach.specs.Parts.{IsHighOfPart}
use Rattle.chain_reach.proofs.Parting.{high_rising, high_falling}
use Rattle.chain_reach.proofs.parts.high_across.Goals as goal

pub returns-then-x-clause-value : goal.returns-then-x-clause-value
returns-then-x-clause-value c =
    let a = c.args.a.x in
    let b = c.args.b.x in
    let r = c.left_by.result in
    let made = high_rising a b r c.across.result c.share.result c.args.parts c.args.part c.across.ensures c.share.ensures.low
    c.requires.within c.left_by.ensures in
    subst (IsHighOfPart a b c.args.parts c.args.part) (sym (to_z-of_z w64 r (omega (arith, fits)))) made

pub returns-else-x-clause-value : goal.returns-else-x-clause-value
returns-else-x-clause-value c =
    let a = c.args.a.x in
    let b = c.args.b.x in
    let r = c.left_by-else-x.result in
    let made = high_falling a b r c.across-else-x.result c.share-else-x.result c.args.parts c.args.part c.across-else-x.ensures
    c.share-else-x.ensures.low c.requires.within c.left_by-else-x.ensures in
    subst (IsHighOfPart a b c.args.parts c.args.part) (sym (to_z-of_z w64 r (omega (arith, fits)))) made
