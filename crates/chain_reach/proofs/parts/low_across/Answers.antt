-- The lesser end, and the share of the way from it to the part.
use Rattle.std.proofs.Common.{sym, subst, w64, arith}
use Rattle.std.proofs.lemmas.Int.{to_z-of_z}
use Rattle.grid_exact.proofs.WholeLaws.{fits}
use Rattle.chain_reach.specs.Parts.{IsLowOfPart}
use Rattle.chain_reach.proofs.Parting.{low_rising, low_falling}
use Rattle.chain_reach.proofs.parts.low_across.Goals as goal

pub returns-then-x-clause-value : goal.returns-then-x-clause-value
returns-then-x-clause-value c =
    let a = c.args.a.x in
    let b = c.args.b.x in
    let r = c.right_by.result in
    let made = low_rising a b c.across.result c.share.result c.args.parts c.args.part c.across.ensures c.share.ensures.low
    c.requires.within in
    subst (IsLowOfPart a b c.args.parts c.args.part) (sym (to_z-of_z w64 r (omega (arith, fits))))
    (subst (IsLowOfPart a b c.args.parts c.args.part) (sym c.right_by.ensures) made)

pub returns-else-x-clause-value : goal.returns-else-x-clause-value
returns-else-x-clause-value c =
    let a = c.args.a.x in
    let b = c.args.b.x in
    let r = c.right_by-else-x.result in
    let made = low_falling a b c.across-else-x.result c.share-else-x.result c.args.parts c.args.part c.across-else-x.ensures
    c.share-else-x.ensures.low c.requires.within in
    subst (IsLowOfPart a b c.args.parts c.args.part) (sym (to_z-of_z w64 r (omega (arith, fits))))
    (subst (IsLowOfPart a b c.args.parts c.args.part) (sym c.right_by-else-x.ensures) made)
