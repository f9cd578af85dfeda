-- What is near a place of the part is in its grown box.
use Rattle.std.proofs.Common.{pos, ◌<ℤ◌, arith}
use Rattle.grid_exact.proofs.WholeLaws.{sums}
use Rattle.chain_reach.proofs.Parting.{past_low, before_high}
use Rattle.chain_reach.proofs.parts.part_round.Goals as goal

pub returns : goal.returns
returns c p near in_part inside =
    let a = c.args.a in
    let b = c.args.b in
    let n = near.denominator in
    let i = near.numerator in
    let low = c.part_low.result in
    let high = c.part_high.result in
    let one = near.whole in
    let some : pos 0 <ℤ near.denominator = omega (arith, sums) in
    (c.grown_within.ensures p).1 (
      inside,
      record {
        left = past_low n i (pos c.args.steps.across) low.x p.x a.x b.x some (c.part_low.ensures.across n i some in_part) near.across.low;
        right = before_high n i (pos c.args.steps.across) high.x p.x a.x b.x some (c.part_high.ensures.across n i some in_part)
            near.across.high;
        bottom = past_low n i (pos c.args.steps.up) low.y p.y a.y b.y some (c.part_low.ensures.up n i some in_part) near.up.low;
        top = before_high n i (pos c.args.steps.up) high.y p.y a.y b.y some (c.part_high.ensures.up n i some in_part) near.up.high;
      },
    )
