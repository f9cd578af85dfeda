-- The box holds the vertices of the block, and is grown.
use Rattle.std.proofs.Common.{◌+◌, ◌-◌, take, drop, arith}
use Rattle.chain_reach.proofs.Numbered.{near_within, length-part, near_in_part}
use Rattle.chain_reach.proofs.blocks.block_round.Goals as goal

pub round-requires : goal.round-requires
round-requires c = omega (arith, length-part c.args.walk.now c.args.start c.args.end c.requires.within, c.requires.order)

pub returns : goal.returns
returns c edge p low high near inside =
    let walk = c.args.walk.now in
    let start = c.args.start in
    let end = c.args.end in
    let box = c.round.result in
    (c.grown_within.ensures p).1 (
      inside,
      near_within c.args.steps box.low box.high p (take (end + 1 - start) (drop start walk))
          c.round.ensures (near_in_part c.args.steps walk p start end edge c.requires.within low high near),
    )
