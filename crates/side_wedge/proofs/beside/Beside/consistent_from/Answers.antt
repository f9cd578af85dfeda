-- What stands beside the chain keeps its sides where the pair is consistent, and a near pair is consistent where it does.
use Rattle.std.proofs.Common.{◌∙◌, arith}
use Rattle.side_wedge.proofs.Exact.{past_vertex, tells_pair, empty_near}
use Rattle.side_wedge.proofs.beside.Beside.consistent_from.Goals as goal

pub write_row-requires-clause-past : goal.write_row-requires-clause-past
write_row-requires-clause-past c s hand p low within stands =
    let w = c.args.map.now in
    past_vertex w.chains w.read.points c.args.k c.args.self.now c.frame-frame.result c.rises-rising.result c.chain-chain.result.now c.args.i
    s hand p (c.frame-frame.ensures ∙ c.requires.beside.frame) c.chain-chain.ensures.places c.requires.beside c.rises-rising.ensures low
    within stands

pub returns-then-is_empty-clause-consistent : goal.returns-then-is_empty-clause-consistent
returns-then-is_empty-clause-consistent c j low high pair = c.allow_from.ensures.set j (omega arith) high

pub returns-then-is_empty-clause-near : goal.returns-then-is_empty-clause-near
returns-then-is_empty-clause-near c weights bound holds j low high told near =
    let w = c.args.map.now in
    empty_near w.chains w.read.points c.args.k c.args.self.now weights bound c.args.i j (c.is_empty.ensures c.if-is_empty.true)
    c.chain-chain.ensures.chains c.requires.clear c.requires.beside holds low
    (omega (arith, high, c.allow_from.ensures.length, c.clear_to.ensures.length, c.requires.row)) near

pub returns-then-is_empty-clause-before : goal.returns-then-is_empty-clause-before
returns-then-is_empty-clause-before c j early = c.allow_from.ensures.before j (omega arith) ∙ c.clear_to.ensures.clear j (omega arith)

pub returns-else-is_empty-clause-consistent : goal.returns-else-is_empty-clause-consistent
returns-else-is_empty-clause-consistent c j low high pair =
    let w = c.args.map.now in
    (tells_pair w.chains w.read.points c.args.k c.args.self.now c.chain-chain.result.now c.args.i j _ c.chain-chain.ensures.places
    c.chain-chain.ensures.chains c.requires.clear c.requires.beside low
    (omega (arith, high, c.write_row.ensures.length, c.clear_to.ensures.length, c.requires.row))
    (c.write_row.ensures.told j low high)).told pair

pub returns-else-is_empty-clause-near : goal.returns-else-is_empty-clause-near
returns-else-is_empty-clause-near c weights bound holds j low high told near =
    let w = c.args.map.now in
    (tells_pair w.chains w.read.points c.args.k c.args.self.now c.chain-chain.result.now c.args.i j _ c.chain-chain.ensures.places
    c.chain-chain.ensures.chains c.requires.clear c.requires.beside low
    (omega (arith, high, c.write_row.ensures.length, c.clear_to.ensures.length, c.requires.row))
    (c.write_row.ensures.told j low high)).near weights bound holds told near

pub returns-else-is_empty-clause-before : goal.returns-else-is_empty-clause-before
returns-else-is_empty-clause-before c j early = c.write_row.ensures.before j early ∙ c.clear_to.ensures.clear j (omega arith)
