use Rattle.std.proofs.Common.{◌≡◌, ◌+◌, ◌-◌, ◌<◌, ◌++◌, length, arith, subst}
use Rattle.arc_map.specs.Arranged.{arc_at}
use Rattle.sweep_index.specs.Slabs.{AreEdgesBefore}
use Rattle.sweep_index.proofs.Growing.{slab_arc_done, slabbed_over, with_slabbed}
use Rattle.sweep_index.proofs.Reading.{arc_length, round_edge, some_position}
use Rattle.sweep_index.proofs.slabs.push_arc.Goals as goal

pub loop-at-init : goal.loop-at-init
loop-at-init c = c.requires.so_far

pub loop-at-preserved : goal.loop-at-preserved
loop-at-preserved c =
    let m = c.args.map.now in
    let arc = c.args.arc in
    let at = c.loop-at.at in
    let ps = c.arc-positions.result.now in
    let long = arc_length m arc ps c.arc-positions.ensures.value in
    let some = c.loop-at.auto.at in
    let within : at < length ps = omega arith in
    let next : at - 1 + 1 ≡ at + 1 - 1 = omega (arith, some) in
    let round = round_edge m arc at ps c.index-positions-at.result c.index-positions-at-in-loop-at.result c.of-extent.result
    c.arc-positions.ensures.value some within c.index-positions-at.is c.index-positions-at-in-loop-at.is c.of-extent.ensures in
    let grown = with_slabbed m c.args.width arc (at - 1) c.loop-at.edges.items c.of-extent.result c.requires.wide
    (omega (arith, long, some, within)) round c.loop-at.invariant in
    let items = c.loop-at.edges.items ++ slabbed_over c.args.width c.of-extent.result.west c.of-extent.result.east
    (record { arc = arc; at = at - 1 }) in
    rw c.in_ok-push_edge.ensures (subst (λ n. AreEdgesBefore m c.args.width arc n items) next grown)

pub returns : goal.returns
returns c =
    let m = c.args.map.now in
    let arc = c.args.arc in
    let at = c.loop-at.at in
    let ps = c.arc-positions.result.now in
    let long = arc_length m arc ps c.arc-positions.ensures.value in
    let some = some_position ps c.arc-positions.ensures.is_arc in
    let last : at - 1 ≡ length (arc_at m arc) - 1 = omega (arith, long, some) in
    slab_arc_done m c.args.width arc c.loop-at.edges.items (subst (λ n. AreEdgesBefore m c.args.width arc n c.loop-at.edges.items) last
    c.loop-at.invariant)
