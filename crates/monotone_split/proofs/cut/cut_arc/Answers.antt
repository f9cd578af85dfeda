-- The arc is cut from its first position to its last.
use Rattle.std.proofs.Common.{◌≡◌, ◌<◌, ◌≤◌, ◌+◌, [], length, subst, sym}
use Rattle.std.specs.Prelude.{List}
use Rattle.std.proofs.lemmas.Option.{get_or_from_slice_get}
use Rattle.grid_exact.specs.Geometry.{Place}
use Rattle.arc_map.specs.Arranged.{arc_at}
use Rattle.monotone_split.specs.Cut.{IsNextChainRef}
use Rattle.arc_map.proofs.Finishing.{has_position}
use Rattle.monotone_split.proofs.CutSoFar.{cut_begins, cut_goes_on, cut_ends}
use Rattle.monotone_split.proofs.cut.cut_arc.Goals as goal

pub loop-from-init : goal.loop-from-init
loop-from-init c =
    let same : arc_at c.args.map.now c.args.number ≡ c.arc-arc.result.now =
    get_or_from_slice_get c.args.map.now.arcs c.args.number c.arc-arc.result.now [] c.arc-arc.ensures.value in
    cut_begins c.args.map.now c.args.number c.args.chains.now.items
    (subst (λ (ps : List Place). 0 < length ps) (sym same) (has_position c.arc-arc.result.now c.arc-arc.ensures.is_arc))

pub loop-from-preserved : goal.loop-from-preserved
loop-from-preserved c =
    let same : arc_at c.args.map.now c.args.number ≡ c.arc-arc.result.now =
    get_or_from_slice_get c.args.map.now.arcs c.args.number c.arc-arc.result.now [] c.arc-arc.ensures.value in
    cut_goes_on c.args.map.now c.args.number c.loop-from.«from» c.args.chains.now.items c.loop-from.chains.items c.push.new.self.items
    c.next_chain-chain.result c.requires.arc
    (subst (λ (ps : List Place). c.loop-from.«from» + 1 < length ps) (sym same) c.loop-from-test.true)
    (subst (λ (ps : List Place). IsNextChainRef c.args.number ps c.loop-from.«from» c.next_chain-chain.result) (sym same)
    c.next_chain-chain.ensures)
    c.in_ok-push.ensures.items c.loop-from.invariant

pub returns : goal.returns
returns c =
    let same : arc_at c.args.map.now c.args.number ≡ c.arc-arc.result.now =
    get_or_from_slice_get c.args.map.now.arcs c.args.number c.arc-arc.result.now [] c.arc-arc.ensures.value in
    cut_ends c.args.map.now c.args.number c.loop-from.«from» c.args.chains.now.items c.loop-from.chains.items
    (subst (λ (ps : List Place). length ps ≤ c.loop-from.«from» + 1) (sym same) c.loop-from-test.false) c.loop-from.invariant
