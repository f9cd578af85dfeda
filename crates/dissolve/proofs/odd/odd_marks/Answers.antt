use Rattle.std.proofs.Common.{◌≡◌, [], drop, arith, subst}
use Rattle.std.proofs.lemmas.List.{drop_all}
use Rattle.dissolve.proofs.Turned.{AreTurned, turned-more, turned-all}
use Rattle.dissolve.proofs.odd.odd_marks.Goals as goal

pub loop-k-preserved : goal.loop-k-preserved
loop-k-preserved c = turned-more c.args.map.now c.args.polygons.now c.loop-k.k-index c.polygon.result.now c.loop-k.marks.items
    c.turn_all.new.marks.items (omega arith) c.polygon.ensures.value c.turn_all.ensures.count c.turn_all.ensures.odd c.loop-k.invariant

pub returns-clause-value : goal.returns-clause-value
returns-clause-value c =
    let all : drop c.loop-k.k-index c.args.polygons.now ≡ [] = drop_all c.loop-k.k-index c.args.polygons.now (omega arith) in
    turned-all c.args.map.now c.args.polygons.now c.loop-k.marks.items c.clear_edgeless.new.marks.items
    (subst (λ left. AreTurned c.args.map.now c.args.polygons.now left c.loop-k.marks.items) all c.loop-k.invariant)
    c.clear_edgeless.ensures.count c.clear_edgeless.ensures.left
