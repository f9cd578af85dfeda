-- One place more is weighed, and at the end all are.
use Rattle.std.proofs.Common.{◌∙◌, ap, arith, w64, FitsSigned}
use Rattle.std.proofs.lemmas.Int.{ints, to_z-of_z}
use Rattle.std.proofs.lemmas.List.{length-set}
use Rattle.chain_replace.proofs.Weighing.{weighed_more, weighed_all}
use Rattle.chain_replace.proofs.weigh.weigh.Goals as goal

pub loop-k-preserved : goal.loop-k-preserved
loop-k-preserved c =
    let k = c.loop-k.k in
    let xs = c.loop-k.xs.items in
    let ys = c.loop-k.ys.items in
    let x_fits : FitsSigned w64 c.x.result = omega (arith, ints) in
    let y_fits : FitsSigned w64 c.y.result = omega (arith, ints) in
    let across = c.x.ensures.value ∙ ap (λ p. p.x) c.times-weighed.ensures in
    let up = c.y.ensures.value ∙ ap (λ p. p.y) c.times-weighed.ensures in
    rw (to_z-of_z w64 c.x.result x_fits, to_z-of_z w64 c.y.result y_fits)
    (record {
      so_far = weighed_more c.args.weights c.args.places.now xs ys k c.index-places-k.result c.x.result c.y.result (omega arith)
          c.index-places-k.is across up c.x.ensures.on_grid c.y.ensures.on_grid c.loop-k.invariant.so_far;
      across = length-set xs k c.x.result ∙ c.loop-k.invariant.across;
      up = length-set ys k c.y.result ∙ c.loop-k.invariant.up;
    })

pub returns-clause-weighed : goal.returns-clause-weighed
returns-clause-weighed c = weighed_all c.args.weights c.args.places.now c.loop-k.xs.items c.loop-k.ys.items c.loop-k.k (omega arith)
    c.loop-k.invariant.so_far
