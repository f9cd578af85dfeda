-- The box has room for one place more.
use Rattle.std.proofs.Common.{◌∷◌, List, subst}
use Rattle.std.specs.Prelude.{All}
use Rattle.std.proofs.lemmas.List.{take_all}
use Rattle.grid_exact.specs.Geometry.{Place}
use Rattle.cert_checker.specs.Runs.{IsInBox}
use Rattle.cert_checker.proofs.Boxes.{box_more, box_start}
use Rattle.cert_checker.proofs.extent.Extent.of.Goals as goal

pub loop-p-init : goal.loop-p-init
loop-p-init c = box_start c.args.first c.args.rest.now

pub loop-p-preserved : goal.loop-p-preserved
loop-p-preserved c = box_more c.loop-p.extent.0 c.loop-p.extent.1.0 c.with-extent.result.low c.with-extent.result.high c.args.first
    c.args.rest.now c.loop-p.p-index c.p-item.result c.loop-p-test.true c.p-item.is c.with-extent.ensures.low c.with-extent.ensures.high
    c.with-extent.ensures.new c.loop-p.invariant

pub returns : goal.returns
returns c = subst (λ (ps : List Place). All (IsInBox c.loop-p.extent.0 c.loop-p.extent.1.0) (c.args.first ∷ ps))
    (take_all c.loop-p.p-index c.args.rest.now c.loop-p-test.false) c.loop-p.invariant
