use Rattle.std.proofs.Common.{◌≡◌, ◌∙◌, ◌+◌, [], ◌∷◌, ◌++◌, ap, slice_range, sym, rules}
use Rattle.std.proofs.lemmas.Bool.{false≢true}
use Rattle.topo_build.specs.Passages.{IsMarked}
use Rattle.topo_build.specs.Table.{arcs_in, reference}
use Rattle.topo_build.proofs.Stages.{stage-cut, stage-stays}
use Rattle.topo_build.proofs.cut.cut_at.Goals as goal

pub returns-then-not-has-clause-stage : goal.returns-then-not-has-clause-stage
returns-then-not-has-clause-stage c = λ before stage.
    stage-stays (IsMarked c.args.junctions.now) c.args.walk.now c.args.start c.args.end c.index-walk-end.result before c.args.refs.now.items
    (arcs_in c.args.arcs.now) c.requires.within c.index-walk-end.is
    (λ on. absurd (false≢true (sym c.if-not-has.true ∙ c.has.ensures.1 on))) stage

pub returns-clause-stage : goal.returns-clause-stage
returns-clause-stage c = λ before stage.
    let piece_is : c.in_ok-piece.piece.items ≡ slice_range c.args.walk.now c.args.start (c.args.end + 1) = search rules in
    stage-cut (IsMarked c.args.junctions.now) c.args.walk.now c.args.start c.args.end c.index-walk-end.result c.in_ok-piece.piece.items
    (reference c.in_ok-step.step) before c.args.refs.now.items c.push_reference.new.refs.items (arcs_in c.args.arcs.now)
    (arcs_in c.take.new.self)
    c.requires.within c.index-walk-end.is (c.has.ensures.0 c.if-not-has.false) piece_is c.in_ok-step.ensures.found
    c.in_ok-push_reference.ensures stage
