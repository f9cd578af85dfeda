use Rattle.std.proofs.Common.{◌∙◌, sym}
use Rattle.dissolve.specs.Unused.{unused_in}
use Rattle.dissolve.proofs.Marks.{is-marked}
use Rattle.dissolve.proofs.Staging.{stage-ring, stage-skip}
use Rattle.dissolve.proofs.walk.add_ring.Goals as goal

pub ring_from-requires-clause-arc : goal.ring_from-requires-clause-arc
ring_from-requires-clause-arc c = is-marked c.args.unused.now.marks.items c.args.arc (sym c.has.ensures ∙ c.if-has.true)

pub returns-in_ok-push-clause-stage : goal.returns-in_ok-push-clause-stage
returns-in_ok-push-clause-stage c = λ all stage. stage-ring c.args.map.now all (unused_in c.args.unused.now)
    (unused_in c.ring_from.new.unused) c.args.arc c.args.rings.now.items c.push.new.self.items c.in_ok-ring.ring
    (is-marked c.args.unused.now.marks.items c.args.arc (sym c.has.ensures ∙ c.if-has.true)) c.in_ok-push.ensures.items
    c.in_ok-ring.ensures.left c.in_ok-ring.ensures.ring stage

pub returns-else-has-clause-stage : goal.returns-else-has-clause-stage
returns-else-has-clause-stage c = λ all stage. stage-skip c.args.map.now all c.args.unused.now.marks.items c.args.arc c.args.rings.now.items
    (sym c.has.ensures ∙ c.if-has.false) stage
