-- The rest of an arc is an arc, and the further run of the two frames is the next one.
use Rattle.monotone_split.proofs.NextRun.{arc_from, plain_next, turned_next}
use Rattle.monotone_split.proofs.cut.next_chain.Goals as goal

pub furthest_run-plain-requires-clause-arc : goal.furthest_run-plain-requires-clause-arc
furthest_run-plain-requires-clause-arc c = arc_from c.args.arc.now c.args.«from» c.requires.edge c.requires.arc

pub furthest_run-turned-requires-clause-arc : goal.furthest_run-turned-requires-clause-arc
furthest_run-turned-requires-clause-arc c = arc_from c.args.arc.now c.args.«from» c.requires.edge c.requires.arc

pub returns-then-turned-plain : goal.returns-then-turned-plain
returns-then-turned-plain c = turned_next c.args.number c.args.arc.now c.args.«from» c.furthest_run-plain.result
    c.furthest_run-turned.result c.furthest_run-plain.ensures c.furthest_run-turned.ensures c.if-turned-plain.true

pub returns-else-turned-plain : goal.returns-else-turned-plain
returns-else-turned-plain c = plain_next c.args.number c.args.arc.now c.args.«from» c.furthest_run-plain.result c.furthest_run-turned.result
    c.furthest_run-plain.ensures c.furthest_run-turned.ensures c.if-turned-plain.false
