-- The arc that is taken is the next one.
use Rattle.std.proofs.Common.{◌<◌, All, sym, subst}
use Rattle.dissolve.proofs.Balancing.{told-apart, told-same}
use Rattle.dissolve.proofs.Staging.{next-step}
use Rattle.dissolve.proofs.Taken.{taken-known, taken-least, taken-left, taken-unused, none-left}
use Rattle.dissolve.specs.Border.{first_of}
use Rattle.dissolve.specs.Unused.{arcs_at}
use Rattle.dissolve.proofs.unused.Unused.next.Goals as goal

pub take_at-requires-clause-known : goal.take_at-requires-clause-known
take_at-requires-clause-known c = λ p. subst (λ n. All (λ k. k < n) (arcs_at c.args.self.now p)) (sym c.requires.count)
    (c.requires.each p).known

pub begins_at-requires : goal.begins_at-requires
begins_at-requires c = taken-known c.args.map.now c.args.self.now c.take_at.new.self c.args.at c.in-Some.arc c.requires c.in-Some.ensures

pub returns-in-Some-clause-next : goal.returns-in-Some-clause-next
returns-in-Some-clause-next c =
    let first = first_of c.args.map.now c.in-Some.arc in
    next-step c.args.map.now _ c.args.at (record { arc = c.in-Some.arc; forwards = c.begins_at.result })
    (taken-least c.args.map.now c.args.self.now c.take_at.new.self c.args.at c.in-Some.arc c.requires c.in-Some.ensures)
    (told-same first c.args.at c.begins_at.result c.begins_at.ensures)
    (told-apart first c.args.at c.begins_at.result c.begins_at.ensures)

pub returns-in-Some-clause-known : goal.returns-in-Some-clause-known
returns-in-Some-clause-known c = taken-known c.args.map.now c.args.self.now c.take_at.new.self c.args.at c.in-Some.arc c.requires
    c.in-Some.ensures

pub returns-in-Some-clause-unused : goal.returns-in-Some-clause-unused
returns-in-Some-clause-unused c = taken-unused c.args.map.now c.args.self.now c.take_at.new.self c.args.at c.in-Some.arc c.requires
    c.in-Some.ensures

pub returns-in-Some-clause-left : goal.returns-in-Some-clause-left
returns-in-Some-clause-left c = taken-left c.args.self.now c.take_at.new.self c.args.at c.in-Some.arc c.in-Some.ensures

pub returns-in-None-clause-next : goal.returns-in-None-clause-next
returns-in-None-clause-next c = none-left c.args.map.now c.args.self.now c.args.at c.requires c.in-None.ensures
