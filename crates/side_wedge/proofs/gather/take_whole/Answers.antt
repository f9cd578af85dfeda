-- There is room for all that is found in the box round the chain.
use Rattle.std.proofs.Common.{◌≡◌, [], ap, length, arith, rules}
use Rattle.sweep_index.specs.Walk.{items_left}
use Rattle.side_wedge.proofs.Gathering.{whole_taken}
use Rattle.side_wedge.proofs.gather.take_whole.Goals as goal

pub returns-clause-strays : goal.returns-clause-strays
returns-clause-strays c =
    let s = c.args.subject.now in
    let empty : c.clear.new.self.items ≡ [] = search rules in
    let size = ap length empty in
    let all = c.collect-all.ensures.all (omega (arith, c.in_box.ensures.few, c.item_count.ensures, size)) in
    whole_taken s.direction.frame s.direction.rising s.chain.now s.number s.steps c.args.map.now c.args.whole.now
    (items_left c.in_box.result)
    c.clear.new.self.items c.collect-all.new.strays.items c.in_box.ensures c.requires.round empty (c.collect-all.ensures.strays all)
