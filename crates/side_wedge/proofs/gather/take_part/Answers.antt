-- What is found in the box round the part.
use Rattle.std.proofs.Common.{◌≡◌, ◌∙◌, ◌+◌, get_or, ap, sym, arith}
use Rattle.std.proofs.lemmas.List.{get_or_read}
use Rattle.chain_side.specs.Along.{vertex_at}
use Rattle.sweep_index.specs.Walk.{items_left}
use Rattle.side_wedge.proofs.Gathering.{part_taken}
use Rattle.side_wedge.proofs.gather.take_part.Goals as goal

pub returns-clause-strays : goal.returns-clause-strays
returns-clause-strays c t to =
    let s = c.args.subject.now in
    let a : get_or s.chain.now c.args.start c.index-subject-start.result ≡ vertex_at s.chain.now c.args.start =
    sym c.index-subject-start.is ∙ get_or_read s.chain.now c.args.start c.index-subject-start.result
    (omega arith) c.index-subject-start.is _
    in
    let b : get_or s.chain.now c.args.end c.index-subject-end.result ≡ vertex_at s.chain.now (c.args.start + 1) =
    sym c.index-subject-end.is ∙ get_or_read s.chain.now c.args.end c.index-subject-end.result c.requires.within c.index-subject-end.is _
    ∙ ap (vertex_at s.chain.now) c.requires.next in
    part_taken s.direction.frame s.direction.rising s.chain.now s.number s.steps c.args.map.now c.args.whole.now c.part_round-round.result
    c.args.start c.args.end c.args.parts c.args.part (get_or s.chain.now c.args.start c.index-subject-start.result)
    (get_or s.chain.now c.args.end c.index-subject-end.result) (items_left c.in_box.result)
    c.args.strays.now.items c.collect.new.strays.items c.in_box.ensures c.part_round-round.ensures a b c.requires.next c.requires.round
    c.requires.within (c.collect.ensures.strays t) to
