-- One block more.
use Rattle.std.proofs.Common.{◌∙◌, arith, rules}
use Rattle.side_wedge.proofs.Gathering.{all_taken, none_taken}
use Rattle.side_wedge.proofs.gather.take_blocks.Goals as goal

pub loop-start-init : goal.loop-start-init
loop-start-init c =
    let s = c.args.subject.now in
    record {
      within = omega (arith, c.requires.several);
      some_edges = c.requires.size;
      some_parts = omega arith;
      few_parts = omega arith;
      taken = none_taken s.direction.frame s.direction.rising s.chain.now s.number s.steps c.args.map.now c.clear.new.self.items
          (search rules);
      count = search rules;
      capacity = search rules;
    }

pub loop-start-preserved : goal.loop-start-preserved
loop-start-preserved c = record {
  within = c.end_of-end.ensures.within;
  some_edges = c.edges_of-edges.ensures;
  some_parts = c.next_parts-parts.ensures.some;
  few_parts = c.next_parts-parts.ensures.few;
  taken = c.take_next.ensures.strays c.if-not-take_next.false c.loop-start.invariant.taken;
  count = c.take_next.ensures.count;
  capacity = c.take_next.ensures.capacity ∙ c.loop-start.invariant.capacity;
}

pub returns-clause-strays : goal.returns-clause-strays
returns-clause-strays c t =
    let s = c.args.subject.now in
    all_taken s.direction.frame s.direction.rising s.chain.now s.number s.steps c.args.map.now c.loop-start.start c.loop-start.strays.items
    (omega (arith, c.loop-start-test.false)) c.loop-start.invariant.taken

pub next_parts-parts-requires-clause-some : goal.next_parts-parts-requires-clause-some
next_parts-parts-requires-clause-some c = c.loop-start.invariant.some_parts

pub next_parts-parts-requires-clause-few : goal.next_parts-parts-requires-clause-few
next_parts-parts-requires-clause-few c = c.loop-start.invariant.few_parts
