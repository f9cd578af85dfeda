-- One part more.
use Rattle.std.proofs.Common.{◌≡◌, ◌∙◌, ℕ, refl, subst, arith}
use Rattle.side_wedge.specs.Gathered.{AreStraysInParts}
use Rattle.side_wedge.proofs.Gathering.{no_parts_taken, parts_taken}
use Rattle.side_wedge.proofs.gather.take_parts.Goals as goal

pub loop-part-init : goal.loop-part-init
loop-part-init c =
    let s = c.args.subject.now in
    record {
      taken = no_parts_taken s.direction.frame s.direction.rising s.chain.now s.number s.steps c.args.map.now c.args.start c.args.parts
          c.args.strays.now.items;
      within = omega arith;
      count = c.requires.count;
      capacity = refl;
    }

pub loop-part-preserved : goal.loop-part-preserved
loop-part-preserved c = record {
  taken = λ to. c.take_part.ensures.strays c.if-not-take_part.false (c.loop-part.invariant.taken to);
  within = omega arith;
  count = c.take_part.ensures.count;
  capacity = c.take_part.ensures.capacity ∙ c.loop-part.invariant.capacity;
}

pub returns-clause-strays : goal.returns-clause-strays
returns-clause-strays c t to =
    let s = c.args.subject.now in
    let all : c.loop-part.part ≡ c.args.parts = omega (arith, c.loop-part.invariant.within) in
    parts_taken s.direction.frame s.direction.rising s.chain.now s.number s.steps c.args.map.now c.args.start c.args.end c.args.parts
    c.loop-part.strays.items c.requires.some c.requires.next
    (subst (λ (n : ℕ). AreStraysInParts s.direction.frame s.direction.rising s.chain.now s.number s.steps c.args.map.now c.args.start
    c.args.parts n c.loop-part.strays.items) all (c.loop-part.invariant.taken to))
