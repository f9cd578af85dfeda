use Rattle.std.proofs.Common.{arith}
use Rattle.std.proofs.lemmas.Bool.{iff_false}
use Rattle.std.proofs.lemmas.List.Elements.{All-rest}
use Rattle.arc_map.specs.Arranged.{EdgesClash}
use Rattle.sweep_index.specs.EdgeIndex.{pairs_of}
use Rattle.sweep_index.specs.EdgeWalks.{pairs_left}
use Rattle.sweep_index.specs.Pairs.{IsPairOf}
use Rattle.arrangement_check.proofs.Given.{first_of}
use Rattle.arrangement_check.proofs.Marking.{ArePairMarked, pair_held, pair_marked, pairs_marked}
use Rattle.arrangement_check.proofs.Positions.{arc_in}
use Rattle.arrangement_check.proofs.Walking.{walk_step}
use Rattle.arrangement_check.proofs.partly.mark_clashes.Goals as goal

pub edges_clash-requires-clause-first : goal.edges_clash-requires-clause-first
edges_clash-requires-clause-first c = (first_of (IsPairOf c.args.map.now) (c.in-Some.e, c.in-Some.f) (pairs_left c.next.new.self)
    (pairs_left c.loop-e.pairs) c.in-Some.ensures.steps c.loop-e.invariant.left).first

pub edges_clash-requires-clause-second : goal.edges_clash-requires-clause-second
edges_clash-requires-clause-second c = (first_of (IsPairOf c.args.map.now) (c.in-Some.e, c.in-Some.f) (pairs_left c.next.new.self)
    (pairs_left c.loop-e.pairs) c.in-Some.ensures.steps c.loop-e.invariant.left).second

pub mark-requires : goal.mark-requires
mark-requires c =
    let within = arc_in c.args.map.now c.in-Some.e (first_of (IsPairOf c.args.map.now) (c.in-Some.e, c.in-Some.f)
    (pairs_left c.next.new.self) (pairs_left c.loop-e.pairs) c.in-Some.ensures.steps c.loop-e.invariant.left).first in
    omega (arith, within, c.loop-e.invariant.long)

pub mark-requires-then-edges_clash : goal.mark-requires-then-edges_clash
mark-requires-then-edges_clash c =
    let within = arc_in c.args.map.now c.in-Some.f (first_of (IsPairOf c.args.map.now) (c.in-Some.e, c.in-Some.f)
    (pairs_left c.next.new.self) (pairs_left c.loop-e.pairs) c.in-Some.ensures.steps c.loop-e.invariant.left).second in
    omega (arith, within, c.loop-e.invariant.long, c.mark.ensures.long)

pub loop-e-preserved-then-edges_clash : goal.loop-e-preserved-then-edges_clash
loop-e-preserved-then-edges_clash c =
    let pair = first_of (IsPairOf c.args.map.now) (c.in-Some.e, c.in-Some.f) (pairs_left c.next.new.self) (pairs_left c.loop-e.pairs)
    c.in-Some.ensures.steps c.loop-e.invariant.left in
    let first_in = arc_in c.args.map.now c.in-Some.e pair.first in
    let second_in = arc_in c.args.map.now c.in-Some.f pair.second in
    record {
      left = All-rest (IsPairOf c.args.map.now) (c.in-Some.e, c.in-Some.f) (pairs_left c.next.new.self) (pairs_left c.loop-e.pairs)
          c.in-Some.ensures.steps c.loop-e.invariant.left;
      long = omega (arith, c.loop-e.invariant.long, c.mark.ensures.long, c.mark-then-edges_clash.ensures.long);
      only = pair_held c.args.map.now c.in-Some.e c.in-Some.f c.loop-e.marks c.mark.new.marks c.mark-then-edges_clash.new.marks pair
          (c.edges_clash.ensures.0 c.if-edges_clash.true) c.mark.ensures.marked c.mark-then-edges_clash.ensures.marked
          c.loop-e.invariant.only;
      walked = pair_marked (λ p. EdgesClash c.args.map.now p.0 p.1) c.in-Some.e c.in-Some.f c.loop-e.marks c.mark.new.marks
          c.mark-then-edges_clash.new.marks (pairs_of c.args.index.now) (pairs_left c.loop-e.pairs) (pairs_left c.next.new.self)
          c.in-Some.ensures.steps (omega (arith, first_in, c.loop-e.invariant.long))
          (omega (arith, second_in, c.loop-e.invariant.long, c.mark.ensures.long)) c.mark.ensures.marked
          c.mark-then-edges_clash.ensures.marked c.loop-e.invariant.walked;
    }

pub loop-e-preserved : goal.loop-e-preserved
loop-e-preserved c = record {
  left = All-rest (IsPairOf c.args.map.now) (c.in-Some.e, c.in-Some.f) (pairs_left c.next.new.self) (pairs_left c.loop-e.pairs)
      c.in-Some.ensures.steps c.loop-e.invariant.left;
  long = c.loop-e.invariant.long;
  only = c.loop-e.invariant.only;
  walked = walk_step (λ p. EdgesClash c.args.map.now p.0 p.1) (ArePairMarked c.loop-e.marks) (ArePairMarked c.loop-e.marks)
      (pairs_of c.args.index.now) (pairs_left c.loop-e.pairs) (pairs_left c.next.new.self) (c.in-Some.e, c.in-Some.f)
      c.in-Some.ensures.steps c.loop-e.invariant.walked (λ clash. absurd (iff_false c.edges_clash.ensures c.if-edges_clash.false clash))
      (λ _ done. done);
}

pub returns-clause-clashes : goal.returns-clause-clashes
returns-clause-clashes c = pairs_marked c.args.map.now c.loop-e.marks (pairs_of c.args.index.now) (pairs_left c.loop-e.pairs)
    c.requires.index.pairs c.in_default.ensures.steps.0 c.loop-e.invariant.walked
