use Rattle.std.proofs.lemmas.Bool.{iff_false}
use Rattle.std.proofs.lemmas.List.Elements.{All-rest}
use Rattle.sweep_index.specs.EdgeIndex.{pairs_of}
use Rattle.sweep_index.specs.EdgeWalks.{pairs_left}
use Rattle.sweep_index.specs.Pairs.{IsPairOf}
use Rattle.arrangement_check.proofs.Given.{first_of}
use Rattle.arrangement_check.proofs.LeastSoFar.{DoClash}
use Rattle.arrangement_check.proofs.Lesser.{earlier_says}
use Rattle.arrangement_check.proofs.Walking.{walk_start, walk_step}
use Rattle.plane_sweep.proofs.Answering.{none_clash}
use Rattle.plane_sweep.proofs.clashes.first_clash.Goals as goal

pub loop-e-init : goal.loop-e-init
loop-e-init c = record {
  left = rw c.pairs-pairs.ensures c.requires.pairs.only;
  walked = walk_start (DoClash c.args.map.now) (λ pair. ⊥) (pairs_of c.args.index.now) (pairs_left c.pairs-pairs.result)
      c.pairs-pairs.ensures;
}

pub edges_clash-requires-clause-first : goal.edges_clash-requires-clause-first
edges_clash-requires-clause-first c = (first_of (IsPairOf c.args.map.now) (c.in-Some.e, c.in-Some.f) (pairs_left c.next.new.self)
    (pairs_left c.loop-e.pairs) c.in-Some.ensures.steps c.loop-e.invariant.left).first

pub edges_clash-requires-clause-second : goal.edges_clash-requires-clause-second
edges_clash-requires-clause-second c = (first_of (IsPairOf c.args.map.now) (c.in-Some.e, c.in-Some.f) (pairs_left c.next.new.self)
    (pairs_left c.loop-e.pairs) c.in-Some.ensures.steps c.loop-e.invariant.left).second

pub loop-e-preserved : goal.loop-e-preserved
loop-e-preserved c = record {
  left = All-rest (IsPairOf c.args.map.now) (c.in-Some.e, c.in-Some.f) (pairs_left c.next.new.self) (pairs_left c.loop-e.pairs)
      c.in-Some.ensures.steps c.loop-e.invariant.left;
  walked = walk_step (DoClash c.args.map.now) (λ pair. ⊥) (λ pair. ⊥) (pairs_of c.args.index.now) (pairs_left c.loop-e.pairs)
      (pairs_left c.next.new.self) (c.in-Some.e, c.in-Some.f) c.in-Some.ensures.steps c.loop-e.invariant.walked
      (iff_false c.edges_clash.ensures c.if-edges_clash.false) (λ y none. none);
}

pub returns-then-edges_clash-clause-clash : goal.returns-then-edges_clash-clause-clash
returns-then-edges_clash-clause-clash c =
    let pair = first_of (IsPairOf c.args.map.now) (c.in-Some.e, c.in-Some.f) (pairs_left c.next.new.self) (pairs_left c.loop-e.pairs)
    c.in-Some.ensures.steps c.loop-e.invariant.left in
    record {
      first = pair.first;
      second = pair.second;
      ordered = earlier_says c.in-Some.e c.in-Some.f pair.rising;
      clash =
          c.edges_clash.ensures.0 c.if-edges_clash.true;
    }

pub returns-clause-none : goal.returns-clause-none
returns-clause-none c = none_clash c.args.map.now (pairs_of c.args.index.now) (pairs_left c.loop-e.pairs) c.requires.pairs
    c.in_default.ensures.steps.0 c.loop-e.invariant.walked
