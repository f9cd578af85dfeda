use Rattle.std.proofs.lemmas.Bool.{iff_false}
use Rattle.std.proofs.lemmas.List.Elements.{All-rest}
use Rattle.sweep_index.specs.EdgeIndex.{pairs_of}
use Rattle.sweep_index.specs.EdgeWalks.{pairs_left}
use Rattle.sweep_index.specs.Pairs.{IsPairOf}
use Rattle.arrangement_check.proofs.Given.{first_of}
use Rattle.arrangement_check.proofs.LeastSoFar.{least_clash_is, no_clash_is, pair_found, pair_passed}
use Rattle.arrangement_check.proofs.meeting.least_clash.Goals as goal

pub clashes_below-requires-clause-first : goal.clashes_below-requires-clause-first
clashes_below-requires-clause-first c = (first_of (IsPairOf c.args.map.now) (c.in-Some.e, c.in-Some.f) (pairs_left c.next.new.self)
    (pairs_left c.loop-e.pairs) c.in-Some.ensures.steps c.loop-e.invariant.left).first

pub clashes_below-requires-clause-second : goal.clashes_below-requires-clause-second
clashes_below-requires-clause-second c = (first_of (IsPairOf c.args.map.now) (c.in-Some.e, c.in-Some.f) (pairs_left c.next.new.self)
    (pairs_left c.loop-e.pairs) c.in-Some.ensures.steps c.loop-e.invariant.left).second

pub loop-e-preserved-then-clashes_below : goal.loop-e-preserved-then-clashes_below
loop-e-preserved-then-clashes_below c =
    let says = c.clashes_below.ensures.0 c.if-clashes_below.true in
    record {
      left = All-rest (IsPairOf c.args.map.now) (c.in-Some.e, c.in-Some.f) (pairs_left c.next.new.self) (pairs_left c.loop-e.pairs)
          c.in-Some.ensures.steps c.loop-e.invariant.left;
      found = (
        first_of (IsPairOf c.args.map.now) (c.in-Some.e, c.in-Some.f) (pairs_left c.next.new.self) (pairs_left c.loop-e.pairs)
            c.in-Some.ensures.steps c.loop-e.invariant.left,
        says.1,
      );
      walked = pair_found c.args.map.now (c.in-Some.e, c.in-Some.f) c.loop-e.least (pairs_of c.args.index.now) (pairs_left c.loop-e.pairs)
          (pairs_left c.next.new.self) c.in-Some.ensures.steps says.0 c.loop-e.invariant.walked;
    }

pub loop-e-preserved : goal.loop-e-preserved
loop-e-preserved c = record {
  left = All-rest (IsPairOf c.args.map.now) (c.in-Some.e, c.in-Some.f) (pairs_left c.next.new.self) (pairs_left c.loop-e.pairs)
      c.in-Some.ensures.steps c.loop-e.invariant.left;
  found = c.loop-e.invariant.found;
  walked = pair_passed c.args.map.now (c.in-Some.e, c.in-Some.f) c.loop-e.least (pairs_of c.args.index.now) (pairs_left c.loop-e.pairs)
      (pairs_left c.next.new.self) c.in-Some.ensures.steps (iff_false c.clashes_below.ensures c.if-clashes_below.false)
      c.loop-e.invariant.walked;
}

pub returns-clause-least : goal.returns-clause-least
returns-clause-least c = least_clash_is c.args.map.now c.loop-e.least (pairs_of c.args.index.now) (pairs_left c.loop-e.pairs)
    c.requires.pairs c.in_default.ensures.steps.0 c.loop-e.invariant.found c.loop-e.invariant.walked

pub returns-clause-none : goal.returns-clause-none
returns-clause-none c = no_clash_is c.args.map.now c.loop-e.least (pairs_of c.args.index.now) (pairs_left c.loop-e.pairs) c.requires.pairs
    c.in_default.ensures.steps.0 c.loop-e.invariant.walked
