use Rattle.std.proofs.lemmas.Bool.{iff_false}
use Rattle.std.proofs.lemmas.List.Elements.{All-rest}
use Rattle.sweep_index.specs.EdgeIndex.{towns_of}
use Rattle.sweep_index.specs.EdgeWalks.{towns_left}
use Rattle.sweep_index.specs.Pairs.{IsTownOf}
use Rattle.arrangement_check.proofs.Given.{first_of}
use Rattle.arrangement_check.proofs.LeastSoFar.{least_point_is, no_point_is, town_found, town_passed}
use Rattle.arrangement_check.proofs.meeting.least_town.Goals as goal

pub lies_below-requires-clause-point : goal.lies_below-requires-clause-point
lies_below-requires-clause-point c = (first_of (IsTownOf c.args.map.now) (c.in-Some.town, c.in-Some.e) (towns_left c.next.new.self)
    (towns_left c.loop-town.towns) c.in-Some.ensures.steps c.loop-town.invariant.left).point

pub lies_below-requires-clause-edge : goal.lies_below-requires-clause-edge
lies_below-requires-clause-edge c = (first_of (IsTownOf c.args.map.now) (c.in-Some.town, c.in-Some.e) (towns_left c.next.new.self)
    (towns_left c.loop-town.towns) c.in-Some.ensures.steps c.loop-town.invariant.left).edge

pub loop-town-preserved-then-lies_below : goal.loop-town-preserved-then-lies_below
loop-town-preserved-then-lies_below c =
    let says = c.lies_below.ensures.0 c.if-lies_below.true in
    record {
      left = All-rest (IsTownOf c.args.map.now) (c.in-Some.town, c.in-Some.e) (towns_left c.next.new.self) (towns_left c.loop-town.towns)
          c.in-Some.ensures.steps c.loop-town.invariant.left;
      found = (
        first_of (IsTownOf c.args.map.now) (c.in-Some.town, c.in-Some.e) (towns_left c.next.new.self) (towns_left c.loop-town.towns)
            c.in-Some.ensures.steps c.loop-town.invariant.left,
        says.1,
      );
      walked = town_found c.args.map.now (c.in-Some.town, c.in-Some.e) c.loop-town.least (towns_of c.args.index.now)
          (towns_left c.loop-town.towns) (towns_left c.next.new.self) c.in-Some.ensures.steps says.0 c.loop-town.invariant.walked;
    }

pub loop-town-preserved : goal.loop-town-preserved
loop-town-preserved c = record {
  left = All-rest (IsTownOf c.args.map.now) (c.in-Some.town, c.in-Some.e) (towns_left c.next.new.self) (towns_left c.loop-town.towns)
      c.in-Some.ensures.steps c.loop-town.invariant.left;
  found = c.loop-town.invariant.found;
  walked = town_passed c.args.map.now (c.in-Some.town, c.in-Some.e) c.loop-town.least (towns_of c.args.index.now)
      (towns_left c.loop-town.towns) (towns_left c.next.new.self) c.in-Some.ensures.steps
      (iff_false c.lies_below.ensures c.if-lies_below.false) c.loop-town.invariant.walked;
}

pub returns-clause-least : goal.returns-clause-least
returns-clause-least c = least_point_is c.args.map.now c.loop-town.least (towns_of c.args.index.now) (towns_left c.loop-town.towns)
    c.requires.no_clash c.requires.index.towns c.in_default.ensures.steps.0 c.loop-town.invariant.found c.loop-town.invariant.walked

pub returns-clause-none : goal.returns-clause-none
returns-clause-none c = no_point_is c.args.map.now c.loop-town.least (towns_of c.args.index.now) (towns_left c.loop-town.towns)
    c.requires.index.towns c.in_default.ensures.steps.0 c.loop-town.invariant.walked
