use Rattle.std.proofs.Common.{◌<◌, length, arith}
use Rattle.std.proofs.lemmas.Bool.{iff_false}
use Rattle.std.proofs.lemmas.List.Elements.{All-rest}
use Rattle.arc_map.specs.Arranged.{PointIsOn}
use Rattle.sweep_index.specs.EdgeIndex.{towns_of}
use Rattle.sweep_index.specs.EdgeWalks.{towns_left}
use Rattle.sweep_index.specs.Pairs.{IsTownOf}
use Rattle.arrangement_check.proofs.Given.{first_of}
use Rattle.arrangement_check.proofs.Marking.{IsTownMarked, town_clashes, town_held, town_marked, towns_marked}
use Rattle.arrangement_check.proofs.Positions.{arc_in}
use Rattle.arrangement_check.proofs.Walking.{walk_step}
use Rattle.arrangement_check.proofs.partly.mark_towns.Goals as goal

pub town_is_on-requires-clause-point : goal.town_is_on-requires-clause-point
town_is_on-requires-clause-point c = (first_of (IsTownOf c.args.map.now) (c.in-Some.town, c.in-Some.e) (towns_left c.next.new.self)
    (towns_left c.loop-town.towns) c.in-Some.ensures.steps c.loop-town.invariant.left).point

pub town_is_on-requires-clause-edge : goal.town_is_on-requires-clause-edge
town_is_on-requires-clause-edge c = (first_of (IsTownOf c.args.map.now) (c.in-Some.town, c.in-Some.e) (towns_left c.next.new.self)
    (towns_left c.loop-town.towns) c.in-Some.ensures.steps c.loop-town.invariant.left).edge

pub mark-requires : goal.mark-requires
mark-requires c =
    let within = arc_in c.args.map.now c.in-Some.e (first_of (IsTownOf c.args.map.now) (c.in-Some.town, c.in-Some.e)
    (towns_left c.next.new.self) (towns_left c.loop-town.towns) c.in-Some.ensures.steps c.loop-town.invariant.left).edge in
    omega (arith, within, c.loop-town.invariant.long)

pub loop-town-preserved-then-town_is_on : goal.loop-town-preserved-then-town_is_on
loop-town-preserved-then-town_is_on c =
    let town = first_of (IsTownOf c.args.map.now) (c.in-Some.town, c.in-Some.e) (towns_left c.next.new.self) (towns_left c.loop-town.towns)
    c.in-Some.ensures.steps c.loop-town.invariant.left in
    let arc_within = arc_in c.args.map.now c.in-Some.e town.edge in
    let within : c.in-Some.e.arc < length c.loop-town.marks = omega (arith, arc_within, c.loop-town.invariant.long) in
    record {
      left = All-rest (IsTownOf c.args.map.now) (c.in-Some.town, c.in-Some.e) (towns_left c.next.new.self) (towns_left c.loop-town.towns)
          c.in-Some.ensures.steps c.loop-town.invariant.left;
      long = omega (arith, c.loop-town.invariant.long, c.mark.ensures.long);
      only = town_held c.args.map.now c.in-Some.town c.in-Some.e c.loop-town.marks c.mark.new.marks town
          (c.town_is_on.ensures.0 c.if-town_is_on.true) c.mark.ensures.marked c.loop-town.invariant.only;
      clashes = town_clashes c.args.map.now c.in-Some.e.arc c.loop-town.marks c.mark.new.marks within c.mark.ensures.marked
          c.loop-town.invariant.clashes;
      walked = town_marked (λ t. PointIsOn c.args.map.now t.0 t.1) c.in-Some.town c.in-Some.e c.loop-town.marks c.mark.new.marks
          (towns_of c.args.index.now) (towns_left c.loop-town.towns) (towns_left c.next.new.self) c.in-Some.ensures.steps within
          c.mark.ensures.marked c.loop-town.invariant.walked;
    }

pub loop-town-preserved : goal.loop-town-preserved
loop-town-preserved c = record {
  left = All-rest (IsTownOf c.args.map.now) (c.in-Some.town, c.in-Some.e) (towns_left c.next.new.self) (towns_left c.loop-town.towns)
      c.in-Some.ensures.steps c.loop-town.invariant.left;
  long = c.loop-town.invariant.long;
  only = c.loop-town.invariant.only;
  clashes = c.loop-town.invariant.clashes;
  walked = walk_step (λ t. PointIsOn c.args.map.now t.0 t.1) (IsTownMarked c.loop-town.marks) (IsTownMarked c.loop-town.marks)
      (towns_of c.args.index.now) (towns_left c.loop-town.towns) (towns_left c.next.new.self) (c.in-Some.town, c.in-Some.e)
      c.in-Some.ensures.steps c.loop-town.invariant.walked (λ on. absurd (iff_false c.town_is_on.ensures c.if-town_is_on.false on))
      (λ _ done. done);
}

pub returns-clause-exact : goal.returns-clause-exact
returns-clause-exact c = towns_marked c.args.map.now c.loop-town.marks (towns_of c.args.index.now) (towns_left c.loop-town.towns)
    c.requires.index.towns c.in_default.ensures.steps.0 c.loop-town.invariant.only c.loop-town.invariant.clashes
    c.loop-town.invariant.walked
