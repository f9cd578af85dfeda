use Rattle.std.proofs.Common.{◌≡◌, ◌-◌, ◌+◌, ◌<◌, length, arith, refl, rules}
use Rattle.dissolve.proofs.Listing.{listed-none, listed-more, listed-all}
use Rattle.dissolve.proofs.unused.Unused.build.Goals as goal

pub loop-arc-init : goal.loop-arc-init
loop-arc-init c = record {
  within = omega arith;
  listed = listed-none c.args.map.now c.args.marks.items c.arc_count-arc.result _ refl (omega (arith, c.requires)) (search rules)
      c.new-2.ensures.items;
}

pub loop-arc-preserved : goal.loop-arc-preserved
loop-arc-preserved c =
    let within : c.loop-arc.arc - 1 < length c.args.map.now.arcs = omega arith in
    let next : c.loop-arc.arc ≡ c.loop-arc.arc - 1 + 1 = omega arith in
    record {
      within = omega arith;
      listed = listed-more c.args.map.now c.args.marks.items c.loop-arc.arc (c.loop-arc.arc - 1) c.loop-arc.unused c.add_ends.new.self next
          within c.in_ok-add_ends.ensures.added c.loop-arc.invariant.listed;
    }

pub returns-clause-unused : goal.returns-clause-unused
returns-clause-unused c = listed-all c.args.map.now c.args.marks.items c.loop-arc.arc c.loop-arc.unused (omega arith) c.requires
    c.loop-arc.invariant.listed
