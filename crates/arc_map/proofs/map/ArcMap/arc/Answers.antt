-- What holds of each arc holds of this one.
use Rattle.std.proofs.Common.{◌<◌, length, arith, subst, sym}
use Rattle.arc_map.specs.Map.{IsArc, Map}
use Rattle.arc_map.proofs.Elements.{of_mapped, mapped_within_sum}
use Rattle.arc_map.proofs.map.ArcMap.arc.Goals as goal

pub returns-clause-is_arc : goal.returns-clause-is_arc
returns-clause-is_arc c =
    let here = subst (λ (m : Map). c.args.k < length m.arcs) (sym c.self.view_is) c.requires in
    rw c.as_slice.ensures.value (of_mapped IsArc (λ arc. arc.items) c.self.inside.arcs.items c.args.k c.index.result.now here
    c.index.ensures c.self.invariant.arcs)

pub returns-clause-short : goal.returns-clause-short
returns-clause-short c =
    let here = subst (λ (m : Map). c.args.k < length m.arcs) (sym c.self.view_is) c.requires in
    let within = mapped_within_sum length (λ arc. arc.items) c.self.inside.arcs.items c.args.k c.index.result.now here c.index.ensures in
    rw c.as_slice.ensures.value (omega (arith, within, c.self.invariant.few_positions))
