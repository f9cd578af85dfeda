-- What holds of each polygon holds of this one.
use Rattle.std.proofs.Common.{◌<◌, All, map, length, arith, subst, sym}
use Rattle.arc_map.specs.Map.{Map}
use Rattle.arc_map.proofs.Elements.{of_mapped, mapped_within_sum}
use Rattle.arc_map.proofs.map.ArcMap.polygon.Goals as goal

pub returns-clause-names : goal.returns-clause-names
returns-clause-names c =
    let here = subst (λ (m : Map). c.args.k < length m.polygons) (sym c.self.view_is) c.requires in
    let names = of_mapped (All (λ arc. arc < length (map (λ arc. arc.items) c.self.inside.arcs.items))) (λ polygon. polygon.items)
    c.self.inside.polygons.items c.args.k c.index.result.now here c.index.ensures c.self.invariant.names in
    rw (c.as_slice.ensures.value, ← c.self.view_is) names

pub returns-clause-short : goal.returns-clause-short
returns-clause-short c =
    let here = subst (λ (m : Map). c.args.k < length m.polygons) (sym c.self.view_is) c.requires in
    let within = mapped_within_sum length (λ polygon. polygon.items) c.self.inside.polygons.items c.args.k c.index.result.now here
    c.index.ensures in
    rw c.as_slice.ensures.value (omega (arith, within, c.self.invariant.few_references))
