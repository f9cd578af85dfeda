use Rattle.std.proofs.Common.{◌≡◌, ◌∙◌, ◌<◌, [], ◌∷◌, ◌++◌, ℤ, ap, length, subst, rules, arith}
use Rattle.std.specs.Global.{Vec}
use Rattle.topo_build.specs.Built.{IsRingBuilt}
use Rattle.topo_build.specs.Built.IsRingBuilt.{Free}
use Rattle.topo_build.specs.Cutting.{IsCut}
use Rattle.topo_build.specs.Cyclic.{closed_from}
use Rattle.topo_build.specs.Found.{IsFound, IsRingFound}
use Rattle.topo_build.specs.Passages.{IsMarked}
use Rattle.topo_build.specs.Table.{arcs_in, reference}
use Rattle.topo_build.proofs.Around.{nowhere}
use Rattle.topo_build.proofs.Building.{built-cut, built-single, if-ok}
use Rattle.topo_build.proofs.cut.ring_references.Goals as goal

pub returns-then-ring-lt2-clause-built : goal.returns-then-ring-lt2-clause-built
returns-then-ring-lt2-clause-built c =
    let ring = c.args.ring.now in
    let arcs = arcs_in c.args.arcs.now in
    let after = arcs_in c.add.new.self in
    let M = IsMarked c.args.junctions.now in
    let read : c.in_ok-to_vec.field-0.items ≡ ring = search rules in
    if-ok c.one.result (λ (refs : Vec ℤ). refs.items ≡ reference c.in_ok-step.step ∷ []) (λ (refs : Vec ℤ).
    IsRingBuilt IsFound IsRingFound M ring arcs refs.items after)
    (λ refs e. built-single M ring arcs refs.items after (reference c.in_ok-step.step) c.requires.some c.if-ring-lt2.true e
    c.in_ok-step.ensures.step (c.in_ok-step.ensures.arcs ∙ ap (λ ps. arcs ++ ps ∷ []) read))
    c.one.ensures

pub returns-in_ok-walk-in-Some-clause-built : goal.returns-in_ok-walk-in-Some-clause-built
returns-in_ok-walk-in-Some-clause-built c =
    let ring = c.args.ring.now in
    let arcs = arcs_in c.args.arcs.now in
    let after = arcs_in c.cut.new.arcs in
    let M = IsMarked c.args.junctions.now in
    let walk = c.as_slice.result.now in
    let first = c.in-Some.ensures in
    let several = c.if-ring-lt2.false in
    let long : 1 < length ring = omega arith in
    if-ok c.cut.result (λ (refs : Vec ℤ). IsCut M walk arcs refs.items after) (λ (refs : Vec ℤ).
    IsRingBuilt IsFound IsRingFound M ring arcs refs.items after)
    (λ refs cut. built-cut M ring walk c.in-Some.at arcs refs.items after long first.inside first.before (first.here nowhere)
    (c.as_slice.ensures.value ∙ c.in_ok-walk-in-Some.ensures) cut)
    c.cut.ensures.pieces

pub returns-in_ok-step-in-None-clause-built : goal.returns-in_ok-step-in-None-clause-built
returns-in_ok-step-in-None-clause-built c =
    let ring = c.args.ring.now in
    let arcs = arcs_in c.args.arcs.now in
    let after = arcs_in c.take.new.self in
    let M = IsMarked c.args.junctions.now in
    let several = c.if-ring-lt2.false in
    let long : 1 < length ring = omega arith in
    let found = subst (λ ps. IsFound ps arcs (reference c.in_ok-step-in-None.step) after) c.in_ok-walk-in-None.ensures
    c.in_ok-step-in-None.ensures.found in
    if-ok c.one-in-None.result (λ (refs : Vec ℤ). refs.items ≡ reference c.in_ok-step-in-None.step ∷ []) (λ (refs : Vec ℤ).
    IsRingBuilt IsFound IsRingFound M ring arcs refs.items after)
    (λ refs e. Free (reference c.in_ok-step-in-None.step) long c.in-None.ensures e found)
    c.one-in-None.ensures
