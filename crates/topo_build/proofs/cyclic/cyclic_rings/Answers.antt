use Rattle.std.proofs.Common.{◌≡◌, [], ◌∷◌, ◌++◌, rules}
use Rattle.topo_build.proofs.Building.{cyclic-more}
use Rattle.topo_build.proofs.cyclic.cyclic_rings.Goals as goal

pub loop-r-preserved : goal.loop-r-preserved
loop-r-preserved c =
    let items : c.push.new.self.items ≡ c.loop-r.rings.items ++ c.in_ok-cyclic.field-0 ∷ [] = search rules in
    cyclic-more (λ ring. ring.items) c.args.geo.now.rings c.loop-r.r c.ring.result.now c.loop-r.rings.items c.push.new.self.items
    c.in_ok-cyclic.field-0 c.ring.ensures.value c.in_ok-cyclic.ensures items c.loop-r.invariant
