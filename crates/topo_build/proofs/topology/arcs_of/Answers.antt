use Rattle.std.proofs.Common.{◌≡◌, ◌∙◌, ◌+◌, ◌^◌, ◌≤◌, [], ◌∷◌, ◌++◌, length, subst, arith, rules}
use Rattle.topo_build.specs.Built.{IsRingBuilt}
use Rattle.topo_build.specs.Found.{IsFound, IsRingFound}
use Rattle.topo_build.specs.Passages.{IsMarked}
use Rattle.topo_build.specs.Table.{arcs_in}
use Rattle.topo_build.proofs.Building.{built-step, few-step}
use Rattle.topo_build.proofs.topology.arcs_of.Goals as goal

pub loop-ring-preserved : goal.loop-ring-preserved
loop-ring-preserved c =
    let rings = c.args.rings.now in
    let i = c.loop-ring.ring-index in
    let x = c.ring-item.result in
    let M = IsMarked c.args.junctions.now in
    let mid = arcs_in c.loop-ring.arcs in
    let next = arcs_in c.ring_references.new.arcs in
    let r = c.in_ok-ring_references.field-0 in
    let inside = c.loop-ring-test.true in
    let same = c.as_slice.ensures.value in
    let more : length next ≤ length mid + length x.items = subst (λ ps. length next ≤ length mid + length ps) same
    c.in_ok-ring_references.ensures.few in
    let one : IsRingBuilt IsFound IsRingFound M x.items mid r.items next =
    subst (λ ps. IsRingBuilt IsFound IsRingFound M ps mid r.items next) same c.in_ok-ring_references.ensures.built in
    record {
      table = c.in_ok-ring_references.ensures.table;
      few = few-step (λ ring. length ring.items) rings i (length mid) (length next) (2 ^ 20) x inside c.ring-item.is
          c.loop-ring.invariant.few more;
      built = built-step (λ ring. ring.items) (λ refs. refs.items) M rings i x c.loop-ring.refs.items c.push.new.self.items r mid next
          inside c.ring-item.is c.in_ok-push.ensures.items c.loop-ring.invariant.built one;
    }
