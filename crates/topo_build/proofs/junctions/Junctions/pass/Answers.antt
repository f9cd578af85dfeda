use Rattle.std.proofs.Common.{◌≡◌, ◌∙◌, ◌++◌, ◌<◌, ◌≤◌, ap, ap₂, length, take, rules}
use Rattle.topo_build.specs.Junctions.{turns_along}
use Rattle.topo_build.proofs.Building.{front-two}
use Rattle.topo_build.proofs.Passes.{passed-all, passed-more, passed-none, rings-upto}
use Rattle.topo_build.proofs.junctions.Junctions.pass.Goals as goal

pub loop-k-init : goal.loop-k-init
loop-k-init c = λ turns below told. passed-none c.args.number turns c.extend_from_slice.new.self.items c.args.self.now told

pub loop-k-preserved : goal.loop-k-preserved
loop-k-preserved c = λ turns below told.
    let walk = c.extend_from_slice.new.self.items in
    let k = c.loop-k.k in
    let n = c.args.number in
    let inside : k < length walk = search rules in
    passed-more n turns walk k c.index.result.now c.index-in-loop-k.result.now c.index-in-loop-k-2.result.now c.note.new.self
    c.loop-k.auto.k inside c.index.ensures c.index-in-loop-k.ensures c.index-in-loop-k-2.ensures
    (c.in_ok-note.ensures (turns ++ turns_along n (take k walk)) (rings-upto n turns (take k walk) below)
    (c.loop-k.invariant turns below told))

pub returns : goal.returns
returns c = λ turns below told.
    let walk = c.extend_from_slice.new.self.items in
    let ring = c.args.ring.now in
    let past : length walk ≤ c.loop-k.k = search rules in
    let read : c.in_ok-walk.walk.items ≡ ring = search rules in
    let added : walk ≡ c.in_ok-walk.walk.items ++ take c.min.result ring = search rules in
    passed-all c.args.number turns walk ring c.loop-k.k c.loop-k.self past (added
    ∙ ap₂ (λ xs ys. xs ++ ys) read (front-two ring c.min.result c.min.ensures)) (c.loop-k.invariant turns below told)
