use Rattle.std.proofs.Common.{◌≡◌, ◌∙◌, ◌+◌, ◌-◌, ◌/◌, ◌++◌, ap, arith}
use Rattle.sweep_index.specs.Gathered.{made_over}
use Rattle.sweep_index.proofs.Gathering.{made_last, made_more, made_none}
use Rattle.sweep_index.proofs.slabs.push_edge.Goals as goal

pub loop-slab-init : goal.loop-slab-init
loop-slab-init c = record {
  so_far = made_none (λ slab. record { slab = slab; west = c.args.west; east = c.args.east; edge = c.args.edge }) c.args.edges.now.items
      (c.args.west / c.args.width);
  within = omega arith;
}

pub loop-slab-preserved : goal.loop-slab-preserved
loop-slab-preserved c = record {
  so_far = made_more (λ slab. record { slab = slab; west = c.args.west; east = c.args.east; edge = c.args.edge }) c.args.edges.now.items
      c.loop-slab.edges.items c.push.new.self.items (c.args.west / c.args.width) c.loop-slab.slab c.loop-slab.auto.slab
      c.loop-slab.invariant.so_far c.in_ok-push.ensures.items;
  within = omega arith;
}

pub returns-in_ok-push : goal.returns-in_ok-push
returns-in_ok-push c =
    let here : c.loop-slab.slab ≡ c.args.east / c.args.width = omega arith in
    made_last (λ slab. record { slab = slab; west = c.args.west; east = c.args.east; edge = c.args.edge }) c.args.edges.now.items
    c.loop-slab.edges.items c.push.new.self.items (c.args.west / c.args.width) c.loop-slab.slab (c.args.east / c.args.width)
    c.loop-slab.auto.slab here c.loop-slab.invariant.so_far c.in_ok-push.ensures.items

pub returns : goal.returns
returns c =
    let none : c.loop-slab.slab - c.args.west / c.args.width ≡ c.args.east / c.args.width + 1 - c.args.west / c.args.width = omega arith in
    c.loop-slab.invariant.so_far ∙ ap (λ more. c.args.edges.now.items
    ++ made_over (λ slab. record { slab = slab; west = c.args.west; east = c.args.east; edge = c.args.edge })
    (c.args.west / c.args.width) more) none
