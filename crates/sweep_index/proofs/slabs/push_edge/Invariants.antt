use Rattle.std.proofs.Common.{◌≡◌, ◌-◌, ◌/◌, ◌≤◌, ◌++◌, max}
use Rattle.sweep_index.specs.Gathered.{made_over}
use Rattle.sweep_index.proofs.slabs.push_edge.Given as goal

abbrev pub invariant-loop-slab : goal.invariant-loop-slab
invariant-loop-slab l = record {
  so_far : l.edges.items ≡ l.fn.edges.items ++ made_over (λ slab. record { slab = slab; west = l.west; east = l.east; edge = l.edge })
      (l.west / l.width) (l.slab - l.west / l.width);
  within : l.slab ≤ max (l.west / l.width) l.slab-end;
}
