use Rattle.std.proofs.Common.{◌≡◌, length, arith, rules, subst}
use Rattle.std.proofs.lemmas.List.Sorted.{IsNonDecreasingBy-from_sort_by_key}
use Rattle.sweep_index.specs.Slabs.{AreEdgesBefore}
use Rattle.sweep_index.proofs.Growing.{all_edges, edges_reordered, no_edges}
use Rattle.sweep_index.proofs.Slabbing.{edges_here, ends_on_grid}
use Rattle.sweep_index.proofs.slabs.EdgeSlabs.build.Goals as goal

pub loop-arc-init : goal.loop-arc-init
loop-arc-init c = rw c.new-edges.ensures.items (no_edges c.args.map.now c.slab_width-width.result)

pub loop-arc-preserved : goal.loop-arc-preserved
loop-arc-preserved c = c.in_ok-push_arc.ensures

pub invariant_of-result : goal.invariant_of-result
invariant_of-result c = record {
  wide = c.slab_width-width.ensures;
  sorted = IsNonDecreasingBy-from_sort_by_key (λ s. s.slab) _ c.sort_unstable_by_key.ensures.sorted (λ a r q k. search rules);
}

pub returns : goal.returns
returns c =
    let m = c.args.map.now in
    let width = c.slab_width-width.result in
    let edges = c.sort_unstable_by_key.new.self.items in
    let wide = c.slab_width-width.ensures in
    let all : c.loop-arc.arc ≡ length m.arcs = omega arith in
    let before = all_edges m width c.loop-arc.edges.items (subst (λ k. AreEdgesBefore m width k 0 c.loop-arc.edges.items) all
    c.loop-arc.invariant) in
    let are = edges_reordered m width c.loop-arc.edges.items edges c.sort_unstable_by_key.ensures.permutation before in
    record {
      on_grid = ends_on_grid m width edges wide are;
      given = λ x on_grid. edges_here m width edges wide are x on_grid;
    }
