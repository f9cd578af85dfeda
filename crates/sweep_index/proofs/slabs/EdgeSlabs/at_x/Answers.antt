-- The slab of x is looked through; off the grid there is no edge.
use Rattle.std.proofs.Common.{◌≡◌, ◌∙◌, ◌/◌, ◌↔◌, IsTrue, ℤ, ap, subst, sym}
use Rattle.std.proofs.lemmas.Bool.{false≢true}
use Rattle.std.proofs.lemmas.Int.{to_z-of_z}
use mir.Syntax.{w64}
use Rattle.grid_exact.specs.Geometry.{IsGridNumber}
use Rattle.sweep_index.specs.Offsets.{offset_of}
use Rattle.sweep_index.specs.Slabs.{AreEdgesAt, edges_at, slab_of}
use Rattle.sweep_index.proofs.Slabbing.{none_off_grid}
use Rattle.sweep_index.proofs.slabs.EdgeSlabs.at_x.Goals as goal

pub in_slab-requires : goal.in_slab-requires
in_slab-requires c = rw c.as_slice.ensures.value c.args.self.now.sorted

pub returns-then-not-is_on_grid : goal.returns-then-not-is_on_grid
returns-then-not-is_on_grid c =
    let told = subst (λ (z : ℤ). IsTrue c.is_on_grid.result ↔ IsGridNumber z) (to_z-of_z w64 c.args.x c.ranges.x) c.is_on_grid.ensures in
    let off : ¬ (IsGridNumber c.args.x) = (λ on. false≢true (sym c.if-not-is_on_grid.true ∙ told.1 on)) in
    record { value = λ on. absurd (off on); edges = λ m are. none_off_grid m c.args.x are.on_grid off }

pub returns : goal.returns
returns c =
    let slabs = c.args.self.now in
    let told = subst (λ (z : ℤ). IsTrue c.is_on_grid.result ↔ IsGridNumber z) (to_z-of_z w64 c.args.x c.ranges.x) c.is_on_grid.ensures in
    let x : c.offset-x.result ≡ offset_of c.args.x = c.offset-x.ensures.value ∙ ap offset_of (to_z-of_z w64 c.args.x c.ranges.x) in
    let here = ap (edges_at c.offset-x.result) (c.in_slab.ensures ∙ ap (slab_of (c.offset-x.result / slabs.width)) c.as_slice.ensures.value)
    ∙ ap (λ n. edges_at n (slab_of (n / slabs.width) slabs.edges.items)) x in
    record {
      value = λ on. here;
      edges = λ m are. subst (AreEdgesAt m c.args.x) (sym here) (are.given c.args.x (told.0 c.if-not-is_on_grid.false));
    }
