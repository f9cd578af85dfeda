-- The vertex is threaded in front.
use Rattle.std.proofs.Common.{◌≡◌, ◌∙◌, ◌+◌, ◌-◌, ◌<◌, ◌≤◌, List, ℕ, length, ap, slice_index, slice_set, sym, subst, arith}
use Rattle.std.proofs.lemmas.List.{length-set}
use Rattle.layer_paths.specs.Lay.{Lay}
use Rattle.layer_paths.specs.Threads.{AreThreads}
use Rattle.layer_paths.proofs.Threads.{threads_put}
use Rattle.layer_paths.proofs.layering.Layering.put.Goals as goal

pub invariant_of-self : goal.invariant_of-self
invariant_of-self c =
    let s = c.self.inside in
    let inv = c.self.invariant in
    let next = c.args.next in
    let vertex = s.front - 1 in
    let some = subst (λ (l : Lay). 0 < l.front) (sym c.self.view_is) c.requires.before in
    let after = subst (λ (l : Lay). l.front ≤ next) (sym c.self.view_is) c.requires.after in
    let within = subst (λ (l : Lay). next ≤ l.last) (sym c.self.view_is) c.requires.within in
    let near = subst (λ (l : Lay). slice_index l.layers next ≤ slice_index l.layers l.front) (sym c.self.view_is) c.requires.near in
    let few = inv.front in
    let n = c.raise-layer.result in
    let layers = c.raise-layer.new.layers.items in
    let heads = c.thread.new.heads.items in
    let links = c.thread.new.links.items in
    record {
      last = inv.last;
      front = omega arith;
      layers_room = ap length c.raise-layer.ensures.layers ∙ length-set s.layers.items vertex n ∙ inv.layers_room;
      nexts_room = length-set s.nexts.items vertex next ∙ inv.nexts_room;
      heads_room = ap length c.thread.ensures.heads ∙ length-set s.heads.items n vertex ∙ inv.heads_room;
      links_room = ap length c.thread.ensures.links ∙ length-set s.links.items vertex _ ∙ inv.links_room;
      threads = threads_put s.last s.front vertex next n s.layers.items s.nexts.items s.heads.items s.links.items layers heads links
          c.raise-layer.ensures.layers c.thread.ensures.heads c.thread.ensures.links (omega arith) inv.front inv.last after within
          inv.layers_room inv.nexts_room inv.heads_room inv.links_room c.raise-layer.ensures.layer near inv.threads;
    }
