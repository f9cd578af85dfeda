-- The last vertex is the head of its layer, and no other layer has one.
use Rattle.std.proofs.Common.{◌≡◌, ◌≢◌, ◌∙◌, ◌+◌, ◌<◌, ◌≤◌, slice_index, slice_set, arith}
use Rattle.std.proofs.lemmas.List.{length-set}
use Rattle.layer_paths.proofs.Threads.{here, there, threads_start}
use Rattle.layer_paths.proofs.layering.Layering.begin.Goals as goal

pub invariant_of-self : goal.invariant_of-self
invariant_of-self c =
    let s = c.self.inside in
    let inv = c.self.invariant in
    let last = c.args.last in
    let small = c.requires in
    let heads = c.empty_heads.new.heads.items in
    let room = c.empty_heads.ensures.length ∙ inv.heads_room in
    let a = inv.layers_room in let b = inv.links_room in
    let linked = here s.links.items last (last + 1) (omega arith) in
    record {
      last = c.requires;
      front = omega arith;
      layers_room = length-set s.layers.items last 0 ∙ inv.layers_room;
      nexts_room = inv.nexts_room;
      heads_room = length-set heads 0 last ∙ room;
      links_room = length-set s.links.items last (last + 1) ∙ inv.links_room;
      threads = threads_start last (slice_set s.layers.items last 0) s.nexts.items (slice_set heads 0 last)
          (slice_set s.links.items last (last + 1)) (here s.layers.items last 0 (omega arith)) (here heads 0 last (omega arith))
          (λ k more within.
          let ne : k ≢ 0 = (λ e. absurd (omega arith)) in
          omega (arith, there heads 0 k last ne, c.empty_heads.ensures.empty k (omega arith)))
          (omega arith);
    }
