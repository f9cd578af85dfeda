-- The vertex 0 is the head of its layer.
use Rattle.std.proofs.Common.{◌≡◌, ◌∙◌, ℕ, ◌<◌, ◌≤◌, List, length, ap, arith, refl}
use Rattle.std.proofs.lemmas.List.{length-replicate}
use Rattle.layer_paths.proofs.Threads.{threads_first}
use Rattle.layer_paths.proofs.layering.Layering.new.Goals as goal

pub invariant_of-result : goal.invariant_of-result
invariant_of-result c = record {
  last = omega arith;
  front = omega arith;
  layers_room = ap length c.in_ok-layers.ensures ∙ length-replicate {A = ℕ} 1024 0;
  nexts_room = ap length c.in_ok-nexts.ensures ∙ length-replicate {A = ℕ} 1024 0;
  heads_room = ap length c.in_ok-heads.ensures ∙ length-replicate {A = ℕ} 1024 0;
  links_room = ap length c.in_ok-links.ensures ∙ length-replicate {A = ℕ} 1024 1024;
  threads = threads_first _ _ _ _ c.in_ok-layers.ensures c.in_ok-heads.ensures c.in_ok-links.ensures;
}

pub returns : goal.returns
returns c = rw (c.in_ok-layers.ensures, c.in_ok-nexts.ensures) refl
