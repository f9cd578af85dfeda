-- The last vertex is laid, and then one vertex more.
use Rattle.std.proofs.Common.{◌≡◌, ◌∙◌, ℕ, ◌+◌, ◌-◌, ◌<◌, ◌≤◌, length, slice_index, ap, sym, subst, arith}
use Rattle.arc_map.specs.Chains.{chain_at, IsWithinBound}
use Rattle.arc_map.specs.Paths.{IsAllowedPair}
use Rattle.layer_paths.specs.Steps.{IsFirstStep}
use Rattle.layer_paths.proofs.Layers.{layered_start, layered_more}
use Rattle.side_wedge.proofs.ByEdges.{consistency_by_edges_lem}
use Rattle.shortcut_graph.specs.Pairs.{AllowedBy}
use Rattle.shortcut_graph.proofs.AllowedPairs.{allowed_pair}
use Rattle.shortcut_graph.proofs.Numbers.{length-chain_places}
use Rattle.shortcut_graph.proofs.Searching.{first_alike}
use Rattle.shortcut_graph.proofs.layers.lay.Goals as goal

pub loop-start-init : goal.loop-start-init
loop-start-init c =
    let w = c.args.map.now in
    let r = c.args.ruler.now in
    let chain = chain_at w.chains c.args.k in
    let lay = c.begin.new.self in
    let began = c.begin.ensures in
    let last : length c.chain.result.now - 1 ≡ length chain.rest = omega (
      arith,
      ap length c.chain.ensures.places,
      length-chain_places chain,
    ) in
    let layer = subst (λ (n : ℕ). slice_index lay.layers n ≡ 0) last began.layer in
    let room = subst (λ (n : ℕ). n < length lay.layers) last began.room in
    let next_room = subst (λ (n : ℕ). n < length lay.nexts) last began.next_room in
    record {
      front = began.front;
      within = omega arith;
      known = layered_start (IsAllowedPair (IsWithinBound r.weights.x r.weights.y r.bound) w.chains w.read.points c.args.k)
          (length chain.rest) lay (began.last ∙ last) (began.front ∙ last) layer room next_room;
      found = record { runs = c.of.ensures; true_hints = c.at.ensures };
    }

pub loop-start-preserved : goal.loop-start-preserved
loop-start-preserved c =
    let w = c.args.map.now in
    let r = c.args.ruler.now in
    let k = c.args.k in
    let m = length (chain_at w.chains k).rest in
    let i = c.loop-start.start - 1 in
    let held = c.loop-start.invariant in
    let old = c.loop-start.layering in
    let next = c.first_step-next.result in
    let by = AllowedBy w k r.xs.now r.ys.now r.bound in
    let pairs = IsAllowedPair (IsWithinBound r.weights.x r.weights.y r.bound) w.chains w.read.points k in
    let last = held.known.last in
    let up = held.front in
    let alike = (λ (j : ℕ) (past : i < j) (down : j ≤ m). allowed_pair consistency_by_edges_lem r.weights r.bound w.chains w.read.points
    r.xs.now r.ys.now k i j c.requires.beside.edges c.requires.weighed past down) in
    let step = subst (λ (n : ℕ). IsFirstStep by n i next old.layers) last c.first_step-next.ensures.step in
    record {
      front = let f = c.put.ensures.front in omega arith;
      within = omega arith;
      known = layered_more pairs m i next old c.put.new.self c.put.ensures.last (omega arith) c.put.ensures.front (omega arith)
          c.put.ensures.layers c.put.ensures.nexts (first_alike by pairs m i next old.layers (λ j past down. (alike j past down).0)
          (λ j past down. (alike j past down).1) step) held.known;
      found = record {
        runs = c.first_step-next.ensures.findings.runs;
        true_hints =
            c.keep.ensures;
      };
    }
