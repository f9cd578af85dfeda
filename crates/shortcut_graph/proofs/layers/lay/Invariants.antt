-- The vertices from `start` on are laid.
use Rattle.std.proofs.Common.{◌≡◌, ◌≤◌, length}
use Rattle.arc_map.specs.Chains.{chain_at, IsWithinBound}
use Rattle.arc_map.specs.Paths.{IsAllowedPair}
use Rattle.layer_paths.specs.Lay.{IsLayered}
use Rattle.shortcut_graph.specs.Pairs.{AreFindings}
use Rattle.shortcut_graph.proofs.layers.lay.Given as goal

abbrev pub invariant-loop-start : goal.invariant-loop-start
invariant-loop-start l = record {
  front : l.layering.front ≡ l.start;
  within : l.start ≤ l.last;
  known : IsLayered (IsAllowedPair (IsWithinBound l.ruler.weights.x l.ruler.weights.y l.ruler.bound) l.map.chains l.map.read.points l.k)
      (length (chain_at l.map.chains l.k).rest) l.layering;
  found : AreFindings l.findings l.map l.k l.ruler.xs.now l.ruler.ys.now l.ruler.bound;
}
