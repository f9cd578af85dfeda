-- The corridor stands for the vertices taken so far.
use Rattle.std.proofs.Common.{◌≡◌}
use Rattle.shortcut_graph.specs.Hints.{AreHints}
use Rattle.shortcut_graph.proofs.hints.Hints.take_to.Given as goal

abbrev pub invariant-loop-self : goal.invariant-loop-self
invariant-loop-self l = record {
  anchor : l.self.anchor ≡ l.fn.self.anchor;
  held : AreHints l.self l.ruler.xs.now l.ruler.ys.now l.ruler.bound;
}

abbrev pub decreases-loop-self : goal.decreases-loop-self
decreases-loop-self l = l.self.first
