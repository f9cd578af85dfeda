-- What comes before the candidate is refused.
use Rattle.shortcut_graph.specs.Pairs.{AllowedBy, AreFindings, IsReach}
use Rattle.shortcut_graph.proofs.Searching.{IsCandidate, left_after}
use Rattle.shortcut_graph.proofs.layers.first_step.Given as goal

abbrev pub invariant-loop-k : goal.invariant-loop-k
invariant-loop-k l = record {
  candidate : IsCandidate (AllowedBy l.map l.k l.ruler.xs.now l.ruler.ys.now l.ruler.bound) l.layering.last l.start l.layering.layers
      l.next;
  far : IsReach l.ruler.xs.now l.ruler.ys.now l.ruler.bound l.start l.reach;
  found : AreFindings l.findings l.map l.k l.ruler.xs.now l.ruler.ys.now l.ruler.bound;
}

abbrev pub decreases-loop-k : goal.decreases-loop-k
decreases-loop-k l = left_after l.layering.layers l.layering.front l.next
