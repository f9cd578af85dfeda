use Rattle.std.proofs.Common.{◌≡◌, length}
use Rattle.chain_replace.proofs.Weighing.{AreWeighedBelow}
use Rattle.chain_replace.proofs.weigh.weigh.Given as goal

abbrev pub invariant-loop-k : goal.invariant-loop-k
invariant-loop-k l = record {
  so_far : AreWeighedBelow l.weights l.places l.xs.items l.ys.items l.k;
  across : length l.xs.items ≡ length l.initial.xs.items;
  up : length l.ys.items ≡ length l.initial.ys.items;
}
