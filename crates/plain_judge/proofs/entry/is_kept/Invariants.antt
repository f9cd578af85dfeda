use Rattle.std.proofs.Common.{◌+◌, ◌<◌, ℕ, slice_index}
use Rattle.plain_judge.proofs.entry.is_kept.Given as goal

abbrev pub invariant-loop-at : goal.invariant-loop-at
invariant-loop-at l = (s : ℕ) → s + 1 < l.at → slice_index l.kept s < slice_index l.kept (s + 1)
