-- How far the trail is written.
use Rattle.std.proofs.Common.{◌≡◌, ◌+◌, ◌≤◌, ◌-◌, length, drop}
use Rattle.layer_paths.proofs.Best.{IsFront}
use Rattle.layer_paths.proofs.trail.write_trail.Given as goal

abbrev pub invariant-loop-at : goal.invariant-loop-at
invariant-loop-at l = record {
  within : l.at ≤ l.last;
  room : l.count ≤ l.at + 1;
  size : length l.out ≡ length l.fn.out;
  front : IsFront l.nexts l.last l.at l.count l.out;
  rest : drop l.count l.out ≡ drop l.count l.fn.out;
}

abbrev pub decreases-loop-at : goal.decreases-loop-at
decreases-loop-at l = l.last - l.at
