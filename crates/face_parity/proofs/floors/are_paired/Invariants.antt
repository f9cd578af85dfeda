use Rattle.std.proofs.Common.{◌≡◌, ◌-◌, ◌≤◌, ℕ, Bool, drop, length}
use Rattle.face_parity.specs.Parities.{pass_oddly}
use Rattle.face_parity.proofs.floors.are_paired.Given as goal

abbrev pub invariant-loop-at : goal.invariant-loop-at
invariant-loop-at l = record {
  within : l.at ≤ length l.numbers;
  even : (test : ℕ → Bool) → pass_oddly test l.numbers ≡ pass_oddly test (drop l.at l.numbers);
}

abbrev pub decreases-loop-at : goal.decreases-loop-at
decreases-loop-at l = length l.numbers - l.at
