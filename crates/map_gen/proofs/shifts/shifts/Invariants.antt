use Rattle.std.proofs.Common.{◌≡◌, ◌-◌, ◌<◌, ◌≤◌, vec_len}
use Rattle.map_gen.specs.Shifts.{number, AreShifts}
use Rattle.map_gen.proofs.shifts.shifts.Given as goal

abbrev pub invariant-loop-number : goal.invariant-loop-number
invariant-loop-number l = record {
  within : vec_len l.shifts ≤ l.count;
  drawn : l.number ≡ number l.seed (vec_len l.shifts);
  small : l.number < 65537;
  made : AreShifts l.seed l.shifts.items;
}

abbrev pub decreases-loop-number : goal.decreases-loop-number
decreases-loop-number l = l.count - vec_len l.shifts
