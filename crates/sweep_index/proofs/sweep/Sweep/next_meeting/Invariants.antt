use Rattle.std.proofs.Common.{◌^◌, ◌≡◌, length}
use Rattle.std.specs.List.Sorted.{IsNonDecreasingBy}
use Rattle.sweep_index.specs.Things.{key_of}
use Rattle.sweep_index.specs.Meetings.{meetings_from}
use Rattle.sweep_index.specs.Sweeping.{meetings_left}
use Rattle.sweep_index.proofs.sweep.Sweep.next_meeting.Given as goal

abbrev pub invariant-loop-head : goal.invariant-loop-head
invariant-loop-head l = record {
  same : meetings_left l.fn.self ≡ meetings_from (2 ^ l.shift) l.rest l.passed;
  sorted : IsNonDecreasingBy key_of l.rest;
}

abbrev pub decreases-loop-head : goal.decreases-loop-head
decreases-loop-head l = length l.rest
