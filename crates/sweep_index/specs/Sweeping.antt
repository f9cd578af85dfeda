-- What a sweep still gives.
use Rattle.std.specs.Prelude.{◌^◌, List}
use Rattle.sweep_index.specs.Meetings.{meetings_from}
use Rattle.sweep_index.specs.declared.things.Banded.{Banded}
use Rattle.sweep_index.specs.declared.sweep.Sweep.{Sweep}

abbrev pub meetings_left : Sweep → List (Banded × Banded)
meetings_left s = meetings_from (2 ^ s.shift) s.rest.now s.passed
