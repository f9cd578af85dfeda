-- The number with which the program ends.
use Rattle.std.specs.Prelude.{ℕ}
use Rattle.top_call.specs.declared.status.Status.{Status}
use Rattle.top_call.specs.declared.status.Status.TheVariants.{Done, No, Usage, NotUtf8, NotJson, NotTopology, OffProfile, TooLarge}
use Rattle.top_call.specs.declared.status.Status.TheVariants.{NotArranged, ReadFault, WriteFault, NoMemory, OffWeights, NoPolygon}
use Rattle.top_call.specs.declared.status.Status.TheVariants.{NotGeoJson}

abbrev pub code_of : Status → ℕ
code_of Done = 0
code_of (No reason) = 1
code_of Usage = 2
code_of (NotUtf8 at) = 3
code_of (NotJson at) = 3
code_of (NotTopology kind at) = 4
code_of (OffProfile kind at) = 5
code_of (TooLarge limit) = 6
code_of (NotArranged meeting) = 7
code_of ReadFault = 8
code_of WriteFault = 9
code_of NoMemory = 10
code_of (OffWeights arc position) = 13
code_of (NoPolygon polygon) = 14
code_of (NotGeoJson kind at) = 15
