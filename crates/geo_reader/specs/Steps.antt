-- Steps of the walk over GeoJSON, with its faults.
use Rattle.std.specs.Prelude.{ℕ, List, Option, None, Some, Result, Ok, Err, nat_lt, if◌then◌else◌}
use Rattle.json_scan.specs.Tree.{Tree, ListAt, ObjectAt, Trees, Entries, Lookup, NowhereIn, OnceIn, TwiceIn, lookup, place_of}
use Rattle.topo_reader.specs.declared.fault.What.{What}
use Rattle.geo_reader.specs.declared.fault.GeoFault.{GeoFault}
use Rattle.geo_reader.specs.declared.fault.GeoFault.TheVariants.{Shape, TooMany}
use Rattle.geo_reader.specs.declared.fault.GeoKind.{GeoKind}
use Rattle.geo_reader.specs.declared.fault.GeoKind.TheVariants as shape

-- a fault of shape at a value
abbrev pub wrong : {A : Type 0} → GeoKind → Tree → Result A GeoFault
wrong kind t = Err (Shape kind (place_of t))

-- a value is counted where so many were counted before; past the limit it is the fault, before any other of the value
abbrev pub counted : {A : Type 0} → What → ℕ → ℕ → Tree → Result A GeoFault → Result A GeoFault
counted what limit seen t rest = if nat_lt seen limit then rest else Err (TooMany what (place_of t))

abbrev pub list_of : Tree → Result Trees GeoFault
list_of (ListAt e trees) = Ok trees
list_of t = wrong shape.WrongType t

-- an Object, and its members
abbrev pub object_of : Tree → Result (Tree × Entries) GeoFault
object_of (ObjectAt e members) = Ok (ObjectAt e members, members)
object_of t = wrong shape.WrongType t

-- the value of a member that may be there, once
abbrev pub optional : Lookup → Result (Option Tree) GeoFault
optional NowhereIn = Ok None
optional (OnceIn t) = Ok (Some t)
optional (TwiceIn e) = Err (Shape shape.Twice e.start)

abbrev pub at_found : Tree → Lookup → Result Tree GeoFault
at_found holder NowhereIn = wrong shape.Missing holder
at_found holder (OnceIn t) = Ok t
at_found holder (TwiceIn e) = Err (Shape shape.Twice e.start)

-- the value of a member that must be there, once
abbrev pub required : List ℕ → Tree → Entries → Result Tree GeoFault
required name holder members = at_found holder (lookup name members)
