-- What a reader answers: what a walk gives.
use Rattle.std.specs.Prelude.{◌≡◌, ◌⊎◌, Result, Ok, Err}
use Rattle.geo_reader.specs.declared.fault.GeoFault.{GeoFault}
use Rattle.geo_reader.specs.declared.fault.GeoFault.TheVariants.{NoMemory}

-- a fault is that of the walk, or want of memory
abbrev pub Faults : {A : Type 0} → Result A GeoFault → GeoFault → Type 0
Faults walk fault = (fault ≡ NoMemory) ⊎ (walk ≡ Err fault)

-- what was read, seen by a view, is what the walk gives; a fault is that of the walk, or want of memory
abbrev pub Gives : {X Y : Type 0} → (X → Y) → Result X GeoFault → Result Y GeoFault → Type 0
Gives view (Ok x) walk = walk ≡ Ok (view x)
Gives view (Err fault) walk = Faults walk fault

-- the answer, seen by a view, where no memory is asked for
abbrev pub seen : {X Y : Type 0} → (X → Y) → Result X GeoFault → Result Y GeoFault
seen view (Ok x) = Ok (view x)
seen view (Err fault) = Err fault
