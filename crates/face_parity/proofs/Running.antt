-- A run and its box, as they are read from an arc.
use Rattle.std.proofs.Common.{◌≡◌, ◌+◌, ◌-◌, ◌<◌, ◌≤◌, ℕ, List, [], All, length, take, drop, sym, subst, arith}
use Rattle.std.specs.Prelude.{slice_get, Some}
use Rattle.std.proofs.lemmas.List.{length-drop, length-take-le}
use Rattle.std.proofs.lemmas.List.Elements.{All-get_or}
use Rattle.std.proofs.lemmas.Option.{get_or_from_slice_get, slice_get_within}
use Rattle.grid_exact.specs.Geometry.{Place}
use Rattle.arc_map.specs.Map.{Map}
use Rattle.face_parity.specs.Celled.{run_at}
use Rattle.face_parity.specs.Runs.{IsRunOf}
use Rattle.face_parity.specs.declared.floors.Floors.{Floors}
use Rattle.face_parity.specs.declared.runs.Run.{Run}

pub part-some : (ps : List Place) (from to : ℕ) → from < to → to < length ps → 0 < length (take (to + 1 - from) (drop from ps))
part-some ps from to edge within =
    let long = length-drop from ps in
    let inside : to + 1 - from ≤ length (drop from ps) = omega (arith, long, edge, within) in
    let count = length-take-le (to + 1 - from) (drop from ps) inside in
    omega (arith, count, edge)

-- a run that is read by its number
pub run-read : (runs : List Run) (number : ℕ) (r : Run) → slice_get runs number ≡ Some r → r ≡ run_at runs number
run-read runs number r is = sym (get_or_from_slice_get runs number r (run_at [] number) is)

pub read-run : (m : Map) (floors : Floors) (runs : List Run) (number : ℕ) (r : Run) → slice_get runs number ≡ Some r
    → All (IsRunOf m floors) runs → IsRunOf m floors r
read-run m floors runs number r is all = subst (IsRunOf m floors) (sym (run-read runs number r is))
    (All-get_or (IsRunOf m floors) runs number (run_at [] 0) (slice_get_within runs number r is) all)
