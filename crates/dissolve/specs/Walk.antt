-- How often positions are ends of the arcs that are left while a ring is made.
use Rattle.std.specs.Prelude.{◌≡◌, ◌≤◌, ◌++◌, ℕ, ℤ, pos, negsuc, Bool, false, Contains, List, if◌then◌else◌, map}
use Rattle.std.specs.Global.{Vec}
use Rattle.grid_exact.specs.Geometry.{Place}
use Rattle.grid_exact.specs.Walks.{differ}
use Rattle.arc_map.specs.Map.{Map}
use Rattle.arc_map.specs.Ends.{is_same}
use Rattle.face_parity.specs.Parities.{pass_oddly}
use Rattle.dissolve.specs.Border.{AreRings, first_of, last_of}
use Rattle.dissolve.specs.declared.step.Step.{Step}

-- the reference of an arc in one of its directions
abbrev pub reference : Step → ℤ
reference s = if s.forwards then pos s.arc else negsuc s.arc

abbrev pub references : List Step → List ℤ
references steps = map reference steps

abbrev pub rings_of : List (Vec Step) → List (List ℤ)
rings_of rings = map (λ ring. references ring.items) rings

-- whether q is just one of the two ends of the arc
abbrev pub does_touch : Map → Place → ℕ → Bool
does_touch m q arc = differ (is_same (first_of m arc) q) (is_same (last_of m arc) q)

-- each position is an even number of times an end of these arcs
abbrev pub IsEven : Map → List ℕ → Type 0
IsEven m arcs = (q : Place) → pass_oddly (does_touch m q) arcs ≡ false

-- after these rings, whatever rings are made of what is left complete those of all the arcs; no arc before this one is left
pub record IsStage (m : Map) (all : List ℕ) (rings : List (Vec Step)) (unused : List ℕ) (arc : ℕ) : Type 0 where
  pub goes_on : (more : List (List ℤ)) → AreRings m unused more → AreRings m all (rings_of rings ++ more)
  pub none_before : (k : ℕ) → Contains unused k → arc ≤ k
