-- The odd arcs that no ring has yet, as marks, and those at each position.
use Rattle.std.specs.Prelude.{◌≡◌, ◌<◌, ◌≤◌, ◌∷◌, ◌++◌, [], if◌then◌else◌, ℕ, Bool, true, false, List, All, AllPairs, Contains, filter}
use Rattle.std.specs.Prelude.{get_or, length, map, set}
use Rattle.std.specs.List.{range_with_len}
use Rattle.grid_exact.specs.Geometry.{Place}
use Rattle.arc_map.specs.Map.{Map}
use Rattle.arc_map.specs.Ends.{is_same, listed}
use Rattle.dissolve.specs.Border.{EndsAt, first_of, last_of}
use Rattle.dissolve.specs.declared.unused.Unused.{Unused}

-- the places of the marks that are set
abbrev pub marked : List Bool → List ℕ
marked marks = filter (λ k. get_or marks k false) (range_with_len 0 (length marks))

-- arcs that end at p, falling; all of those that are marked are among them
pub record AreEnding (m : Map) (marks : List Bool) (p : Place) (arcs : List ℕ) : Type 0 where
  pub known : All (λ k. k < length m.arcs) arcs
  pub ends : All (EndsAt m p) arcs
  pub falling : AllPairs (λ j k. k ≤ j) arcs
  pub all : (k : ℕ) → get_or marks k false ≡ true → EndsAt m p k → Contains arcs k

abbrev pub arcs_at : Unused → Place → List ℕ
arcs_at u p = listed u.places.keys (map (λ arcs. arcs.items) u.lists.items) p

-- they are arcs of the map that are left, with those that end at each position
pub record AreUnused (m : Map) (u : Unused) : Type 0 where
  pub count : length u.marks.items ≡ length m.arcs
  pub lists : length u.lists.items ≡ length u.places.keys
  pub each : (p : Place) → AreEnding m u.marks.items p (arcs_at u p)

abbrev pub unused_in : Unused → List ℕ
unused_in u = marked u.marks.items

-- none of these arcs is marked
abbrev pub AreUnmarked : List Bool → List ℕ → Type 0
AreUnmarked marks arcs = All (λ k. get_or marks k false ≡ false) arcs

-- the arc is the last of those before that is marked, and those after are the ones before it
pub record IsPopped (marks : List Bool) (before after : List ℕ) (arc : ℕ) : Type 0 where
  pub dropped : List ℕ
  pub is : before ≡ after ++ arc ∷ dropped
  pub marked : get_or marks arc false ≡ true
  pub unmarked : AreUnmarked marks dropped

-- the arc was taken away, and from the list of the place, with those behind it
pub record IsTaken (before after : Unused) (place : Place) (arc : ℕ) : Type 0 where
  pub marks : after.marks.items ≡ set before.marks.items arc false
  pub lists : length after.lists.items ≡ length after.places.keys
  pub other : (p : Place) → is_same p place ≡ false → arcs_at after p ≡ arcs_at before p
  pub popped : IsPopped before.marks.items (arcs_at before place) (arcs_at after place) arc

-- the arcs with the arc behind them where q is p
abbrev pub added_at : Place → ℕ → Place → List ℕ → List ℕ
added_at q arc p arcs = if is_same p q then arcs ++ arc ∷ [] else arcs

-- if it is marked, the arc was put behind those at its first position and then behind those at its last
pub record IsAddedAt (m : Map) (before after : Unused) (arc : ℕ) : Type 0 where
  pub marks : after.marks.items ≡ before.marks.items
  pub lists : length after.lists.items ≡ length after.places.keys
  pub marked : get_or before.marks.items arc false ≡ true → (p : Place) →
      arcs_at after p ≡ added_at (last_of m arc) arc p (added_at (first_of m arc) arc p (arcs_at before p))
  pub unmarked : get_or before.marks.items arc false ≡ false → (p : Place) → arcs_at after p ≡ arcs_at before p
