-- The border of polygons: rings of arc references, made from the odd arcs one after another.
use Rattle.std.specs.Prelude.{◌≡◌, ◌≢◌, ◌≤◌, ◌⊎◌, ◌-◌, ◌==◌, ℕ, ℤ, pos, negsuc, not, List, [], ◌∷◌, Contains, filter, length}
use Rattle.grid_exact.specs.Geometry.{Place}
use Rattle.arc_map.specs.Map.{Map}
use Rattle.arc_map.specs.Arranged.{arc_at, position_at}
use Rattle.dissolve.specs.Odd.{odd_arcs}

-- ---- arc references: pos k is arc k forwards, and negsuc k, which is -1 - k, is arc k backwards

abbrev pub arc_of : ℤ → ℕ
arc_of (pos arc) = arc
arc_of (negsuc arc) = arc

abbrev pub first_of : Map → ℕ → Place
first_of m arc = position_at m arc 0

abbrev pub last_of : Map → ℕ → Place
last_of m arc = position_at m arc (length (arc_at m arc) - 1)

-- the arc's first position in the direction of the reference, and its last
abbrev pub start_of : Map → ℤ → Place
start_of m (pos arc) = first_of m arc
start_of m (negsuc arc) = last_of m arc

abbrev pub end_of : Map → ℤ → Place
end_of m (pos arc) = last_of m arc
end_of m (negsuc arc) = first_of m arc

-- p is the first or the last position of the arc
abbrev pub EndsAt : Map → Place → ℕ → Type 0
EndsAt m p arc = (first_of m arc ≡ p) ⊎ (last_of m arc ≡ p)

-- ---- rings

-- the arc is the least of these with the property
pub record IsLeast (P : ℕ → Type 0) (arcs : List ℕ) (arc : ℕ) : Type 0 where
  pub among : Contains arcs arc
  pub has : P arc
  pub least : (k : ℕ) → Contains arcs k → P k → arc ≤ k

-- a ring begins with this reference: the least arc not used yet, forwards
pub record IsFirst (unused : List ℕ) (r : ℤ) : Type 0 where
  pub least : IsLeast (λ arc. Unit {0}) unused (arc_of r)
  pub forwards : r ≡ pos (arc_of r)

-- a ring that has reached p goes on with this reference: the least arc not used yet with an end there, forwards if it
-- begins there, else backwards
pub record IsNext (m : Map) (unused : List ℕ) (p : Place) (r : ℤ) : Type 0 where
  pub least : IsLeast (EndsAt m p) unused (arc_of r)
  pub starts : start_of m r ≡ p
  pub forwards : first_of m (arc_of r) ≡ p → r ≡ pos (arc_of r)

-- these arcs but one
abbrev pub without : ℕ → List ℕ → List ℕ
without arc arcs = filter (λ k. not (k == arc)) arcs

-- these arcs but those of the references
abbrev pub without_all : List ℤ → List ℕ → List ℕ
without_all [] arcs = arcs
without_all (r ∷ rs) arcs = without_all rs (without (arc_of r) arcs)

-- from p the ring that began at `start` goes on with these references until it is at `start` again
abbrev pub IsRest : Map → Place → Place → List ℕ → List ℤ → Type 0
IsRest m start p unused [] = p ≡ start
IsRest m start p unused (r ∷ rs) = (p ≢ start) × IsNext m unused p r × IsRest m start (end_of m r) (without (arc_of r) unused) rs

abbrev pub IsRing : Map → List ℕ → List ℤ → Type 0
IsRing m unused [] = ⊥
IsRing m unused (r ∷ rs) = IsFirst unused r × IsRest m (start_of m r) (end_of m r) (without (arc_of r) unused) rs

-- the rings that are made of these arcs, until none is left
abbrev pub AreRings : Map → List ℕ → List (List ℤ) → Type 0
AreRings m unused [] = unused ≡ []
AreRings m unused (ring ∷ rings) = IsRing m unused ring × AreRings m (without_all ring unused) rings

-- the border of the polygons with these numbers
abbrev pub IsBorder : Map → List ℕ → List (List ℤ) → Type 0
IsBorder m polygons rings = AreRings m (odd_arcs m polygons) rings
