-- Below the floor of a part of a polygon an even number of its edges are crossed from any point.
use Rattle.std.specs.Prelude.{◌≡◌, ◌<◌, ◌≤◌, ℕ, false, List, [], ◌∷◌, All, length, get_or, slice_index}
use Rattle.grid_exact.specs.Geometry.{Place, IsOnGrid}
use Rattle.arc_map.specs.Map.{Map}
use Rattle.arc_map.specs.Arranged.{arc_at}
use Rattle.sweep_index.specs.Offsets.{offset_of}
use Rattle.face_parity.specs.Bounds.{IsEndsOf, do_part}
use Rattle.face_parity.specs.Parities.{pass_oddly}
use Rattle.face_parity.specs.declared.floors.Floors.{Floors}
use Rattle.face_parity.specs.declared.floors.Span.{Span}

-- no position of the list is below it
pub record IsSpanOf (ps : List Place) (s : Span) : Type 0 where
  pub low : All (λ q. IsOnGrid q × (s.low ≤ offset_of q.y)) ps
  pub ends : IsEndsOf ps s.ends

abbrev pub no_span : Span
no_span = record { low = 0; ends = record { first = 0; last = 0 } }

abbrev pub span_at : List Span → ℕ → Span
span_at spans arc = get_or spans arc no_span

-- these are the spans of the first arcs of the map, so many
pub record AreSpansTo (m : Map) (arcs : ℕ) (spans : List Span) : Type 0 where
  pub count : length spans ≡ arcs
  pub each : (arc : ℕ) → arc < arcs → IsSpanOf (arc_at m arc) (span_at spans arc)

-- the ends of the arcs with these numbers, one after another
abbrev pub ends_along : List Span → List ℕ → List ℕ
ends_along spans [] = []
ends_along spans (arc ∷ refs) = (span_at spans arc).ends.first ∷ (span_at spans arc).ends.last ∷ ends_along spans refs

-- a floor of a part that names these arcs: none of them is below it, and from below it an even number of them are parted
pub record IsFloorOver (spans : List Span) (refs : List ℕ) (floor : ℕ) : Type 0 where
  pub low : All (λ arc. floor ≤ (span_at spans arc).low) refs
  pub even : (x y : ℕ) → y < floor → pass_oddly (λ arc. do_part (span_at spans arc).ends x) refs ≡ false

-- the floor of an arc is at most this
abbrev pub IsUnder : Floors → ℕ → ℕ → Type 0
IsUnder floors arc floor = floor ≤ slice_index floors.arcs.items arc

-- these are floors of the arcs of the map
abbrev pub AreFloorsOf : Map → Floors → Type 0
AreFloorsOf m floors = length floors.arcs.items ≡ length m.arcs
