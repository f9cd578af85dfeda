-- What one place of the sweep does to the list of active spans.
use Rattle.std.specs.Prelude.{◌≡◌, pos, ◌<ℤ◌, List, [], ◌∷◌, ◌++◌}
use Rattle.grid_exact.specs.Geometry.{Place}
use Rattle.arc_map.specs.Edges.{EachOf}
use Rattle.plane_sweep.specs.declared.spans.Corner.{Corner}
use Rattle.plane_sweep.specs.declared.spans.Span.{Span}
use Rattle.plane_sweep.specs.Meeting.{MayJoin, side_of, EndsUnder}

-- the first element has the property, or there is none
abbrev pub FirstHas : {A : Type 0} → (A → Type 0) → List A → Type 0
FirstHas P [] = Unit {0}
FirstHas P (x ∷ xs) = P x

-- the last element has the property, or there is none
abbrev pub LastHas : {A : Type 0} → (A → Type 0) → List A → Type 0
LastHas P [] = Unit {0}
LastHas P (x ∷ []) = P x
LastHas P (x ∷ y ∷ ys) = LastHas P (y ∷ ys)

-- each element has the relation to the next
abbrev pub Chained : {A : Type 0} → (A → A → Type 0) → List A → Type 0
Chained R [] = Unit {0}
Chained R (x ∷ xs) = FirstHas (R x) xs × Chained R xs

-- the second span turns up from the first, where they begin at one place
abbrev pub TurnsUp : Span → Span → Type 0
TurnsUp e f = pos 0 <ℤ side_of e f.high.place

-- the span ends at the place, where it may join the hub
abbrev pub EndsAt : Place → Corner → Span → Type 0
EndsAt q hub s = (s.high.place ≡ q) × MayJoin hub s.high

-- the span begins at the place, where it may join the hub
abbrev pub BeginsAt : Place → Corner → Span → Type 0
BeginsAt q hub s = (s.low.place ≡ q) × MayJoin hub s.low

-- at the place q the spans in the middle end and new ones begin: the place is above the spans below and under those above,
-- all edges with an end there may join, and the new spans are in order and linked to their neighbours
pub record MayPass (q : Place) (below block above new : List Span) : Type 0 where
  pub hub : Corner
  pub lower : LastHas (λ s. pos 0 <ℤ side_of s q) below
  pub upper : FirstHas (λ s. side_of s q <ℤ pos 0) above
  pub ends : EachOf (EndsAt q hub) block
  pub begins : EachOf (BeginsAt q hub) new
  pub fan : Chained TurnsUp new
  pub linked : Chained EndsUnder below → Chained EndsUnder above → Chained EndsUnder (below ++ (new ++ above))

-- the list of active spans passes the place q
pub record IsPassage (q : Place) (new old now : List Span) : Type 0 where
  pub below : List Span
  pub block : List Span
  pub above : List Span
  pub before : old ≡ below ++ (block ++ above)
  pub after : now ≡ below ++ (new ++ above)
  pub passes : MayPass q below block above new
