-- The arcs that are built of rings, and the references of the rings to them.
use Rattle.std.specs.Prelude.{◌≡◌, ◌<◌, ℕ, ℤ, pos, false, List, [], ◌∷◌, ◌++◌, All, length, map, take}
use Rattle.grid_exact.specs.Geometry.{Place}
use Rattle.arc_map.specs.Map.{Map}
use Rattle.geo_reader.specs.Geo.{Geo}
use Rattle.topo_build.specs.Cyclic.{closed_from, cyclic}
use Rattle.topo_build.specs.Junctions.{IsJunction, Turn, turns_of}
use Rattle.topo_build.specs.References.{arc_of, polygons_of, walk_of}

-- ---- pieces

-- the list goes once round the ring, wherever it begins
abbrev pub IsRound : List Place → List Place → Type 0
IsRound ring ps = (at : ℕ) × (at < length ring) × (ps ≡ closed_from ring at)

-- an arc that was made before is the piece in the direction of the reference; `Is` tells which lists count as the piece
pub record IsEarlier (Is : List Place → Type 0) (arcs : List (List Place)) (r : ℤ) : Type 0 where
  pub known : arc_of r < length arcs
  pub is : Is (walk_of arcs r)

-- where these arcs were made before, the reference is that of the piece, and `after` are the arcs then: an earlier arc if
-- one is the piece in one of its directions, and else the next arc, forwards
pub data IsTaken (Is : List Place → Type 0) (piece : List Place) (arcs : List (List Place)) (r : ℤ) (after : List (List Place)) :
    Type 0 where
  Earlier : IsEarlier Is arcs r → after ≡ arcs → IsTaken Is piece arcs r after
  Next : ((s : ℤ) → ¬ (IsEarlier Is arcs s)) → r ≡ pos (length arcs) → after ≡ arcs ++ piece ∷ [] → IsTaken Is piece arcs r after

-- a piece of a ring with junctions
abbrev pub IsPieceTaken : List Place → List (List Place) → ℤ → List (List Place) → Type 0
IsPieceTaken piece arcs r after = IsTaken (λ ps. ps ≡ piece) piece arcs r after

-- a whole ring without junctions, which is the same wherever it begins
abbrev pub IsRingTaken : List Place → List (List Place) → ℤ → List (List Place) → Type 0
IsRingTaken ring arcs r after = IsTaken (IsRound ring) (closed_from ring 0) arcs r after

-- ---- rings, where pieces are taken in this way

-- a walk from v along ws begins with a piece: it ends at the first junction, and its reference is r
pub record BeginsWith (Take : List Place → List (List Place) → ℤ → List (List Place) → Type 0) (Junction : Place
    → Type 0) (v : Place) (ws : List Place) (arcs : List (List Place)) (r : ℤ) : Type 0 where
  pub inner : List Place
  pub last : Place
  pub rest : List Place
  pub after : List (List Place)
  pub along : ws ≡ inner ++ last ∷ rest
  pub plain : All (λ p. ¬ (Junction p)) inner
  pub junction : Junction last
  pub taken : Take (v ∷ (inner ++ last ∷ [])) arcs r after

-- a walk from v along ws is cut at each junction, and the pieces are taken in order: these are their references, and `after`
-- are the arcs then
abbrev pub AreTaken : (List Place → List (List Place) → ℤ → List (List Place) → Type 0) → (Place → Type 0) → Place → List Place
    → List (List Place) → List ℤ → List (List Place) → Type 0
AreTaken Take Junction v ws arcs [] after = (ws ≡ []) × (after ≡ arcs)
AreTaken Take Junction v ws arcs (r ∷ rs) after = (b : BeginsWith Take Junction v ws arcs r)
    × AreTaken Take Junction b.last b.rest b.after rs after

-- where these arcs were made before, these are the references of a ring, a cyclic list, and `after` are the arcs then
pub data IsRingBuilt (Take TakeRing : List Place → List (List Place) → ℤ → List (List Place) → Type 0) (Junction : Place
    → Type 0) (ring : List Place) (arcs : List (List Place)) (refs : List ℤ) (after : List (List Place)) : Type 0 where
  -- one position is always the next arc
  Single : (p : Place) → ring ≡ p ∷ [] → refs ≡ pos (length arcs) ∷ [] → after ≡ arcs ++ (p ∷ []) ∷ [] →
      IsRingBuilt Take TakeRing Junction ring arcs refs after
  -- a ring without junctions is one closed arc
  Free : (r : ℤ) → 1 < length ring → All (λ p. ¬ (Junction p)) ring → refs ≡ r ∷ [] → TakeRing ring arcs r after →
      IsRingBuilt Take TakeRing Junction ring arcs refs after
  -- any other ring is cut at its junctions, from the first one on
  Cut : (at : ℕ) (v : Place) (ws : List Place) → 1 < length ring → at < length ring → All (λ p. ¬ (Junction p)) (take at ring) →
      closed_from ring at ≡ v ∷ ws → Junction v → AreTaken Take Junction v ws arcs refs after →
      IsRingBuilt Take TakeRing Junction ring arcs refs after

-- the same of rings in order: for each ring its references
abbrev pub AreRingsBuilt : (List Place → List (List Place) → ℤ → List (List Place) → Type 0)
    → (List Place → List (List Place) → ℤ → List (List Place) → Type 0) → (Place → Type 0) → List (List Place) → List (List Place)
    → List (List ℤ) → List (List Place) → Type 0
AreRingsBuilt Take TakeRing Junction [] arcs [] after = after ≡ arcs
AreRingsBuilt Take TakeRing Junction [] arcs (refs ∷ rest) after = ⊥
AreRingsBuilt Take TakeRing Junction (ring ∷ rings) arcs [] after = ⊥
AreRingsBuilt Take TakeRing Junction (ring ∷ rings) arcs (refs ∷ rest) after =
    (next : List (List Place)) × IsRingBuilt Take TakeRing Junction ring arcs refs next
    × AreRingsBuilt Take TakeRing Junction rings next rest after

-- ---- maps

abbrev pub rings_of : Geo → List (List Place)
rings_of geo = map cyclic geo.rings

abbrev pub geo_turns : Geo → List Turn
geo_turns geo = turns_of 0 (rings_of geo)

-- the map and the references of each ring that are built of what was read
pub record IsBuilt (geo : Geo) (m : Map) (rings : List (List ℤ)) : Type 0 where
  pub arcs : AreRingsBuilt IsPieceTaken IsRingTaken (IsJunction (geo_turns geo)) (rings_of geo) [] rings m.arcs
  pub points : m.points ≡ geo.points
  pub polygons : m.polygons ≡ polygons_of geo.polygons rings
  pub coded : m.coded ≡ false
