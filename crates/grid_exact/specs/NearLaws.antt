-- What the laws on points near a segment say.
use Rattle.std.specs.Prelude.{ℤ, pos, ◌*ℤ◌, neg_ℤ, ◌≤ℤ◌, ◌<ℤ◌, ◌↔◌}
use Rattle.grid_exact.specs.Geometry.{Place, area_of, dot_of, length2_of, square_of, IsWithin}
use Rattle.grid_exact.specs.Near.{IsNear, IsGreatestRoot, weighted}

-- to be near with weights is to be near without, at the weighted places
abbrev pub NearIsWithinOfWeighted : Type 0
NearIsWithinOfWeighted = (wx wy : ℤ) (a b p : Place) (e : ℤ) → IsNear wx wy a b p e
    ↔ IsWithin (weighted wx wy a) (weighted wx wy b) (weighted wx wy p) e

-- with both weights 1 the two notions are one
abbrev pub NearByOneIsWithin : Type 0
NearByOneIsWithin = (a b p : Place) (e : ℤ) → IsNear (pos 1) (pos 1) a b p e ↔ IsWithin a b p e

-- beside a segment, an area is at most the threshold in size exactly where the point is within the bound
abbrev pub BesideIsWithinByThreshold : Type 0
BesideIsWithinByThreshold = (a b p : Place) (e t : ℤ) → pos 0 <ℤ dot_of a b p → dot_of a b p <ℤ length2_of a b
    → IsGreatestRoot (square_of e *ℤ length2_of a b) t → ((neg_ℤ t ≤ℤ area_of a b p) × (area_of a b p ≤ℤ t)) ↔ IsWithin a b p e
