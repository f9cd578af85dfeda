-- The ways from a vertex of a chain that keep within the bound of vertices before it.
use Rattle.std.specs.Prelude.{◌≡◌, Bool, true, false, ℕ, ℤ, pos, ◌-ℤ◌, ◌≤ℤ◌, ◌<ℤ◌, List}
use Rattle.grid_exact.specs.Geometry.{Place, turned, area_of, IsWithin}
use Rattle.grid_exact.specs.declared.frame.Direction.{Direction}
use Rattle.grid_exact.specs.declared.frame.Frame.{Frame}
use Rattle.grid_exact.specs.declared.frame.Frame.TheVariants.{Plain, Turned}
use Rattle.lane_kernels.specs.Places.{EachBetween, place_at}
use Rattle.shortcut_graph.specs.declared.corridor.Corridor.{Corridor}

-- the place seen in a mirror that stands upright
abbrev pub mirrored : Place → Place
mirrored p = record { x = pos 0 -ℤ p.x; y = p.y }

-- the place with the axis of the frame for the way across
abbrev pub laid_across : Frame → Place → Place
laid_across Plain p = p
laid_across Turned p = turned p

-- the place where the way across rises, or else in a mirror
abbrev pub made_rise : Bool → Place → Place
made_rise true p = p
made_rise false p = mirrored p

-- the place as it is seen where the direction is taken for the way across
abbrev pub seen_along : Direction → Place → Place
seen_along direction p = made_rise direction.rising (laid_across direction.frame p)

-- r is past the origin, and a way that goes no higher than r goes no higher than p and q
pub record IsLowerLimit (origin p q r : Place) : Type 0 where
  pub past : origin.x <ℤ r.x
  pub below : (v : Place) → origin.x ≤ℤ v.x → pos 0 ≤ℤ area_of origin v r → (pos 0 ≤ℤ area_of origin v p) × (pos 0 ≤ℤ area_of origin v q)

-- r is past the origin, and a way that goes no lower than r goes no lower than p and q
pub record IsUpperLimit (origin p q r : Place) : Type 0 where
  pub past : origin.x <ℤ r.x
  pub above : (v : Place) → origin.x ≤ℤ v.x → pos 0 ≤ℤ area_of origin r v → (pos 0 ≤ℤ area_of origin p v) × (pos 0 ≤ℤ area_of origin q v)

-- what the corridor knows is past its origin
pub record IsPastOrigin (c : Corridor) : Type 0 where
  pub reach : c.origin.x <ℤ c.reach
  pub ceiling : c.origin.x <ℤ c.ceiling.place.x
  pub floor : c.origin.x <ℤ c.floor.place.x

-- the way to v keeps to the corridor: it goes no higher than its ceiling, no lower than its floor, and as far as it reaches
pub record KeepsTo (c : Corridor) (v : Place) : Type 0 where
  pub passable : c.is_passable ≡ true
  pub far : c.reach ≤ℤ v.x
  pub below : pos 0 ≤ℤ area_of c.origin v c.ceiling.place
  pub above : pos 0 ≤ℤ area_of c.origin c.floor.place v

-- the corridor from the vertex j stands for the vertices from the number `first` to before j: a way that keeps to it is within the
-- bound of each
pub record IsCorridor (c : Corridor) (xs ys : List ℤ) (bound : ℤ) (first j : ℕ) : Type 0 where
  pub origin : c.origin ≡ seen_along c.direction (place_at xs ys j)
  pub past : c.is_passable ≡ true → IsPastOrigin c
  pub near : (v : Place) → KeepsTo c (seen_along c.direction v) → EachBetween first j (λ p. IsWithin (place_at xs ys j) v p bound) xs ys
