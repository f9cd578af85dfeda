-- The plane seen in another way: a map of its places that keeps what edges have in common and how often walks are crossed.
use Rattle.std.specs.Prelude.{◌≡◌, List, map, pos, ◌-ℤ◌}
use Rattle.grid_exact.specs.Geometry.{Place, IsOnSegment, CommonPoint}
use Rattle.grid_exact.specs.Crossing.{is_crossed}
use Rattle.grid_exact.specs.Walks.{count_edges, is_odd, end_of, IsOff}

-- a common point as it is seen: the same fractions
pub record SeenCommon (view : Place → Place) (a b c d : Place) (h : CommonPoint a b c d) : Type 0 where
  pub point : CommonPoint (view a) (view b) (view c) (view d)
  pub denominator : point.denominator ≡ h.denominator
  pub first : point.first ≡ h.first
  pub second : point.second ≡ h.second

pub record IsView (view : Place → Place) : Type 0 where
  pub one_to_one : (a b : Place) → view a ≡ view b → a ≡ b
  pub common : (a b c d : Place) (h : CommonPoint a b c d) → SeenCommon view a b c d h
  pub common_back : (a b c d : Place) → CommonPoint (view a) (view b) (view c) (view d) → CommonPoint a b c d
  pub on_back : (a b p : Place) → IsOnSegment (view a) (view b) (view p) → IsOnSegment a b p
  -- from a point on none of its edges, a closed walk is crossed with the same parity
  pub parity : (p v : Place) (ws : List Place) → IsOff p v ws → end_of v ws ≡ v
      → is_odd (count_edges (is_crossed p) v ws) ≡ is_odd (count_edges (is_crossed (view p)) (view v) (map view ws))

-- the plane as it is
abbrev pub same_view : Place → Place
same_view v = v

-- the plane turned half round
abbrev pub negated : Place → Place
negated a = record { x = pos 0 -ℤ a.x; y = pos 0 -ℤ a.y }
