-- When two edges of a map clash.
use Rattle.std.specs.Prelude.{◌≡◌, ℤ, pos, Bool, IsTrue}
use Rattle.grid_exact.specs.Geometry.{Place, CommonPoint}

-- what is known of the ends of two edges ab and cd
pub record Flags : Type 0 where
  -- this end is a first or last position of its arc
  pub a_end : Bool
  pub b_end : Bool
  pub c_end : Bool
  pub d_end : Bool
  -- b and c are one position of one arc
  pub joined : Bool
  -- d and a are one position of one arc
  pub joined_back : Bool

-- the common point with these fractions is a lawful junction: it is an end of both edges, and either
-- both positions are first or last positions of their arcs, or it joins neighbours of one arc
pub data IsLawful (flags : Flags) (denominator first second : ℤ) : Type 0 where
  Starts : first ≡ pos 0 → second ≡ pos 0 → IsTrue flags.a_end → IsTrue flags.c_end → IsLawful flags denominator first second
  StartAndEnd : first ≡ pos 0 → second ≡ denominator → IsTrue flags.a_end → IsTrue flags.d_end → IsLawful flags denominator first second
  EndAndStart : first ≡ denominator → second ≡ pos 0 → IsTrue flags.b_end → IsTrue flags.c_end → IsLawful flags denominator first second
  Ends : first ≡ denominator → second ≡ denominator → IsTrue flags.b_end → IsTrue flags.d_end → IsLawful flags denominator first second
  Next : first ≡ denominator → second ≡ pos 0 → IsTrue flags.joined → IsLawful flags denominator first second
  Previous : first ≡ pos 0 → second ≡ denominator → IsTrue flags.joined_back → IsLawful flags denominator first second

-- the edges ab and cd have a common point that is no lawful junction
pub record Clash (a b c d : Place) (flags : Flags) : Type 0 where
  pub common : CommonPoint a b c d
  pub unlawful : ¬ (IsLawful flags common.denominator common.first common.second)
