-- Ends of two edges that are one place and may join there.
use Rattle.std.specs.Prelude.{◌≡◌, ◌⊎◌, IsTrue}
use Rattle.grid_exact.specs.Geometry.{Place}
use Rattle.grid_exact.specs.Clash.{Flags}

-- the start of the second edge may be where the end of the first is
abbrev pub MayFollow : Flags → Type 0
MayFollow flags = (IsTrue flags.b_end × IsTrue flags.c_end) ⊎ IsTrue flags.joined

-- the end of the second edge may be where the start of the first is
abbrev pub MayClose : Flags → Type 0
MayClose flags = (IsTrue flags.a_end × IsTrue flags.d_end) ⊎ IsTrue flags.joined_back

-- two ends of the edges ab and cd are one place at which they may join
pub data JoinLawfully (a b c d : Place) (flags : Flags) : Type 0 where
  AtStarts : IsTrue flags.a_end → IsTrue flags.c_end → a ≡ c → JoinLawfully a b c d flags
  AtEnds : IsTrue flags.b_end → IsTrue flags.d_end → b ≡ d → JoinLawfully a b c d flags
  AtStartAndEnd : MayClose flags → a ≡ d → JoinLawfully a b c d flags
  AtEndAndStart : MayFollow flags → b ≡ c → JoinLawfully a b c d flags
