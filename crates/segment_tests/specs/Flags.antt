-- What a joint says of the ends of two edges.
use Rattle.std.specs.Prelude.{Bool, true, false}
use Rattle.grid_exact.specs.Clash.{Flags}
use Rattle.segment_tests.specs.declared.edges.Joint.{Joint}
use Rattle.segment_tests.specs.declared.edges.Neighbours.{Neighbours}
use Rattle.segment_tests.specs.declared.edges.Neighbours.TheVariants.{Apart, Joined, JoinedBack}

abbrev pub is_joined : Neighbours → Bool
is_joined Apart = false
is_joined Joined = true
is_joined JoinedBack = false

abbrev pub is_joined_back : Neighbours → Bool
is_joined_back Apart = false
is_joined_back Joined = false
is_joined_back JoinedBack = true

abbrev pub flags_of : Joint → Flags
flags_of joint = record {
  a_end = joint.a_end;
  b_end = joint.b_end;
  c_end = joint.c_end;
  d_end = joint.d_end;
  joined =
      is_joined joint.neighbours;
  joined_back = is_joined_back joint.neighbours;
}
