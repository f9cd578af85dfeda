-- One range is below the other, or above it.
use Rattle.std.proofs.Common.{◌↔◌, inl, inr, IsTrue}
use Rattle.std.proofs.lemmas.Int.{to_z-of_z}
use Rattle.segment_tests.specs.Meeting.{AreBelow}
use Rattle.segment_tests.proofs.meeting.are_ranges_apart.Goals as goal

pub returns-then-are_below : goal.returns-then-are_below
returns-then-are_below c =
    let told : AreBelow c.args.a c.args.b c.args.c c.args.d = simp (to_z-of_z, c.ranges.a, c.ranges.b, c.ranges.c, c.ranges.d) at
    (c.are_below.ensures.0 c.if-are_below.true) in
    (λ t. inl told, λ h. c.if-are_below.true)

pub returns-else-are_below : goal.returns-else-are_below
returns-else-are_below c =
    let first : IsTrue c.are_below.result ↔ AreBelow c.args.a c.args.b c.args.c c.args.d =
    simp (to_z-of_z, c.ranges.a, c.ranges.b, c.ranges.c, c.ranges.d) at c.are_below.ensures in
    let second : IsTrue c.are_below-else-are_below.result ↔ AreBelow c.args.c c.args.d c.args.a c.args.b =
    simp (to_z-of_z, c.ranges.a, c.ranges.b, c.ranges.c, c.ranges.d) at c.are_below-else-are_below.ensures in
    (λ t. inr (second.0 t), λ h. elim h [ inl k ↦ let yes : IsTrue c.are_below.result = first.1 k in cc | inr k ↦ second.1 k ])
