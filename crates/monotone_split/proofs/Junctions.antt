-- Common points at the ends of edges, and whether they are lawful.
use Rattle.std.proofs.Common.{◌≡◌, ◌⊎◌, inl, inr, ℤ, pos, ◌≤ℤ◌, arith}
use Rattle.std.proofs.lemmas.Int.{ints}
use Rattle.grid_exact.specs.Geometry.{IsOnSegment}
use Rattle.grid_exact.proofs.Commons.{at_start, at_end, common_at_start, common_at_end, common_starts, common_start_and_end}
use Rattle.grid_exact.proofs.Commons.{common_end_and_start, common_ends}
use Rattle.arc_map.specs.Vertices.{Vertex, MayJoin, MeetLawfully}
use Rattle.arc_map.specs.Vertices.IsJunction.{Starts, StartAndEnd, EndAndStart, Ends}

-- ---- one place

-- ---- the junction at which two edges share a place

one_is_none : pos 1 ≡ pos 0 → ⊥
one_is_none e = omega (arith, ints)

none_is_one : pos 0 ≡ pos 1 → ⊥
none_is_one e = omega (arith, ints)

pub join_at_starts : (a b c d : Vertex) → MeetLawfully a b c d → a.place ≡ c.place → MayJoin a c
join_at_starts a b c d lawful same =
    elim (lawful (common_starts a.place b.place c.place d.place same)) [
      | Starts e f m ↦ m
      | StartAndEnd e f m ↦ absurd (none_is_one f)
      | EndAndStart e f m ↦ absurd (none_is_one e)
      | Ends e f m ↦ absurd (none_is_one e)
    ]

pub join_at_start_and_end : (a b c d : Vertex) → MeetLawfully a b c d → a.place ≡ d.place → MayJoin a d
join_at_start_and_end a b c d lawful same =
    elim (lawful (common_start_and_end a.place b.place c.place d.place same)) [
      | Starts e f m ↦ absurd (one_is_none f)
      | StartAndEnd e f m ↦ m
      | EndAndStart e f m ↦ absurd (none_is_one e)
      | Ends e f m ↦ absurd (none_is_one e)
    ]

pub join_at_end_and_start : (a b c d : Vertex) → MeetLawfully a b c d → b.place ≡ c.place → MayJoin b c
join_at_end_and_start a b c d lawful same =
    elim (lawful (common_end_and_start a.place b.place c.place d.place same)) [
      | Starts e f m ↦ absurd (one_is_none e)
      | StartAndEnd e f m ↦ absurd (one_is_none e)
      | EndAndStart e f m ↦ m
      | Ends e f m ↦ absurd (none_is_one f)
    ]

pub join_at_ends : (a b c d : Vertex) → MeetLawfully a b c d → b.place ≡ d.place → MayJoin b d
join_at_ends a b c d lawful same =
    elim (lawful (common_ends a.place b.place c.place d.place same)) [
      | Starts e f m ↦ absurd (one_is_none e)
      | StartAndEnd e f m ↦ absurd (one_is_none e)
      | EndAndStart e f m ↦ absurd (one_is_none f)
      | Ends e f m ↦ m
    ]

some_denominator : (n : ℤ) → pos 1 ≤ℤ n → pos 0 ≡ n → ⊥
some_denominator n one e = omega (arith, ints)

some_denominator_back : (n : ℤ) → pos 1 ≤ℤ n → n ≡ pos 0 → ⊥
some_denominator_back n one e = omega (arith, ints)

-- the start of a lawful edge lies on the other only as one of its ends
pub start_on_other : (a b c d : Vertex) → MeetLawfully a b c d → IsOnSegment c.place d.place a.place
    → (a.place ≡ c.place) ⊎ (a.place ≡ d.place)
start_on_other a b c d lawful on =
    elim (lawful (common_at_start a.place b.place c.place d.place on)) [
      | Starts e f m ↦ inl (at_start c.place d.place a.place on f)
      | StartAndEnd e f m ↦ inr (at_end c.place d.place a.place on f)
      | EndAndStart e f m ↦ absurd (some_denominator on.denominator on.whole e)
      | Ends e f m ↦ absurd (some_denominator on.denominator on.whole e)
    ]

pub end_on_other : (a b c d : Vertex) → MeetLawfully a b c d → IsOnSegment c.place d.place b.place
    → (b.place ≡ c.place) ⊎ (b.place ≡ d.place)
end_on_other a b c d lawful on =
    elim (lawful (common_at_end a.place b.place c.place d.place on)) [
      | Starts e f m ↦ absurd (some_denominator_back on.denominator on.whole e)
      | StartAndEnd e f m ↦ absurd (some_denominator_back on.denominator on.whole e)
      | EndAndStart e f m ↦ inl (at_start c.place d.place b.place on f)
      | Ends e f m ↦ inr (at_end c.place d.place b.place on f)
    ]
