-- When two spans meet lawfully, and when one is under the other where the later of them begins and where the earlier ends.
use Rattle.std.specs.Prelude.{◌≡◌, ℤ, pos, IsTrue, ◌≤ℤ◌, ◌<ℤ◌}
use Rattle.grid_exact.specs.Geometry.{Place, area_of, CommonPoint}
use Rattle.grid_exact.specs.Spans.{IsUpTo}
use Rattle.plane_sweep.specs.declared.spans.Corner.{Corner}
use Rattle.plane_sweep.specs.declared.spans.Span.{Span}

-- edges may join where these two corners are: they are one corner, or both end their arcs
pub data MayJoin (v w : Corner) : Type 0 where
  One : v ≡ w → MayJoin v w
  BothEnd : IsTrue v.is_end → IsTrue w.is_end → MayJoin v w

-- the common point with these fractions is a lawful junction of two spans: an end of each, where they may join
pub data IsJunction (e f : Span) (denominator first second : ℤ) : Type 0 where
  Lows : first ≡ pos 0 → second ≡ pos 0 → MayJoin e.low f.low → IsJunction e f denominator first second
  LowAndHigh : first ≡ pos 0 → second ≡ denominator → MayJoin e.low f.high → IsJunction e f denominator first second
  HighAndLow : first ≡ denominator → second ≡ pos 0 → MayJoin e.high f.low → IsJunction e f denominator first second
  Highs : first ≡ denominator → second ≡ denominator → MayJoin e.high f.high → IsJunction e f denominator first second

-- each common point of the spans is a lawful junction
abbrev pub MeetLawfully : Span → Span → Type 0
MeetLawfully e f = (h : CommonPoint e.low.place e.high.place f.low.place f.high.place) → IsJunction e f h.denominator h.first h.second

-- on which side of the span the place is: positive above it, 0 on its line
abbrev pub side_of : Span → Place → ℤ
side_of e q = area_of e.low.place e.high.place q

-- e is under f where the later of them begins; where they begin at one place they may join there, and f turns up from e
pub data BeginsUnder (e f : Span) : Type 0 where
  LaterAbove : IsUpTo e.low.place f.low.place → pos 0 <ℤ side_of e f.low.place → BeginsUnder e f
  LaterBelow : IsUpTo f.low.place e.low.place → side_of f e.low.place <ℤ pos 0 → BeginsUnder e f
  Together : e.low.place ≡ f.low.place → MayJoin e.low f.low → pos 0 <ℤ side_of e f.high.place → BeginsUnder e f

-- e is not over f where the earlier of them ends
pub data EndsUnder (e f : Span) : Type 0 where
  SoonerAbove : IsUpTo f.high.place e.high.place → pos 0 ≤ℤ side_of e f.high.place → EndsUnder e f
  SoonerBelow : IsUpTo e.high.place f.high.place → side_of f e.high.place ≤ℤ pos 0 → EndsUnder e f
