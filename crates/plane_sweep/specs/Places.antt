-- The places of the ends of spans.
use Rattle.std.specs.Prelude.{◌≡◌, List, Contains}
use Rattle.grid_exact.specs.Geometry.{Place, IsBefore}
use Rattle.plane_sweep.specs.declared.spans.Span.{Span}
use Rattle.plane_sweep.specs.Meeting.{MeetLawfully}

-- each place of the first list is one of the second
abbrev pub ContainsAll : List Place → List Place → Type 0
ContainsAll xs ys = (p : Place) → Contains xs p → Contains ys p

-- the place where each span ends is one of these
abbrev pub HasHighs : List Span → List Place → Type 0
HasHighs spans places = (s : Span) → Contains spans s → Contains places s.high.place

-- any two spans of different edges meet lawfully
abbrev pub AllMeetLawfully : List Span → Type 0
AllMeetLawfully spans = (e f : Span) → Contains spans e → Contains spans f → ¬ (e.edge ≡ f.edge) → MeetLawfully e f

-- each span runs from its lower end to its higher one
abbrev pub AllRise : List Span → Type 0
AllRise spans = (s : Span) → Contains spans s → IsBefore s.low.place s.high.place
