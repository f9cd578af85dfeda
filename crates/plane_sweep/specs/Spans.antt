-- The edges of a map as spans from their lower end to their higher one.
use Rattle.std.specs.Prelude.{◌≡◌, ◌⊎◌, ◌+◌, ◌==◌, ◌||◌, ℕ, false, List, All, Contains, length, map, slice_index_or}
use Rattle.grid_exact.specs.Geometry.{Place, IsBefore}
use Rattle.arc_map.specs.Map.{Map}
use Rattle.arc_map.specs.Arranged.{IsMapEdge, arc_at, nowhere}
use Rattle.arc_map.specs.declared.refs.EdgeRef.{EdgeRef}
use Rattle.sweep_index.specs.Things.{IsEdgeBefore}
use Rattle.plane_sweep.specs.declared.spans.Corner.{Corner}
use Rattle.plane_sweep.specs.declared.spans.Span.{Span}

-- the position of an arc with this number
abbrev pub corner_at : List Place → ℕ → ℕ → Corner
corner_at positions arc at = record {
  arc = arc;
  at = at;
  is_end = (at == 0) || (at + 1 == length positions);
  place =
      slice_index_or positions at nowhere;
}

-- the span is the edge of the arc from this position to the next, from its end that is before the other to that one
pub record IsSpanAt (positions : List Place) (arc at : ℕ) (s : Span) : Type 0 where
  pub named : s.edge ≡ record { arc = arc; at = at }
  pub ends : ((s.low ≡ corner_at positions arc at) × (s.high ≡ corner_at positions arc (at + 1)))
      ⊎ ((s.low ≡ corner_at positions arc (at + 1)) × (s.high ≡ corner_at positions arc at))
  pub rising : IsBefore s.low.place s.high.place

-- the position of the map with this number in its arc
abbrev pub corner_in : Map → ℕ → ℕ → Corner
corner_in m arc at = corner_at (arc_at m arc) arc at

-- the span is an edge of the map
pub record IsSpanOf (m : Map) (s : Span) : Type 0 where
  pub edge : IsMapEdge m s.edge
  pub ends : ((s.low ≡ corner_in m s.edge.arc s.edge.at) × (s.high ≡ corner_in m s.edge.arc (s.edge.at + 1)))
      ⊎ ((s.low ≡ corner_in m s.edge.arc (s.edge.at + 1)) × (s.high ≡ corner_in m s.edge.arc s.edge.at))
  pub rising : IsBefore s.low.place s.high.place

-- one of the spans is this edge
pub record HasSpan (spans : List Span) (e : EdgeRef) : Type 0 where
  pub span : Span
  pub held : Contains spans span
  pub is : span.edge ≡ e

-- these are spans of the map, and each of its edges before this place of this arc is one of them
pub record AreSpansBefore (m : Map) (arc at : ℕ) (spans : List Span) : Type 0 where
  pub only : All (IsSpanOf m) spans
  pub all : (e : EdgeRef) → IsMapEdge m e → IsEdgeBefore arc at e → HasSpan spans e

-- these are spans of the map, and each of its edges is one of them
pub record AreSpansOf (m : Map) (spans : List Span) : Type 0 where
  pub only : All (IsSpanOf m) spans
  pub all : (e : EdgeRef) → IsMapEdge m e → HasSpan spans e

-- a span at no edge
abbrev pub no_corner : Corner
no_corner = record { arc = 0; at = 0; is_end = false; place = nowhere }

abbrev pub no_span : Span
no_span = record { low = no_corner; high = no_corner; edge = record { arc = 0; at = 0 } }

-- the span with this number
abbrev pub span_of : List Span → ℕ → Span
span_of spans number = slice_index_or spans number no_span

-- the spans with these numbers
abbrev pub spans_in : List Span → List ℕ → List Span
spans_in spans numbers = map (span_of spans) numbers
