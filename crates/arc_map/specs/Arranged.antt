-- The edges of a map by their names, when two of them clash, and when the map is arranged: beside held arcs, or
-- altogether; where it is not arranged, its meeting.
use Rattle.std.specs.Prelude.{◌≡◌, ◌⊎◌, ◌+◌, ◌<◌, ◌==◌, ◌&&◌, ◌||◌, ◌↔◌, ℕ, pos, Bool, List, [], length, get_or, Contains}
use Rattle.std.specs.List.Sorted.{IsStrictlyIncreasing}
use Rattle.grid_exact.specs.Geometry.{Place, IsOnSegment}
use Rattle.grid_exact.specs.Clash.{Flags, Clash}
use Rattle.arc_map.specs.Map.{Map}
use Rattle.arc_map.specs.declared.refs.EdgeRef.{EdgeRef}

-- ---- positions and edges by their numbers

-- what stands past the end of a list of positions
abbrev pub nowhere : Place
nowhere = record { x = pos 0; y = pos 0 }

abbrev pub arc_at : Map → ℕ → List Place
arc_at m arc = get_or m.arcs arc []

abbrev pub position_at : Map → ℕ → ℕ → Place
position_at m arc at = get_or (arc_at m arc) at nowhere

-- whether the position is the first or the last of its arc
abbrev pub is_arc_end : Map → ℕ → ℕ → Bool
is_arc_end m arc at = (at == 0) || (at + 1 == length (arc_at m arc))

-- e is an edge of the map
abbrev pub IsMapEdge : Map → EdgeRef → Type 0
IsMapEdge m e = e.at + 1 < length (arc_at m e.arc)

abbrev pub edge_start : Map → EdgeRef → Place
edge_start m e = position_at m e.arc e.at

abbrev pub edge_end : Map → EdgeRef → Place
edge_end m e = position_at m e.arc (e.at + 1)

-- e is before f: by arc, then by place in the arc
abbrev pub IsEarlier : EdgeRef → EdgeRef → Type 0
IsEarlier e f = (e.arc < f.arc) ⊎ ((e.arc ≡ f.arc) × (e.at < f.at))

-- ---- clashes

-- what is known of the ends of two edges
abbrev pub flags_between : Map → EdgeRef → EdgeRef → Flags
flags_between m e f = record {
  a_end = is_arc_end m e.arc e.at;
  b_end = is_arc_end m e.arc (e.at + 1);
  c_end = is_arc_end m f.arc f.at;
  d_end = is_arc_end m f.arc (f.at + 1);
  joined = (e.arc == f.arc) && (e.at + 1 == f.at);
  joined_back = (e.arc == f.arc) && (f.at + 1 == e.at);
}

-- two different edges clash
abbrev pub EdgesClash : Map → EdgeRef → EdgeRef → Type 0
EdgesClash m e f = Clash (edge_start m e) (edge_end m e) (edge_start m f) (edge_end m f) (flags_between m e f)

-- the feature point number k is on the edge
abbrev pub PointIsOn : Map → ℕ → EdgeRef → Type 0
PointIsOn m k e = IsOnSegment (edge_start m e) (edge_end m e) (get_or m.points k nowhere)

-- ---- arranged

-- the map is arranged beside the held arcs: each clashing pair of edges is a pair of edges of held arcs,
-- and each feature point that is on an edge is on edges of held arcs alone
pub record IsMapArranged (held : List ℕ) (m : Map) : Type 0 where
  pub clashes : (e f : EdgeRef) → IsMapEdge m e → IsMapEdge m f → IsEarlier e f → EdgesClash m e f
      → Contains held e.arc × Contains held f.arc
  pub points : (k : ℕ) (e : EdgeRef) → k < length m.points → IsMapEdge m e → PointIsOn m k e → Contains held e.arc

-- the map is arranged: it is arranged beside no arcs, so no two edges clash and no feature point is on an edge
abbrev pub IsArranged : Map → Type 0
IsArranged m = IsMapArranged [] m

-- no two edges clash
abbrev pub HasNoClash : Map → Type 0
HasNoClash m = (e f : EdgeRef) → IsMapEdge m e → IsMapEdge m f → IsEarlier e f → ¬ (EdgesClash m e f)

-- ---- the meeting of a map that is not arranged

-- the edges e and f are the least clashing pair: e is before f, no pair with an earlier first edge
-- clashes, and e clashes with no edge between them and f
pub record IsLeastClash (m : Map) (e f : EdgeRef) : Type 0 where
  pub first_edge : IsMapEdge m e
  pub second_edge : IsMapEdge m f
  pub ordered : IsEarlier e f
  pub clash : EdgesClash m e f
  pub none_before : (g h : EdgeRef) → IsMapEdge m g → IsMapEdge m h → IsEarlier g h → IsEarlier g e → ¬ (EdgesClash m g h)
  pub none_between : (h : EdgeRef) → IsMapEdge m h → IsEarlier e h → IsEarlier h f → ¬ (EdgesClash m e h)

-- no edges clash, the feature point number k is the least that is on an edge, and e is the least edge
-- that it is on
pub record IsLeastPoint (m : Map) (k : ℕ) (e : EdgeRef) : Type 0 where
  pub no_clash : HasNoClash m
  pub point : k < length m.points
  pub edge : IsMapEdge m e
  pub on : PointIsOn m k e
  pub no_point_before : (l : ℕ) (g : EdgeRef) → l < k → IsMapEdge m g → ¬ (PointIsOn m l g)
  pub no_edge_before : (g : EdgeRef) → IsMapEdge m g → IsEarlier g e → ¬ (PointIsOn m k g)

-- ---- held arcs

-- an edge of the arc clashes with some edge, or a feature point is on an edge of the arc
pub data IsHeld (m : Map) (arc : ℕ) : Type 0 where
  ByFirst : (e f : EdgeRef) → e.arc ≡ arc → IsMapEdge m e → IsMapEdge m f → IsEarlier e f → EdgesClash m e f → IsHeld m arc
  BySecond : (e f : EdgeRef) → f.arc ≡ arc → IsMapEdge m e → IsMapEdge m f → IsEarlier e f → EdgesClash m e f → IsHeld m arc
  ByPoint : (k : ℕ) (e : EdgeRef) → e.arc ≡ arc → k < length m.points → IsMapEdge m e → PointIsOn m k e → IsHeld m arc

-- the held list of the map: the rising list of its held arcs
pub record IsHeldList (m : Map) (held : List ℕ) : Type 0 where
  pub rising : IsStrictlyIncreasing held
  pub all : (arc : ℕ) → Contains held arc ↔ IsHeld m arc
