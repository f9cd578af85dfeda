-- What is true of built maps: each edge stands in one arc, and the map is arranged exactly where its rings are clean.
use Rattle.std.specs.Prelude.{◌≡◌, ◌⊎◌, ℤ, pos, List, Contains}
use Rattle.grid_exact.specs.Geometry.{Place, CommonPoint, IsOnSegment}
use Rattle.grid_exact.specs.Segments.{SameEnds}
use Rattle.arc_map.specs.Arcs.{edges_of_arcs}
use Rattle.arc_map.specs.Edges.{Edge, EachTwo}
use Rattle.topo_build.specs.Junctions.{Turn}

-- the common point with these fractions is an end of both edges
abbrev pub IsEndOfBoth : ℤ → ℤ → ℤ → Type 0
IsEndOfBoth denominator first second = ((first ≡ pos 0) ⊎ (first ≡ denominator)) × ((second ≡ pos 0) ⊎ (second ≡ denominator))

-- the rings with these turns are clean: two edges with different ends have only ends in common, and no point is on an edge. An edge joins
-- the position of a turn with the one before it.
pub record AreClean (turns : List Turn) (points : List Place) : Type 0 where
  pub edges : (t u : Turn) → Contains turns t → Contains turns u → ¬ (SameEnds t.before t.at u.before u.at) →
      (h : CommonPoint t.before t.at u.before u.at) → IsEndOfBoth h.denominator h.first h.second
  pub off : (p : Place) (t : Turn) → Contains points p → Contains turns t → ¬ (IsOnSegment t.before t.at p)

-- the edge e joins the two positions
abbrev pub IsEdgeBetween : Place → Place → Edge → Type 0
IsEdgeBetween a b e = SameEnds a b e.start.place e.end.place

-- each two neighbours in a ring are the ends of an edge of the arcs, and no two edges of the arcs have the same ends
pub record HasEachEdgeOnce (turns : List Turn) (arcs : List (List Place)) : Type 0 where
  pub all : (t : Turn) → Contains turns t → (e : Edge) × Contains (edges_of_arcs 0 arcs) e × IsEdgeBetween t.before t.at e
  pub only : (e : Edge) → Contains (edges_of_arcs 0 arcs) e → (t : Turn) × Contains turns t × IsEdgeBetween t.before t.at e
  pub once : EachTwo (λ e f. ¬ (IsEdgeBetween e.start.place e.end.place f)) (edges_of_arcs 0 arcs)
