-- Edges and feature points as they are read from a map.
use Rattle.std.proofs.Common.{◌≡◌, ◌∙◌, ◌+◌, ◌-◌, ◌<◌, ◌≤◌, ℕ, List, [], ◌∷◌, Some, length, get_or, sym, ap, subst, arith}
use Rattle.std.specs.Prelude.{slice_get}
use Rattle.std.proofs.lemmas.List.{get_or_default}
use Rattle.std.proofs.lemmas.Option.{get_or_from_slice_get}
use Rattle.grid_exact.specs.Geometry.{Place}
use Rattle.arc_map.specs.Map.{IsArc, Map}
use Rattle.arc_map.specs.Arranged.{arc_at, edge_end, edge_start, nowhere}
use Rattle.sweep_index.specs.Things.{IsRound}
use Rattle.sweep_index.specs.declared.things.Extent.{Extent}

arc_is : (m : Map) (arc : ℕ) (ps : List Place) → slice_get m.arcs arc ≡ Some ps → arc_at m arc ≡ ps
arc_is m arc ps is = get_or_from_slice_get m.arcs arc ps [] is

pub arc_length : (m : Map) (arc : ℕ) (ps : List Place) → slice_get m.arcs arc ≡ Some ps → length (arc_at m arc) ≡ length ps
arc_length m arc ps is = ap length (arc_is m arc ps is)

pub some_position : (ps : List Place) → IsArc ps → 0 < length ps
some_position [] is_arc = absurd is_arc
some_position (p ∷ ps) is_arc = omega arith

position_read : (m : Map) (arc at : ℕ) (ps : List Place) (p : Place) → slice_get m.arcs arc ≡ Some ps → at < length ps → p ≡ get_or ps at p
    → p ≡ get_or (arc_at m arc) at nowhere
position_read m arc at ps p is within read = read ∙ (get_or_default ps at p nowhere within
    ∙ ap (λ qs. get_or qs at nowhere) (sym (arc_is m arc ps is)))

-- the box round two neighbours of an arc, as they are read at a place and at the one before it
pub round_edge : (m : Map) (arc at : ℕ) (ps : List Place) (p q : Place) (extent : Extent) → slice_get m.arcs arc ≡ Some ps → 1 ≤ at
    → at < length ps → p ≡ get_or ps (at - 1) p → q ≡ get_or ps at q → IsRound p q extent
    → IsRound (edge_start m (record { arc = arc; at = at - 1 })) (edge_end m (record { arc = arc; at = at - 1 })) extent
round_edge m arc at ps p q extent is some within first second round =
    let next : at ≡ at - 1 + 1 = omega (arith, some) in
    let start = position_read m arc (at - 1) ps p is (omega (arith, within)) first in
    let stop = position_read m arc at ps q is within second ∙ ap (λ k. get_or (arc_at m arc) k nowhere) next in
    subst (λ a. IsRound a (edge_end m (record { arc = arc; at = at - 1 })) extent) start (subst (λ b. IsRound p b extent) stop round)

-- the box round a feature point
pub round_point : (m : Map) (k : ℕ) (p : Place) (extent : Extent) → slice_get m.points k ≡ Some p → IsRound p p extent
    → IsRound (get_or m.points k nowhere) (get_or m.points k nowhere) extent
round_point m k p extent is round = subst (λ a. IsRound a a extent) (sym (get_or_from_slice_get m.points k p nowhere is)) round
