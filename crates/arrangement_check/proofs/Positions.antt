-- Positions of edges, and that the two of an edge differ.
use Rattle.std.proofs.Common.{◌≡◌, ◌∙◌, ◌+◌, ◌<◌, ◌≤◌, ◌↔◌, ℕ, zero, suc, List, [], ◌∷◌, Bool, length, get_or, sym, ap, subst, arith, Some}
use Rattle.std.proofs.Common.{refl, inl, inr}
use Rattle.std.specs.Prelude.{◌≢◌, ◌⊎◌, slice_get}
use Rattle.std.proofs.lemmas.List.{get_or_default}
use Rattle.std.proofs.lemmas.Bool.{cases_lt}
use Rattle.std.proofs.Math.ListN.{get_or-eq_default}
use Rattle.std.proofs.lemmas.Option.{get_or_from_slice_get}
use Rattle.grid_exact.specs.Geometry.{Place}
use Rattle.grid_exact.specs.Walks.{EachEdge}
use Rattle.grid_exact.specs.Clash.{Clash, Flags}
use Rattle.arc_map.specs.Map.{IsArc, Map}
use Rattle.arc_map.specs.Arranged.{IsMapEdge, arc_at, nowhere, position_at}
use Rattle.arc_map.specs.declared.refs.EdgeRef.{EdgeRef}

next_differs : (p : Place) (ps : List Place) → EachEdge (λ a b. a ≢ b) p ps → (at : ℕ) (d : Place) → suc at < length (p ∷ ps)
    → get_or (p ∷ ps) at d ≡ get_or (p ∷ ps) (suc at) d → ⊥
next_differs p [] each at d within = absurd (omega (arith, within))
next_differs p (q ∷ ps) each zero d within = each.0
next_differs p (q ∷ ps) each (suc at) d within = next_differs q ps each.1 at d (omega (arith, within))

positions_differ : (ps : List Place) → IsArc ps → (at : ℕ) (d : Place) → suc at < length ps → get_or ps at d ≡ get_or ps (suc at) d → ⊥
positions_differ [] is_arc at d within = absurd is_arc
positions_differ (p ∷ ps) is_arc at d within = next_differs p ps is_arc at d within

-- the two positions of an edge, as they are read
pub ends_differ : (ps : List Place) (at : ℕ) (a b : Place) → IsArc ps → at + 1 < length ps → a ≡ get_or ps at a → b ≡ get_or ps (at + 1) b
    → a ≡ b → ⊥
ends_differ ps at a b is_arc within first second same =
    let step : at + 1 ≡ suc at = omega arith in
    positions_differ ps is_arc at a (omega (arith, within))
    (sym first ∙ same ∙ second ∙ get_or_default ps (at + 1) b a within ∙ ap (λ n. get_or ps n a) step)

-- the arc with this number
pub arc_is : (m : Map) (arc : ℕ) (ps : List Place) → slice_get m.arcs arc ≡ Some ps → arc_at m arc ≡ ps
arc_is m arc ps is = get_or_from_slice_get m.arcs arc ps [] is

pub position_is : (m : Map) (arc at : ℕ) (ps : List Place) (p : Place) → slice_get m.arcs arc ≡ Some ps → at < length ps
    → p ≡ get_or ps at p → position_at m arc at ≡ p
position_is m arc at ps p is within read = ap (λ qs. get_or qs at nowhere) (arc_is m arc ps is) ∙ get_or_default ps at nowhere p within
    ∙ sym read

-- the edge is within its arc as it is read
pub edge_within : (m : Map) (e : EdgeRef) (ps : List Place) → slice_get m.arcs e.arc ≡ Some ps → IsMapEdge m e → e.at + 1 < length ps
edge_within m e ps is edge = subst (λ qs. e.at + 1 < length qs) (arc_is m e.arc ps is) edge

-- a clash of places and flags that are known by other names
pub same_clash : (T : Type 0) (a a' b b' c c' d d' : Place) (g g' : Flags) → a ≡ a' → b ≡ b' → c ≡ c' → d ≡ d' → g ≡ g'
    → (T ↔ Clash a' b' c' d' g') → T ↔ Clash a b c d g
same_clash T a a' b b' c c' d d' g g' ea eb ec ed eg says = rw (ea, eb, ec, ed, eg) says

pub same_flags : (a a' b b' c c' d d' j j' k k' : Bool) → a ≡ a' → b ≡ b' → c ≡ c' → d ≡ d' → j ≡ j' → k ≡ k'
    → (let f : Flags = record { a_end = a; b_end = b; c_end = c; d_end = d; joined = j; joined_back = k } in f)
    ≡ record { a_end = a'; b_end = b'; c_end = c'; d_end = d'; joined = j'; joined_back = k' }
same_flags a a' b b' c c' d d' j j' k k' ea eb ec ed ej ek = rw (ea, eb, ec, ed, ej, ek) refl

arc_in_by : (m : Map) (e : EdgeRef) → IsMapEdge m e → ((e.arc < length m.arcs) ⊎ (length m.arcs ≤ e.arc)) → e.arc < length m.arcs
arc_in_by m e edge (inl within) = within
arc_in_by m e edge (inr past) =
    let none = ap length (get_or-eq_default m.arcs [] past) in
    absurd (omega (arith, edge, none))

-- the arc of an edge is an arc of the map
pub arc_in : (m : Map) (e : EdgeRef) → IsMapEdge m e → e.arc < length m.arcs
arc_in m e edge = arc_in_by m e edge (cases_lt e.arc (length m.arcs))
