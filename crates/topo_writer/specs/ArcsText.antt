-- The text of the arcs of a map, in its coding: all positions absolute, or each but the first of an arc as the
-- difference from the one before.
use Rattle.std.specs.Prelude.{ℕ, ◌-ℤ◌, Bool, if◌then◌else◌, List, [], ◌∷◌, map}
use Rattle.grid_exact.specs.Geometry.{Place}
use Rattle.arc_map.specs.Map.{Map}
use Rattle.topo_writer.specs.Texts.{list_text, position_text}

-- the way from p to q
abbrev pub difference : Place → Place → Place
difference p q = record { x = q.x -ℤ p.x; y = q.y -ℤ p.y }

-- each position as the difference from the one before; p is the one before the first
abbrev pub differences : Place → List Place → List Place
differences p [] = []
differences p (q ∷ qs) = difference p q ∷ differences q qs

-- the position q, or its difference from the one before
abbrev pub coded_position : Bool → Place → Place → Place
coded_position coded p q = if coded then difference p q else q

-- the positions that follow p, in the coding
abbrev pub coded_positions : Bool → Place → List Place → List Place
coded_positions coded p qs = if coded then differences p qs else qs

-- the positions that are written after the first, p: those that follow it, or p once more where none does
abbrev pub following : Place → List Place → List Place
following p [] = p ∷ []
following p (q ∷ qs) = q ∷ qs

abbrev pub arc_text : Bool → List Place → List ℕ
arc_text coded [] = list_text []
arc_text coded (p ∷ ps) = list_text (map position_text (p ∷ coded_positions coded p (following p ps)))

abbrev pub arcs_text_of : Map → List ℕ
arcs_text_of m = list_text (map (arc_text m.coded) m.arcs)
