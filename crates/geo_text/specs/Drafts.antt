-- A text that is written from left to right, where each ring and each point of the input is written as the next of those given.
use Rattle.std.specs.Prelude.{ℕ, ℤ, Bool, true, false, List, [], ◌∷◌, ◌++◌, map, codes, if◌then◌else◌, Option, None, Some}
use Rattle.std.specs.Fmt.{signed_decimal}
use Rattle.grid_exact.specs.Geometry.{Place}
use Rattle.json_scan.specs.Tree.{Tree, Trees, NoTrees, NextTree}
use Rattle.json_scan.specs.Parts.{items_in}
use Rattle.topo_writer.specs.Texts.{list_text, position_text}

-- the text so far; the rings, as lists of arc references, and the points that are still to be written
pub record Draft : Type 0 where
  pub text : List ℕ
  pub rings : List (List ℤ)
  pub points : List Place

abbrev pub written : List ℕ → Draft → Draft
written word d = record d { text = d.text ++ word }

-- where there is such a thing, what it adds
abbrev pub where_some : {A : Type 0} → Option A → (A → Draft → Draft) → Draft → Draft
where_some None add d = d
where_some (Some a) add d = add a d

abbrev pub ring_text : List ℤ → List ℕ
ring_text ring = list_text (map signed_decimal ring)

abbrev pub first_ring : List (List ℤ) → Draft → Draft
first_ring [] d = d
first_ring (ring ∷ rings) d = record d { text = d.text ++ ring_text ring; rings = rings }

-- the next ring
abbrev pub with_ring : Draft → Draft
with_ring d = first_ring d.rings d

abbrev pub first_point : List Place → Draft → Draft
first_point [] d = d
first_point (p ∷ points) d = record d { text = d.text ++ position_text p; points = points }

-- the next point
abbrev pub with_point : Draft → Draft
with_point d = first_point d.points d

-- ---- lists

-- a comma, but before the first
abbrev pub with_comma : Bool → Draft → Draft
with_comma first d = if first then d else written (codes ",") d

-- what each value adds, behind a comma but for the first
abbrev pub each_added : (Tree → Draft → Draft) → Bool → Trees → Draft → Draft
each_added one first NoTrees d = d
each_added one first (NextTree t others) d = each_added one false others (one t (with_comma first d))

-- the list of what the values of a List add
abbrev pub list_added : (Tree → Draft → Draft) → Tree → Draft → Draft
list_added one t = where_some (items_in t) (λ trees d. written (codes "]") (each_added one true trees (written (codes "[") d)))
