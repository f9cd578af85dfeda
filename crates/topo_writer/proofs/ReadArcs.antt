-- What holds of arcs that are read: their positions are on the grid, and they can be written within the limits.
use Rattle.std.proofs.Common.{◌≡◌, ℕ, ◌+◌, ◌≤◌, ◌^◌, Bool, true, false, List, [], ◌∷◌, ◌++◌, length, sum_by, Result, Ok, ℤ, ◌+ℤ◌, refl, sym}
use Rattle.std.proofs.Common.{subst, ◌∙◌, arith}
use Rattle.std.specs.List.{AllByRecursion}
use Rattle.std.proofs.lemmas.Bool.{cond-true, cond-false}
use Rattle.std.proofs.lemmas.List.Sums.{sum_by_push}
use Rattle.std.proofs.lemmas.List.{length-append}
use Rattle.grid_exact.specs.Geometry.{Place}
use Rattle.json_scan.specs.declared.whole.Whole.{Whole}
use Rattle.json_scan.specs.declared.whole.Whole.TheVariants as whole
use Rattle.json_scan.specs.Tree.{Tree, NullAt, FalseAt, TrueAt, NumberAt, TextAt, ListAt, ObjectAt, Trees, NoTrees, NextTree}
use Rattle.topo_reader.specs.declared.fault.ReadFault.{ReadFault}
use Rattle.topo_reader.specs.declared.fault.What.TheVariants as what
use Rattle.topo_reader.specs.Sequence.{and_then, list_of}
use Rattle.topo_reader.specs.Positions.{is_grid_number, whole_number, number_of, two_numbers, position_from, position_of}
use Rattle.topo_reader.specs.Arcs.{last_of, is_at, with_position, base_of, ArcRead, positions_of, arc_from, arc_of, arcs_of, arcs_value}
use Rattle.topo_reader.proofs.ArcLaws.{not-ok, same-ok, then-ok, counted-ok, arc-keeps}
use Rattle.topo_writer.proofs.TreeArcs.{IsGridPlace, IsGridArc, written_length}

-- ---- positions

on_grid-read : (base z w : ℤ) (at : ℕ) → whole_number base at (whole.Value w) ≡ Ok z → is_grid_number z ≡ true
on_grid-read base z w at h = at_case (is_grid_number (base +ℤ w)) refl
  where
    at_case : (b : Bool) → is_grid_number (base +ℤ w) ≡ b → is_grid_number z ≡ true
    at_case true e = subst (λ (v : ℤ). is_grid_number v ≡ true)
        (same-ok (base +ℤ w) z (sym (cond-true (is_grid_number (base +ℤ w)) _ _ e) ∙ h)) e
    at_case false e = not-ok _ z (sym (cond-false (is_grid_number (base +ℤ w)) _ _ e) ∙ h)

whole-keeps : (base z : ℤ) (number : Whole) (at : ℕ) → whole_number base at number ≡ Ok z → is_grid_number z ≡ true
whole-keeps base z whole.NotWhole at h = not-ok _ z h
whole-keeps base z whole.Beyond at h = not-ok _ z h
whole-keeps base z (whole.Value w) at h = on_grid-read base z w at h

number-keeps : (base z : ℤ) (t : Tree) → number_of base t ≡ Ok z → is_grid_number z ≡ true
number-keeps base z (NullAt e) h = not-ok _ z h
number-keeps base z (FalseAt e) h = not-ok _ z h
number-keeps base z (TrueAt e) h = not-ok _ z h
number-keeps base z (NumberAt e number) h = whole-keeps base z number e.start h
number-keeps base z (TextAt e word) h = not-ok _ z h
number-keeps base z (ListAt e trees) h = not-ok _ z h
number-keeps base z (ObjectAt e members) h = not-ok _ z h

abbrev placed : ℤ → ℤ → Result Place ReadFault
placed x y = Ok (record { x = x; y = y })

two-keep : (base p : Place) (first second : Tree) → two_numbers base first second ≡ Ok p → IsGridPlace p
two-keep base p first second h =
    let across = then-ok (number_of base.x first) (λ (x : ℤ). and_then (number_of base.y second) (placed x)) p h in
    let up = then-ok (number_of base.y second) (placed across.0) p across.2 in
    subst IsGridPlace (same-ok (record { x = across.0; y = up.0 }) p up.2)
    (number-keeps base.x across.0 first across.1, number-keeps base.y up.0 second up.1)

pub position-keeps : (base p : Place) (t : Tree) → position_of base t ≡ Ok p → IsGridPlace p
position-keeps base p t h =
    let listed = then-ok (list_of t) (position_from base t) p h in
    at_trees listed.0 listed.2
  where
    at_trees : (trees : Trees) → position_from base t trees ≡ Ok p → IsGridPlace p
    at_trees NoTrees e = not-ok _ p e
    at_trees (NextTree first NoTrees) e = not-ok _ p e
    at_trees (NextTree first (NextTree second NoTrees)) e = two-keep base p first second e
    at_trees (NextTree first (NextTree second (NextTree third more))) e = not-ok _ p e

-- ---- an arc

grid-push : (arc : List Place) (p : Place) → AllByRecursion IsGridPlace arc → IsGridPlace p → AllByRecursion IsGridPlace (arc ++ p ∷ [])
grid-push [] p each is = (is, tt)
grid-push (q ∷ qs) p each is = (each.0, grid-push qs p each.1 is)

grid-added : (arc : List Place) (p : Place) → AllByRecursion IsGridPlace arc → IsGridPlace p
    → AllByRecursion IsGridPlace (with_position arc p)
grid-added arc p each is = at_case (is_at (last_of arc) p) refl
  where
    at_case : (b : Bool) → is_at (last_of arc) p ≡ b → AllByRecursion IsGridPlace (with_position arc p)
    at_case true e = subst (AllByRecursion IsGridPlace) (sym (cond-true (is_at (last_of arc) p) _ _ e)) each
    at_case false e = subst (AllByRecursion IsGridPlace) (sym (cond-false (is_at (last_of arc) p) _ _ e)) (grid-push arc p each is)

-- what was read, at least so many positions
record IsGridRead (least : ℕ) (read : ArcRead) : Type 0 where
  grid : AllByRecursion IsGridPlace read.arc
  many : least ≤ read.positions

positions-grid : (coded : Bool) (seen least : ℕ) (arc : List Place) (trees : Trees) (read : ArcRead) → AllByRecursion IsGridPlace arc
    → least ≤ seen → positions_of coded seen arc trees ≡ Ok read → IsGridRead least read
positions-grid coded seen least arc NoTrees read each le h = subst (IsGridRead least)
    (same-ok (record { positions = seen; arc = arc }) read h) (record { grid = each; many = le })
positions-grid coded seen least arc (NextTree t others) read each le h =
    let step = counted-ok what.Positions (2 ^ 20) seen t _ read h in
    let placed = then-ok (position_of (base_of coded arc) t) (λ p. positions_of coded (seen + 1) (with_position arc p) others) read step.1
    in
    positions-grid coded (seen + 1) least (with_position arc placed.0) others read
    (grid-added arc placed.0 each (position-keeps (base_of coded arc) placed.0 t placed.1)) (omega (arith, le)) placed.2

two-seen : (coded : Bool) (seen : ℕ) (first second : Tree) (more : Trees) (read : ArcRead)
    → positions_of coded seen [] (NextTree first (NextTree second more)) ≡ Ok read → IsGridRead (seen + 2) read
two-seen coded seen first second more read h =
    let step = counted-ok what.Positions (2 ^ 20) seen first _ read h in
    let placed = then-ok (position_of (base_of coded []) first) (λ p.
    positions_of coded (seen + 1) (with_position [] p) (NextTree second more)) read step.1 in
    let arc = with_position [] placed.0 in
    let grid : AllByRecursion IsGridPlace arc = grid-added [] placed.0 tt (position-keeps (base_of coded []) placed.0 first placed.1) in
    let again = counted-ok what.Positions (2 ^ 20) (seen + 1) second _ read placed.2 in
    let next = then-ok (position_of (base_of coded arc) second) (λ p. positions_of coded (seen + 1 + 1) (with_position arc p) more) read
    again.1 in
    positions-grid coded (seen + 1 + 1) (seen + 2) (with_position arc next.0) more read
    (grid-added arc next.0 grid (position-keeps (base_of coded arc) next.0 second next.1)) (omega arith) next.2

arc-grid : (coded : Bool) (seen : ℕ) (t : Tree) (read : ArcRead) → arc_of coded seen t ≡ Ok read → IsGridRead (seen + 2) read
arc-grid coded seen t read h =
    let listed = then-ok (list_of t) (arc_from coded seen t) read h in
    at_trees listed.0 listed.2
  where
    at_trees : (trees : Trees) → arc_from coded seen t trees ≡ Ok read → IsGridRead (seen + 2) read
    at_trees NoTrees e = not-ok _ read e
    at_trees (NextTree first NoTrees) e = not-ok _ read e
    at_trees (NextTree first (NextTree second more)) e = two-seen coded seen first second more read e

written-within : (seen positions : ℕ) (arc : List Place) → length arc + seen ≤ positions → seen + 2 ≤ positions
    → seen + written_length arc ≤ positions
written-within seen positions [] long two = omega arith
written-within seen positions (p ∷ []) long two = omega arith
written-within seen positions (p ∷ q ∷ qs) long two = omega arith

-- ---- all arcs

-- arcs that can be written
pub record CanBeWritten (arcs : List (List Place)) : Type 0 where
  pub each : AllByRecursion IsGridArc arcs
  pub few : length arcs ≤ 2 ^ 20
  pub few_positions : sum_by written_length arcs ≤ 2 ^ 20

arcs-push : (arcs : List (List Place)) (arc : List Place) → AllByRecursion IsGridArc arcs → IsGridArc arc
    → AllByRecursion IsGridArc (arcs ++ arc ∷ [])
arcs-push [] arc each is = (is, tt)
arcs-push (a ∷ arcs) arc each is = (each.0, arcs-push arcs arc each.1 is)

arcs-grid : (coded : Bool) (seen : ℕ) (arcs : List (List Place)) (trees : Trees) (all : List (List Place)) → AllByRecursion IsGridArc arcs
    → length arcs ≤ 2 ^ 20 → sum_by written_length arcs ≤ seen → seen ≤ 2 ^ 20
    → arcs_of coded seen arcs trees ≡ Ok all → CanBeWritten all
arcs-grid coded seen arcs NoTrees all each few long counted h =
    subst CanBeWritten (same-ok arcs all h) (record { each = each; few = few; few_positions = omega (arith, long, counted) })
arcs-grid coded seen arcs (NextTree t others) all each few long counted h =
    let step = counted-ok what.Arcs (2 ^ 20) (length arcs) t _ all h in
    let one = then-ok (arc_of coded seen t) (λ read. arcs_of coded read.positions (arcs ++ read.arc ∷ []) others) all step.1 in
    let keeps = arc-keeps coded seen t one.0 counted one.1 in
    let grid = arc-grid coded seen t one.0 one.1 in
    let more : seen + written_length one.0.arc ≤ one.0.positions = written-within seen one.0.positions one.0.arc keeps.long grid.many in
    arcs-grid coded one.0.positions (arcs ++ one.0.arc ∷ []) others all
    (arcs-push arcs one.0.arc each (record { is_arc = keeps.is_arc; grid = grid.grid }))
    (omega (arith, step.0, length-append arcs (one.0.arc ∷ [])))
    (omega (arith, long, more, sum_by_push written_length arcs one.0.arc)) keeps.few one.2

pub read-can_be_written : (coded : Bool) (t : Tree) (arcs : List (List Place)) → arcs_value coded t ≡ Ok arcs → CanBeWritten arcs
read-can_be_written coded t arcs h =
    let listed = then-ok (list_of t) (arcs_of coded 0 []) arcs h in
    arcs-grid coded 0 [] listed.0 arcs tt (omega arith) (omega arith) (omega arith) listed.2
