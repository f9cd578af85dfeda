-- What holds of the arcs that are read: each is an arc, and they are within the limits.
use Rattle.std.proofs.Common.{◌≡◌, ◌≢◌, ℕ, suc, ◌+◌, ◌-◌, ◌<◌, ◌≤◌, ◌^◌, Bool, true, false, ◌&&◌, nat_lt, Option, List, [], ◌∷◌, ◌++◌}
use Rattle.std.proofs.Common.{length, sum_by, All, Result, Ok, Err, refl, sym, ap, subst, ◌∙◌, arith}
use Rattle.std.specs.Prelude.{slice_get}
use Rattle.std.specs.Ordering.{int_eq}
use Rattle.std.proofs.lemmas.Bool.{cond-true, cond-false, ltb-true}
use Rattle.std.proofs.lemmas.Cmp.{int_eq_equiv}
use Rattle.std.proofs.lemmas.List.{length-append}
use Rattle.std.proofs.lemmas.List.Elements.{All-push}
use Rattle.std.proofs.lemmas.List.Sums.{sum_by_push}
use Rattle.grid_exact.specs.Geometry.{Place}
use Rattle.grid_exact.specs.Walks.{EachEdge}
use Rattle.arc_map.specs.Map.{IsArc}
use Rattle.json_scan.specs.Tree.{Tree, Trees, NoTrees, NextTree}
use Rattle.topo_reader.specs.declared.fault.ReadFault.{ReadFault}
use Rattle.topo_reader.specs.declared.fault.What.{What}
use Rattle.topo_reader.specs.declared.fault.What.TheVariants as what
use Rattle.topo_reader.specs.Sequence.{and_then, counted, list_of}
use Rattle.topo_reader.specs.Positions.{position_of}
use Rattle.topo_reader.specs.Arcs.{same_place, last_of, is_at, with_position, base_of, ArcRead, positions_of, arc_from, arc_of, arcs_of}
use Rattle.topo_reader.specs.Arcs.{AreArcs}

-- ---- a walk that ends well

pub not-ok : {A F P : Type 0} (f : F) (a : A) → ◌≡◌ {A = Result A F} (Err f) (Ok a) → P
not-ok f a h = absurd cc

pub same-ok : {A F : Type 0} (a b : A) → ◌≡◌ {A = Result A F} (Ok a) (Ok b) → a ≡ b
same-ok a b h = cc

-- a walk that goes on after a step ends well only where the step does
pub then-ok : {A B F : Type 0} (given : Result A F) (walk : A → Result B F) (b : B) → and_then given walk ≡ Ok b
    → (a : A) × (given ≡ Ok a) × (walk a ≡ Ok b)
then-ok (Ok a) walk b h = (a, refl, h)
then-ok (Err f) walk b h = not-ok f b h

pub counted-ok : {B : Type 0} (what : What) (limit seen : ℕ) (t : Tree) (rest : Result B ReadFault) (b : B)
    → counted what limit seen t rest ≡ Ok b → (seen < limit) × (rest ≡ Ok b)
counted-ok what limit seen t rest b h = at_case (nat_lt seen limit) refl
  where
    at_case : (few : Bool) → nat_lt seen limit ≡ few → (seen < limit) × (rest ≡ Ok b)
    at_case true e = (ltb-true seen limit e, sym (cond-true (nat_lt seen limit) _ _ e) ∙ h)
    at_case false e = not-ok _ b (sym (cond-false (nat_lt seen limit) _ _ e) ∙ h)

-- ---- one arc

pub same-itself : (a : Place) → same_place a a ≡ true
same-itself a = ap (λ (b : Bool). b && int_eq a.y a.y) (int_eq_equiv.refl a.x) ∙ int_eq_equiv.refl a.y

pub places-differ : (a b : Place) → same_place a b ≡ false → a ≢ b
places-differ a b other same =
    let itself : same_place a b ≡ true = ap (same_place a) (sym same) ∙ same-itself a in
    absurd cc

last-behind : (v w : Place) (ws : List Place) → last_of (v ∷ w ∷ ws) ≡ last_of (w ∷ ws)
last-behind v w ws =
    let e : length (v ∷ w ∷ ws) - 1 ≡ suc (length (w ∷ ws) - 1) = omega arith in
    ap (slice_get (v ∷ w ∷ ws)) e

pub edges-push : (v : Place) (ws : List Place) (p : Place) → EachEdge (λ a b. a ≢ b) v ws → is_at (last_of (v ∷ ws)) p ≡ false
    → EachEdge (λ a b. a ≢ b) v (ws ++ p ∷ [])
edges-push v [] p each other = (places-differ v p other, tt)
edges-push v (w ∷ ws) p each other =
    (each.0, edges-push w ws p each.1 (ap (λ (q : Option Place). is_at q p) (sym (last-behind v w ws)) ∙ other))

-- an arc that was begun, or nothing yet
abbrev pub IsBegun : List Place → Type 0
IsBegun [] = Unit {0}
IsBegun (p ∷ ps) = IsArc (p ∷ ps)

pub begun : (arc : List Place) → IsArc arc → IsBegun arc
begun [] is = absurd is
begun (p ∷ ps) is = is

pub position-added : (arc : List Place) (p : Place) → IsBegun arc → IsArc (with_position arc p)
position-added [] p is = tt
position-added (v ∷ ws) p is = at_case (is_at (last_of (v ∷ ws)) p) refl
  where
    at_case : (b : Bool) → is_at (last_of (v ∷ ws)) p ≡ b → IsArc (with_position (v ∷ ws) p)
    at_case true e = subst IsArc (sym (cond-true (is_at (last_of (v ∷ ws)) p) _ _ e)) is
    at_case false e = subst IsArc (sym (cond-false (is_at (last_of (v ∷ ws)) p) _ _ e)) (edges-push v ws p is e)

pub length-added : (arc : List Place) (p : Place) → length (with_position arc p) ≤ length arc + 1
length-added arc p = at_case (is_at (last_of arc) p) refl
  where
    at_case : (b : Bool) → is_at (last_of arc) p ≡ b → length (with_position arc p) ≤ length arc + 1
    at_case true e = omega (arith, ap length (cond-true (is_at (last_of arc) p) arc (arc ++ p ∷ []) e))
    at_case false e = omega (arith, ap length (cond-false (is_at (last_of arc) p) arc (arc ++ p ∷ []) e), length-append arc (p ∷ []))

-- what was read behind so many positions
pub record IsRead (before : ℕ) (read : ArcRead) : Type 0 where
  pub is_arc : IsArc read.arc
  pub long : length read.arc + before ≤ read.positions
  pub few : read.positions ≤ 2 ^ 20

pub positions-keep : (coded : Bool) (seen : ℕ) (arc : List Place) (trees : Trees) (read : ArcRead) (before : ℕ) → IsArc arc
    → length arc + before ≤ seen → seen ≤ 2 ^ 20 → positions_of coded seen arc trees ≡ Ok read → IsRead before read
positions-keep coded seen arc NoTrees read before is long few h =
    subst (IsRead before) (same-ok (record { positions = seen; arc = arc }) read h) (record { is_arc = is; long = long; few = few })
positions-keep coded seen arc (NextTree t others) read before is long few h =
    let step = counted-ok what.Positions (2 ^ 20) seen t _ read h in
    let placed = then-ok (position_of (base_of coded arc) t)
    (λ p. positions_of coded (seen + 1) (with_position arc p) others) read step.1 in
    positions-keep coded (seen + 1) (with_position arc placed.0) others read before (position-added arc placed.0 (begun arc is))
    (omega (arith, long, length-added arc placed.0)) (omega (arith, step.0)) placed.2

pub first-keeps : (coded : Bool) (seen : ℕ) (t : Tree) (others : Trees) (read : ArcRead) → seen ≤ 2 ^ 20
    → positions_of coded seen [] (NextTree t others) ≡ Ok read → IsRead seen read
first-keeps coded seen t others read few h =
    let step = counted-ok what.Positions (2 ^ 20) seen t _ read h in
    let placed = then-ok (position_of (base_of coded []) t) (λ p. positions_of coded (seen + 1) (with_position [] p) others) read step.1 in
    let long : length (with_position [] placed.0) + seen ≤ seen + 1 = omega (arith, length-added [] placed.0) in
    positions-keep coded (seen + 1) (with_position [] placed.0) others read seen (position-added [] placed.0 tt) long
    (omega (arith, step.0)) placed.2

pub arc-keeps : (coded : Bool) (seen : ℕ) (t : Tree) (read : ArcRead) → seen ≤ 2 ^ 20 → arc_of coded seen t ≡ Ok read → IsRead seen read
arc-keeps coded seen t read few h =
    let listed = then-ok (list_of t) (arc_from coded seen t) read h in
    at_trees listed.0 listed.2
  where
    at_trees : (trees : Trees) → arc_from coded seen t trees ≡ Ok read → IsRead seen read
    at_trees NoTrees e = not-ok _ read e
    at_trees (NextTree first NoTrees) e = not-ok _ read e
    at_trees (NextTree first (NextTree second more)) e = first-keeps coded seen first (NextTree second more) read few e

-- ---- all arcs

pub arcs-keep : (coded : Bool) (seen : ℕ) (arcs : List (List Place)) (trees : Trees) (all : List (List Place)) → All IsArc arcs
    → length arcs ≤ 2 ^ 20 → sum_by length arcs ≤ seen → seen ≤ 2 ^ 20
    → arcs_of coded seen arcs trees ≡ Ok all → AreArcs all
arcs-keep coded seen arcs NoTrees all each few long counted h =
    subst AreArcs (same-ok arcs all h) (record { each = each; few = few; few_positions = omega (arith, long, counted) })
arcs-keep coded seen arcs (NextTree t others) all each few long counted h =
    let step = counted-ok what.Arcs (2 ^ 20) (length arcs) t _ all h in
    let one = then-ok (arc_of coded seen t) (λ read. arcs_of coded read.positions (arcs ++ read.arc ∷ []) others) all step.1 in
    let read = arc-keeps coded seen t one.0 counted one.1 in
    arcs-keep coded one.0.positions (arcs ++ one.0.arc ∷ []) others all (All-push IsArc arcs one.0.arc each read.is_arc)
    (omega (arith, step.0, length-append arcs (one.0.arc ∷ [])))
    (omega (arith, long, read.long, sum_by_push length arcs one.0.arc)) read.few one.2
