-- The walk over the tree of a written text of arcs reads these arcs.
use Rattle.std.proofs.Common.{◌≡◌, ◌≢◌, ℕ, suc, ◌+◌, ◌-◌, ◌<◌, ◌≤◌, ◌^◌, Bool, true, false, ◌&&◌, Option, Some, List, [], ◌∷◌, ◌++◌, length}
use Rattle.std.proofs.Common.{sum_by, Result, Ok, ℤ, ◌+ℤ◌, refl, sym, ap, ◌∙◌, arith, append_assoc, append-nil}
use Rattle.std.specs.Prelude.{unwrap_or, slice_get}
use Rattle.std.specs.List.{AllByRecursion}
use Rattle.std.specs.Ordering.{int_eq}
use Rattle.std.proofs.lemmas.Bool.{cond-true, cond-false}
use Rattle.std.proofs.lemmas.Bool.Decides.{Decides-int_eq}
use Rattle.std.proofs.lemmas.Int.{ints}
use Rattle.std.proofs.lemmas.List.{length-append}
use Rattle.std.proofs.lemmas.List.Sums.{sum_by-cons}
use Rattle.grid_exact.specs.Geometry.{Place}
use Rattle.grid_exact.specs.Walks.{EachEdge}
use Rattle.grid_exact.proofs.Commons.{same_place as places-equal}
use Rattle.arc_map.specs.Map.{IsArc}
use Rattle.arc_map.proofs.Listing.{both_true}
use Rattle.json_scan.specs.declared.whole.Whole.TheVariants as whole
use Rattle.json_scan.specs.Tree.{Tree, NumberAt, ListAt, Trees, NoTrees, NextTree}
use Rattle.topo_reader.specs.declared.fault.ReadFault.{ReadFault}
use Rattle.topo_reader.specs.declared.fault.What.TheVariants as what
use Rattle.topo_reader.specs.Sequence.{and_then}
use Rattle.topo_reader.specs.Positions.{is_grid_number, whole_number, number_of, two_numbers, position_of, origin}
use Rattle.topo_reader.specs.Arcs.{same_place, last_of, is_at, with_position, base_of, ArcRead, positions_of, arc_of, arcs_of, arcs_value}
use Rattle.topo_reader.proofs.Counting.{counted-more}
use Rattle.topo_reader.proofs.ArcLaws.{same-itself}
use Rattle.topo_writer.specs.ArcsText.{difference, differences, coded_position, coded_positions, following}
use Rattle.topo_writer.proofs.TreeShapes.{IsNumberTree, IsListTree, AreTrees, IsPairTree}

-- ---- positions

-- both coordinates are on the grid
abbrev pub IsGridPlace : Place → Type 0
IsGridPlace p = (is_grid_number p.x ≡ true) × (is_grid_number p.y ≡ true)

whole-read : (base z w : ℤ) (at : ℕ) → is_grid_number z ≡ true → base +ℤ w ≡ z → whole_number base at (whole.Value w) ≡ Ok z
whole-read base z w at grid sum = rw sum (cond-true (is_grid_number z) _ _ grid)

number-read : (base z w : ℤ) (t : Tree) → is_grid_number z ≡ true → base +ℤ w ≡ z → IsNumberTree w t → number_of base t ≡ Ok z
number-read base z w (NumberAt e number) grid sum is = ap (whole_number base e.start) is ∙ whole-read base z w e.start grid sum
number-read base z w t grid sum is = absurd is

abbrev placed : ℤ → ℤ → Result Place ReadFault
placed x y = Ok (record { x = x; y = y })

-- the place p lies this far from the base
pub record LiesFrom (base w p : Place) : Type 0 where
  pub across : base.x +ℤ w.x ≡ p.x
  pub up : base.y +ℤ w.y ≡ p.y

two-read : (base p w : Place) (first second : Tree) → IsGridPlace p → LiesFrom base w p → IsNumberTree w.x first → IsNumberTree w.y second
    → two_numbers base first second ≡ Ok p
two-read base p w first second grid lies a b =
    ap (λ (r : Result ℤ ReadFault). and_then r (λ (x : ℤ). and_then (number_of base.y second) (placed x)))
    (number-read base.x p.x w.x first grid.0 lies.across a)
    ∙ ap (λ (r : Result ℤ ReadFault). and_then r (placed p.x)) (number-read base.y p.y w.y second grid.1 lies.up b)

pub pair-read : (base p w : Place) (t : Tree) → IsGridPlace p → LiesFrom base w p → IsPairTree w t → position_of base t ≡ Ok p
pair-read base p w (ListAt e NoTrees) grid lies is = absurd is
pair-read base p w (ListAt e (NextTree first NoTrees)) grid lies is = absurd is.1
pair-read base p w (ListAt e (NextTree first (NextTree second NoTrees))) grid lies is = two-read base p w first second grid lies is.0 is.1.0
pair-read base p w (ListAt e (NextTree first (NextTree second (NextTree third more)))) grid lies is = absurd is.1.1
pair-read base p w t grid lies is = absurd is

pub from-origin : (p : Place) → LiesFrom origin p p
from-origin p = record { across = omega (arith, ints); up = omega (arith, ints) }

from-before : (p q : Place) → LiesFrom p (difference p q) q
from-before p q = record { across = omega (arith, ints); up = omega (arith, ints) }

first-read : (coded : Bool) (p : Place) (t : Tree) → IsGridPlace p → IsPairTree p t → position_of (base_of coded []) t ≡ Ok p
first-read true p t grid is = pair-read origin p p t grid (from-origin p) is
first-read false p t grid is = pair-read origin p p t grid (from-origin p) is

next-read : (coded : Bool) (arc : List Place) (p q : Place) (t : Tree) → last_of arc ≡ Some p → IsGridPlace q
    → IsPairTree (coded_position coded p q) t → position_of (base_of coded arc) t ≡ Ok q
next-read true arc p q t last grid is = ap (λ (o : Option Place). position_of (unwrap_or o origin) t) last
    ∙ pair-read p q (difference p q) t grid (from-before p q) is
next-read false arc p q t last grid is = pair-read origin q q t grid (from-origin q) is

-- ---- an arc

-- the positions as they are written, behind p
abbrev pub written : Bool → Place → List Place → List Place
written coded p [] = []
written coded p (q ∷ qs) = coded_position coded p q ∷ written coded q qs

differences-written : (p : Place) (qs : List Place) → differences p qs ≡ written true p qs
differences-written p [] = refl
differences-written p (q ∷ qs) = ap (λ (l : List Place). difference p q ∷ l) (differences-written q qs)

places-written : (p : Place) (qs : List Place) → qs ≡ written false p qs
places-written p [] = refl
places-written p (q ∷ qs) = ap (λ (l : List Place). q ∷ l) (places-written q qs)

pub coded-written : (coded : Bool) (p : Place) (qs : List Place) → coded_positions coded p qs ≡ written coded p qs
coded-written true p qs = differences-written p qs
coded-written false p qs = places-written p qs

pub places-apart : (a b : Place) → a ≢ b → same_place a b ≡ false
places-apart a b other = at_case (same_place a b) refl
  where
    at_case : (s : Bool) → same_place a b ≡ s → same_place a b ≡ false
    at_case false e = e
    at_case true e =
        let each = both_true (int_eq a.x b.x) (int_eq a.y b.y) e in
        absurd (other (places-equal a b ((Decides-int_eq a.x b.x).0 each.0) ((Decides-int_eq a.y b.y).0 each.1)))

last-behind : (v w : Place) (ws : List Place) → last_of (v ∷ w ∷ ws) ≡ last_of (w ∷ ws)
last-behind v w ws =
    let e : length (v ∷ w ∷ ws) - 1 ≡ suc (length (w ∷ ws) - 1) = omega arith in
    ap (slice_get (v ∷ w ∷ ws)) e

pub last-push : (arc : List Place) (p : Place) → last_of (arc ++ p ∷ []) ≡ Some p
last-push [] p = refl
last-push (v ∷ []) p = last-behind v p []
last-push (v ∷ w ∷ ws) p = last-behind v w (ws ++ p ∷ []) ∙ last-push (w ∷ ws) p

abbrev read_so_far : ℕ → List Place → Result ArcRead ReadFault
read_so_far seen arc = Ok (record { positions = seen; arc = arc })

same-read : (m n : ℕ) (a b : List Place) → m ≡ n → a ≡ b → read_so_far m a ≡ read_so_far n b
same-read m n a b p q = rw (p, q) refl

-- one position more, that is read as q
step-read : (coded : Bool) (seen : ℕ) (arc now : List Place) (q : Place) (t : Tree) (others : Trees) → seen < 2 ^ 20
    → position_of (base_of coded arc) t ≡ Ok q → with_position arc q ≡ now
    → positions_of coded seen arc (NextTree t others) ≡ positions_of coded (seen + 1) now others
step-read coded seen arc now q t others below is next =
    counted-more what.Positions (2 ^ 20) seen t _ below
    ∙ ap (λ (r : Result Place ReadFault). and_then r (λ (p : Place). positions_of coded (seen + 1) (with_position arc p) others)) is
    ∙ ap (λ (l : List Place). positions_of coded (seen + 1) l others) next

moved-on : (arc : List Place) (p q : Place) → last_of arc ≡ Some p → p ≢ q → with_position arc q ≡ arc ++ q ∷ []
moved-on arc p q last other = cond-false (is_at (last_of arc) q) _ _ (ap (λ (o : Option Place). is_at o q) last ∙ places-apart p q other)

stayed : (p : Place) → with_position (p ∷ []) p ≡ p ∷ []
stayed p = cond-true (is_at (last_of (p ∷ [])) p) _ _ (same-itself p)

rest-read : (coded : Bool) (seen : ℕ) (arc : List Place) (p : Place) (qs : List Place) (trees : Trees) → last_of arc ≡ Some p
    → EachEdge (λ a b. a ≢ b) p qs → AllByRecursion IsGridPlace qs → AreTrees IsPairTree (written coded p qs) trees
    → seen + length qs ≤ 2 ^ 20 → positions_of coded seen arc trees ≡ read_so_far (seen + length qs) (arc ++ qs)
rest-read coded seen arc p [] NoTrees last moves grid are few =
    let e : seen ≡ seen + 0 = omega arith in
    same-read seen (seen + 0) arc (arc ++ []) e (sym (append-nil arc))
rest-read coded seen arc p [] (NextTree t others) last moves grid are few = absurd are
rest-read coded seen arc p (q ∷ qs) NoTrees last moves grid are few = absurd are
rest-read coded seen arc p (q ∷ qs) (NextTree t others) last moves grid are few =
    let below : seen < 2 ^ 20 = omega arith in
    let more : (seen + 1) + length qs ≤ 2 ^ 20 = omega arith in
    let count : (seen + 1) + length qs ≡ seen + suc (length qs) = omega arith in
    step-read coded seen arc (arc ++ q ∷ []) q t others below (next-read coded arc p q t last grid.0 are.0) (moved-on arc p q last moves.0)
    ∙ rest-read coded (seen + 1) (arc ++ q ∷ []) q qs others (last-push arc q) moves.1 grid.1 are.1 more
    ∙ same-read ((seen + 1) + length qs) (seen + suc (length qs)) ((arc ++ q ∷ []) ++ qs) (arc ++ (q ∷ qs)) count
    (append_assoc arc (q ∷ []) qs)

-- how many positions are written for an arc
abbrev pub written_length : List Place → ℕ
written_length [] = 0
written_length (p ∷ ps) = suc (length (following p ps))

-- the tree of a written arc
abbrev pub IsWrittenArc : Bool → List Place → Tree → Type 0
IsWrittenArc coded [] t = ⊥
IsWrittenArc coded (p ∷ ps) t = IsListTree (AreTrees IsPairTree (p ∷ written coded p (following p ps))) t

pub record IsGridArc (arc : List Place) : Type 0 where
  pub is_arc : IsArc arc
  pub grid : AllByRecursion IsGridPlace arc

-- behind its first position
behind-first : (coded : Bool) (seen : ℕ) (p : Place) (ps : List Place) (trees : Trees) → IsGridArc (p ∷ ps)
    → AreTrees IsPairTree (written coded p (following p ps)) trees → seen + length (following p ps) ≤ 2 ^ 20
    → positions_of coded seen (p ∷ []) trees ≡ read_so_far (seen + length (following p ps)) (p ∷ ps)
behind-first coded seen p [] NoTrees is are few = absurd are
behind-first coded seen p [] (NextTree t NoTrees) is are few =
    let below : seen < 2 ^ 20 = omega arith in
    step-read coded seen (p ∷ []) (p ∷ []) p t NoTrees below (next-read coded (p ∷ []) p p t refl is.grid.0 are.0) (stayed p)
behind-first coded seen p [] (NextTree t (NextTree u others)) is are few = absurd are.1
behind-first coded seen p (q ∷ qs) trees is are few = rest-read coded seen (p ∷ []) p (q ∷ qs) trees refl is.is_arc is.grid.1 are few

arc-of_trees : (coded : Bool) (seen : ℕ) (p : Place) (ps : List Place) (first second : Tree) (others : Trees) → IsGridArc (p ∷ ps)
    → AreTrees IsPairTree (p ∷ written coded p (following p ps)) (NextTree first (NextTree second others))
    → seen + written_length (p ∷ ps) ≤ 2 ^ 20 → positions_of coded seen [] (NextTree first (NextTree second others))
    ≡ read_so_far (seen + written_length (p ∷ ps)) (p ∷ ps)
arc-of_trees coded seen p ps first second others is are few =
    let below : seen < 2 ^ 20 = omega arith in
    let more : (seen + 1) + length (following p ps) ≤ 2 ^ 20 = omega arith in
    let count : (seen + 1) + length (following p ps) ≡ seen + written_length (p ∷ ps) = omega arith in
    step-read coded seen [] (p ∷ []) p first (NextTree second others) below (first-read coded p first is.grid.0 are.0) refl
    ∙ behind-first coded (seen + 1) p ps (NextTree second others) is are.1 more
    ∙ same-read ((seen + 1) + length (following p ps)) (seen + written_length (p ∷ ps)) (p ∷ ps) (p ∷ ps) count refl

none-follow : (coded : Bool) (p : Place) (ps : List Place) → AreTrees IsPairTree (written coded p (following p ps)) NoTrees → ⊥
none-follow coded p [] are = are
none-follow coded p (q ∷ qs) are = are

pub arc-read : (coded : Bool) (seen : ℕ) (arc : List Place) (t : Tree) → IsGridArc arc → IsWrittenArc coded arc t
    → seen + written_length arc ≤ 2 ^ 20 → arc_of coded seen t ≡ read_so_far (seen + written_length arc) arc
arc-read coded seen [] t is are few = absurd are
arc-read coded seen (p ∷ ps) (ListAt e NoTrees) is are few = absurd are
arc-read coded seen (p ∷ ps) (ListAt e (NextTree first NoTrees)) is are few = absurd (none-follow coded p ps are.1)
arc-read coded seen (p ∷ ps) (ListAt e (NextTree first (NextTree second others))) is are few =
    arc-of_trees coded seen p ps first second others is are few
arc-read coded seen (p ∷ ps) t is are few = absurd are

-- ---- all arcs

arcs-read : (coded : Bool) (seen : ℕ) (before arcs : List (List Place)) (trees : Trees) → AllByRecursion IsGridArc arcs
    → AreTrees (IsWrittenArc coded) arcs trees → length before + length arcs ≤ 2 ^ 20 → seen + sum_by written_length arcs ≤ 2 ^ 20
    → arcs_of coded seen before trees ≡ Ok (before ++ arcs)
arcs-read coded seen before [] NoTrees each are few room = ap Ok (sym (append-nil before))
arcs-read coded seen before [] (NextTree t others) each are few room = absurd are
arcs-read coded seen before (arc ∷ arcs) NoTrees each are few room = absurd are
arcs-read coded seen before (arc ∷ arcs) (NextTree t others) each are few room =
    let sum : sum_by written_length (arc ∷ arcs) ≡ written_length arc + sum_by written_length arcs = sum_by-cons written_length arc arcs in
    let below : length before < 2 ^ 20 = omega arith in
    let here : seen + written_length arc ≤ 2 ^ 20 = omega (arith, sum) in
    let longer : length (before ++ arc ∷ []) ≡ length before + 1 = length-append before (arc ∷ []) in
    let fewer : length (before ++ arc ∷ []) + length arcs ≤ 2 ^ 20 = omega (arith, longer) in
    let rest : (seen + written_length arc) + sum_by written_length arcs ≤ 2 ^ 20 = omega (arith, sum) in
    counted-more what.Arcs (2 ^ 20) (length before) t _ below
    ∙ ap (λ (r : Result ArcRead ReadFault). and_then r (λ (read : ArcRead). arcs_of coded read.positions (before ++ read.arc ∷ []) others))
    (arc-read coded seen arc t each.0 are.0 here)
    ∙ arcs-read coded (seen + written_length arc) (before ++ arc ∷ []) arcs others each.1 are.1 fewer rest
    ∙ ap Ok (append_assoc before (arc ∷ []) arcs)

pub written-read : (coded : Bool) (arcs : List (List Place)) (t : Tree) → AllByRecursion IsGridArc arcs → length arcs ≤ 2 ^ 20
    → sum_by written_length arcs ≤ 2 ^ 20 → IsListTree (AreTrees (IsWrittenArc coded) arcs) t → arcs_value coded t ≡ Ok arcs
written-read coded arcs (ListAt e trees) each few room are =
    let fewer : 0 + length arcs ≤ 2 ^ 20 = omega arith in
    let rest : 0 + sum_by written_length arcs ≤ 2 ^ 20 = omega arith in
    arcs-read coded 0 [] arcs trees each are fewer rest
written-read coded arcs t each few room are = absurd are
