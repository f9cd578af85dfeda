-- What the walk over a topology reads of a ring of four arcs.
use Rattle.std.proofs.Common.{◌≡◌, ℕ, ◌+◌, ◌^◌, ◌<◌, ◌≤◌, true, Option, Some, List, [], ◌∷◌, Result, Ok, ℤ, pos, negsuc, refl, ap, ◌∙◌}
use Rattle.std.proofs.Common.{arith}
use Rattle.std.specs.Prelude.{slice_get, option_map}
use Rattle.std.proofs.lemmas.Bool.{cond-true}
use Rattle.grid_exact.specs.Geometry.{Place}
use Rattle.json_scan.specs.declared.whole.Whole.{Whole}
use Rattle.json_scan.specs.Tree.{Extent, Tree, NumberAt, ListAt, Trees, NoTrees, NextTree}
use Rattle.topo_reader.specs.declared.fault.ReadFault.{ReadFault}
use Rattle.topo_reader.specs.declared.fault.What.TheVariants as what
use Rattle.topo_reader.specs.declared.line.Step.{Step}
use Rattle.topo_reader.specs.Sequence.{and_then, each}
use Rattle.topo_reader.specs.Geometries.{forwards, backwards, whole_step, found_step, step_of, Line, no_line, is_same, joins, with_step}
use Rattle.topo_reader.specs.Geometries.{joined, line_from, closed, PolygonRead, ring_of, rings_of}
use Rattle.topo_reader.proofs.Counting.{counted-more}
use Rattle.topo_reader.proofs.ArcLaws.{same-itself}
use Rattle.topo_writer.proofs.TreeShapes.{IsNumberTree, IsListTree, AreTrees}

-- ---- a side of a ring

abbrev pub side : ℕ → Place → Place → Step
side k from to = record { arc = k; first = Some from; last = Some to }

-- the tree names an arc in its direction, from one place to another
abbrev pub IsSideTree : List (List Place) → Step → Tree → Type 0
IsSideTree arcs step t = step_of arcs t ≡ Ok step

pub forwards-read : (arcs : List (List Place)) (k : ℕ) (arc : List Place) (t : Tree) → slice_get arcs k ≡ Some arc → IsNumberTree (pos k) t
    → step_of arcs t ≡ Ok (forwards k arc)
forwards-read arcs k arc (NumberAt e number) found is =
    ap (λ (w : Whole). found_step (NumberAt e number) (whole_step arcs w)) is
    ∙ ap (λ (o : Option (List Place)). found_step (NumberAt e number) (option_map (forwards k) o)) found
forwards-read arcs k arc t found is = absurd is

pub backwards-read : (arcs : List (List Place)) (k : ℕ) (arc : List Place) (t : Tree) → slice_get arcs k ≡ Some arc
    → IsNumberTree (negsuc k) t → step_of arcs t ≡ Ok (backwards k arc)
backwards-read arcs k arc (NumberAt e number) found is =
    ap (λ (w : Whole). found_step (NumberAt e number) (whole_step arcs w)) is
    ∙ ap (λ (o : Option (List Place)). found_step (NumberAt e number) (option_map (backwards k) o)) found
backwards-read arcs k arc t found is = absurd is

-- ---- a line of sides

line-next : (arcs : List (List Place)) (t : Tree) (others : Trees) (line : Line) (step : Step) → IsSideTree arcs step t
    → line.references < 2 ^ 22 → joins line.last step.first ≡ true
    → line_from arcs (NextTree t others) line ≡ line_from arcs others (with_step line step)
line-next arcs t others line step is few fits =
    counted-more what.References (2 ^ 22) line.references t _ few
    ∙ ap (λ (r : Result Step ReadFault). and_then r (λ (s : Step). and_then (joined t line s) (line_from arcs others))) is
    ∙ ap (λ (r : Result Line ReadFault). and_then r (line_from arcs others)) (cond-true (joins line.last step.first) _ _ fits)

-- four sides, each of which begins where the one before ends
abbrev pub four_sides : Tree → Tree → Tree → Tree → Trees
four_sides t u v w = NextTree t (NextTree u (NextTree v (NextTree w NoTrees)))

abbrev read_ring : Line → Result PolygonRead ReadFault
read_ring line = Ok (record { numbers = line.numbers; references = line.references })

module _ (arcs : List (List Place)) (a b c d : ℕ) (p q r s : Place) (t u v w : Tree) (references : ℕ) where
  abbrev line_1 : Line
  line_1 = record { first = Some p; last = Some q; numbers = a ∷ []; references = references + 1 }

  abbrev line_2 : Line
  line_2 = record { first = Some p; last = Some r; numbers = a ∷ b ∷ []; references = references + 1 + 1 }

  abbrev line_3 : Line
  line_3 = record { first = Some p; last = Some s; numbers = a ∷ b ∷ c ∷ []; references = references + 1 + 1 + 1 }

  abbrev line_4 : Line
  line_4 = record { first = Some p; last = Some p; numbers = a ∷ b ∷ c ∷ d ∷ []; references = references + 1 + 1 + 1 + 1 }

  sides-read : IsSideTree arcs (side a p q) t → IsSideTree arcs (side b q r) u → IsSideTree arcs (side c r s) v
      → IsSideTree arcs (side d s p) w → references + 4 ≤ 2 ^ 22
      → line_from arcs (four_sides t u v w) (no_line [] references) ≡ Ok line_4
  sides-read first second third fourth few =
      let few_1 : references < 2 ^ 22 = omega arith in
      let few_2 : references + 1 < 2 ^ 22 = omega arith in
      let few_3 : references + 1 + 1 < 2 ^ 22 = omega arith in
      let few_4 : references + 1 + 1 + 1 < 2 ^ 22 = omega arith in
      line-next arcs t (NextTree u (NextTree v (NextTree w NoTrees))) (no_line [] references) (side a p q) first few_1 refl
      ∙ line-next arcs u (NextTree v (NextTree w NoTrees)) line_1 (side b q r) second few_2 (same-itself q)
      ∙ line-next arcs v (NextTree w NoTrees) line_2 (side c r s) third few_3 (same-itself r)
      ∙ line-next arcs w NoTrees line_3 (side d s p) fourth few_4 (same-itself s)

  line_4-closed : (e : Extent) → closed (ListAt e (four_sides t u v w)) line_4 ≡ Ok line_4
  line_4-closed e = cond-true (is_same (Some p) (Some p)) _ _ (same-itself p)

  counted-four : (n : ℕ) → n ≡ references + 4
      → ◌≡◌ {A = Result PolygonRead ReadFault} (Ok (record { numbers = a ∷ b ∷ c ∷ d ∷ []; references = n }))
      (Ok (record { numbers = a ∷ b ∷ c ∷ d ∷ []; references = references + 4 }))
  counted-four n e = rw e refl

  pub ring-read : (e : Extent) → IsSideTree arcs (side a p q) t → IsSideTree arcs (side b q r) u → IsSideTree arcs (side c r s) v
      → IsSideTree arcs (side d s p) w → references + 4 ≤ 2 ^ 22
      → ring_of arcs (ListAt e (four_sides t u v w)) (record { numbers = []; references = references })
      ≡ Ok (record { numbers = a ∷ b ∷ c ∷ d ∷ []; references = references + 4 })
  ring-read e first second third fourth few =
      let total : references + 1 + 1 + 1 + 1 ≡ references + 4 = omega arith in
      ap (λ (z : Result Line ReadFault). and_then z (λ (line : Line). and_then (closed (ListAt e (four_sides t u v w)) line) read_ring))
      (sides-read first second third fourth few)
      ∙ ap (λ (z : Result Line ReadFault). and_then z read_ring) (line_4-closed e)
      ∙ counted-four (references + 1 + 1 + 1 + 1) total

-- behind any references that leave room for its four the tree is read as a ring of these arcs
abbrev pub IsRingTree : List (List Place) → List ℕ → Tree → Type 0
IsRingTree arcs numbers t = (references : ℕ) → references + 4 ≤ 2 ^ 22
    → ring_of arcs t (record { numbers = []; references = references }) ≡ Ok (record { numbers = numbers; references = references + 4 })

-- the rings of a polygon of one such ring
abbrev pub AreRingTrees : List (List Place) → List ℕ → Tree → Type 0
AreRingTrees arcs numbers t = (references : ℕ) → references + 4 ≤ 2 ^ 22
    → rings_of arcs t (record { numbers = []; references = references }) ≡ Ok (record { numbers = numbers; references = references + 4 })

pub one_ring-read : (arcs : List (List Place)) (numbers : ℕ → List ℕ) (cell : ℕ) (t : Tree)
    → IsListTree (AreTrees (λ k u. IsRingTree arcs (numbers k) u) (cell ∷ [])) t → AreRingTrees arcs (numbers cell) t
one_ring-read arcs numbers cell (ListAt e NoTrees) is references few = absurd is
one_ring-read arcs numbers cell (ListAt e (NextTree ring NoTrees)) is references few =
    ap (λ (z : Result PolygonRead ReadFault). and_then z (each (ring_of arcs) NoTrees)) (is.0 references few)
one_ring-read arcs numbers cell (ListAt e (NextTree ring (NextTree t more))) is references few = absurd is.1
one_ring-read arcs numbers cell t is references few = absurd is

-- a list of four numbers that name such sides
pub four-read : (arcs : List (List Place)) (a b c d : ℕ) (p q r s : Place) (y z m n : ℤ) (t : Tree)
    → ((u : Tree) → IsNumberTree y u → IsSideTree arcs (side a p q) u) → ((u : Tree) → IsNumberTree z u → IsSideTree arcs (side b q r) u)
    → ((u : Tree) → IsNumberTree m u → IsSideTree arcs (side c r s) u) → ((u : Tree) → IsNumberTree n u → IsSideTree arcs (side d s p) u)
    → IsListTree (AreTrees IsNumberTree (y ∷ z ∷ m ∷ n ∷ [])) t → IsRingTree arcs (a ∷ b ∷ c ∷ d ∷ []) t
four-read arcs a b c d p q r s y z m n (ListAt e NoTrees) first second third fourth is references few = absurd is
four-read arcs a b c d p q r s y z m n (ListAt e (NextTree t NoTrees)) first second third fourth is references few = absurd is.1
four-read arcs a b c d p q r s y z m n (ListAt e (NextTree t (NextTree u NoTrees))) first second third fourth is references few =
    absurd is.1.1
four-read arcs a b c d p q r s y z m n (ListAt e (NextTree t (NextTree u (NextTree v NoTrees)))) first second third fourth is references few
    = absurd is.1.1.1
four-read arcs a b c d p q r s y z m n (ListAt e (NextTree t (NextTree u (NextTree v (NextTree w NoTrees))))) first second third fourth is
    references few =
    ring-read arcs a b c d p q r s t u v w references e (first t is.0) (second u is.1.0) (third v is.1.1.0) (fourth w is.1.1.1.0) few
four-read arcs a b c d p q r s y z m n (ListAt e (NextTree t (NextTree u (NextTree v (NextTree w (NextTree x more)))))) first second third
    fourth is references few = absurd is.1.1.1.1
four-read arcs a b c d p q r s y z m n t first second third fourth is references few = absurd is
