-- What the walk over a topology reads of rings of references.
use Rattle.std.specs.Prelude.{slice_get, option_map, ◌-◌}
use Rattle.std.specs.List.{flat_map}
use Rattle.std.proofs.Common.{◌≡◌, ℕ, zero, suc, ◌+◌, ◌^◌, ◌<◌, ◌≤◌, true, Option, None, Some, List, [], ◌∷◌, ◌++◌, length, get_or, map}
use Rattle.std.proofs.Common.{reverse, sum_by, Result, Ok, ℤ, pos, negsuc, refl, sym, ap, subst, ◌∙◌, arith, append_assoc, append-nil}
use Rattle.std.proofs.lemmas.Bool.{cond-true}
use Rattle.std.proofs.lemmas.List.{reverse-append, reverse-reverse, length-append}
use Rattle.std.proofs.lemmas.List.Concat.{flat_map-append, flat_map-cons}
use Rattle.std.proofs.lemmas.List.Sums.{sum_by-append, sum_by-cons}
use Rattle.grid_exact.specs.Geometry.{Place}
use Rattle.grid_exact.specs.Walks.{end_of}
use Rattle.json_scan.specs.declared.whole.Whole.{Whole}
use Rattle.json_scan.specs.declared.whole.Whole.TheVariants as whole
use Rattle.json_scan.specs.Tree.{Extent, Tree, NumberAt, ListAt, Trees, NoTrees, NextTree}
use Rattle.topo_reader.specs.declared.fault.ReadFault.{ReadFault}
use Rattle.topo_reader.specs.declared.fault.What.TheVariants as what
use Rattle.topo_reader.specs.declared.line.Step.{Step}
use Rattle.topo_reader.specs.Sequence.{and_then, each}
use Rattle.topo_reader.specs.Arcs.{last_of}
use Rattle.topo_reader.specs.Geometries.{forwards, backwards, whole_step, found_step, step_of, Line, no_line, joins, is_same, with_step}
use Rattle.topo_reader.specs.Geometries.{joined, line_from, closed, PolygonRead, ring_of}
use Rattle.topo_reader.proofs.Counting.{counted-more}
use Rattle.topo_reader.proofs.ArcLaws.{same-itself}
use Rattle.topo_writer.proofs.TreeShapes.{IsNumberTree, IsListTree, AreTrees}
use Rattle.topo_writer.proofs.TreeArcs.{last-push}
use Rattle.topo_build.specs.References.{arc_of, walk_of, Leads}
use Rattle.geo_text.proofs.Readable.{IsLoop}

-- ---- the ends of a walk

last-behind : (v w : Place) (ws : List Place) → last_of (v ∷ w ∷ ws) ≡ last_of (w ∷ ws)
last-behind v w ws =
    let e : length (v ∷ w ∷ ws) - 1 ≡ suc (length (w ∷ ws) - 1) = omega arith in
    ap (slice_get (v ∷ w ∷ ws)) e

last-end : (v : Place) (ws : List Place) → last_of (v ∷ ws) ≡ Some (end_of v ws)
last-end v [] = refl
last-end v (w ∷ ws) = last-behind v w ws ∙ last-end w ws

reverse-cons : (v : Place) (ws : List Place) → reverse (v ∷ ws) ≡ reverse ws ++ v ∷ []
reverse-cons v ws = reverse-append (v ∷ []) ws

first-append : (xs ys : List Place) (x : Place) → slice_get xs 0 ≡ Some x → slice_get (xs ++ ys) 0 ≡ Some x
first-append [] ys x e = cc
first-append (v ∷ vs) ys x e = e

first-reversed : (v : Place) (ws : List Place) → slice_get (reverse (v ∷ ws)) 0 ≡ Some (end_of v ws)
first-reversed v [] = refl
first-reversed v (w ∷ ws) =
    ap (λ (l : List Place). slice_get l 0) (reverse-cons v (w ∷ ws))
    ∙ first-append (reverse (w ∷ ws)) (v ∷ []) (end_of w ws) (first-reversed w ws)

last-reversed : (v : Place) (ws : List Place) → last_of (reverse (v ∷ ws)) ≡ Some v
last-reversed v ws = ap last_of (reverse-cons v ws) ∙ last-push (reverse ws) v

end-append : (v : Place) (ws us : List Place) → end_of v (ws ++ us) ≡ end_of (end_of v ws) us
end-append v [] us = refl
end-append v (w ∷ ws) us = end-append w ws us

-- ---- a reference

found : (arcs : List (List Place)) (k : ℕ) (arc : List Place) → get_or arcs k [] ≡ arc → 0 < length arc → slice_get arcs k ≡ Some arc
found [] k arc e some = absurd (omega (arith, ap length e))
found (a ∷ arcs) zero arc e some = ap Some e
found (a ∷ arcs) (suc k) arc e some = found arcs k arc e some

-- the step of a reference, from v along a walk
abbrev pub step_along : ℤ → Place → List Place → Step
step_along r v here = record { arc = arc_of r; first = Some v; last = Some (end_of v here) }

same-step : (k : ℕ) (a b c d : Option Place) → a ≡ c → b ≡ d
    → ◌≡◌ {A = Result Step ReadFault} (Ok (record { arc = k; first = a; last = b })) (Ok (record { arc = k; first = c; last = d }))
same-step k a b c d p q = rw (p, q) refl

number-step : (arcs : List (List Place)) (r : ℤ) (t : Tree) (o : Option Step) → IsNumberTree r t → whole_step arcs (whole.Value r) ≡ o
    → step_of arcs t ≡ found_step t o
number-step arcs r (NumberAt e number) o is step = ap (λ (w : Whole). found_step (NumberAt e number) (whole_step arcs w)) is
    ∙ ap (found_step (NumberAt e number)) step
number-step arcs r t o is step = absurd is

reference-read : (arcs : List (List Place)) (r : ℤ) (v : Place) (here : List Place) (t : Tree) → walk_of arcs r ≡ v ∷ here
    → IsNumberTree r t → step_of arcs t ≡ Ok (step_along r v here)
reference-read arcs (pos k) v here t walk is =
    let some : 0 < length (v ∷ here) = omega arith in
    let at = found arcs k (v ∷ here) walk some in
    number-step arcs (pos k) t (Some (forwards k (v ∷ here))) is (ap (option_map (forwards k)) at)
    ∙ same-step k (slice_get (v ∷ here) 0) (last_of (v ∷ here)) (Some v) (Some (end_of v here)) refl (last-end v here)
reference-read arcs (negsuc k) v here t walk is =
    let arc : get_or arcs k [] ≡ reverse (v ∷ here) = sym (reverse-reverse (get_or arcs k [])) ∙ ap reverse walk in
    let some : 0 < length (reverse (v ∷ here)) = omega (arith, ap length (reverse-cons v here), length-append (reverse here) (v ∷ [])) in
    let at = found arcs k (reverse (v ∷ here)) arc some in
    number-step arcs (negsuc k) t (Some (backwards k (reverse (v ∷ here)))) is (ap (option_map (backwards k)) at)
    ∙ same-step k (last_of (reverse (v ∷ here))) (slice_get (reverse (v ∷ here)) 0) (Some v) (Some (end_of v here)) (last-reversed v here)
    (first-reversed v here)

-- ---- a line

line-next : (arcs : List (List Place)) (t : Tree) (others : Trees) (line : Line) (step : Step) → step_of arcs t ≡ Ok step
    → line.references < 2 ^ 22 → joins line.last step.first ≡ true
    → line_from arcs (NextTree t others) line ≡ line_from arcs others (with_step line step)
line-next arcs t others line step is few fits =
    counted-more what.References (2 ^ 22) line.references t _ few
    ∙ ap (λ (r : Result Step ReadFault). and_then r (λ (s : Step). and_then (joined t line s) (line_from arcs others))) is
    ∙ ap (λ (r : Result Line ReadFault). and_then r (line_from arcs others)) (cond-true (joins line.last step.first) _ _ fits)

abbrev line_at : Place → Place → List ℕ → ℕ → Line
line_at p v numbers references = record { first = Some p; last = Some v; numbers = numbers; references = references }

same-line : (p v w : Place) (a b : List ℕ) (m n : ℕ) → v ≡ w → a ≡ b → m ≡ n
    → ◌≡◌ {A = Result Line ReadFault} (Ok (line_at p v a m)) (Ok (line_at p w b n))
same-line p v w a b m n e f g = rw (e, f, g) refl

-- from v on, in a line that began at p
goes-along : (arcs : List (List Place)) (p v : Place) (refs : List ℤ) (ws : List Place) (trees : Trees) (numbers : List ℕ) (n : ℕ)
    → Leads arcs v refs ws → AreTrees IsNumberTree refs trees → n + length refs ≤ 2 ^ 22
    → line_from arcs trees (line_at p v numbers n) ≡ Ok (line_at p (end_of v ws) (numbers ++ map arc_of refs) (n + length refs))
goes-along arcs p v [] ws NoTrees numbers n leads are few =
    let ends : v ≡ end_of v ws = sym (ap (end_of v) leads) in
    same-line p v (end_of v ws) numbers (numbers ++ []) n (n + 0) ends (sym (append-nil numbers)) (omega arith)
goes-along arcs p v [] ws (NextTree t others) numbers n leads are few = absurd are
goes-along arcs p v (r ∷ rs) ws NoTrees numbers n leads are few = absurd are
goes-along arcs p v (r ∷ rs) ws (NextTree t others) numbers n leads are few =
    let here = leads.0 in
    let rest = leads.1 in
    let step = step_along r v here in
    let below : n < 2 ^ 22 = omega (arith, few) in
    let fewer : (n + 1) + length rs ≤ 2 ^ 22 = omega (arith, few) in
    let count : (n + 1) + length rs ≡ n + length (r ∷ rs) = omega arith in
    let ends : end_of (end_of v here) rest ≡ end_of v ws = sym (ap (end_of v) leads.2 ∙ end-append v here rest) in
    line-next arcs t others (line_at p v numbers n) step (reference-read arcs r v here t leads.3 are.0) below (same-itself v)
    ∙ goes-along arcs p (end_of v here) rs rest others (numbers ++ arc_of r ∷ []) (n + 1) leads.4 are.1 fewer
    ∙ same-line p (end_of (end_of v here) rest) (end_of v ws) ((numbers ++ arc_of r ∷ []) ++ map arc_of rs)
    (numbers ++ (arc_of r ∷ map arc_of rs)) ((n + 1) + length rs) (n + length (r ∷ rs)) ends
    (append_assoc numbers (arc_of r ∷ []) (map arc_of rs)) count

-- ---- rings, and what several of them add

abbrev pub read_so_far : List ℕ → ℕ → PolygonRead
read_so_far numbers n = record { numbers = numbers; references = n }

pub same-polygon : (a b : List ℕ) (m n : ℕ) → a ≡ b → m ≡ n
    → ◌≡◌ {A = Result PolygonRead ReadFault} (Ok (read_so_far a m)) (Ok (read_so_far b n))
same-polygon a b m n e f = rw (e, f) refl

abbrev ring_line : Line → Result PolygonRead ReadFault
ring_line line = Ok (read_so_far line.numbers line.references)

loop-read : (arcs : List (List Place)) (refs : List ℤ) (e : Extent) (trees : Trees) (numbers : List ℕ) (n : ℕ) → IsLoop arcs refs
    → AreTrees IsNumberTree refs trees → n + length refs ≤ 2 ^ 22
    → ring_of arcs (ListAt e trees) (read_so_far numbers n) ≡ Ok (read_so_far (numbers ++ map arc_of refs) (n + length refs))
loop-read arcs [] e NoTrees numbers n loop are few = same-polygon numbers (numbers ++ []) n (n + 0) (sym (append-nil numbers)) (omega arith)
loop-read arcs [] e (NextTree t others) numbers n loop are few = absurd are
loop-read arcs (r ∷ rs) e NoTrees numbers n loop are few = absurd are
loop-read arcs (r ∷ rs) e (NextTree t others) numbers n loop are few =
    let leads = loop.leads in
    let v = loop.start in
    let here = leads.0 in
    let rest = leads.1 in
    let step = step_along r v here in
    let below : n < 2 ^ 22 = omega (arith, few) in
    let fewer : (n + 1) + length rs ≤ 2 ^ 22 = omega (arith, few) in
    let count : (n + 1) + length rs ≡ n + length (r ∷ rs) = omega arith in
    let last : end_of (end_of v here) rest ≡ v = sym (ap (end_of v) leads.2 ∙ end-append v here rest) ∙ loop.closed in
    let all = (numbers ++ arc_of r ∷ []) ++ map arc_of rs in
    let line : line_from arcs (NextTree t others) (no_line numbers n) ≡ Ok (line_at v v all ((n + 1) + length rs)) =
    line-next arcs t others (no_line numbers n) step (reference-read arcs r v here t leads.3 are.0) below refl
    ∙ goes-along arcs v (end_of v here) rs rest others (numbers ++ arc_of r ∷ []) (n + 1) leads.4 are.1 fewer
    ∙ same-line v (end_of (end_of v here) rest) v all all ((n + 1) + length rs) ((n + 1) + length rs) last refl refl in
    ap (λ (z : Result Line ReadFault). and_then z (λ (l : Line). and_then (closed (ListAt e (NextTree t others)) l) ring_line)) line
    ∙ ap (λ (z : Result Line ReadFault). and_then z ring_line) (cond-true (is_same (Some v) (Some v)) _ _ (same-itself v))
    ∙ same-polygon all (numbers ++ (arc_of r ∷ map arc_of rs)) ((n + 1) + length rs) (n + length (r ∷ rs))
    (append_assoc numbers (arc_of r ∷ []) (map arc_of rs)) count

abbrev pub numbers_of : List (List ℤ) → List ℕ
numbers_of own = flat_map (map arc_of) own

-- a walk over a tree adds these rings to a polygon
abbrev pub Reads : (Tree → PolygonRead → Result PolygonRead ReadFault) → List (List ℤ) → Tree → Type 0
Reads walk own t = (numbers : List ℕ) (n : ℕ) → n + sum_by length own ≤ 2 ^ 22
    → walk t (read_so_far numbers n) ≡ Ok (read_so_far (numbers ++ numbers_of own) (n + sum_by length own))

abbrev pub EachReads : (Tree → PolygonRead → Result PolygonRead ReadFault) → List (List ℤ) → Trees → Type 0
EachReads walk own trees = (numbers : List ℕ) (n : ℕ) → n + sum_by length own ≤ 2 ^ 22
    → each walk trees (read_so_far numbers n) ≡ Ok (read_so_far (numbers ++ numbers_of own) (n + sum_by length own))

pub ring-reads : (arcs : List (List Place)) (refs : List ℤ) (t : Tree) → IsLoop arcs refs → IsListTree (AreTrees IsNumberTree refs) t
    → Reads (ring_of arcs) (refs ∷ []) t
ring-reads arcs refs (ListAt e trees) loop are numbers n few =
    let sum : sum_by length (refs ∷ []) ≡ length refs = omega (arith, sum_by-cons length refs []) in
    let fits : n + length refs ≤ 2 ^ 22 = omega (arith, sum, few) in
    let named : numbers_of (refs ∷ []) ≡ map arc_of refs = flat_map-cons (map arc_of) refs [] ∙ append-nil (map arc_of refs) in
    loop-read arcs refs e trees numbers n loop are fits
    ∙ same-polygon (numbers ++ map arc_of refs) (numbers ++ numbers_of (refs ∷ [])) (n + length refs) (n + sum_by length (refs ∷ []))
    (ap (λ (l : List ℕ). numbers ++ l) (sym named)) (omega (arith, sum))
ring-reads arcs refs t loop are numbers n few = absurd are

pub none-reads : (walk : Tree → PolygonRead → Result PolygonRead ReadFault) → EachReads walk [] NoTrees
none-reads walk numbers n few = same-polygon numbers (numbers ++ []) n (n + 0) (sym (append-nil numbers)) (omega arith)

pub next-reads : (walk : Tree → PolygonRead → Result PolygonRead ReadFault) (own more : List (List ℤ)) (t : Tree) (others : Trees)
    → Reads walk own t → EachReads walk more others → EachReads walk (own ++ more) (NextTree t others)
next-reads walk own more t others is are numbers n few =
    let sum : sum_by length (own ++ more) ≡ sum_by length own + sum_by length more = sum_by-append length own more in
    let here : n + sum_by length own ≤ 2 ^ 22 = omega (arith, sum, few) in
    let there : (n + sum_by length own) + sum_by length more ≤ 2 ^ 22 = omega (arith, sum, few) in
    let count : (n + sum_by length own) + sum_by length more ≡ n + sum_by length (own ++ more) = omega (arith, sum) in
    ap (λ (r : Result PolygonRead ReadFault). and_then r (each walk others)) (is numbers n here)
    ∙ are (numbers ++ numbers_of own) (n + sum_by length own) there
    ∙ same-polygon ((numbers ++ numbers_of own) ++ numbers_of more) (numbers ++ numbers_of (own ++ more))
    ((n + sum_by length own) + sum_by length more) (n + sum_by length (own ++ more))
    (append_assoc numbers (numbers_of own) (numbers_of more)
    ∙ ap (λ (l : List ℕ). numbers ++ l) (sym (flat_map-append (map arc_of) own more))) count
