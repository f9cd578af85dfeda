-- The ends of the arcs of a ring meet in pairs: each position is an even number of times an end.
use Rattle.std.proofs.Common.{◌≡◌, ℕ, ◌+◌, ◌-◌, ◌<◌, ◌%◌, ◌^◌, Bool, true, false, ◌&&◌, Option, Some, None, List, [], ◌∷◌, ◌++◌, length}
use Rattle.std.proofs.Common.{get_or, All, Ok, pos, negsuc, cond, refl, sym, ap, subst, ◌∙◌, arith}
use Rattle.std.specs.Prelude.{slice_get, option_map}
use Rattle.std.specs.Ordering.{int_eq}
use Rattle.std.proofs.Math.Nat.{add_comm}
use Rattle.std.proofs.lemmas.Bool.{cond-true, cond-false}
use Rattle.std.proofs.lemmas.Cmp.{int_eq_equiv}
use Rattle.std.proofs.lemmas.Option.{slice_get_within, slice_get-get_or}
use Rattle.std.proofs.lemmas.List.Sums.{sum_by_push}
use Rattle.grid_exact.specs.Geometry.{Place}
use Rattle.arc_map.specs.Map.{IsArc}
use Rattle.arc_map.proofs.Listing.{both_true}
use Rattle.json_scan.specs.declared.whole.Whole.TheVariants as whole
use Rattle.json_scan.specs.Tree.{Tree, NullAt, FalseAt, TrueAt, NumberAt, TextAt, ListAt, ObjectAt, Trees, NoTrees, NextTree}
use Rattle.topo_reader.specs.declared.fault.What.TheVariants as what
use Rattle.topo_reader.specs.declared.line.Step.{Step}
use Rattle.topo_reader.specs.Sequence.{and_then, list_of}
use Rattle.topo_reader.specs.Arcs.{same_place, last_of}
use Rattle.topo_reader.specs.Geometries.{forwards, backwards, found_step, step_of, Line, no_line, or_else, is_same, joins, with_step}
use Rattle.topo_reader.specs.Geometries.{joined, line_from, closed, PolygonRead, ring_of}
use Rattle.topo_reader.specs.Ends.{times_at, ends_at, named_ends, HasEvenEnds}
use Rattle.topo_reader.proofs.ArcLaws.{not-ok, same-ok, then-ok, counted-ok}

-- ---- places that are the same

same-times : (p a b : Place) → same_place a b ≡ true → times_at p (Some a) ≡ times_at p (Some b)
same-times p a b same =
    let each = both_true (int_eq a.x b.x) (int_eq a.y b.y) same in
    let across = int_eq_equiv.congr a.x b.x p.x each.0 in
    let up = int_eq_equiv.congr a.y b.y p.y each.1 in
    ap (λ (t : Bool). cond (t && int_eq a.y p.y) 1 0) across ∙ ap (λ (t : Bool). cond (int_eq b.x p.x && t) 1 0) up

-- ---- the ends of an arc in its direction

record StepEnds (arcs : List (List Place)) (step : Step) : Type 0 where
  start : Place
  stop : Place
  first_is : step.first ≡ Some start
  last_is : step.last ≡ Some stop
  ends : (p : Place) → ends_at p (get_or arcs step.arc []) ≡ times_at p step.first + times_at p step.last

arc-ends : (arc : List Place) → IsArc arc → (start : Place) × (stop : Place) × (slice_get arc 0 ≡ Some start) × (last_of arc ≡ Some stop)
arc-ends [] is = absurd is
arc-ends (p ∷ ps) is =
    let within : length (p ∷ ps) - 1 < length (p ∷ ps) = omega arith in
    (p, get_or (p ∷ ps) (length (p ∷ ps) - 1) p, refl, slice_get-get_or (p ∷ ps) (length (p ∷ ps) - 1) p within)

some-same : (a b : List Place) → Some a ≡ Some b → a ≡ b
some-same a b h = cc

named-arc : (arcs : List (List Place)) (k : ℕ) (arc : List Place) → All IsArc arcs → slice_get arcs k ≡ Some arc
    → (arc ≡ get_or arcs k []) × IsArc arc
named-arc arcs k arc every e =
    let within = slice_get_within arcs k arc e in
    let same = some-same arc (get_or arcs k []) (sym e ∙ slice_get-get_or arcs k [] within) in
    (same, subst IsArc (sym same) (every k [] within))

forwards-ends : (arcs : List (List Place)) (k : ℕ) (arc : List Place) → All IsArc arcs → slice_get arcs k ≡ Some arc
    → StepEnds arcs (forwards k arc)
forwards-ends arcs k arc every e =
    let named = named-arc arcs k arc every e in
    let ends = arc-ends arc named.1 in
    record { start = ends.0; stop = ends.1; first_is = ends.2; last_is = ends.3; ends = λ p. ap (ends_at p) (sym named.0) }

backwards-ends : (arcs : List (List Place)) (k : ℕ) (arc : List Place) → All IsArc arcs → slice_get arcs k ≡ Some arc
    → StepEnds arcs (backwards k arc)
backwards-ends arcs k arc every e =
    let named = named-arc arcs k arc every e in
    let ends = arc-ends arc named.1 in
    record {
      start = ends.1;
      stop = ends.0;
      first_is = ends.3;
      last_is = ends.2;
      ends = λ p. ap (ends_at p) (sym named.0)
          ∙ add_comm (times_at p (slice_get arc 0)) (times_at p (last_of arc));
    }

found-ends : (arcs : List (List Place)) (t : Tree) (k : ℕ) (make : ℕ → List Place → Step)
    → ((arc : List Place) → slice_get arcs k ≡ Some arc → StepEnds arcs (make k arc)) → (o : Option (List Place)) → slice_get arcs k ≡ o
    → (step : Step) → found_step t (option_map (make k) o) ≡ Ok step → StepEnds arcs step
found-ends arcs t k make ends None e step h = not-ok _ step h
found-ends arcs t k make ends (Some arc) e step h = subst (StepEnds arcs) (same-ok (make k arc) step h) (ends arc e)

step-ends : (arcs : List (List Place)) (t : Tree) (step : Step) → All IsArc arcs → step_of arcs t ≡ Ok step → StepEnds arcs step
step-ends arcs (NumberAt e whole.NotWhole) step every h = not-ok _ step h
step-ends arcs (NumberAt e whole.Beyond) step every h = not-ok _ step h
step-ends arcs (NumberAt e (whole.Value (pos k))) step every h =
    found-ends arcs (NumberAt e (whole.Value (pos k))) k forwards (λ arc is. forwards-ends arcs k arc every is)
    (slice_get arcs k) refl step h
step-ends arcs (NumberAt e (whole.Value (negsuc k))) step every h =
    found-ends arcs (NumberAt e (whole.Value (negsuc k))) k backwards (λ arc is. backwards-ends arcs k arc every is)
    (slice_get arcs k) refl step h
step-ends arcs (NullAt e) step every h = not-ok _ step h
step-ends arcs (FalseAt e) step every h = not-ok _ step h
step-ends arcs (TrueAt e) step every h = not-ok _ step h
step-ends arcs (TextAt e word) step every h = not-ok _ step h
step-ends arcs (ListAt e trees) step every h = not-ok _ step h
step-ends arcs (ObjectAt e members) step every h = not-ok _ step h

-- ---- a line so far

-- both stand, or neither does
abbrev AreBoth : Option Place → Option Place → Type 0
AreBoth None None = Unit {0}
AreBoth (Some first) (Some last) = Unit {0}
AreBoth _ _ = ⊥

-- with the ends of the line itself, each position is an even number of times an end
record IsEven (arcs : List (List Place)) (first last : Option Place) (numbers : List ℕ) : Type 0 where
  both : AreBoth first last
  even : (p : Place) → (named_ends arcs p numbers + times_at p first + times_at p last) % 2 ≡ 0

abbrev IsEvenLine : List (List Place) → Line → Type 0
IsEvenLine arcs line = IsEven arcs line.first line.last line.numbers

are-both : (first last : Option Place) (start stop : Place) → first ≡ Some start → last ≡ Some stop → AreBoth first last
are-both first last start stop e f = subst (λ (o : Option Place). AreBoth o last) (sym e)
    (subst (λ (o : Option Place). AreBoth (Some start) o) (sym f) tt)

stays-even : (n f l a b total : ℕ) → (n + f + l) % 2 ≡ 0 → l ≡ a → total ≡ n + (a + b) → (total + f + b) % 2 ≡ 0
stays-even n f l a b total h e t = omega (arith, h, e, t)

begins-even : (n a b total : ℕ) → (n + 0 + 0) % 2 ≡ 0 → total ≡ n + (a + b) → (total + a + b) % 2 ≡ 0
begins-even n a b total h t = omega (arith, h, t)

ends-even : (n f l : ℕ) → (n + f + l) % 2 ≡ 0 → l ≡ f → n % 2 ≡ 0
ends-even n f l h e = omega (arith, h, e)

step-added : (arcs : List (List Place)) (numbers : List ℕ) (first last : Option Place) (step : Step) → StepEnds arcs step
    → IsEven arcs first last numbers → joins last step.first ≡ true
    → IsEven arcs (or_else first step.first) step.last (numbers ++ step.arc ∷ [])
step-added arcs numbers None None step ends is fits = record {
  both = are-both step.first step.last ends.start ends.stop ends.first_is ends.last_is;
  even = λ p.
      begins-even (named_ends arcs p numbers) (times_at p step.first) (times_at p step.last) (named_ends arcs p (numbers ++ step.arc ∷ []))
      (is.even p)
      (sum_by_push (λ k. ends_at p (get_or arcs k [])) numbers step.arc ∙ ap (λ (m : ℕ). named_ends arcs p numbers + m) (ends.ends p));
}
step-added arcs numbers None (Some l) step ends is fits = absurd is.both
step-added arcs numbers (Some f) None step ends is fits = absurd is.both
step-added arcs numbers (Some f) (Some l) step ends is fits =
    let same : same_place l ends.start ≡ true = ap (λ (o : Option Place). joins (Some l) o) (sym ends.first_is) ∙ fits in
    record {
      both = are-both (Some f) step.last f ends.stop refl ends.last_is;
      even = λ p.
          let meets : times_at p (Some l) ≡ times_at p step.first = same-times p l ends.start same ∙ ap (times_at p) (sym ends.first_is) in
          stays-even (named_ends arcs p numbers) (times_at p (Some f)) (times_at p (Some l)) (times_at p step.first) (times_at p step.last)
          (named_ends arcs p (numbers ++ step.arc ∷ [])) (is.even p) meets
          (sum_by_push (λ k. ends_at p (get_or arcs k [])) numbers step.arc ∙ ap (λ (m : ℕ). named_ends arcs p numbers + m) (ends.ends p));
    }

pub joined-fits : (t : Tree) (line : Line) (step : Step) (after : Line) → joined t line step ≡ Ok after
    → (joins line.last step.first ≡ true) × (with_step line step ≡ after)
joined-fits t line step after h = at_case (joins line.last step.first) refl
  where
    at_case : (b : Bool) → joins line.last step.first ≡ b → (joins line.last step.first ≡ true) × (with_step line step ≡ after)
    at_case true e = (e, same-ok (with_step line step) after (sym (cond-true (joins line.last step.first) _ _ e) ∙ h))
    at_case false e = not-ok _ after (sym (cond-false (joins line.last step.first) _ _ e) ∙ h)

pub closed-fits : (t : Tree) (line after : Line) → closed t line ≡ Ok after → (is_same line.last line.first ≡ true) × (line ≡ after)
closed-fits t line after h = at_case (is_same line.last line.first) refl
  where
    at_case : (b : Bool) → is_same line.last line.first ≡ b → (is_same line.last line.first ≡ true) × (line ≡ after)
    at_case true e = (e, same-ok line after (sym (cond-true (is_same line.last line.first) _ _ e) ∙ h))
    at_case false e = not-ok _ after (sym (cond-false (is_same line.last line.first) _ _ e) ∙ h)

line-even : (arcs : List (List Place)) → All IsArc arcs → (trees : Trees) (before after : Line) → IsEvenLine arcs before
    → line_from arcs trees before ≡ Ok after → IsEvenLine arcs after
line-even arcs every NoTrees before after is h = subst (IsEvenLine arcs) (same-ok before after h) is
line-even arcs every (NextTree t more) before after is h =
    let counted = counted-ok what.References (2 ^ 22) before.references t _ after h in
    let found = then-ok (step_of arcs t) (λ step. and_then (joined t before step) (line_from arcs more)) after counted.1 in
    let fits = then-ok (joined t before found.0) (line_from arcs more) after found.2 in
    let joining = joined-fits t before found.0 fits.0 fits.1 in
    line-even arcs every more fits.0 after
    (subst (IsEvenLine arcs) joining.1
    (step-added arcs before.numbers before.first before.last found.0 (step-ends arcs t found.0 every found.1) is joining.0)) fits.2

ring-closes : (arcs : List (List Place)) (numbers : List ℕ) (first last : Option Place) → IsEven arcs first last numbers
    → is_same last first ≡ true → HasEvenEnds arcs numbers
ring-closes arcs numbers None None is fits = λ p. ends-even (named_ends arcs p numbers) 0 0 (is.even p) refl
ring-closes arcs numbers None (Some l) is fits = absurd is.both
ring-closes arcs numbers (Some f) None is fits = absurd is.both
ring-closes arcs numbers (Some f) (Some l) is fits =
    λ p. ends-even (named_ends arcs p numbers) (times_at p (Some f)) (times_at p (Some l)) (is.even p) (same-times p l f fits)

line-begins : (arcs : List (List Place)) (numbers : List ℕ) → HasEvenEnds arcs numbers → IsEven arcs None None numbers
line-begins arcs numbers is = record { both = tt; even = λ p. grown (named_ends arcs p numbers) (is p) }
  where
    grown : (n : ℕ) → n % 2 ≡ 0 → (n + 0 + 0) % 2 ≡ 0
    grown n h = omega (arith, h)

-- the line of a ring that was read, which ends where it begins
pub record RingLine (arcs : List (List Place)) (t : Tree) (before after : PolygonRead) : Type 0 where
  pub trees : Trees
  pub line : Line
  pub walked : line_from arcs trees (no_line before.numbers before.references) ≡ Ok line
  pub meets : is_same line.last line.first ≡ true
  pub numbers_are : line.numbers ≡ after.numbers
  pub references_are : line.references ≡ after.references

pub ring-line : (arcs : List (List Place)) (t : Tree) (before after : PolygonRead)
    → ring_of arcs t before ≡ Ok after → RingLine arcs t before after
ring-line arcs t before after h =
    let listed =
    then-ok (list_of t)
    (λ trees. and_then (line_from arcs trees (no_line before.numbers before.references))
    (λ line. and_then (closed t line) (λ ring. Ok (record { numbers = ring.numbers; references = ring.references })))) after h
    in
    let walked = then-ok (line_from arcs listed.0 (no_line before.numbers before.references))
    (λ line. and_then (closed t line) (λ ring. Ok (record { numbers = ring.numbers; references = ring.references }))) after listed.2 in
    let ends = then-ok (closed t walked.0) (λ ring. Ok (record { numbers = ring.numbers; references = ring.references })) after walked.2 in
    let closing = closed-fits t walked.0 ends.0 ends.1 in
    let same = same-ok (record { numbers = ends.0.numbers; references = ends.0.references }) after ends.2 in
    record {
      trees = listed.0;
      line = walked.0;
      walked = walked.1;
      meets = closing.0;
      numbers_are = ap (λ (l : Line). l.numbers) closing.1 ∙ ap (λ (p : PolygonRead). p.numbers) same;
      references_are = ap (λ (l : Line). l.references) closing.1 ∙ ap (λ (p : PolygonRead). p.references) same;
    }

pub ring-even : (arcs : List (List Place)) → All IsArc arcs → (t : Tree) (before after : PolygonRead) → HasEvenEnds arcs before.numbers
    → ring_of arcs t before ≡ Ok after → HasEvenEnds arcs after.numbers
ring-even arcs every t before after is h =
    let ring = ring-line arcs t before after h in
    let even = line-even arcs every ring.trees (no_line before.numbers before.references) ring.line
    (line-begins arcs before.numbers is) ring.walked in
    subst (HasEvenEnds arcs) ring.numbers_are (ring-closes arcs ring.line.numbers ring.line.first ring.line.last even ring.meets)
