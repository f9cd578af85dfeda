-- Arcs are crossed as oddly as the runs into which they are cut.
use Rattle.std.proofs.Common.{◌≡◌, ◌∙◌, ℕ, zero, suc, ◌+◌, ◌-◌, ◌^◌, ◌<◌, ◌≤◌, ◌==◌, Bool, true, false, List, [], ◌∷◌, ◌++◌, All, length}
use Rattle.std.proofs.Common.{get_or, take, drop, refl, sym, ap, subst, arith, inl, inr}
use Rattle.std.specs.Prelude.{◌&&◌, sum_by}
use Rattle.std.proofs.lemmas.Bool.{and_right, cases_eq, cases_lt, eq-eqb, ne_eqb}
use Rattle.std.proofs.lemmas.List.{drop_more, get_or_past, take_all}
use Rattle.std.proofs.lemmas.List.Elements.{All-push, All-weaker}
use Rattle.std.proofs.lemmas.List.Sums.{sum_by-cons}
use Rattle.grid_exact.specs.Geometry.{Place}
use Rattle.grid_exact.specs.Crossing.{is_crossed}
use Rattle.grid_exact.specs.Walks.{differ}
use Rattle.arc_map.specs.Map.{Map}
use Rattle.arc_map.specs.Arcs.{is_list_crossed_oddly}
use Rattle.arc_map.specs.Arranged.{arc_at}
use Rattle.face_parity.specs.Parities.{pass_oddly}
use Rattle.face_parity.specs.Runs.{AreRunsBefore, AreRunsOf, IsRunOf, is_part_crossed, is_run_crossed, run_part}
use Rattle.face_parity.specs.declared.floors.Floors.{Floors}
use Rattle.face_parity.specs.declared.runs.Run.{Run}
use Rattle.grid_exact.proofs.Walks.{is_odd-counted, differ_assoc}
use Rattle.grid_exact.proofs.Crossings.{differ_false}
use Rattle.face_parity.proofs.Sums.{pass-append, pass-none}

-- ---- a list and its parts

one-is-even : (p : Place) (ps : List Place) → is_list_crossed_oddly p (take 1 ps) ≡ false
one-is-even p [] = refl
one-is-even p (v ∷ ws) = refl

-- the first part ends where the second one begins
pub parts : (p : Place) (at more total : ℕ) (ps : List Place) → total ≡ at + more
    → is_list_crossed_oddly p (take (suc total) ps) ≡ differ (is_list_crossed_oddly p (take (suc at) ps))
    (is_list_crossed_oddly p (take (suc more) (drop at ps)))
parts p zero more total [] is = refl
parts p (suc at) more total [] is = refl
parts p zero more total (v ∷ ws) is = let same : total ≡ more = omega (arith, is) in
    ap (λ n. is_list_crossed_oddly p (take (suc n) (v ∷ ws))) same
parts p (suc at) more zero (v ∷ ws) is = absurd (omega (arith, is))
parts p (suc at) more (suc total) (v ∷ []) is = ends at
  where
    ends : (at : ℕ) → false ≡ differ (is_list_crossed_oddly p (take (suc (suc at)) (v ∷ [])))
        (is_list_crossed_oddly p (take (suc more) (drop (suc at) (v ∷ []))))
    ends zero = refl
    ends (suc at) = refl
parts p (suc at) more (suc total) (v ∷ w ∷ ws) is =
    is_odd-counted (is_crossed p) v w (take total ws)
    ∙ ap (differ (is_crossed p v w)) (parts p at more total (w ∷ ws) (omega (arith, is)))
    ∙ differ_assoc (is_crossed p v w) (is_list_crossed_oddly p (take (suc at) (w ∷ ws)))
    (is_list_crossed_oddly p (take (suc more) (drop at (w ∷ ws))))
    ∙ ap (λ b. differ b (is_list_crossed_oddly p (take (suc more) (drop at (w ∷ ws)))))
    (sym (is_odd-counted (is_crossed p) v w (take at ws)))

-- ---- runs so far

-- these are runs of the arcs before this one, which they make up, and of this arc to the position with this number
pub record AreRunsTo (m : Map) (floors : Floors) (arc at : ℕ) (runs : List Run) : Type 0 where
  pub only : All (IsRunOf m floors) runs
  pub before : All (λ r. r.arc < arc + 1) runs
  pub crossed : (p : Place) (k : ℕ) → k < arc → pass_oddly (is_part_crossed m p k) runs ≡ is_list_crossed_oddly p (arc_at m k)
  pub part : (p : Place) → pass_oddly (is_part_crossed m p arc) runs ≡ is_list_crossed_oddly p (take (at + 1) (arc_at m arc))

not-part : (m : Map) (p : Place) (k : ℕ) (r : Run) → (r.arc ≡ k → ⊥) → is_part_crossed m p k r ≡ false
not-part m p k r apart = and_right (is_run_crossed m p r) (k == r.arc) (ne_eqb k r.arc (λ same. apart (sym same)))

and-true : (b : Bool) → (b && true) ≡ b
and-true true = refl
and-true false = refl

of-arc : (m : Map) (p : Place) (k : ℕ) (r : Run) → r.arc ≡ k → is_part_crossed m p k r ≡ is_run_crossed m p r
of-arc m p k r same = ap (λ b. is_run_crossed m p r && b) (eq-eqb k r.arc (sym same)) ∙ and-true (is_run_crossed m p r)

none-of-later : (m : Map) (p : Place) (arc k : ℕ) (runs : List Run) → arc ≤ k → All (λ r. r.arc < arc) runs
    → pass_oddly (is_part_crossed m p k) runs ≡ false
none-of-later m p arc k runs later before = pass-none (is_part_crossed m p k) runs
    (All-weaker (λ r. r.arc < arc) (λ r. is_part_crossed m p k r ≡ false) (λ r less.
    not-part m p k r (λ same. omega (arith, same, less, later))) runs before)

pub runs-start : (m : Map) (floors : Floors) (arc : ℕ) (runs : List Run) → AreRunsBefore m floors arc runs → AreRunsTo m floors arc 0 runs
runs-start m floors arc runs are = record {
  only = are.only;
  before = All-weaker (λ r. r.arc < arc) (λ r. r.arc < arc + 1) (λ r less. omega (arith, less)) runs are.before;
  crossed = are.crossed;
  part = λ p. none-of-later m p arc arc runs (omega arith) are.before ∙ sym (one-is-even p (arc_at m arc));
}

-- the run from a position to another one
run-is-part : (m : Map) (p : Place) (arc at to : ℕ) (r : Run) → at < to → r.arc ≡ arc → r.from ≡ at → r.to ≡ to
    → differ (is_list_crossed_oddly p (take (at + 1) (arc_at m arc))) (is_run_crossed m p r)
    ≡ is_list_crossed_oddly p (take (to + 1) (arc_at m arc))
run-is-part m p arc at to r rises is_arc is_from is_to =
    let ps = arc_at m arc in
    let more : to + 1 - at ≡ suc (to - at) = omega (arith, rises) in
    let total : to ≡ at + (to - at) = omega (arith, rises) in
    let first : at + 1 ≡ suc at = omega arith in
    let last : to + 1 ≡ suc to = omega arith in
    let whole : is_run_crossed m p r ≡ is_list_crossed_oddly p (take (suc (to - at)) (drop at ps)) =
    ap (λ k. is_list_crossed_oddly p (run_part (arc_at m k) r)) is_arc
    ∙ ap (λ n. is_list_crossed_oddly p (take (n + 1 - r.from) (drop r.from ps))) is_to
    ∙ ap (λ n. is_list_crossed_oddly p (take (to + 1 - n) (drop n ps))) is_from
    ∙ ap (λ n. is_list_crossed_oddly p (take n (drop at ps))) more in
    ap (differ (is_list_crossed_oddly p (take (at + 1) ps))) whole
    ∙ ap (λ n. differ (is_list_crossed_oddly p (take n ps)) (is_list_crossed_oddly p (take (suc (to - at)) (drop at ps)))) first
    ∙ sym (parts p at (to - at) to ps total)
    ∙ ap (λ n. is_list_crossed_oddly p (take n ps)) (sym last)

push-one : {X : Type 0} (test : X → Bool) (xs : List X) (x : X) (b : Bool) → test x ≡ b
    → pass_oddly test (xs ++ x ∷ []) ≡ differ (pass_oddly test xs) b
push-one test xs x b is = pass-append test xs (x ∷ []) ∙ ap (differ (pass_oddly test xs)) (differ_false (test x) ∙ is)

pub runs-more : (m : Map) (floors : Floors) (arc at to : ℕ) (runs : List Run) (r : Run) → AreRunsTo m floors arc at runs
    → IsRunOf m floors r → at < to → r.arc ≡ arc → r.from ≡ at → r.to ≡ to → AreRunsTo m floors arc to (runs ++ r ∷ [])
runs-more m floors arc at to runs r are run rises is_arc is_from is_to = record {
  only = All-push (IsRunOf m floors) runs r are.only run;
  before = All-push (λ s. s.arc < arc + 1) runs r are.before (omega (arith, is_arc));
  crossed = λ p k less. push-one (is_part_crossed m p k) runs r false (not-part m p k r (λ same. omega (arith, same, is_arc, less)))
      ∙ differ_false (pass_oddly (is_part_crossed m p k) runs) ∙ are.crossed p k less;
  part = λ p. push-one (is_part_crossed m p arc) runs r (is_run_crossed m p r) (of-arc m p arc r is_arc)
      ∙ ap (λ b. differ b (is_run_crossed m p r)) (are.part p) ∙ run-is-part m p arc at to r rises is_arc is_from is_to;
}

pub runs-end : (m : Map) (floors : Floors) (arc at : ℕ) (runs : List Run) → length (arc_at m arc) ≤ at + 1 → AreRunsTo m floors arc at runs
    → AreRunsBefore m floors (arc + 1) runs
runs-end m floors arc at runs done are = record {
  only = are.only;
  before = are.before;
  crossed = λ p k less. elim (cases_eq k arc) [
    | inl here ↦ subst (λ j. pass_oddly (is_part_crossed m p j) runs ≡ is_list_crossed_oddly p (arc_at m j)) (sym here) (are.part p
        ∙ ap (is_list_crossed_oddly p) (take_all (at + 1) (arc_at m arc) done))
    | inr elsewhere ↦ are.crossed p k (omega (arith, less, elsewhere))
  ];
}

pub runs-all : (m : Map) (floors : Floors) (arc : ℕ) (runs : List Run) → arc ≡ length m.arcs → length runs ≤ 2 ^ 20
    → AreRunsBefore m floors arc runs → AreRunsOf m floors runs
runs-all m floors arc runs all few are = record {
  only = are.only;
  few = few;
  crossed = λ p k. elim (cases_lt k arc) [
    | inl before ↦ are.crossed p k before
    | inr past ↦ none-of-later m p arc k runs past are.before ∙ sym
        (ap (is_list_crossed_oddly p) (get_or_past m.arcs k [] (omega (arith, all, past))))
  ];
}

-- as many runs as positions at most
pub few-more : (arcs : List (List Place)) (k before now : ℕ) → k < length arcs → before + sum_by length (drop k arcs) ≤ 2 ^ 20
    → now ≤ before + length (get_or arcs k []) → now + sum_by length (drop (k + 1) arcs) ≤ 2 ^ 20
few-more arcs k before now within few more =
    let step : sum_by length (drop k arcs) ≡ length (get_or arcs k []) + sum_by length (drop (k + 1) arcs) =
    ap (sum_by length) (drop_more arcs k [] within) ∙ sum_by-cons length (get_or arcs k []) (drop (k + 1) arcs) in
    omega (arith, step, few, more)
