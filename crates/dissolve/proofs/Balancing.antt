-- A ring cannot stop before it is back at its first position.
use Rattle.std.proofs.Common.{◌≡◌, ◌≢◌, ◌∙◌, ℕ, Bool, true, false, List, [], ◌∷◌, Contains, refl, sym, ap, arith, inl, inr}
use Rattle.std.specs.Prelude.{ℤ, pos, negsuc}
use Rattle.std.proofs.lemmas.Bool.{cases_Bool, true≢false}
use Rattle.grid_exact.specs.Geometry.{Place}
use Rattle.grid_exact.specs.Walks.{differ}
use Rattle.grid_exact.proofs.Crossings.{differ_false, differ_turned}
use Rattle.grid_exact.proofs.Walks.{differ_itself}
use Rattle.arc_map.specs.Map.{Map}
use Rattle.arc_map.specs.Ends.{is_same}
use Rattle.arc_map.proofs.Listing.{compared_places}
use Rattle.arc_map.proofs.Listing.Same.{Yes, No}
use Rattle.face_parity.specs.Parities.{pass_oddly}
use Rattle.face_parity.proofs.Same.{in-later}
use Rattle.dissolve.specs.Border.{arc_of, first_of, last_of, start_of, end_of, EndsAt, IsNext, without}
use Rattle.dissolve.specs.Walk.{does_touch, IsEven}
use Rattle.dissolve.proofs.Booleans.{differ-between}
use Rattle.dissolve.proofs.Taking.{AreOnce, pass-without}

pub same-itself : (p : Place) → is_same p p ≡ true
same-itself p = elim (compared_places p p) [ Yes same e ↦ same | No unlike e ↦ absurd (e refl) ]

apart-places : (p q : Place) → p ≢ q → is_same p q ≡ false
apart-places p q apart = elim (compared_places p q) [ Yes same e ↦ absurd (apart e) | No unlike e ↦ unlike ]

-- what a comparison tells
pub told-same : (p q : Place) (b : Bool) → b ≡ is_same p q → b ≡ true → p ≡ q
told-same p q b is tells = elim (compared_places p q) [ Yes alike e ↦ e | No unlike e ↦ absurd (true≢false (sym tells ∙ is ∙ unlike)) ]

pub told-apart : (p q : Place) (b : Bool) → b ≡ is_same p q → b ≡ false → p ≢ q
told-apart p q b is tells same = elim (compared_places p q) [ Yes alike e ↦ true≢false (sym alike ∙ sym is ∙ tells) | No unlike e ↦ e same ]

-- where an odd number passes, one passes
some-pass : {X : Type 0} (test : X → Bool) (xs : List X) → pass_oddly test xs ≡ true → (x : X) × Contains xs x × (test x ≡ true)
some-pass test [] odd = absurd (true≢false (sym odd))
some-pass test (x ∷ xs) odd = elim (cases_Bool (test x)) [
  | inl passes ↦ (x, (0, omega arith, refl), passes)
  | inr fails ↦
      let later = some-pass test xs (sym (ap (λ b. differ b (pass_oddly test xs)) fails) ∙ odd) in
      (later.0, in-later x later.0 xs later.1, later.2)
]

-- what is touched at q has an end there
touched-ends : (m : Map) (q : Place) (arc : ℕ) → does_touch m q arc ≡ true → EndsAt m q arc
touched-ends m q arc touches = elim (compared_places (first_of m arc) q) [
  | Yes same e ↦ inl e
  | No unlike f ↦ elim (compared_places (last_of m arc) q) [
    | Yes same e ↦ inr e
    | No last e ↦ absurd (true≢false (sym touches ∙ ap (λ b. differ b (is_same (last_of m arc) q)) unlike ∙ last))
  ]
]

-- in either direction an arc touches where it starts and where it ends
touch-by_reference : (m : Map) (q : Place) (r : ℤ) → does_touch m q (arc_of r) ≡ differ (is_same (start_of m r) q) (is_same (end_of m r) q)
touch-by_reference m q (pos k) = refl
touch-by_reference m q (negsuc k) = differ_turned (is_same (first_of m k) q) (is_same (last_of m k) q)

-- ---- a ring begins, goes on and ends

-- each position is an even number of times an end of the arcs that are left, but for the positions where a ring began and
-- to which it came
abbrev pub IsBalanced : Map → Place → Place → List ℕ → Type 0
IsBalanced m start p unused = (q : Place) → pass_oddly (does_touch m q) unused ≡ differ (is_same start q) (is_same p q)

pub balanced-first : (m : Map) (unused : List ℕ) (arc : ℕ) → AreOnce unused → Contains unused arc → IsEven m unused
    → IsBalanced m (first_of m arc) (last_of m arc) (without arc unused)
balanced-first m unused arc once held even q =
    pass-without (does_touch m q) arc unused once held
    ∙ ap (differ (does_touch m q arc)) (even q)
    ∙ differ_false (does_touch m q arc)

pub balanced-next : (m : Map) (start p : Place) (unused : List ℕ) (r : ℤ) → AreOnce unused → IsNext m unused p r
    → IsBalanced m start p unused → IsBalanced m start (end_of m r) (without (arc_of r) unused)
balanced-next m start p unused r once next balanced q =
    let touched = touch-by_reference m q r ∙ ap (λ s. differ (is_same s q) (is_same (end_of m r) q)) next.starts in
    pass-without (does_touch m q) (arc_of r) unused once next.least.among
    ∙ ap (λ b. differ b (pass_oddly (does_touch m q) unused)) touched
    ∙ ap (differ (differ (is_same p q) (is_same (end_of m r) q))) (balanced q)
    ∙ differ-between (is_same p q) (is_same (end_of m r) q) (is_same start q)

pub balanced-last : (m : Map) (start p : Place) (unused : List ℕ) → p ≡ start → IsBalanced m start p unused → IsEven m unused
balanced-last m start p unused same balanced q = balanced q ∙ ap (λ s. differ (is_same start q) (is_same s q)) same
    ∙ differ_itself (is_same start q)

pub goes-on : (m : Map) (start p : Place) (unused : List ℕ) → p ≢ start → IsBalanced m start p unused
    → (arc : ℕ) × Contains unused arc × EndsAt m p arc
goes-on m start p unused apart balanced =
    let odd : pass_oddly (does_touch m p) unused ≡ true =
    balanced p ∙ ap (λ b. differ b (is_same p p)) (apart-places start p (λ same. apart (sym same))) ∙ same-itself p in
    let some = some-pass (does_touch m p) unused odd in
    (some.0, some.1, touched-ends m p some.0 some.2)
