-- How many positions are written of arcs that were built of rings, and that they are on the grid.
use Rattle.std.specs.Prelude.{if◌then◌else◌}
use Rattle.std.specs.List.{AllByRecursion, dedup}
use Rattle.std.proofs.Common.{◌≡◌, ℕ, zero, suc, ◌+◌, ◌-◌, ◌*◌, ◌<◌, ◌≤◌, max, Bool, true, false, nat_lt, All, List, [], ◌∷◌, ◌++◌, length}
use Rattle.std.proofs.Common.{take, drop, map}
use Rattle.std.proofs.Common.{sum_by, ℤ, refl, sym, ap, subst, ◌∙◌, arith}
use Rattle.std.proofs.lemmas.Bool.{cond-true, cond-false}
use Rattle.std.proofs.lemmas.List.{length-append, length-take, length-drop}
use Rattle.std.proofs.lemmas.List.Elements.{All-from_recursion, recursion_from_All}
use Rattle.std.proofs.lemmas.List.Filters.{All-dedup}
use Rattle.std.proofs.lemmas.List.Sums.{sum_by_push, sum_by-cons}
use Rattle.grid_exact.specs.Geometry.{Place}
use Rattle.arc_map.specs.Ends.{is_same}
use Rattle.topo_build.specs.Built.{IsTaken, Earlier, Next, BeginsWith, AreTaken, IsRingBuilt, Single, Free, Cut, AreRingsBuilt}
use Rattle.topo_build.specs.Built.{IsPieceTaken, IsRingTaken}
use Rattle.topo_build.specs.Cyclic.{closed_from, cyclic, opened}
use Rattle.geo_text.proofs.Readable.{IsOnGrid, written_count}

-- ---- each of a list

pub all-push : {A : Type 0} (P : A → Type 0) (xs : List A) (x : A) → AllByRecursion P xs → P x → AllByRecursion P (xs ++ x ∷ [])
all-push P [] x each is = (is, tt)
all-push P (y ∷ ys) x each is = (each.0, all-push P ys x each.1 is)

all-append : {A : Type 0} (P : A → Type 0) (xs ys : List A) → AllByRecursion P xs → AllByRecursion P ys → AllByRecursion P (xs ++ ys)
all-append P [] ys each others = others
all-append P (x ∷ xs) ys each others = (each.0, all-append P xs ys each.1 others)

all-first : {A : Type 0} (P : A → Type 0) (xs ys : List A) → AllByRecursion P (xs ++ ys) → AllByRecursion P xs
all-first P [] ys each = tt
all-first P (x ∷ xs) ys each = (each.0, all-first P xs ys each.1)

all-last : {A : Type 0} (P : A → Type 0) (xs ys : List A) → AllByRecursion P (xs ++ ys) → AllByRecursion P ys
all-last P [] ys each = each
all-last P (x ∷ xs) ys each = all-last P xs ys each.1

all-take : {A : Type 0} (P : A → Type 0) (n : ℕ) (xs : List A) → AllByRecursion P xs → AllByRecursion P (take n xs)
all-take P zero xs each = tt
all-take P (suc n) [] each = tt
all-take P (suc n) (x ∷ xs) each = (each.0, all-take P n xs each.1)

all-drop : {A : Type 0} (P : A → Type 0) (n : ℕ) (xs : List A) → AllByRecursion P xs → AllByRecursion P (drop n xs)
all-drop P zero xs each = each
all-drop P (suc n) [] each = tt
all-drop P (suc n) (x ∷ xs) each = all-drop P n xs each.1

-- ---- arcs

-- no more than so many positions are written of the arcs, and they are on the grid
pub record AreBounded (arcs : List (List Place)) (n : ℕ) : Type 0 where
  pub few : sum_by written_count arcs ≤ n
  pub on_grid : AllByRecursion (AllByRecursion IsOnGrid) arcs

more-bounded : (arcs : List (List Place)) (m n : ℕ) → m ≤ n → AreBounded arcs m → AreBounded arcs n
more-bounded arcs m n within is = record { few = omega (arith, within, is.few); on_grid = is.on_grid }

push-bounded : (arcs : List (List Place)) (arc : List Place) (n k : ℕ) → written_count arc ≤ k → AllByRecursion IsOnGrid arc
    → AreBounded arcs n → AreBounded (arcs ++ arc ∷ []) (n + k)
push-bounded arcs arc n k fits on is = record {
  few = omega (arith, fits, is.few, sum_by_push written_count arcs arc);
  on_grid = all-push (AllByRecursion IsOnGrid) arcs arc is.on_grid on;
}

taken-bounded : (Is : List Place → Type 0) (piece : List Place) (arcs : List (List Place)) (r : ℤ) (after : List (List Place)) (n k : ℕ)
    → IsTaken Is piece arcs r after → written_count piece ≤ k → AllByRecursion IsOnGrid piece → AreBounded arcs n → AreBounded after (n + k)
taken-bounded Is piece arcs r after n k (Earlier e same) fits on is =
    subst (λ (l : List (List Place)). AreBounded l (n + k)) (sym same) (more-bounded arcs n (n + k) (omega arith) is)
taken-bounded Is piece arcs r after n k (Next none at same) fits on is =
    subst (λ (l : List (List Place)). AreBounded l (n + k)) (sym same) (push-bounded arcs piece n k fits on is)

-- the piece from v along `inner` to w
piece-count : (v : Place) (inner : List Place) (w : Place) → written_count (v ∷ (inner ++ w ∷ [])) ≤ 2 * (length inner + 1)
piece-count v inner w = omega (arith, length-append inner (w ∷ []))

walk-bounded : (Junction : Place → Type 0) (v : Place) (ws : List Place) (arcs : List (List Place)) (refs : List ℤ)
    (after : List (List Place)) (n : ℕ)
    → AreTaken IsPieceTaken Junction v ws arcs refs after → AllByRecursion IsOnGrid (v ∷ ws) → AreBounded arcs n
    → AreBounded after (n + 2 * length ws)
walk-bounded Junction v ws arcs [] after n are on is =
    subst (λ (l : List (List Place)). AreBounded l (n + 2 * length ws)) (sym are.1)
    (more-bounded arcs n (n + 2 * length ws) (omega arith) is)
walk-bounded Junction v ws arcs (r ∷ rs) after n are on is =
    let b = are.0 in
    let tail : AllByRecursion IsOnGrid (b.inner ++ b.last ∷ b.rest) = subst (AllByRecursion IsOnGrid) b.along on.1 in
    let inner = all-first IsOnGrid b.inner (b.last ∷ b.rest) tail in
    let others : AllByRecursion IsOnGrid (b.last ∷ b.rest) = all-last IsOnGrid b.inner (b.last ∷ b.rest) tail in
    let piece : AllByRecursion IsOnGrid (v ∷ (b.inner ++ b.last ∷ [])) = (
      on.0,
      all-append IsOnGrid b.inner (b.last ∷ []) inner
          (others.0, tt),
    ) in
    let step = taken-bounded (λ ps. ps ≡ v ∷ (b.inner ++ b.last ∷ [])) (v ∷ (b.inner ++ b.last ∷ [])) arcs r b.after n
    (2 * (length b.inner + 1)) b.taken
    (piece-count v b.inner b.last) piece is in
    let long : length ws ≡ length b.inner + (1 + length b.rest) = omega (arith, ap length b.along, length-append b.inner (b.last ∷ b.rest))
    in
    more-bounded after ((n + 2 * (length b.inner + 1)) + 2 * length b.rest) (n + 2 * length ws) (omega (arith, long))
    (walk-bounded Junction b.last b.rest b.after rs after (n + 2 * (length b.inner + 1)) are.1 others step)

-- ---- rings

closed-long : (ring : List Place) (at : ℕ) → at < length ring → length (closed_from ring at) ≡ length ring + 1
closed-long ring at within =
    omega (arith, within, length-append (drop at ring) (take (at + 1) ring), length-drop at ring, length-take (at + 1) ring)

closed-on_grid : (ring : List Place) (at : ℕ) → AllByRecursion IsOnGrid ring → AllByRecursion IsOnGrid (closed_from ring at)
closed-on_grid ring at on = all-append IsOnGrid (drop at ring) (take (at + 1) ring) (all-drop IsOnGrid at ring on)
    (all-take IsOnGrid (at + 1) ring on)

round-count : (ring : List Place) → 1 < length ring → written_count (closed_from ring 0) ≤ 2 * length ring
round-count ring long =
    let some : 0 < length ring = omega (arith, long) in
    omega (arith, long, closed-long ring 0 some)

ring-bounded : (Junction : Place → Type 0) (ring : List Place) (arcs : List (List Place)) (refs : List ℤ) (after : List (List Place))
    (n : ℕ)
    → IsRingBuilt IsPieceTaken IsRingTaken Junction ring arcs refs after → AllByRecursion IsOnGrid ring → AreBounded arcs n
    → AreBounded after (n + 2 * length ring)
ring-bounded Junction ring arcs refs after n (Single p one its same) on is =
    let point : AllByRecursion IsOnGrid (p ∷ []) = subst (AllByRecursion IsOnGrid) one on in
    let long : length ring ≡ 1 = ap length one in
    let fits : written_count (p ∷ []) ≤ 2 * length ring = omega (arith, long) in
    subst (λ (l : List (List Place)). AreBounded l (n + 2 * length ring)) (sym same)
    (push-bounded arcs (p ∷ []) n (2 * length ring) fits point is)
ring-bounded Junction ring arcs refs after n (Free r long none its taken) on is =
    taken-bounded _ (closed_from ring 0) arcs r after n (2 * length ring) taken (round-count ring long) (closed-on_grid ring 0 on) is
ring-bounded Junction ring arcs refs after n (Cut at v ws long within none closed junction are) on is =
    let walk : AllByRecursion IsOnGrid (v ∷ ws) = subst (AllByRecursion IsOnGrid) closed (closed-on_grid ring at on) in
    let count : length ws ≡ length ring = omega (arith, closed-long ring at within, ap length closed) in
    subst (λ (k : ℕ). AreBounded after (n + 2 * k)) count (walk-bounded Junction v ws arcs refs after n are walk is)

pub rings-bounded : (Junction : Place → Type 0) (cs arcs : List (List Place)) (refs : List (List ℤ)) (after : List (List Place)) (n : ℕ)
    → AreRingsBuilt IsPieceTaken IsRingTaken Junction cs arcs refs after → AllByRecursion (AllByRecursion IsOnGrid) cs → AreBounded arcs n
    → AreBounded after (n + 2 * sum_by length cs)
rings-bounded Junction [] arcs [] after n are on is = subst (λ (l : List (List Place)). AreBounded l (n + 0)) (sym are)
    (more-bounded arcs n (n + 0) (omega arith) is)
rings-bounded Junction [] arcs (r ∷ refs) after n are on is = absurd are
rings-bounded Junction (c ∷ cs) arcs [] after n are on is = absurd are
rings-bounded Junction (c ∷ cs) arcs (r ∷ refs) after n are on is =
    let first = ring-bounded Junction c arcs r are.0 n are.1 on.0 is in
    let sum = sum_by-cons length c cs in
    more-bounded after ((n + 2 * length c) + 2 * sum_by length cs) (n + 2 * sum_by length (c ∷ cs)) (omega (arith, sum))
    (rings-bounded Junction cs are.0 refs after (n + 2 * length c) are.2 on.1 first)

-- ---- cyclic lists

opened-on_grid : (walk : List Place) → AllByRecursion IsOnGrid walk → AllByRecursion IsOnGrid (opened walk)
opened-on_grid walk on = at_case (nat_lt 1 (length walk)) refl
  where
    at_case : (b : Bool) → nat_lt 1 (length walk) ≡ b → AllByRecursion IsOnGrid (opened walk)
    at_case true e = subst (AllByRecursion IsOnGrid) (sym (cond-true (nat_lt 1 (length walk)) _ _ e))
        (all-take IsOnGrid (length walk - 1) walk on)
    at_case false e = subst (AllByRecursion IsOnGrid) (sym (cond-false (nat_lt 1 (length walk)) _ _ e)) on

cyclic-on_grid : (ring : List Place) → AllByRecursion IsOnGrid ring → AllByRecursion IsOnGrid (cyclic ring)
cyclic-on_grid ring on =
    opened-on_grid (dedup is_same ring) (recursion_from_All IsOnGrid (dedup is_same ring)
    (All-dedup is_same IsOnGrid ring (All-from_recursion IsOnGrid ring on)))

pub cycles-on_grid : (rings : List (List Place)) → AllByRecursion (AllByRecursion IsOnGrid) rings
    → AllByRecursion (AllByRecursion IsOnGrid) (map cyclic rings)
cycles-on_grid [] on = tt
cycles-on_grid (ring ∷ rings) on = (cyclic-on_grid ring on.0, cycles-on_grid rings on.1)
