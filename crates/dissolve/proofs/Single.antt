-- Polygons have one border.
use Rattle.std.proofs.Common.{◌≡◌, ◌∙◌, ℕ, List, [], ◌∷◌, refl, sym, ap, subst, arith}
use Rattle.std.specs.Prelude.{ℤ, pos, negsuc}
use Rattle.grid_exact.specs.Geometry.{Place}
use Rattle.arc_map.specs.Map.{Map}
use Rattle.face_parity.proofs.Same.{in-none}
use Rattle.dissolve.specs.Border.{arc_of, first_of, start_of, end_of, EndsAt, IsFirst, IsLeast, IsNext, IsRest, IsRing, AreRings, without}
use Rattle.dissolve.specs.Border.{without_all}

same-least : (P : ℕ → Type 0) (arcs : List ℕ) (j k : ℕ) → IsLeast P arcs j → IsLeast P arcs k → j ≡ k
same-least P arcs j k first second =
    let low = first.least k second.among second.has in
    let high = second.least j first.among first.has in
    omega (arith, low, high)

same-first : (unused : List ℕ) (r s : ℤ) → IsFirst unused r → IsFirst unused s → r ≡ s
same-first unused r s first second =
    first.forwards ∙ ap pos (same-least (λ arc. Unit {0}) unused (arc_of r) (arc_of s) first.least second.least) ∙ sym second.forwards

turned-apart : (k : ℕ) → negsuc k ≡ pos k → ⊥
turned-apart k same = cc

same-next : (m : Map) (unused : List ℕ) (p : Place) (r s : ℤ) → IsNext m unused p r → IsNext m unused p s → r ≡ s
same-next m unused p r s first second = by_direction r s (same-least (EndsAt m p) unused (arc_of r) (arc_of s) first.least second.least)
    first.starts second.starts first.forwards second.forwards
  where
    by_direction : (x y : ℤ) → arc_of x ≡ arc_of y → start_of m x ≡ p → start_of m y ≡ p → (first_of m (arc_of x) ≡ p → x ≡ pos (arc_of x))
        → (first_of m (arc_of y) ≡ p → y ≡ pos (arc_of y)) → x ≡ y
    by_direction (pos j) (pos k) same begins ends one other = ap pos same
    by_direction (negsuc j) (negsuc k) same begins ends one other = ap negsuc same
    by_direction (pos j) (negsuc k) same begins ends one other = absurd (turned-apart k (other (ap (first_of m) (sym same) ∙ begins)))
    by_direction (negsuc j) (pos k) same begins ends one other = absurd (turned-apart j (one (ap (first_of m) same ∙ ends)))

same-rest : (m : Map) (start p : Place) (unused : List ℕ) (rs ss : List ℤ) → IsRest m start p unused rs → IsRest m start p unused ss
    → rs ≡ ss
same-rest m start p unused [] [] one other = refl
same-rest m start p unused [] (s ∷ ss) one other = absurd (other.0 one)
same-rest m start p unused (r ∷ rs) [] one other = absurd (one.0 other)
same-rest m start p unused (r ∷ rs) (s ∷ ss) one other =
    let head = same-next m unused p r s one.1 other.1 in
    let rest = subst (λ t. IsRest m start (end_of m t) (without (arc_of t) unused) ss) (sym head) other.2 in
    ap (λ t. t ∷ rs) head ∙ ap (λ ts. s ∷ ts) (same-rest m start (end_of m r) (without (arc_of r) unused) rs ss one.2 rest)

same-ring : (m : Map) (unused : List ℕ) (ring other : List ℤ) → IsRing m unused ring → IsRing m unused other → ring ≡ other
same-ring m unused [] other one two = absurd one
same-ring m unused (r ∷ rs) [] one two = absurd two
same-ring m unused (r ∷ rs) (s ∷ ss) one two =
    let head = same-first unused r s one.0 two.0 in
    let rest = subst (λ t. IsRest m (start_of m t) (end_of m t) (without (arc_of t) unused) ss) (sym head) two.1 in
    ap (λ t. t ∷ rs) head ∙ ap (λ ts. s ∷ ts) (same-rest m (start_of m r) (end_of m r) (without (arc_of r) unused) rs ss one.1 rest)

-- a ring needs an arc
none-to-begin : (m : Map) (ring : List ℤ) → IsRing m [] ring → ⊥
none-to-begin m [] is = is
none-to-begin m (r ∷ rs) is = in-none (arc_of r) is.0.least.among

pub same-rings : (m : Map) (unused : List ℕ) (rings others : List (List ℤ)) → AreRings m unused rings → AreRings m unused others
    → rings ≡ others
same-rings m unused [] [] one two = refl
same-rings m unused [] (ring ∷ rings) one two = absurd (none-to-begin m ring (subst (λ xs. IsRing m xs ring) one two.0))
same-rings m unused (ring ∷ rings) [] one two = absurd (none-to-begin m ring (subst (λ xs. IsRing m xs ring) two one.0))
same-rings m unused (ring ∷ rings) (other ∷ others) one two =
    let head = same-ring m unused ring other one.0 two.0 in
    let rest = subst (λ xs. AreRings m (without_all xs unused) others) (sym head) two.1 in
    ap (λ t. t ∷ rings) head ∙ ap (λ ts. other ∷ ts) (same-rings m (without_all ring unused) rings others one.1 rest)
