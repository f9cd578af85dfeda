-- How far one edge is above another, from place to place: a linear count, by which one stays under the other between two places.
use Rattle.std.proofs.Common.{◌≡◌, ◌∙◌, [], ◌∷◌, ℤ, pos, ◌+ℤ◌, ◌-ℤ◌, ◌*ℤ◌, ◌≤ℤ◌, ◌<ℤ◌, refl, arith, ap}
use lib.IntN.{*ℤ_comm, zero-*ℤ, *ℤ-zero}
use Rattle.grid_exact.specs.Geometry.{Place, area_of, IsBefore}
use Rattle.grid_exact.specs.Geometry.IsBefore.{Left, Below}
use Rattle.grid_exact.specs.Spans.{IsUpTo}
use Rattle.grid_exact.proofs.WholeLaws.{sums}
use Rattle.grid_exact.proofs.Signs.{sign_of, times_nonnegative, times_positive, times_negative, nonnegative_times_nonpositive}
use Rattle.grid_exact.proofs.Signs.{positive_from_times, negative_from_times, square_nonnegative}
use Rattle.grid_exact.proofs.Signs.SignOf.{Negative, Zero, Positive}
use Rattle.grid_exact.proofs.Polynomial.{Polynomial, Whole, ◌⊕◌, ◌⊖◌, ◌⊗◌, ◌≈◌, Variable, by_identity, identity_2, identity_3, identity_4}
use Rattle.grid_exact.proofs.Spots.{Spot, spot, numbers_of, area_in, turn_in}
use Rattle.grid_exact.proofs.Areas.{turn_of}
use Rattle.grid_exact.proofs.Orders.{up_to_cases}
use Rattle.grid_exact.proofs.Orders.UpTo.{Earlier, There}

-- ---- how far it is from one place to another, where a step across counts k steps up

abbrev pub way : ℤ → Place → Place → ℤ
way k a b = k *ℤ (b.x -ℤ a.x) +ℤ (b.y -ℤ a.y)

-- k counts each of these steps up as less than one across
pub record IsWide (k z1 z2 z3 z4 z5 z6 : ℤ) : Type 0 where
  pub low : pos 0 ≤ℤ k
  pub first : z1 <ℤ k
  pub second : z2 <ℤ k
  pub third : z3 <ℤ k
  pub fourth : z4 <ℤ k
  pub fifth : z5 <ℤ k
  pub sixth : z6 <ℤ k

at_most_square : (z : ℤ) → z ≤ℤ (z *ℤ z)
at_most_square z =
    let e = identity_2 z z (λ a b. a ⊗ (a ⊖ Whole (pos 1)) ≈ a ⊗ a ⊖ a) refl in
    let s = square_nonnegative z in
    elim (sign_of z) [
      | Negative h ↦ omega (arith, sums)
      | Zero h ↦ omega (arith, sums)
      | Positive h ↦ let p : pos 0 ≤ℤ (z *ℤ (z -ℤ pos 1)) = times_nonnegative z (z -ℤ pos 1) (omega (arith, sums)) (omega (arith, sums)) in
          omega (arith, sums, e)
    ]

abbrev pub wide_for : ℤ → ℤ → ℤ → ℤ → ℤ → ℤ → ℤ
wide_for z1 z2 z3 z4 z5 z6 = pos 1 +ℤ z1 *ℤ z1 +ℤ z2 *ℤ z2 +ℤ z3 *ℤ z3 +ℤ z4 *ℤ z4 +ℤ z5 *ℤ z5 +ℤ z6 *ℤ z6

pub is_wide : (z1 z2 z3 z4 z5 z6 : ℤ) → IsWide (wide_for z1 z2 z3 z4 z5 z6) z1 z2 z3 z4 z5 z6
is_wide z1 z2 z3 z4 z5 z6 =
    let s1 = square_nonnegative z1 in let s2 = square_nonnegative z2 in let s3 = square_nonnegative z3 in
    let s4 = square_nonnegative z4 in let s5 = square_nonnegative z5 in let s6 = square_nonnegative z6 in
    let m1 = at_most_square z1 in let m2 = at_most_square z2 in let m3 = at_most_square z3 in
    let m4 = at_most_square z4 in let m5 = at_most_square z5 in let m6 = at_most_square z6 in
    record {
      low = omega (arith, sums);
      first = omega (arith, sums);
      second = omega (arith, sums);
      third = omega (arith, sums);
      fourth = omega (arith, sums);
      fifth = omega (arith, sums);
      sixth = omega (arith, sums);
    }

none_across : (k z : ℤ) → z ≡ pos 0 → k *ℤ z ≡ pos 0
none_across k z e = ap (λ x. k *ℤ x) e ∙ *ℤ-zero k

pub way_positive : (k : ℤ) (a b : Place) → pos 0 ≤ℤ k → (a.y -ℤ b.y) <ℤ k → IsBefore a b → pos 0 <ℤ way k a b
way_positive k a b low wide (Left h) =
    let e = identity_3 k a.x b.x (λ k x y. k ⊗ ((y ⊖ x) ⊖ Whole (pos 1)) ≈ k ⊗ (y ⊖ x) ⊖ k) refl in
    let p : pos 0 ≤ℤ (k *ℤ ((b.x -ℤ a.x) -ℤ pos 1)) = times_nonnegative k ((b.x -ℤ a.x) -ℤ pos 1) low (omega (arith, sums)) in
    omega (arith, sums, e)
way_positive k a b low wide (Below e h) =
    let z : k *ℤ (b.x -ℤ a.x) ≡ pos 0 = none_across k (b.x -ℤ a.x) (omega (arith, sums)) in
    omega (arith, sums)

pub way_nonnegative : (k : ℤ) (a b : Place) → pos 0 ≤ℤ k → (a.y -ℤ b.y) <ℤ k → IsUpTo a b → pos 0 ≤ℤ way k a b
way_nonnegative k a b low wide h =
    elim (up_to_cases a b h) [
      | Earlier l ↦ let p : pos 0 <ℤ way k a b = way_positive k a b low wide l in omega (arith, sums)
      | There e ↦
          let x : a.x ≡ b.x = ap (λ v. v.x) e in
          let y : a.y ≡ b.y = ap (λ v. v.y) e in
          let z : k *ℤ (b.x -ℤ a.x) ≡ pos 0 = none_across k (b.x -ℤ a.x) (omega (arith, sums)) in
          omega (arith, sums)
    ]

-- ---- how far cd is above ab, as the count of one over the other

abbrev pub gap : ℤ → Place → Place → Place → Place → Place → ℤ
gap k a b c d q = area_of a b q *ℤ way k c d -ℤ area_of c d q *ℤ way k a b

abbrev way_in : Polynomial → Spot → Spot → Polynomial
way_in k p q = k ⊗ (q.x ⊖ p.x) ⊕ (q.y ⊖ p.y)

pub gap_moves : (k : ℤ) (a b c d v w : Place) → gap k a b c d w ≡ gap k a b c d v +ℤ turn_of a b c d *ℤ way k v w
gap_moves k a b c d v w =
    let p = spot 0 in let q = spot 1 in let r = spot 2 in let o = spot 3 in let s = spot 4 in let t = spot 5 in
    let n = Variable 12 in
    by_identity (numbers_of (a ∷ b ∷ c ∷ d ∷ v ∷ w ∷ []) (k ∷ []))
    (area_in p q t ⊗ way_in n r o ⊖ area_in r o t ⊗ way_in n p q ≈ (area_in p q s ⊗ way_in n r o ⊖ area_in r o s ⊗ way_in n p q) ⊕ turn_in p
    q r o ⊗ way_in n s t) refl

stays : (t g0 g1 g2 d1 d2 : ℤ) → g1 ≡ g0 +ℤ t *ℤ d1 → g2 ≡ g1 +ℤ t *ℤ d2 → pos 0 ≤ℤ g0 → pos 0 ≤ℤ g2 → pos 0 ≤ℤ d1 → pos 0 ≤ℤ d2
    → pos 0 ≤ℤ g1
stays t g0 g1 g2 d1 d2 e f low high from to =
    elim (sign_of t) [
      | Negative h ↦ let p : (d2 *ℤ t) ≤ℤ pos 0 = nonnegative_times_nonpositive d2 t to (omega (arith, sums)) in
          omega (arith, sums, *ℤ_comm d2 t)
      | Zero h ↦ let p : pos 0 ≤ℤ (t *ℤ d1) = times_nonnegative t d1 (omega (arith, sums)) from in omega (arith, sums)
      | Positive h ↦ let p : pos 0 ≤ℤ (t *ℤ d1) = times_nonnegative t d1 (omega (arith, sums)) from in omega (arith, sums)
    ]

pub gap_stays : (k : ℤ) (a b c d v q w : Place) → pos 0 ≤ℤ gap k a b c d v → pos 0 ≤ℤ gap k a b c d w → pos 0 ≤ℤ way k v q
    → pos 0 ≤ℤ way k q w → pos 0 ≤ℤ gap k a b c d q
gap_stays k a b c d v q w low high from to = stays (turn_of a b c d) (gap k a b c d v) (gap k a b c d q) (gap k a b c d w) (way k v q)
    (way k q w) (gap_moves k a b c d v q) (gap_moves k a b c d q w) low high from to

pub zero_at_start : (a b : Place) → area_of a b a ≡ pos 0
zero_at_start a b = identity_4 a.x a.y b.x b.y (λ x y z w. (z ⊖ x) ⊗ (y ⊖ y) ⊖ (w ⊖ y) ⊗ (x ⊖ x) ≈ Whole (pos 0)) refl

pub zero_at_end : (a b : Place) → area_of a b b ≡ pos 0
zero_at_end a b = identity_4 a.x a.y b.x b.y (λ x y z w. (z ⊖ x) ⊗ (w ⊖ y) ⊖ (w ⊖ y) ⊗ (z ⊖ x) ≈ Whole (pos 0)) refl

-- ---- the sign of the gap, from that of areas

pub gap_by_first : (x y u v : ℤ) → pos 0 ≤ℤ x → y ≡ pos 0 → pos 0 <ℤ v → pos 0 ≤ℤ (x *ℤ v -ℤ y *ℤ u)
gap_by_first x y u v p e h =
    let z : y *ℤ u ≡ pos 0 = ap (λ n. n *ℤ u) e ∙ zero-*ℤ u in
    let r : pos 0 ≤ℤ (x *ℤ v) = times_nonnegative x v p (omega (arith, sums)) in
    omega (arith, sums)

pub gap_by_second : (x y u v : ℤ) → x ≡ pos 0 → y ≤ℤ pos 0 → pos 0 <ℤ u → pos 0 ≤ℤ (x *ℤ v -ℤ y *ℤ u)
gap_by_second x y u v e p h =
    let z : x *ℤ v ≡ pos 0 = ap (λ n. n *ℤ v) e ∙ zero-*ℤ v in
    let r : (u *ℤ y) ≤ℤ pos 0 = nonnegative_times_nonpositive u y (omega (arith, sums)) p in
    omega (arith, sums, *ℤ_comm u y)

pub first_positive : (x y u v : ℤ) → pos 0 ≤ℤ (x *ℤ v -ℤ y *ℤ u) → pos 0 <ℤ u → pos 0 <ℤ v → pos 0 <ℤ y → pos 0 <ℤ x
first_positive x y u v g hu hv hy =
    let r : pos 0 <ℤ (y *ℤ u) = times_positive y u hy hu in
    positive_from_times v x hv (omega (arith, sums, *ℤ_comm v x))

pub second_negative : (x y u v : ℤ) → pos 0 ≤ℤ (x *ℤ v -ℤ y *ℤ u) → pos 0 <ℤ u → pos 0 <ℤ v → x <ℤ pos 0 → y <ℤ pos 0
second_negative x y u v g hu hv hx =
    let r : (v *ℤ x) <ℤ pos 0 = times_negative v x hv hx in
    negative_from_times u y hu (omega (arith, sums, *ℤ_comm v x, *ℤ_comm u y))

-- ---- three edges from one place

fan_moves : (k : ℤ) (o b c d : Place) → area_of o b d *ℤ way k o c ≡ area_of o b c *ℤ way k o d +ℤ area_of o c d *ℤ way k o b
fan_moves k o b c d =
    let s = spot 0 in let p = spot 1 in let q = spot 2 in let r = spot 3 in
    let n = Variable 8 in
    by_identity (numbers_of (o ∷ b ∷ c ∷ d ∷ []) (k ∷ []))
    (area_in s p r ⊗ way_in n s q ≈ area_in s p q ⊗ way_in n s r ⊕ area_in s q r ⊗ way_in n s p) refl

-- where the second turns up from the first, and the third from the second, the third turns up from the first
pub fan : (o b c d : Place) → IsBefore o b → IsBefore o c → IsBefore o d → pos 0 <ℤ area_of o b c → pos 0 <ℤ area_of o c d
    → pos 0 <ℤ area_of o b d
fan o b c d hb hc hd x y =
    let k = wide_for (o.y -ℤ b.y) (o.y -ℤ c.y) (o.y -ℤ d.y) (pos 0) (pos 0) (pos 0) in
    let w = is_wide (o.y -ℤ b.y) (o.y -ℤ c.y) (o.y -ℤ d.y) (pos 0) (pos 0) (pos 0) in
    let p : pos 0 <ℤ way k o b = way_positive k o b w.low w.first hb in
    let q : pos 0 <ℤ way k o c = way_positive k o c w.low w.second hc in
    let r : pos 0 <ℤ way k o d = way_positive k o d w.low w.third hd in
    fan_by (area_of o b d) (area_of o b c) (area_of o c d) (way k o b) (way k o c) (way k o d) (fan_moves k o b c d) p q r x y
  where
    fan_by : (z x y u v w : ℤ) → z *ℤ v ≡ x *ℤ w +ℤ y *ℤ u → pos 0 <ℤ u → pos 0 <ℤ v → pos 0 <ℤ w → pos 0 <ℤ x → pos 0 <ℤ y → pos 0 <ℤ z
    fan_by z x y u v w e p q r hx hy =
        let s : pos 0 <ℤ (x *ℤ w) = times_positive x w hx r in
        let t : pos 0 <ℤ (y *ℤ u) = times_positive y u hy p in
        positive_from_times v z q (omega (arith, sums, e, *ℤ_comm v z))
