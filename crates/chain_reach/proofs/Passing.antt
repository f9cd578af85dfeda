-- An edge in the corridor of the bound that passes a place there has a place of its own close to it.
use Rattle.std.proofs.Common.{◌≡◌, ◌⊎◌, inl, inr, [], ◌∷◌, ℤ, pos, ◌+ℤ◌, ◌-ℤ◌, ◌*ℤ◌, ◌≤ℤ◌, ◌<ℤ◌, refl, sym, ap, subst, ◌∙◌, arith}
use Rattle.grid_exact.specs.Geometry.{Place, area_of, length2_of}
use Rattle.grid_exact.proofs.WholeLaws.{sums}
use Rattle.grid_exact.proofs.Signs.{at_most_or_above, times_nonnegative, times_positive, positive_from_times}
use Rattle.grid_exact.proofs.Polynomial.{Whole, ◌⊕◌, ◌⊖◌, ◌⊗◌, ◌≈◌, ◌times◌, Variable, by_identity, by_multiples, identity_1, identity_2}
use Rattle.grid_exact.proofs.Polynomial.{identity_3, identity_4, identity_5, identity_6}
use Rattle.chain_reach.specs.Reach.{ahead_of, IsUnder, IsBySegment, IsInGrownBox}
use Rattle.chain_reach.proofs.Corridor.{IsTo, IsHeld}

-- ---- numbers

-- l times z is a sum of shares i and j of two numbers up to b, and b is twice f times l
under_share : (l f b i j d h z : ℤ) → b ≡ f *ℤ l +ℤ f *ℤ l → pos 0 <ℤ l → pos 0 ≤ℤ i → pos 0 ≤ℤ j → pos 1 ≤ℤ (j +ℤ i) → IsTo b d → IsTo b h
    → l *ℤ z ≡ j *ℤ d +ℤ i *ℤ h → z <ℤ ((j +ℤ i) *ℤ (pos 2 *ℤ f +ℤ pos 1))
under_share l f b i j d h z twice long from_i from_j some to_d to_h same =
    let n = Variable in
    let e = by_identity (l ∷ f ∷ b ∷ i ∷ j ∷ d ∷ h ∷ z ∷ [])
    (n 0 ⊗ ((n 4 ⊕ n 3) ⊗ (Whole (pos 2) ⊗ n 1 ⊕ Whole (pos 1)) ⊖ n 7)
    ≈ (n 4 ⊕ n 3) ⊗ n 0 ⊕ n 4 ⊗ (n 2 ⊖ n 5) ⊕ n 3 ⊗ (n 2 ⊖ n 6) ⊕ (n 4 ⊗ n 5 ⊕ n 3 ⊗ n 6 ⊖ n 0 ⊗ n 7)
    ⊕ (n 4 ⊕ n 3) ⊗ (n 1 ⊗ n 0 ⊕ n 1 ⊗ n 0 ⊖ n 2)) refl in
    let a : pos 0 <ℤ ((j +ℤ i) *ℤ l) = times_positive (j +ℤ i) l (omega (arith, sums)) long in
    let dh = to_d.high in let hh = to_h.high in
    let s : pos 0 ≤ℤ (j *ℤ (b -ℤ d)) = times_nonnegative j (b -ℤ d) from_j (omega (arith, sums)) in
    let t : pos 0 ≤ℤ (i *ℤ (b -ℤ h)) = times_nonnegative i (b -ℤ h) from_i (omega (arith, sums)) in
    let gap : f *ℤ l +ℤ f *ℤ l -ℤ b ≡ pos 0 = omega (arith, sums) in
    let none : (j +ℤ i) *ℤ (f *ℤ l +ℤ f *ℤ l -ℤ b) ≡ pos 0 = subst (λ g. (j +ℤ i) *ℤ g ≡ pos 0) (sym gap)
    (identity_1 (j +ℤ i) (λ z. z ⊗ Whole (pos 0) ≈ Whole (pos 0)) refl) in
    let r : pos 0 <ℤ (l *ℤ ((j +ℤ i) *ℤ (pos 2 *ℤ f +ℤ pos 1) -ℤ z)) = omega (arith, sums, e) in
    let up = positive_from_times l ((j +ℤ i) *ℤ (pos 2 *ℤ f +ℤ pos 1) -ℤ z) long r in
    omega (arith, sums)

to_turned : (b d : ℤ) → IsTo b d → IsTo b (pos 0 -ℤ d)
to_turned b d h = let low = h.low in let high = h.high in record { low = omega (arith, sums); high = omega (arith, sums) }

-- between the two limits
within_share : (l f b i j d h z : ℤ) → b ≡ f *ℤ l +ℤ f *ℤ l → pos 0 <ℤ l → pos 0 ≤ℤ i → pos 0 ≤ℤ j → pos 1 ≤ℤ (j +ℤ i) → IsTo b d → IsTo b h
    → l *ℤ z ≡ j *ℤ d +ℤ i *ℤ h → IsUnder ((j +ℤ i) *ℤ (pos 2 *ℤ f +ℤ pos 1)) z
within_share l f b i j d h z twice long from_i from_j some to_d to_h same =
    let e = identity_2 l z (λ l z. l ⊗ (Whole (pos 0) ⊖ z) ≈ Whole (pos 0) ⊖ l ⊗ z) refl in
    let g = identity_4 j d i h (λ j d i h. j ⊗ (Whole (pos 0) ⊖ d) ⊕ i ⊗ (Whole (pos 0) ⊖ h) ≈ Whole (pos 0) ⊖ (j ⊗ d ⊕ i ⊗ h)) refl in
    let high = under_share l f b i j d h z twice long from_i from_j some to_d to_h same in
    let low = under_share l f b i j (pos 0 -ℤ d) (pos 0 -ℤ h) (pos 0 -ℤ z) twice long from_i from_j some (to_turned b d to_d)
    (to_turned b h to_h) (omega (arith, sums, e, g)) in
    record { low = omega (arith, sums); high = high }

apart : (b g h : ℤ) → IsTo b g → IsTo b h → IsTo (b +ℤ b) (g -ℤ h)
apart b g h s t =
    let sl = s.low in let sh = s.high in let tl = t.low in let th = t.high in
    record { low = omega (arith, sums); high = omega (arith, sums) }

-- on one axis: a step to a and one to b, each times l a share along and a share of areas, where the shares along make up none
shares_made : (l k i j s t g h q a b p v : ℤ) → l *ℤ ((a -ℤ v) -ℤ (p -ℤ v)) ≡ k *ℤ s -ℤ (g -ℤ q)
    → l *ℤ ((b -ℤ v) -ℤ (p -ℤ v)) ≡ k *ℤ t -ℤ (h -ℤ q)
    → j *ℤ s +ℤ i *ℤ t ≡ pos 0 → l *ℤ ((j +ℤ i) *ℤ (p -ℤ a) -ℤ i *ℤ (b -ℤ a)) ≡ j *ℤ (g -ℤ q) +ℤ i *ℤ (h -ℤ q)
shares_made l k i j s t g h q a b p v to_a to_b none =
    let n = Variable in
    by_multiples (l ∷ k ∷ i ∷ j ∷ s ∷ t ∷ g ∷ h ∷ q ∷ a ∷ b ∷ p ∷ v ∷ [])
    (n 0 ⊗ ((n 3 ⊕ n 2) ⊗ (n 11 ⊖ n 9) ⊖ n 2 ⊗ (n 10 ⊖ n 9)) ≈ n 3 ⊗ (n 6 ⊖ n 8) ⊕ n 2 ⊗ (n 7 ⊖ n 8))
    (((Whole (pos 0) ⊖ n 3) times (n 0 ⊗ ((n 9 ⊖ n 12) ⊖ (n 11 ⊖ n 12)) ≈ n 1 ⊗ n 4 ⊖ (n 6 ⊖ n 8)))
    ∷ ((Whole (pos 0) ⊖ n 2) times (n 0 ⊗ ((n 10 ⊖ n 12) ⊖ (n 11 ⊖ n 12)) ≈ n 1 ⊗ n 5 ⊖ (n 7 ⊖ n 8)))
    ∷ ((Whole (pos 0) ⊖ n 1) times (n 3 ⊗ n 4 ⊕ n 2 ⊗ n 5 ≈ Whole (pos 0))) ∷ []) (to_a, (to_b, (none, tt))) refl

-- ---- steps along and across a segment

-- how far q is ahead of p along vw
abbrev pub along : Place → Place → Place → Place → ℤ
along v w p q = ahead_of (w.x -ℤ v.x) (w.y -ℤ v.y) p q

step_across : (k m x y r s : ℤ) → (k *ℤ k +ℤ m *ℤ m) *ℤ (x -ℤ r)
    ≡ k *ℤ (k *ℤ (x -ℤ r) +ℤ m *ℤ (y -ℤ s)) -ℤ (m *ℤ (k *ℤ y -ℤ m *ℤ x) -ℤ m *ℤ (k *ℤ s -ℤ m *ℤ r))
step_across k m x y r s = identity_6 k m x y r s (λ k m x y r s.
    (k ⊗ k ⊕ m ⊗ m) ⊗ (x ⊖ r) ≈ k ⊗ (k ⊗ (x ⊖ r) ⊕ m ⊗ (y ⊖ s)) ⊖ (m ⊗ (k ⊗ y ⊖ m ⊗ x) ⊖ m ⊗ (k ⊗ s ⊖ m ⊗ r))) refl

step_up : (k m x y r s : ℤ) → (k *ℤ k +ℤ m *ℤ m) *ℤ (y -ℤ s) ≡ m *ℤ (k *ℤ (x -ℤ r) +ℤ m *ℤ (y -ℤ s))
    -ℤ ((pos 0 -ℤ k *ℤ (k *ℤ y -ℤ m *ℤ x)) -ℤ (pos 0 -ℤ k *ℤ (k *ℤ s -ℤ m *ℤ r)))
step_up k m x y r s = identity_6 k m x y r s (λ k m x y r s. (k ⊗ k ⊕ m ⊗ m) ⊗ (y ⊖ s) ≈ m ⊗ (k ⊗ (x ⊖ r) ⊕ m ⊗ (y ⊖ s))
    ⊖ ((Whole (pos 0) ⊖ k ⊗ (k ⊗ y ⊖ m ⊗ x)) ⊖ (Whole (pos 0) ⊖ k ⊗ (k ⊗ s ⊖ m ⊗ r)))) refl

-- steps from v in place of places
pub steps_same : (k m a b c d e f : ℤ) → k *ℤ (a -ℤ b) +ℤ m *ℤ (c -ℤ d) ≡ k *ℤ ((a -ℤ e) -ℤ (b -ℤ e)) +ℤ m *ℤ ((c -ℤ f) -ℤ (d -ℤ f))
steps_same k m a b c d e f = let n = identity_3 a b e (λ a b e. a ⊖ b ≈ (a ⊖ e) ⊖ (b ⊖ e)) refl in let o =
    identity_3 c d f (λ c d f. c ⊖ d ≈ (c ⊖ f) ⊖ (d ⊖ f)) refl in ap (λ z. k *ℤ z +ℤ m *ℤ (c -ℤ d)) n
    ∙ ap (λ z. k *ℤ ((a -ℤ e) -ℤ (b -ℤ e)) +ℤ m *ℤ z) o

across_is : (v w p q : Place) → length2_of v w *ℤ ((q.x -ℤ v.x) -ℤ (p.x -ℤ v.x))
    ≡ (w.x -ℤ v.x) *ℤ along v w p q -ℤ ((w.y -ℤ v.y) *ℤ area_of v w q -ℤ (w.y -ℤ v.y) *ℤ area_of v w p)
across_is v w p q =
    subst (λ z. length2_of v w *ℤ ((q.x -ℤ v.x) -ℤ (p.x -ℤ v.x))
    ≡ (w.x -ℤ v.x) *ℤ z -ℤ ((w.y -ℤ v.y) *ℤ area_of v w q -ℤ (w.y -ℤ v.y) *ℤ area_of v w p))
    (sym (steps_same (w.x -ℤ v.x) (w.y -ℤ v.y) q.x p.x q.y p.y v.x v.y))
    (step_across (w.x -ℤ v.x) (w.y -ℤ v.y) (q.x -ℤ v.x) (q.y -ℤ v.y) (p.x -ℤ v.x) (p.y -ℤ v.y))

up_is : (v w p q : Place) → length2_of v w *ℤ ((q.y -ℤ v.y) -ℤ (p.y -ℤ v.y)) ≡ (w.y -ℤ v.y) *ℤ along v w p q
    -ℤ ((pos 0 -ℤ (w.x -ℤ v.x) *ℤ area_of v w q) -ℤ (pos 0 -ℤ (w.x -ℤ v.x) *ℤ area_of v w p))
up_is v w p q =
    subst (λ z. length2_of v w *ℤ ((q.y -ℤ v.y) -ℤ (p.y -ℤ v.y))
    ≡ (w.y -ℤ v.y) *ℤ z -ℤ ((pos 0 -ℤ (w.x -ℤ v.x) *ℤ area_of v w q) -ℤ (pos 0 -ℤ (w.x -ℤ v.x) *ℤ area_of v w p)))
    (sym (steps_same (w.x -ℤ v.x) (w.y -ℤ v.y) q.x p.x q.y p.y v.x v.y))
    (step_up (w.x -ℤ v.x) (w.y -ℤ v.y) (q.x -ℤ v.x) (q.y -ℤ v.y) (p.x -ℤ v.x) (p.y -ℤ v.y))

-- ---- one edge

-- the place at which the shares of the way that is left and of the way that is gone make up none is close
by_shares : (v w p : Place) (e : ℤ) (a b : Place) (i j : ℤ) → pos 0 <ℤ length2_of v w → IsHeld v w e p → IsHeld v w e a → IsHeld v w e b
    → pos 0 ≤ℤ i → pos 0 ≤ℤ j → pos 1 ≤ℤ (j +ℤ i) → j *ℤ along v w p a +ℤ i *ℤ along v w p b ≡ pos 0
    → IsBySegment (pos 2 *ℤ e +ℤ pos 1) (pos 2 *ℤ e +ℤ pos 1) p a b
by_shares v w p e a b i j long hp ha hb from_i from_j some none =
    let l = length2_of v w in
    let k = w.x -ℤ v.x in
    let m = w.y -ℤ v.y in
    let across = shares_made l k i j (along v w p a) (along v w p b) (m *ℤ area_of v w a) (m *ℤ area_of v w b) (m *ℤ area_of v w p) a.x b.x
    p.x v.x (across_is v w p a) (across_is v w p b) none in
    let up = shares_made l m i j (along v w p a) (along v w p b) (pos 0 -ℤ k *ℤ area_of v w a) (pos 0 -ℤ k *ℤ area_of v w b)
    (pos 0 -ℤ k *ℤ area_of v w p) a.y b.y p.y v.y (up_is v w p a) (up_is v w p b) none in
    record {
      denominator = j +ℤ i;
      numerator = i;
      whole = some;
      from_start = from_i;
      to_end = omega (arith, sums);
      across = within_share l e (e *ℤ l +ℤ e *ℤ l) i j (m *ℤ area_of v w a -ℤ m *ℤ area_of v w p) (m *ℤ area_of v w b -ℤ m *ℤ area_of v w p)
          ((j +ℤ i) *ℤ (p.x -ℤ a.x) -ℤ i *ℤ (b.x -ℤ a.x)) refl long from_i from_j some (apart (e *ℤ l) (m *ℤ area_of v w a)
          (m *ℤ area_of v w p) ha.up hp.up) (apart (e *ℤ l) (m *ℤ area_of v w b) (m *ℤ area_of v w p) hb.up hp.up) across;
      up = within_share l e (e *ℤ l +ℤ e *ℤ l) i j ((pos 0 -ℤ k *ℤ area_of v w a) -ℤ (pos 0 -ℤ k *ℤ area_of v w p))
          ((pos 0 -ℤ k *ℤ area_of v w b) -ℤ (pos 0 -ℤ k *ℤ area_of v w p)) ((j +ℤ i) *ℤ (p.y -ℤ a.y) -ℤ i *ℤ (b.y -ℤ a.y)) refl long from_i
          from_j some (apart (e *ℤ l) (pos 0 -ℤ k *ℤ area_of v w a) (pos 0 -ℤ k *ℤ area_of v w p) (to_turned (e *ℤ l) (k *ℤ area_of v w a)
          ha.across) (to_turned (e *ℤ l) (k *ℤ area_of v w p) hp.across))
          (apart (e *ℤ l) (pos 0 -ℤ k *ℤ area_of v w b) (pos 0 -ℤ k *ℤ area_of v w p) (to_turned (e *ℤ l) (k *ℤ area_of v w b) hb.across)
          (to_turned (e *ℤ l) (k *ℤ area_of v w p) hp.across)) up;
    }

-- an edge from not ahead of p to not behind it has a place close to p
pub passing_edge : (v w p : Place) (e : ℤ) (a b : Place) → pos 0 <ℤ length2_of v w → IsHeld v w e p → IsHeld v w e a → IsHeld v w e b
    → along v w p a ≤ℤ pos 0 → pos 0 ≤ℤ along v w p b → IsBySegment (pos 2 *ℤ e +ℤ pos 1) (pos 2 *ℤ e +ℤ pos 1) p a b
passing_edge v w p e a b long hp ha hb low high =
    let s = along v w p a in
    let t = along v w p b in
    elim (at_most_or_above (pos 0) s) [
      | inl h ↦
          let none = identity_2 s t (λ s t. Whole (pos 1) ⊗ s ⊕ Whole (pos 0) ⊗ t ≈ s) refl in
          by_shares v w p e a b (pos 0) (pos 1) long hp ha hb (omega arith) (omega arith) (omega (arith, sums)) (omega (arith, sums, none))
      | inr h ↦
          by_shares v w p e a b (pos 0 -ℤ s) t long hp ha hb (omega (arith, sums)) high (omega (arith, sums))
          (identity_2 s t (λ s t. t ⊗ s ⊕ (Whole (pos 0) ⊖ s) ⊗ t ≈ Whole (pos 0)) refl)
    ]

-- ---- segments turned about, and their boxes

pub by_turned : (r s : ℤ) (p a b : Place) → IsBySegment r s p a b → IsBySegment r s p b a
by_turned r s p a b h =
    let n = h.denominator in
    let i = h.numerator in
    let one = h.whole in let low = h.from_start in let high = h.to_end in
    let x = identity_5 n i p.x a.x b.x (λ n i p a b. n ⊗ (p ⊖ b) ⊖ (n ⊖ i) ⊗ (a ⊖ b) ≈ n ⊗ (p ⊖ a) ⊖ i ⊗ (b ⊖ a)) refl in
    let y = identity_5 n i p.y a.y b.y (λ n i p a b. n ⊗ (p ⊖ b) ⊖ (n ⊖ i) ⊗ (a ⊖ b) ≈ n ⊗ (p ⊖ a) ⊖ i ⊗ (b ⊖ a)) refl in
    record {
      denominator = n;
      numerator = n -ℤ i;
      whole = one;
      from_start = omega (arith, sums);
      to_end = omega (arith, sums);
      across = subst (λ z. IsUnder (n *ℤ r) z) (sym x) h.across;
      up = subst (λ z. IsUnder (n *ℤ s) z) (sym y) h.up;
    }

-- a place that is less than r over a place between u and w is less than r over the higher of them
not_above_both : (n i r z u w : ℤ) → pos 1 ≤ℤ n → pos 0 ≤ℤ i → i ≤ℤ n → (n *ℤ (z -ℤ u) -ℤ i *ℤ (w -ℤ u)) <ℤ (n *ℤ (r +ℤ pos 1))
    → (u +ℤ r) <ℤ z
    → (w +ℤ r) <ℤ z → ⊥
not_above_both n i r z u w one low high near over_u over_w =
    let e = identity_6 n i r z u w (λ n i r z u w. n ⊗ (z ⊖ u) ⊖ i ⊗ (w ⊖ u) ⊖ n ⊗ (r ⊕ Whole (pos 1))
    ≈ (n ⊖ i) ⊗ (z ⊖ u ⊖ r ⊖ Whole (pos 1)) ⊕ i ⊗ (z ⊖ w ⊖ r ⊖ Whole (pos 1))) refl in
    let a : pos 0 ≤ℤ ((n -ℤ i) *ℤ (z -ℤ u -ℤ r -ℤ pos 1)) = times_nonnegative (n -ℤ i) (z -ℤ u -ℤ r -ℤ pos 1) (omega (arith, sums))
    (omega (arith, sums)) in
    let b : pos 0 ≤ℤ (i *ℤ (z -ℤ w -ℤ r -ℤ pos 1)) = times_nonnegative i (z -ℤ w -ℤ r -ℤ pos 1) low (omega (arith, sums)) in
    omega (arith, sums, e)

not_below_both : (n i r z u w : ℤ) → pos 1 ≤ℤ n → pos 0 ≤ℤ i → i ≤ℤ n → (pos 0 -ℤ n *ℤ (r +ℤ pos 1)) <ℤ (n *ℤ (z -ℤ u) -ℤ i *ℤ (w -ℤ u))
    → (z +ℤ r) <ℤ u → (z +ℤ r) <ℤ w → ⊥
not_below_both n i r z u w one low high near under_u under_w =
    let e = identity_6 n i r z u w (λ n i r z u w. n ⊗ (z ⊖ u) ⊖ i ⊗ (w ⊖ u) ⊕ n ⊗ (r ⊕ Whole (pos 1))
    ≈ Whole (pos 0) ⊖ ((n ⊖ i) ⊗ (u ⊖ z ⊖ r ⊖ Whole (pos 1)) ⊕ i ⊗ (w ⊖ z ⊖ r ⊖ Whole (pos 1)))) refl in
    let a : pos 0 ≤ℤ ((n -ℤ i) *ℤ (u -ℤ z -ℤ r -ℤ pos 1)) = times_nonnegative (n -ℤ i) (u -ℤ z -ℤ r -ℤ pos 1) (omega (arith, sums))
    (omega (arith, sums)) in
    let b : pos 0 ≤ℤ (i *ℤ (w -ℤ z -ℤ r -ℤ pos 1)) = times_nonnegative i (w -ℤ z -ℤ r -ℤ pos 1) low (omega (arith, sums)) in
    omega (arith, sums, e)

either_below : (a b c d : ℤ) → ((b <ℤ a) → (d <ℤ c) → ⊥) → (a ≤ℤ b) ⊎ (c ≤ℤ d)
either_below a b c d other = elim (at_most_or_above a b) [
  | inl h ↦ inl h
  | inr h ↦ elim (at_most_or_above c d) [ inl k ↦ inr k | inr k ↦ absurd (other h k) ]
]

-- what is close to a segment is in its grown box
pub by_in_box : (r s : ℤ) (p a b : Place) → IsBySegment (r +ℤ pos 1) (s +ℤ pos 1) p a b → IsInGrownBox r s p a b
by_in_box r s p a b h =
    record {
      left = either_below a.x (p.x +ℤ r) b.x (p.x +ℤ r)
          (not_below_both h.denominator h.numerator r p.x a.x b.x h.whole h.from_start h.to_end h.across.low);
      right = either_below p.x (a.x +ℤ r) p.x (b.x +ℤ r)
          (not_above_both h.denominator h.numerator r p.x a.x b.x h.whole h.from_start h.to_end h.across.high);
      bottom = either_below a.y (p.y +ℤ s) b.y (p.y +ℤ s)
          (not_below_both h.denominator h.numerator s p.y a.y b.y h.whole h.from_start h.to_end h.up.low);
      top = either_below p.y (a.y +ℤ s) p.y (b.y +ℤ s)
          (not_above_both h.denominator h.numerator s p.y a.y b.y h.whole h.from_start h.to_end h.up.high);
    }
