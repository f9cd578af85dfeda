-- A way between two limits is within the bound of the vertex that they stand for, and the tighter of two limits stands for both.
use Rattle.std.proofs.Common.{◌≡◌, inl, inr, Bool, true, false, ℕ, ◌+◌, ◌≤◌, List, ℤ, pos, ◌+ℤ◌, ◌-ℤ◌, ◌*ℤ◌, ◌≤ℤ◌, ◌<ℤ◌, refl, sym, ap}
use Rattle.std.proofs.Common.{subst}
use Rattle.std.proofs.Common.{◌∙◌, arith}
use Rattle.std.proofs.lemmas.Bool.{cases_lt}
use Rattle.grid_exact.specs.Geometry.{Place, turned, area_of, square_of, IsWithin}
use Rattle.grid_exact.specs.declared.frame.Direction.{Direction}
use Rattle.grid_exact.specs.declared.frame.Frame.{Frame}
use Rattle.grid_exact.specs.declared.frame.Frame.TheVariants.{Plain, Turned}
use Rattle.grid_exact.proofs.WholeLaws.{sums}
use Rattle.grid_exact.proofs.Signs.{times_nonnegative, nonnegative_from_times}
use Rattle.grid_exact.proofs.Polynomial.{Whole, ◌⊕◌, ◌⊖◌, ◌⊗◌, ◌≈◌, identity_5, identity_6}
use Rattle.lane_kernels.specs.Places.{place_at}
use Rattle.side_wedge.proofs.Rays.{area_swapped}
use Rattle.shortcut_graph.specs.declared.corridor.Corridor.{Corridor}
use Rattle.shortcut_graph.specs.Weighed.{IsNearRun}
use Rattle.shortcut_graph.specs.Corridor.{laid_across, made_rise, mirrored, seen_along, IsLowerLimit, IsUpperLimit, IsPastOrigin, KeepsTo}
use Rattle.shortcut_graph.specs.Corridor.{IsCorridor}

-- ---- the tighter of two limits

-- the way (n, u) is not above (a, b), and this is not above (c, d)
not_above : (n u a b c d : ℤ) → pos 0 <ℤ a → pos 0 ≤ℤ c → pos 0 ≤ℤ n → pos 0 ≤ℤ (a *ℤ d -ℤ b *ℤ c) → pos 0 ≤ℤ (n *ℤ b -ℤ u *ℤ a)
    → pos 0 ≤ℤ (n *ℤ d -ℤ u *ℤ c)
not_above n u a b c d some more far limits way =
    let e = identity_6 n u a b c d (λ n u a b c d. a ⊗ (n ⊗ d ⊖ u ⊗ c) ≈ n ⊗ (a ⊗ d ⊖ b ⊗ c) ⊕ c ⊗ (n ⊗ b ⊖ u ⊗ a)) refl in
    let p : pos 0 ≤ℤ (n *ℤ (a *ℤ d -ℤ b *ℤ c)) = times_nonnegative n (a *ℤ d -ℤ b *ℤ c) far limits in
    let q : pos 0 ≤ℤ (c *ℤ (n *ℤ b -ℤ u *ℤ a)) = times_nonnegative c (n *ℤ b -ℤ u *ℤ a) more way in
    nonnegative_from_times a (n *ℤ d -ℤ u *ℤ c) some (omega (arith, sums, e))

-- the way (n, u) is not below (a, b), and this is not below (c, d)
not_below : (n u a b c d : ℤ) → pos 0 <ℤ a → pos 0 ≤ℤ c → pos 0 ≤ℤ n → pos 0 ≤ℤ (c *ℤ b -ℤ d *ℤ a) → pos 0 ≤ℤ (a *ℤ u -ℤ b *ℤ n)
    → pos 0 ≤ℤ (c *ℤ u -ℤ d *ℤ n)
not_below n u a b c d some more far limits way =
    let e = identity_6 n u a b c d (λ n u a b c d. a ⊗ (c ⊗ u ⊖ d ⊗ n) ≈ n ⊗ (c ⊗ b ⊖ d ⊗ a) ⊕ c ⊗ (a ⊗ u ⊖ b ⊗ n)) refl in
    let p : pos 0 ≤ℤ (n *ℤ (c *ℤ b -ℤ d *ℤ a)) = times_nonnegative n (c *ℤ b -ℤ d *ℤ a) far limits in
    let q : pos 0 ≤ℤ (c *ℤ (a *ℤ u -ℤ b *ℤ n)) = times_nonnegative c (a *ℤ u -ℤ b *ℤ n) more way in
    nonnegative_from_times a (c *ℤ u -ℤ d *ℤ n) some (omega (arith, sums, e))

below_then : (o v p q : Place) → o.x <ℤ p.x → o.x <ℤ q.x → o.x ≤ℤ v.x → pos 0 ≤ℤ area_of o p q → pos 0 ≤ℤ area_of o v p
    → pos 0 ≤ℤ area_of o v q
below_then o v p q op oq ov limits way = not_above (v.x -ℤ o.x) (v.y -ℤ o.y) (p.x -ℤ o.x) (p.y -ℤ o.y) (q.x -ℤ o.x) (q.y -ℤ o.y)
    (omega (arith, sums)) (omega (arith, sums)) (omega (arith, sums)) limits way

above_then : (o v p q : Place) → o.x <ℤ p.x → o.x <ℤ q.x → o.x ≤ℤ v.x → pos 0 ≤ℤ area_of o q p → pos 0 ≤ℤ area_of o p v
    → pos 0 ≤ℤ area_of o q v
above_then o v p q op oq ov limits way = not_below (v.x -ℤ o.x) (v.y -ℤ o.y) (p.x -ℤ o.x) (p.y -ℤ o.y) (q.x -ℤ o.x) (q.y -ℤ o.y)
    (omega (arith, sums)) (omega (arith, sums)) (omega (arith, sums)) limits way

pub second_lower : (o p q : Place) → o.x <ℤ p.x → o.x <ℤ q.x → area_of o p q <ℤ pos 0 → IsLowerLimit o p q q
second_lower o p q op oq right =
    let e = area_swapped o p q in
    record { past = oq; below = λ v ov way. (below_then o v q p oq op ov (omega (arith, sums, e)) way, way) }

pub first_lower : (o p q : Place) → o.x <ℤ p.x → o.x <ℤ q.x → pos 0 ≤ℤ area_of o p q → IsLowerLimit o p q p
first_lower o p q op oq left = record { past = op; below = λ v ov way. (way, below_then o v p q op oq ov left way) }

pub first_upper : (o p q : Place) → o.x <ℤ p.x → o.x <ℤ q.x → area_of o p q <ℤ pos 0 → IsUpperLimit o p q p
first_upper o p q op oq right =
    let e = area_swapped o p q in
    record { past = op; above = λ v ov way. (way, above_then o v p q op oq ov (omega (arith, sums, e)) way) }

pub second_upper : (o p q : Place) → o.x <ℤ p.x → o.x <ℤ q.x → pos 0 ≤ℤ area_of o p q → IsUpperLimit o p q q
second_upper o p q op oq left = record { past = oq; above = λ v ov way. (above_then o v q p oq op ov left way, way) }

-- ---- between the limits of one vertex

-- the vertex is s across and h up, the way goes n across and k up, and the upper limit is w up
room_above : (n s h k w e : ℤ) → pos 0 ≤ℤ n → pos 0 ≤ℤ (n *ℤ w -ℤ k *ℤ s) → w ≤ℤ (h +ℤ e) → pos 0 ≤ℤ (n *ℤ e +ℤ (n *ℤ h -ℤ s *ℤ k))
room_above n s h k w e far way limit =
    let i = identity_6 n s h k w e (λ n s h k w e. n ⊗ e ⊕ (n ⊗ h ⊖ s ⊗ k) ≈ (n ⊗ w ⊖ k ⊗ s) ⊕ n ⊗ (h ⊕ e ⊖ w)) refl in
    let p : pos 0 ≤ℤ (n *ℤ (h +ℤ e -ℤ w)) = times_nonnegative n (h +ℤ e -ℤ w) far (omega (arith, sums)) in
    omega (arith, sums, i)

-- the lower limit is w up
room_below : (n s h k w e : ℤ) → pos 0 ≤ℤ n → pos 0 ≤ℤ (s *ℤ k -ℤ w *ℤ n) → (h -ℤ e) ≤ℤ w → pos 0 ≤ℤ (n *ℤ e -ℤ (n *ℤ h -ℤ s *ℤ k))
room_below n s h k w e far way limit =
    let i = identity_6 n s h k w e (λ n s h k w e. n ⊗ e ⊖ (n ⊗ h ⊖ s ⊗ k) ≈ (s ⊗ k ⊖ w ⊗ n) ⊕ n ⊗ (w ⊖ (h ⊖ e))) refl in
    let p : pos 0 ≤ℤ (n *ℤ (w -ℤ (h -ℤ e))) = times_nonnegative n (w -ℤ (h -ℤ e)) far (omega (arith, sums)) in
    omega (arith, sums, i)

near_between : (n s h k e : ℤ) → pos 0 ≤ℤ (n *ℤ e +ℤ (n *ℤ h -ℤ s *ℤ k)) → pos 0 ≤ℤ (n *ℤ e -ℤ (n *ℤ h -ℤ s *ℤ k))
    → (square_of (n *ℤ s -ℤ s *ℤ n) +ℤ square_of (n *ℤ h -ℤ s *ℤ k)) ≤ℤ (square_of n *ℤ square_of e)
near_between n s h k e above below =
    let i = identity_5 n s h k e (λ n s h k e. (n ⊗ n) ⊗ (e ⊗ e) ⊖ ((n ⊗ s ⊖ s ⊗ n) ⊗ (n ⊗ s ⊖ s ⊗ n) ⊕ (n ⊗ h ⊖ s ⊗ k) ⊗ (n ⊗ h ⊖ s ⊗ k)) ≈
    (n ⊗ e ⊕ (n ⊗ h ⊖ s ⊗ k)) ⊗ (n ⊗ e ⊖ (n ⊗ h ⊖ s ⊗ k))) refl in
    let p : pos 0 ≤ℤ ((n *ℤ e +ℤ (n *ℤ h -ℤ s *ℤ k)) *ℤ (n *ℤ e -ℤ (n *ℤ h -ℤ s *ℤ k))) =
    times_nonnegative (n *ℤ e +ℤ (n *ℤ h -ℤ s *ℤ k)) (n *ℤ e -ℤ (n *ℤ h -ℤ s *ℤ k)) above below in
    omega (arith, sums, i)

pub within_limits : (o v p high low : Place) (e : ℤ) → high.x ≡ p.x → high.y ≤ℤ (p.y +ℤ e) → low.x ≡ p.x → (p.y -ℤ e) ≤ℤ low.y → o.x <ℤ p.x
    → p.x ≤ℤ v.x → pos 0 ≤ℤ area_of o v high → pos 0 ≤ℤ area_of o low v → IsWithin o v p e
within_limits o v p high low e high_across high_up low_across low_up past far below above =
    let n = v.x -ℤ o.x in let s = p.x -ℤ o.x in let h = p.y -ℤ o.y in let k = v.y -ℤ o.y in
    let under : pos 0 ≤ℤ (n *ℤ (high.y -ℤ o.y) -ℤ k *ℤ s) = subst (λ (z : ℤ). pos 0 ≤ℤ (n *ℤ (high.y -ℤ o.y) -ℤ k *ℤ (z -ℤ o.x)))
    high_across below in
    let over : pos 0 ≤ℤ (s *ℤ k -ℤ (low.y -ℤ o.y) *ℤ n) = subst (λ (z : ℤ). pos 0 ≤ℤ ((z -ℤ o.x) *ℤ k -ℤ (low.y -ℤ o.y) *ℤ n)) low_across
    above in
    record {
      denominator = n;
      numerator = s;
      whole = omega (arith, sums);
      from_start = omega (arith, sums);
      to_end = omega (arith, sums);
      near = near_between n s h k e (room_above n s h k (high.y -ℤ o.y) e (omega (arith, sums)) under (omega (arith, sums)))
          (room_below n s h k (low.y -ℤ o.y) e (omega (arith, sums)) over (omega (arith, sums)));
    }

-- a place within the bound of the origin
pub near_origin : (o v p : Place) (e : ℤ) → IsWithin o o p e → IsWithin o v p e
near_origin o v p e h =
    let n = h.denominator in
    let across = identity_5 n h.numerator o.x v.x p.x (λ n s o v p.
    (n ⊗ (p ⊖ o) ⊖ Whole (pos 0) ⊗ (v ⊖ o)) ⊗ (n ⊗ (p ⊖ o) ⊖ Whole (pos 0) ⊗ (v ⊖ o)) ≈ (n ⊗ (p ⊖ o) ⊖ s ⊗ (o ⊖ o))
    ⊗ (n ⊗ (p ⊖ o) ⊖ s ⊗ (o ⊖ o))) refl in
    let up = identity_5 n h.numerator o.y v.y p.y (λ n s o v p.
    (n ⊗ (p ⊖ o) ⊖ Whole (pos 0) ⊗ (v ⊖ o)) ⊗ (n ⊗ (p ⊖ o) ⊖ Whole (pos 0) ⊗ (v ⊖ o)) ≈ (n ⊗ (p ⊖ o) ⊖ s ⊗ (o ⊖ o))
    ⊗ (n ⊗ (p ⊖ o) ⊖ s ⊗ (o ⊖ o))) refl in
    let near = h.near in
    let whole = h.whole in
    record {
      denominator = n;
      numerator = pos 0;
      whole = h.whole;
      from_start = omega (arith, sums);
      to_end = omega (arith, sums);
      near =
          omega (arith, sums, across, up);
    }

-- ---- as it is seen along a direction, and as it is

mirrored_across : (n s o v p : ℤ) → square_of (n *ℤ ((pos 0 -ℤ p) -ℤ (pos 0 -ℤ o)) -ℤ s *ℤ ((pos 0 -ℤ v) -ℤ (pos 0 -ℤ o)))
    ≡ square_of (n *ℤ (p -ℤ o) -ℤ s *ℤ (v -ℤ o))
mirrored_across n s o v p = identity_5 n s o v p (λ n s o v p.
    (n ⊗ ((Whole (pos 0) ⊖ p) ⊖ (Whole (pos 0) ⊖ o)) ⊖ s ⊗ ((Whole (pos 0) ⊖ v) ⊖ (Whole (pos 0) ⊖ o)))
    ⊗ (n ⊗ ((Whole (pos 0) ⊖ p) ⊖ (Whole (pos 0) ⊖ o)) ⊖ s ⊗ ((Whole (pos 0) ⊖ v) ⊖ (Whole (pos 0) ⊖ o))) ≈ (n ⊗ (p ⊖ o) ⊖ s ⊗ (v ⊖ o))
    ⊗ (n ⊗ (p ⊖ o) ⊖ s ⊗ (v ⊖ o))) refl

within_mirrored : (o v p : Place) (e : ℤ) → IsWithin (mirrored o) (mirrored v) (mirrored p) e → IsWithin o v p e
within_mirrored o v p e h =
    let same = mirrored_across h.denominator h.numerator o.x v.x p.x in
    let near = h.near in
    record {
      denominator = h.denominator;
      numerator = h.numerator;
      whole = h.whole;
      from_start = h.from_start;
      to_end = h.to_end;
      near =
          omega (arith, sums, same);
    }

within_turned : (o v p : Place) (e : ℤ) → IsWithin (turned o) (turned v) (turned p) e → IsWithin o v p e
within_turned o v p e h =
    let near = h.near in
    record {
      denominator = h.denominator;
      numerator = h.numerator;
      whole = h.whole;
      from_start = h.from_start;
      to_end = h.to_end;
      near =
          omega (arith, sums);
    }

within_laid : (frame : Frame) (o v p : Place) (e : ℤ) → IsWithin (laid_across frame o) (laid_across frame v) (laid_across frame p) e
    → IsWithin o v p e
within_laid Plain o v p e h = h
within_laid Turned o v p e h = within_turned o v p e h

within_risen : (rising : Bool) (o v p : Place) (e : ℤ) → IsWithin (made_rise rising o) (made_rise rising v) (made_rise rising p) e
    → IsWithin o v p e
within_risen true o v p e h = h
within_risen false o v p e h = within_mirrored o v p e h

pub within_as_seen : (direction : Direction) (o v p : Place) (e : ℤ)
    → IsWithin (seen_along direction o) (seen_along direction v) (seen_along direction p) e → IsWithin o v p e
within_as_seen direction o v p e h =
    let frame = direction.frame in
    within_laid frame o v p e (within_risen direction.rising (laid_across frame o) (laid_across frame v) (laid_across frame p) e h)

-- ---- the ways of two corridors

pub both_keep : (a b d : Corridor) → b.origin ≡ a.origin → d.origin ≡ a.origin → a.is_passable ≡ true → b.is_passable ≡ true
    → IsPastOrigin a → IsLowerLimit a.origin a.ceiling.place b.ceiling.place d.ceiling.place
    → IsUpperLimit a.origin a.floor.place b.floor.place d.floor.place
    → a.reach ≤ℤ d.reach → b.reach ≤ℤ d.reach → (v : Place) → KeepsTo d v → KeepsTo a v × KeepsTo b v
both_keep a b d same origin passable other_passable past lower upper reach other_reach v keeps =
    let far = keeps.far in
    let some = past.reach in
    let ahead : a.origin.x ≤ℤ v.x = omega (arith, sums) in
    let below = lower.below v ahead (subst (λ (o : Place). pos 0 ≤ℤ area_of o v d.ceiling.place) origin keeps.below) in
    let above = upper.above v ahead (subst (λ (o : Place). pos 0 ≤ℤ area_of o d.floor.place v) origin keeps.above) in (
      record { passable = passable; far = omega (arith, sums); below = below.0; above = above.0 },
      record {
        passable = other_passable;
        far = omega (arith, sums);
        below =
            subst (λ (o : Place). pos 0 ≤ℤ area_of o v b.ceiling.place) (sym same) below.1;
        above =
            subst (λ (o : Place). pos 0 ≤ℤ area_of o b.floor.place v) (sym same) above.1;
      },
    )

-- ---- one vertex, and one vertex more

pub no_vertex : (c : Corridor) (xs ys : List ℤ) (bound : ℤ) (j : ℕ) (direction : Direction) (o : Place) → c.direction ≡ direction
    → c.origin ≡ o
    → o ≡ seen_along direction (place_at xs ys j) → (c.is_passable ≡ true → IsPastOrigin c) → IsCorridor c xs ys bound j j
no_vertex c xs ys bound j direction o same origin start past =
    record {
      origin = origin ∙ start ∙ ap (λ (g : Direction). seen_along g (place_at xs ys j)) (sym same);
      past = past;
      near = λ v keeps k low high. absurd (omega arith);
    }

pub one_more : (c d : Corridor) (xs ys : List ℤ) (bound : ℤ) (i j : ℕ) → d.direction ≡ c.direction → d.origin ≡ c.origin
    → (d.is_passable ≡ true → IsPastOrigin d)
    → ((v : Place) → KeepsTo d v → KeepsTo c v × IsWithin c.origin v (seen_along c.direction (place_at xs ys i)) bound)
    → IsCorridor c xs ys bound (i + 1) j → IsCorridor d xs ys bound i j
one_more c d xs ys bound i j direction origin past near corridor =
    record {
      origin = origin ∙ corridor.origin ∙ ap (λ (g : Direction). seen_along g (place_at xs ys j)) (sym direction);
      past = past;
      near = λ v keeps k low high.
          let both = near (seen_along c.direction v) (subst (λ (g : Direction). KeepsTo d (seen_along g v)) direction keeps) in
          elim (cases_lt i k) [
            | inl later ↦ corridor.near v both.0 k (omega arith) high
            | inr up ↦
                let same : i ≡ k = omega arith in
                let seen : IsWithin (seen_along c.direction (place_at xs ys j)) (seen_along c.direction v)
                (seen_along c.direction (place_at xs ys i)) bound
                = subst (λ (o : Place). IsWithin o (seen_along c.direction v) (seen_along c.direction (place_at xs ys i)) bound)
                corridor.origin
                both.1 in
                subst (λ (n : ℕ). IsWithin (place_at xs ys j) v (place_at xs ys n) bound) same
                (within_as_seen c.direction (place_at xs ys j) v (place_at xs ys i) bound seen)
          ];
    }

-- one vertex more that is near the origin
pub one_beside : (c : Corridor) (xs ys : List ℤ) (bound : ℤ) (i j : ℕ)
    → IsWithin c.origin c.origin (seen_along c.direction (place_at xs ys i)) bound → IsCorridor c xs ys bound (i + 1) j
    → IsCorridor c xs ys bound i j
one_beside c xs ys bound i j beside corridor =
    record {
      origin = corridor.origin;
      past = corridor.past;
      near = λ v keeps k low high. elim (cases_lt i k) [
        | inl later ↦ corridor.near v keeps k (omega arith) high
        | inr up ↦
            let same : i ≡ k = omega arith in
            let start = seen_along c.direction (place_at xs ys j) in
            let here = subst (λ (o : Place). IsWithin o o (seen_along c.direction (place_at xs ys i)) bound) corridor.origin beside in
            let seen = near_origin start (seen_along c.direction v) (seen_along c.direction (place_at xs ys i)) bound here in
            subst (λ (n : ℕ). IsWithin (place_at xs ys j) v (place_at xs ys n) bound) same
            (within_as_seen c.direction (place_at xs ys j) v (place_at xs ys i) bound seen)
      ];
    }

-- ---- the way back

square_back : (n s a b p : ℤ) → square_of (n *ℤ (p -ℤ b) -ℤ (n -ℤ s) *ℤ (a -ℤ b)) ≡ square_of (n *ℤ (p -ℤ a) -ℤ s *ℤ (b -ℤ a))
square_back n s a b p = identity_5 n s a b p (λ n s a b p. (n ⊗ (p ⊖ b) ⊖ (n ⊖ s) ⊗ (a ⊖ b)) ⊗ (n ⊗ (p ⊖ b) ⊖ (n ⊖ s) ⊗ (a ⊖ b)) ≈
    (n ⊗ (p ⊖ a) ⊖ s ⊗ (b ⊖ a)) ⊗ (n ⊗ (p ⊖ a) ⊖ s ⊗ (b ⊖ a))) refl

within_back : (a b p : Place) (e : ℤ) → IsWithin a b p e → IsWithin b a p e
within_back a b p e h =
    let n = h.denominator in let s = h.numerator in
    let near = h.near in let low = h.from_start in let high = h.to_end in
    let across = square_back n s a.x b.x p.x in
    let up = square_back n s a.y b.y p.y in
    record {
      denominator = n;
      numerator = n -ℤ s;
      whole = h.whole;
      from_start = omega (arith, sums);
      to_end = omega (arith, sums);
      near =
          omega (arith, sums, across, up);
    }

-- the way back from j to i keeps to the corridor, which stands for all vertices between
pub near_back : (c : Corridor) (xs ys : List ℤ) (bound : ℤ) (i first j : ℕ) → first ≤ i + 1 → IsCorridor c xs ys bound first j
    → KeepsTo c (seen_along c.direction (place_at xs ys i)) → IsNearRun xs ys bound i j
near_back c xs ys bound i first j all corridor keeps k low high =
    within_back (place_at xs ys j) (place_at xs ys i) (place_at xs ys k) bound (corridor.near (place_at xs ys i) keeps k (omega arith) high)
