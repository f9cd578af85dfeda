-- The tighter of two limits.
use Rattle.std.proofs.Common.{◌≡◌, inl, inr, ℕ, ◌+◌, ◌-◌, ◌<◌, ◌≤◌, Bool, true, false, IsTrue, List, length, drop, Option, Some, ℤ, pos}
use Rattle.std.proofs.Common.{◌≤ℤ◌, ◌<ℤ◌, refl, sym, subst, arith}
use Rattle.std.proofs.lemmas.List.{get_or-drop}
use Rattle.std.specs.Option.{ForSome}
use Rattle.grid_exact.specs.Geometry.{Place, turned, area_of, IsBefore}
use Rattle.grid_exact.specs.Crossing.{is_before}
use Rattle.grid_exact.specs.declared.frame.Frame.{Frame}
use Rattle.grid_exact.specs.declared.frame.Frame.TheVariants.{Plain, Turned}
use Rattle.grid_exact.proofs.WholeLaws.{sums}
use Rattle.grid_exact.proofs.Orders.{before_yes, tested, Yes, No, denied}
use Rattle.grid_exact.proofs.Signs.{at_most_or_above}
use Rattle.chain_side.specs.Along.{IsAlong}
use Rattle.lane_kernels.specs.declared.side.Hand.{Hand}
use Rattle.lane_kernels.specs.declared.side.Hand.TheVariants.{Left, Right}
use Rattle.lane_kernels.specs.Hands.{IsOnSide}
use Rattle.lane_kernels.specs.Places.{place_at, EachBetween, IsFirstOff}
use Rattle.lane_kernels.proofs.Between.{each_more, each_joined}
use Rattle.grid_exact.proofs.Commons.{same_place}
use Rattle.side_wedge.specs.Limits.{is_along, IsTighter, IsTightestOf}
use Rattle.side_wedge.proofs.Rays.{area_swapped, left_then_not_right, not_right_then_left}

-- ---- the test of the order along a chain

before_true : (a b : Place) → IsTrue (is_before a b) → IsBefore a b
before_true a b h = elim (tested a b) [ Yes e k ↦ k | No e k ↦ absurd (denied (is_before a b) e h) ]

pub along_true : (frame : Frame) (rising : Bool) (a b : Place) → IsTrue (is_along frame rising a b) → IsAlong frame rising a b
along_true Plain true a b h = before_true a b h
along_true Plain false a b h = before_true b a h
along_true Turned true a b h = before_true (turned a) (turned b) h
along_true Turned false a b h = before_true (turned b) (turned a) h

pub true_along : (frame : Frame) (rising : Bool) (a b : Place) → IsAlong frame rising a b → IsTrue (is_along frame rising a b)
true_along Plain true a b h = before_yes a b h
true_along Plain false a b h = before_yes b a h
true_along Turned true a b h = before_yes (turned a) (turned b) h
true_along Turned false a b h = before_yes (turned b) (turned a) h

-- ---- two turns on one hand

-- p is on the hand of the way to q, and q of the way to v: so is p of the way to v
pub on_hand_then : (frame : Frame) (rising : Bool) (hand : Hand) (s v q p : Place) → IsAlong frame rising s v → IsAlong frame rising s q
    → IsAlong frame rising s p → IsOnSide hand s v q → IsOnSide hand s q p → IsOnSide hand s v p
on_hand_then frame rising Left s v q p sv sq sp vq qp = left_then_not_right frame rising s v q p sv sq sp vq (omega (arith, sums))
on_hand_then frame rising Right s v q p sv sq sp vq qp =
    let e = area_swapped s v q in let f = area_swapped s q p in let g = area_swapped s v p in
    let h = left_then_not_right frame rising s p q v sp sq sv (omega (arith, sums, f)) (omega (arith, sums, e)) in
    omega (arith, sums, g, h)

unless_above : (y z : ℤ) → ¬ (z <ℤ y) → y ≤ℤ z
unless_above y z not_below = elim (at_most_or_above y z) [ inl h ↦ h | inr h ↦ absurd (not_below h) ]

-- p is not on the hand of the way to q, but of the way to v: then q is on the hand of the way to v
pub not_on_hand_then : (frame : Frame) (rising : Bool) (hand : Hand) (s v q p : Place) → IsAlong frame rising s v → IsAlong frame rising s q
    → IsAlong frame rising s p → ¬ (IsOnSide hand s q p) → IsOnSide hand s v p → IsOnSide hand s v q
not_on_hand_then frame rising Left s v q p sv sq sp off vp =
    let f = area_swapped s q p in
    let other : area_of s q p ≤ℤ pos 0 = unless_above (area_of s q p) (pos 0) off in
    left_then_not_right frame rising s v p q sv sp sq vp (omega (arith, sums, f))
not_on_hand_then frame rising Right s v q p sv sq sp off vp =
    let e = area_swapped s v q in let g = area_swapped s v p in
    let other : pos 0 ≤ℤ area_of s q p = unless_above (pos 0) (area_of s q p) off in
    let h = not_right_then_left frame rising s q p v sq sp sv other (omega (arith, sums, g)) in
    omega (arith, sums, e, h)

-- ---- limits

pub keeps_limit : (frame : Frame) (rising : Bool) (hand : Hand) (s q p : Place) → IsOnSide hand s q p → IsAlong frame rising s q
    → IsAlong frame rising s p → IsTighter frame rising hand s (Some q) p q
keeps_limit frame rising hand s q p on sq sp = record {
  past = sq;
  same = λ v sv. (λ vq. (vq, on_hand_then frame rising hand s v q p sv sq sp vq on), λ both. both.0);
}

pub takes_limit : (frame : Frame) (rising : Bool) (hand : Hand) (s q p : Place) → ¬ (IsOnSide hand s q p) → IsAlong frame rising s q
    → IsAlong frame rising s p → IsTighter frame rising hand s (Some q) p p
takes_limit frame rising hand s q p off sq sp = record {
  past = sp;
  same = λ v sv. (λ vp. (not_on_hand_then frame rising hand s v q p sv sq sp off vp, vp), λ both. both.1);
}

-- ---- the tightest of many

some_is : (P : Place → Type 0) (q x : Place) → P q → Some q ≡ Some x → P x
some_is P q x h e = let same : q ≡ x = cc in subst P same h

pub for_some : (P : Place → Type 0) (q : Place) → P q → ForSome (Some q) P
for_some P q h x e = some_is P q x h e

pub none_yet : (frame : Frame) (rising : Bool) (hand : Hand) (s q : Place) (xs ys : List ℤ) (from : ℕ) → IsAlong frame rising s q
    → IsTightestOf frame rising hand s (Some q) xs ys from from (Some q)
none_yet frame rising hand s q xs ys from sq = record {
  past = for_some (IsAlong frame rising s) q sq;
  same = λ v sv. (λ vq. (vq, λ k low high. absurd (omega arith)), λ both. both.0);
}

-- what the limit has on its hand changes nothing
pub stays_tightest : (frame : Frame) (rising : Bool) (hand : Hand) (s : Place) (limit : Option Place) (xs ys : List ℤ) (from at to : ℕ) (q :
    Place) → IsTightestOf frame rising hand s limit xs ys from at (Some q) → EachBetween from to (IsAlong frame rising s) xs ys → from ≤ at
    → at ≤ to → EachBetween at to (IsOnSide hand s q) xs ys → IsTightestOf frame rising hand s limit xs ys from to (Some q)
stays_tightest frame rising hand s limit xs ys from at to q h past low high on = record {
  past = h.past;
  same = λ v sv. (
    λ vq. let both = (h.same v sv).0 vq in (
      both.0,
      each_joined from at to (IsOnSide hand s v) xs ys both.1 (λ k above below.
          on_hand_then frame rising hand s v q (place_at xs ys k) sv (h.past q refl) (past k (omega arith) below) vq (on k above below)),
    ),
    λ both. (h.same v sv).1 (both.0, λ k above below. both.1 k above (omega arith)),
  );
}

-- a place that it has not is the new limit
pub takes_tightest : (frame : Frame) (rising : Bool) (hand : Hand) (s : Place) (limit : Option Place) (xs ys : List ℤ) (from at : ℕ) (q p :
    Place) → IsTightestOf frame rising hand s limit xs ys from at (Some q) → from ≤ at → p ≡ place_at xs ys at → IsAlong frame rising s p
    → ¬ (IsOnSide hand s q p) → IsTightestOf frame rising hand s limit xs ys from (at + 1) (Some p)
takes_tightest frame rising hand s limit xs ys from at q p h low is sp off = record {
  past = for_some (IsAlong frame rising s) p sp;
  same = λ v sv. (
    λ vp. let both = (h.same v sv).0 (not_on_hand_then frame rising hand s v q p sv (h.past q refl) sp off vp) in
        (both.0, each_more from at (IsOnSide hand s v) xs ys both.1 (subst (IsOnSide hand s v) is vp)),
    λ both. subst (IsOnSide hand s v) (sym is) (both.1 at low (omega arith)),
  );
}

-- ---- lists from a place on

pub dropped : (xs ys : List ℤ) (at k : ℕ) → place_at (drop at xs) (drop at ys) k ≡ place_at xs ys (at + k)
dropped xs ys at k = same_place (place_at (drop at xs) (drop at ys) k) (place_at xs ys (at + k)) (get_or-drop at xs k (pos 0))
    (get_or-drop at ys k (pos 0))

pub each_dropped : (xs ys : List ℤ) (at n : ℕ) (P : Place → Type 0) → EachBetween 0 n P (drop at xs) (drop at ys)
    → EachBetween at (at + n) P xs ys
each_dropped xs ys at n P h k low high =
    let here : at + (k - at) ≡ k = omega arith in
    subst (λ (i : ℕ). P (place_at xs ys i)) here (subst P (dropped xs ys at (k - at)) (h (k - at) (omega arith) (omega arith)))

-- the first place that the limit has not on its hand
pub next_limit : (frame : Frame) (rising : Bool) (hand : Hand) (s : Place) (limit : Option Place) (xs ys : List ℤ) (from at ahead : ℕ)
    (q p : Place) → IsTightestOf frame rising hand s limit xs ys from at (Some q)
    → EachBetween from (length xs) (IsAlong frame rising s) xs ys → from ≤ at → at + ahead < length xs → p ≡ place_at xs ys (at + ahead)
    → IsFirstOff 0 (length (drop at xs)) (IsOnSide hand s q) (drop at xs) (drop at ys) ahead
    → IsTightestOf frame rising hand s limit xs ys from (at + ahead + 1) (Some p)
next_limit frame rising hand s limit xs ys from at ahead q p h past low inside is found =
    let passed = each_dropped xs ys at ahead (IsOnSide hand s q) found.before in
    takes_tightest frame rising hand s limit xs ys from (at + ahead) q p
    (stays_tightest frame rising hand s limit xs ys from at (at + ahead) q h (λ k above below. past k above (omega arith)) low (omega arith)
    passed)
    (omega arith) is
    (subst (IsAlong frame rising s) (sym is) (past (at + ahead) (omega arith) inside))
    (λ on. found.off (subst (IsOnSide hand s q) (is_there is) on))
  where
    is_there : p ≡ place_at xs ys (at + ahead) → p ≡ place_at (drop at xs) (drop at ys) ahead
    is_there e = let d = dropped xs ys at ahead in cc

pub tightest_of_none : (frame : Frame) (rising : Bool) (hand : Hand) (s : Place) (limit : Option Place) (xs ys : List ℤ) (to : ℕ) → to ≡ 0
    → ForSome limit (IsAlong frame rising s) → IsTightestOf frame rising hand s limit xs ys 0 to limit
tightest_of_none frame rising hand s limit xs ys to none past = record {
  past = past;
  same = λ v sv. (λ on. (on, λ k low high. absurd (omega arith)), λ both. both.0);
}

-- ---- limits in a wedge

pub past_by : (frame : Frame) (rising : Bool) (s : Place) (limit : Option Place) → ForSome limit (λ p. IsTrue (is_along frame rising s p))
    → ForSome limit (IsAlong frame rising s)
past_by frame rising s limit h x e = along_true frame rising s x (h x e)

pub by_past : (frame : Frame) (rising : Bool) (s : Place) (limit : Option Place) → ForSome limit (IsAlong frame rising s)
    → ForSome limit (λ p. IsTrue (is_along frame rising s p))
by_past frame rising s limit h x e = true_along frame rising s x (h x e)

-- ---- crossed limits

-- where the left limit is not on the left of the way to the right one, no way has it on its left and the right one on its right
pub crossed_limits : (frame : Frame) (rising : Bool) (start p q v : Place) → ¬ (IsOnSide Left start q p) → IsAlong frame rising start p
    → IsAlong frame rising start q → IsAlong frame rising start v → IsOnSide Left start v p → ¬ (IsOnSide Right start v q)
crossed_limits frame rising start p q v off sp sq sv left right =
    let there = not_on_hand_then frame rising Left start v q p sv sq sp off left in
    omega (arith, sums, there, right)
