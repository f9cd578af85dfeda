-- Two spans: one stays under the other between two places, and two that are so from begin to end meet lawfully.
use Rattle.std.proofs.Common.{◌≡◌, ◌∙◌, ℤ, pos, ◌-ℤ◌, ◌*ℤ◌, ◌≤ℤ◌, ◌<ℤ◌, refl, arith, ap, sym, subst}
use lib.IntN.{*ℤ_comm, *ℤ-zero}
use Rattle.grid_exact.specs.Geometry.{Place, area_of, CommonPoint, IsBefore}
use Rattle.grid_exact.specs.Spans.{IsUpTo}
use Rattle.grid_exact.proofs.WholeLaws.{sums}
use Rattle.grid_exact.proofs.Signs.{sign_of, times_positive, times_negative, negative_times_negative, nonnegative_times_nonpositive}
use Rattle.grid_exact.proofs.Signs.{times_nonnegative, zero_from_times}
use Rattle.grid_exact.proofs.Signs.SignOf.{Negative, Zero, Positive}
use Rattle.grid_exact.proofs.Areas.{turn_of, area_abc, area_abd, area_cda, area_cdb}
use Rattle.grid_exact.proofs.Commons.{common_swapped}
use Rattle.grid_exact.proofs.Orders.{after_meets, up_to, up_to_same, not_before_itself}
use Rattle.plane_sweep.specs.declared.spans.Corner.{Corner}
use Rattle.plane_sweep.specs.declared.spans.Span.{Span}
use Rattle.plane_sweep.specs.Meeting.{MayJoin, IsJunction, MeetLawfully, side_of, BeginsUnder, EndsUnder}
use Rattle.plane_sweep.specs.Meeting.MayJoin.{One, BothEnd}
use Rattle.plane_sweep.specs.Meeting.IsJunction.{Lows, LowAndHigh, HighAndLow, Highs}
use Rattle.plane_sweep.specs.Meeting.BeginsUnder.{LaterAbove, LaterBelow, Together}
use Rattle.plane_sweep.specs.Meeting.EndsUnder.{SoonerAbove, SoonerBelow}
use Rattle.plane_sweep.proofs.Gaps.{way, gap, wide_for, is_wide, way_positive, way_nonnegative, gap_stays, gap_by_first, gap_by_second}
use Rattle.plane_sweep.proofs.Gaps.{first_positive, second_negative, zero_at_start, zero_at_end}

-- ---- corners

pub join_turned : (v w : Corner) → MayJoin v w → MayJoin w v
join_turned v w (One e) = One (sym e)
join_turned v w (BothEnd h k) = BothEnd k h

-- two corners that may join a third may join one another
pub join_both : (u v w : Corner) → MayJoin u v → MayJoin u w → MayJoin v w
join_both u v w (One e) k = subst (λ x. MayJoin x w) e k
join_both u v w (BothEnd h i) (One f) = subst (λ x. MayJoin v x) f (BothEnd i h)
join_both u v w (BothEnd h i) (BothEnd j k) = BothEnd i k

-- ---- one under the other at a place between

abbrev gap_of : ℤ → Span → Span → Place → ℤ
gap_of k e f q = gap k e.low.place e.high.place f.low.place f.high.place q

abbrev way_of : ℤ → Span → ℤ
way_of k e = way k e.low.place e.high.place

-- a place up to q where e is not over f
record NotOverFrom (k : ℤ) (e f : Span) (q : Place) : Type 0 where
  start : Place
  low : pos 0 ≤ℤ gap_of k e f start
  from : pos 0 ≤ℤ way k start q

record NotOverUntil (k : ℤ) (e f : Span) (q : Place) : Type 0 where
  stop : Place
  high : pos 0 ≤ℤ gap_of k e f stop
  to : pos 0 ≤ℤ way k q stop

above_from : (k : ℤ) (e f : Span) (v : Place) → pos 0 <ℤ way_of k f → v ≡ f.low.place → pos 0 ≤ℤ side_of e v → pos 0 ≤ℤ gap_of k e f v
above_from k e f v wf is side = gap_by_first (side_of e v) (side_of f v) (way_of k e) (way_of k f) side (ap (side_of f) is
    ∙ zero_at_start f.low.place f.high.place) wf

not_over_from : (k : ℤ) (e f : Span) (q : Place) → pos 0 <ℤ way_of k e → pos 0 <ℤ way_of k f → pos 0 ≤ℤ way k e.low.place q
    → pos 0 ≤ℤ way k f.low.place q → BeginsUnder e f → NotOverFrom k e f q
not_over_from k e f q we wf eq fq (LaterAbove h s) = record {
  start = f.low.place;
  low =
      above_from k e f f.low.place wf refl (omega (arith, sums));
  from = fq;
}
not_over_from k e f q we wf eq fq (LaterBelow h s) = record {
  start = e.low.place;
  low =
      gap_by_second (side_of e e.low.place) (side_of f e.low.place) (way_of k e) (way_of k f) (zero_at_start e.low.place e.high.place)
      (omega (arith, sums)) we;
  from = eq;
}
not_over_from k e f q we wf eq fq (Together same join turn) =
    let z : side_of e f.low.place ≡ pos 0 = ap (side_of e) (sym same) ∙ zero_at_start e.low.place e.high.place in
    record { start = f.low.place; low = above_from k e f f.low.place wf refl (omega (arith, sums)); from = fq }

not_over_until : (k : ℤ) (e f : Span) (q : Place) → pos 0 <ℤ way_of k e → pos 0 <ℤ way_of k f → pos 0 ≤ℤ way k q e.high.place
    → pos 0 ≤ℤ way k q f.high.place → EndsUnder e f → NotOverUntil k e f q
not_over_until k e f q we wf eq fq (SoonerAbove h s) = record {
  stop = f.high.place;
  high =
      gap_by_first (side_of e f.high.place) (side_of f f.high.place) (way_of k e) (way_of k f) s (zero_at_end f.low.place f.high.place) wf;
  to
      = fq;
}
not_over_until k e f q we wf eq fq (SoonerBelow h s) = record {
  stop = e.high.place;
  high =
      gap_by_second (side_of e e.high.place) (side_of f e.high.place) (way_of k e) (way_of k f) (zero_at_end e.low.place e.high.place) s we;
  to = eq;
}

-- both spans reach over the place q, from their lower ends to their higher ones
pub record Spanned (e : Span) (q : Place) : Type 0 where
  pub rising : IsBefore e.low.place e.high.place
  pub from : IsUpTo e.low.place q
  pub to : IsUpTo q e.high.place

pub record IsUnderAt (e f : Span) (q : Place) : Type 0 where
  pub above : pos 0 <ℤ side_of f q → pos 0 <ℤ side_of e q
  pub below : side_of e q <ℤ pos 0 → side_of f q <ℤ pos 0

pub under_at : (e f : Span) (q : Place) → Spanned e q → Spanned f q → BeginsUnder e f → EndsUnder e f → IsUnderAt e f q
under_at e f q over_e over_f begins ends =
    let a = e.low.place in let b = e.high.place in let c = f.low.place in let d = f.high.place in
    let k = wide_for (a.y -ℤ b.y) (c.y -ℤ d.y) (a.y -ℤ q.y) (c.y -ℤ q.y) (q.y -ℤ b.y) (q.y -ℤ d.y) in
    let w = is_wide (a.y -ℤ b.y) (c.y -ℤ d.y) (a.y -ℤ q.y) (c.y -ℤ q.y) (q.y -ℤ b.y) (q.y -ℤ d.y) in
    let we = way_positive k a b w.low w.first over_e.rising in
    let wf = way_positive k c d w.low w.second over_f.rising in
    let start = not_over_from k e f q we wf (way_nonnegative k a q w.low w.third over_e.from)
    (way_nonnegative k c q w.low w.fourth over_f.from) begins in
    let stop = not_over_until k e f q we wf (way_nonnegative k q b w.low w.fifth over_e.to) (way_nonnegative k q d w.low w.sixth over_f.to)
    ends in
    let g = gap_stays k a b c d start.start q stop.stop start.low stop.high start.from stop.to in
    record {
      above = first_positive (side_of e q) (side_of f q) (way k a b) (way k c d) g we wf;
      below = second_negative (side_of e q) (side_of f q) (way k a b) (way k c d) g we wf;
    }

-- ---- two that are one under the other from begin to end

-- e is under f where the earlier of them ends, or both end at one place where they may join
pub data Ended (e f : Span) : Type 0 where
  EndedAbove : pos 0 <ℤ side_of e f.high.place → Ended e f
  EndedBelow : side_of f e.high.place <ℤ pos 0 → Ended e f
  EndedTogether : e.high.place ≡ f.high.place → MayJoin e.high f.high → Ended e f

-- the way up where n, s, t are the numbers of a common point, and x the cross product of the two
falls_by_second : (n t x z : ℤ) → pos 1 ≤ℤ n → pos 0 ≤ℤ t → n *ℤ z ≡ pos 0 -ℤ t *ℤ x → pos 0 <ℤ z → x <ℤ pos 0
falls_by_second n t x z one low e h =
    let p : pos 0 <ℤ (n *ℤ z) = times_positive n z (omega (arith, sums)) h in
    elim (sign_of x) [
      | Negative k ↦ k
      | Zero k ↦ let q : pos 0 ≤ℤ (t *ℤ x) = times_nonnegative t x low (omega (arith, sums)) in absurd (omega (arith, sums))
      | Positive k ↦ let q : pos 0 ≤ℤ (t *ℤ x) = times_nonnegative t x low (omega (arith, sums)) in absurd (omega (arith, sums))
    ]

falls_by_first : (n s x z : ℤ) → pos 1 ≤ℤ n → pos 0 ≤ℤ s → n *ℤ z ≡ s *ℤ x → z <ℤ pos 0 → x <ℤ pos 0
falls_by_first n s x z one low e h =
    let p : (n *ℤ z) <ℤ pos 0 = times_negative n z (omega (arith, sums)) h in
    elim (sign_of x) [
      | Negative k ↦ k
      | Zero k ↦ let q : pos 0 ≤ℤ (s *ℤ x) = times_nonnegative s x low (omega (arith, sums)) in absurd (omega (arith, sums))
      | Positive k ↦ let q : pos 0 ≤ℤ (s *ℤ x) = times_nonnegative s x low (omega (arith, sums)) in absurd (omega (arith, sums))
    ]

not_rising : (m x z n : ℤ) → pos 1 ≤ℤ n → pos 0 ≤ℤ m → x <ℤ pos 0 → n *ℤ z ≡ m *ℤ x → pos 0 <ℤ z → ⊥
not_rising m x z n one low fall e h =
    let p : pos 0 <ℤ (n *ℤ z) = times_positive n z (omega (arith, sums)) h in
    let q : (m *ℤ x) ≤ℤ pos 0 = nonnegative_times_nonpositive m x low (omega (arith, sums)) in
    omega (arith, sums)

not_sinking : (m x z n : ℤ) → pos 1 ≤ℤ n → pos 0 ≤ℤ m → x <ℤ pos 0 → n *ℤ z ≡ pos 0 -ℤ m *ℤ x → z <ℤ pos 0 → ⊥
not_sinking m x z n one low fall e h =
    let p : (n *ℤ z) <ℤ pos 0 = times_negative n z (omega (arith, sums)) h in
    let q : (m *ℤ x) ≤ℤ pos 0 = nonnegative_times_nonpositive m x low (omega (arith, sums)) in
    omega (arith, sums)

-- a number times one that is not 0
none_if : (m x : ℤ) → x <ℤ pos 0 → m *ℤ x ≡ pos 0 → m ≡ pos 0
none_if m x h e = elim (sign_of m) [
  | Negative k ↦ let p : pos 0 <ℤ (m *ℤ x) = negative_times_negative m x k h in absurd (omega (arith, sums))
  | Zero k ↦ k
  | Positive k ↦ let p : (m *ℤ x) <ℤ pos 0 = times_negative m x k h in absurd (omega (arith, sums))
]

none_where : (n z : ℤ) → z ≡ pos 0 → n *ℤ z ≡ pos 0
none_where n z e = ap (λ x. n *ℤ x) e ∙ *ℤ-zero n

falling_lawful : (e f : Span) (h : CommonPoint e.low.place e.high.place f.low.place f.high.place)
    → turn_of e.low.place e.high.place f.low.place f.high.place <ℤ pos 0 → Ended e f → IsJunction e f h.denominator h.first h.second
falling_lawful e f h fall (EndedAbove s) =
    let a = e.low.place in let b = e.high.place in let c = f.low.place in let d = f.high.place in
    let one = h.whole in let high = h.second_high in
    absurd (not_rising (h.denominator -ℤ h.second) (turn_of a b c d) (area_of a b d) h.denominator h.whole (omega (arith, sums)) fall
    (area_abd a b c d h) s)
falling_lawful e f h fall (EndedBelow s) =
    let a = e.low.place in let b = e.high.place in let c = f.low.place in let d = f.high.place in
    let one = h.whole in let high = h.first_high in
    absurd (not_sinking (h.denominator -ℤ h.first) (turn_of a b c d) (area_of c d b) h.denominator h.whole (omega (arith, sums)) fall
    (area_cdb a b c d h) s)
falling_lawful e f h fall (EndedTogether same join) =
    let a = e.low.place in let b = e.high.place in let c = f.low.place in let d = f.high.place in
    let x = turn_of a b c d in
    let flat_d : area_of a b d ≡ pos 0 = ap (λ v. area_of a b v) (sym same) ∙ zero_at_end a b in
    let flat_b : area_of c d b ≡ pos 0 = ap (λ v. area_of c d v) same ∙ zero_at_end c d in
    let second = area_abd a b c d h in
    let first = area_cdb a b c d h in
    let none_d : h.denominator *ℤ area_of a b d ≡ pos 0 = none_where h.denominator (area_of a b d) flat_d in
    let none_b : h.denominator *ℤ area_of c d b ≡ pos 0 = none_where h.denominator (area_of c d b) flat_b in
    let t : h.denominator -ℤ h.second ≡ pos 0 = none_if (h.denominator -ℤ h.second) x fall (omega (arith, sums, second, none_d)) in
    let s : h.denominator -ℤ h.first ≡ pos 0 = none_if (h.denominator -ℤ h.first) x fall (omega (arith, sums, first, none_b)) in
    Highs (omega (arith, sums)) (omega (arith, sums)) join

pub under_is_lawful : (e f : Span) → BeginsUnder e f → Ended e f → MeetLawfully e f
under_is_lawful e f (LaterAbove _ s) ended h =
    let a = e.low.place in let b = e.high.place in let c = f.low.place in let d = f.high.place in
    falling_lawful e f h (falls_by_second h.denominator h.second (turn_of a b c d) (area_of a b c) h.whole h.second_low (area_abc a b c d h)
    s) ended
under_is_lawful e f (LaterBelow _ s) ended h =
    let a = e.low.place in let b = e.high.place in let c = f.low.place in let d = f.high.place in
    falling_lawful e f h (falls_by_first h.denominator h.first (turn_of a b c d) (area_of c d a) h.whole h.first_low (area_cda a b c d h) s)
    ended
under_is_lawful e f (Together same join turn) ended h =
    let a = e.low.place in let b = e.high.place in let c = f.low.place in let d = f.high.place in
    let x = turn_of a b c d in
    let up : pos 0 <ℤ x = subst (λ v. pos 0 <ℤ turn_of a b v d) same turn in
    let flat_c : area_of a b c ≡ pos 0 = ap (λ v. area_of a b v) (sym same) ∙ zero_at_start a b in
    let flat_a : area_of c d a ≡ pos 0 = ap (λ v. area_of c d v) same ∙ zero_at_start c d in
    let second = area_abc a b c d h in
    let first = area_cda a b c d h in
    let none_c : h.denominator *ℤ area_of a b c ≡ pos 0 = none_where h.denominator (area_of a b c) flat_c in
    let none_a : h.denominator *ℤ area_of c d a ≡ pos 0 = none_where h.denominator (area_of c d a) flat_a in
    let t : h.second ≡ pos 0 = zero_from_times x h.second up (omega (arith, sums, second, none_c, *ℤ_comm x h.second)) in
    let s : h.first ≡ pos 0 = zero_from_times x h.first up (omega (arith, sums, first, none_a, *ℤ_comm x h.first)) in
    Lows s t join

-- ---- the order of the two, and one after the other

junction_turned : (e f : Span) (n s t : ℤ) → IsJunction e f n s t → IsJunction f e n t s
junction_turned e f n s t (Lows h k j) = Lows k h (join_turned e.low f.low j)
junction_turned e f n s t (LowAndHigh h k j) = HighAndLow k h (join_turned e.low f.high j)
junction_turned e f n s t (HighAndLow h k j) = LowAndHigh k h (join_turned e.high f.low j)
junction_turned e f n s t (Highs h k j) = Highs k h (join_turned e.high f.high j)

pub lawful_turned : (e f : Span) → MeetLawfully e f → MeetLawfully f e
lawful_turned e f law h = junction_turned e f _ _ _ (law (common_swapped e.low.place e.high.place f.low.place f.high.place h))

-- f begins where e ends, and they may join there
pub next_is_lawful : (e f : Span) → IsBefore e.low.place e.high.place → IsBefore f.low.place f.high.place → e.high.place ≡ f.low.place
    → MayJoin e.high f.low → MeetLawfully e f
next_is_lawful e f rise_e rise_f same join h =
    let j = after_meets e.low.place e.high.place f.low.place f.high.place rise_e (up_to_same e.high.place f.low.place same) rise_f h in
    HighAndLow j.at_end j.at_start join

-- f begins after e has ended
pub later_is_lawful : (e f : Span) → IsBefore e.low.place e.high.place → IsBefore f.low.place f.high.place
    → IsBefore e.high.place f.low.place → MeetLawfully e f
later_is_lawful e f rise_e rise_f before h =
    let j = after_meets e.low.place e.high.place f.low.place f.high.place rise_e (up_to e.high.place f.low.place before) rise_f h in
    absurd (not_before_itself e.high.place f.low.place j.one_place before)
