-- Where two edges meet, by the flags of their ends: when they clash.
use Rattle.std.proofs.Common.{◌≡◌, ◌↔◌, inl, inr, Bool, true, false, not, IsTrue, ℤ, pos, ◌*ℤ◌, refl, arith}
use Rattle.std.proofs.lemmas.Int.{ints}
use Rattle.grid_exact.specs.Geometry.{Place, CommonPoint}
use Rattle.grid_exact.specs.Clash.{Flags, IsLawful, Clash}
use Rattle.grid_exact.specs.Clash.IsLawful.{Starts, StartAndEnd, EndAndStart, Ends, Next, Previous}
use Rattle.grid_exact.proofs.WholeLaws.{sums}
use Rattle.grid_exact.proofs.Commons.{starts_are_one, start_is_end, end_is_start, ends_are_one, common_starts, common_start_and_end}
use Rattle.grid_exact.proofs.Commons.{common_end_and_start, common_ends}
use Rattle.segment_tests.specs.Junction.{JoinLawfully}
use Rattle.segment_tests.specs.Junction.JoinLawfully.{AtStarts, AtEnds, AtStartAndEnd, AtEndAndStart}
use Rattle.segment_tests.specs.Meeting.{IsInner, MeetAtPoint, MeetInside}

-- ---- a point inside one of the edges

unlawful_first : (flags : Flags) (n s t : ℤ) → IsInner n s → ¬ (IsLawful flags n s t)
unlawful_first flags n s t inner (Starts e f p q) = let some = inner.some in omega (arith, sums)
unlawful_first flags n s t inner (StartAndEnd e f p q) = let some = inner.some in omega (arith, sums)
unlawful_first flags n s t inner (EndAndStart e f p q) = let rest = inner.rest in omega (arith, sums)
unlawful_first flags n s t inner (Ends e f p q) = let rest = inner.rest in omega (arith, sums)
unlawful_first flags n s t inner (Next e f p) = let rest = inner.rest in omega (arith, sums)
unlawful_first flags n s t inner (Previous e f p) = let some = inner.some in omega (arith, sums)

unlawful_second : (flags : Flags) (n s t : ℤ) → IsInner n t → ¬ (IsLawful flags n s t)
unlawful_second flags n s t inner (Starts e f p q) = let some = inner.some in omega (arith, sums)
unlawful_second flags n s t inner (StartAndEnd e f p q) = let rest = inner.rest in omega (arith, sums)
unlawful_second flags n s t inner (EndAndStart e f p q) = let some = inner.some in omega (arith, sums)
unlawful_second flags n s t inner (Ends e f p q) = let rest = inner.rest in omega (arith, sums)
unlawful_second flags n s t inner (Next e f p) = let some = inner.some in omega (arith, sums)
unlawful_second flags n s t inner (Previous e f p) = let rest = inner.rest in omega (arith, sums)

pub clash_inside : (a b c d : Place) (flags : Flags) → MeetInside a b c d → Clash a b c d flags
clash_inside a b c d flags m =
    let h = m.common in
    elim m.inside [
      | inl inner ↦ record { common = h; unlawful = unlawful_first flags h.denominator h.first h.second inner }
      | inr inner ↦ record { common = h; unlawful = unlawful_second flags h.denominator h.first h.second inner }
    ]

-- ---- one common point

-- where the common point is a lawful junction, two ends may join
joined : (a b c d : Place) (flags : Flags) (h : CommonPoint a b c d) → IsLawful flags h.denominator h.first h.second
    → JoinLawfully a b c d flags
joined a b c d flags h (Starts e f p q) = AtStarts p q (starts_are_one a b c d h e f)
joined a b c d flags h (StartAndEnd e f p q) = AtStartAndEnd (inl (p, q)) (start_is_end a b c d h e f)
joined a b c d flags h (EndAndStart e f p q) = AtEndAndStart (inl (p, q)) (end_is_start a b c d h e f)
joined a b c d flags h (Ends e f p q) = AtEnds p q (ends_are_one a b c d h e f)
joined a b c d flags h (Next e f p) = AtEndAndStart (inr p) (end_is_start a b c d h e f)
joined a b c d flags h (Previous e f p) = AtStartAndEnd (inr p) (start_is_end a b c d h e f)

-- a fraction that is 0 / 1 or 1 / 1
none : (n s : ℤ) → s *ℤ pos 1 ≡ pos 0 *ℤ n → s ≡ pos 0
none n s e = omega (arith, ints)

all : (n s : ℤ) → s *ℤ pos 1 ≡ pos 1 *ℤ n → s ≡ n
all n s e = omega (arith, ints)

-- and where two ends may join, the only common point is a lawful junction
lawful : (a b c d : Place) (flags : Flags) → MeetAtPoint a b c d → JoinLawfully a b c d flags → (h : CommonPoint a b c d)
    → IsLawful flags h.denominator h.first h.second
lawful a b c d flags m (AtStarts p q e) h =
    let k = common_starts a b c d e in
    Starts (none h.denominator h.first (m.first h k)) (none h.denominator h.second (m.second h k)) p q
lawful a b c d flags m (AtEnds p q e) h =
    let k = common_ends a b c d e in
    Ends (all h.denominator h.first (m.first h k)) (all h.denominator h.second (m.second h k)) p q
lawful a b c d flags m (AtStartAndEnd may e) h =
    let k = common_start_and_end a b c d e in
    let s = none h.denominator h.first (m.first h k) in
    let t = all h.denominator h.second (m.second h k) in
    elim may [ inl p ↦ StartAndEnd s t p.0 p.1 | inr p ↦ Previous s t p ]
lawful a b c d flags m (AtEndAndStart may e) h =
    let k = common_end_and_start a b c d e in
    let s = all h.denominator h.first (m.first h k) in
    let t = none h.denominator h.second (m.second h k) in
    elim may [ inl p ↦ EndAndStart s t p.0 p.1 | inr p ↦ Next s t p ]

clash_at_point : (a b c d : Place) (flags : Flags) → MeetAtPoint a b c d → ¬ (JoinLawfully a b c d flags) → Clash a b c d flags
clash_at_point a b c d flags m other = record { common = m.common; unlawful = λ l. other (joined a b c d flags m.common l) }

no_clash_at_point : (a b c d : Place) (flags : Flags) → MeetAtPoint a b c d → JoinLawfully a b c d flags → ¬ (Clash a b c d flags)
no_clash_at_point a b c d flags m j k = k.unlawful (lawful a b c d flags m j k.common)

-- whether two ends may join tells whether edges clash that meet in one point
pub clash_told : (a b c d : Place) (flags : Flags) (may_join : Bool) → MeetAtPoint a b c d → (IsTrue may_join ↔ JoinLawfully a b c d flags)
    → IsTrue (not may_join) ↔ Clash a b c d flags
clash_told a b c d flags true m told = (λ t. cc, λ k. absurd (no_clash_at_point a b c d flags m (told.0 refl) k))
clash_told a b c d flags false m told = (λ t. clash_at_point a b c d flags m (λ j. let no = told.1 j in cc), λ k. refl)
