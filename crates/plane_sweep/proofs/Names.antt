-- Spans that meet lawfully are edges that do not clash.
use Rattle.std.proofs.Common.{◌≡◌, ◌+◌, ◌==◌, ◌&&◌, inl, inr, ℕ, IsTrue, ℤ, pos, ◌-ℤ◌, sym, ap, subst, arith}
use Rattle.std.proofs.lemmas.Bool.{and_from, eq-eqb}
use Rattle.grid_exact.specs.Clash.{IsLawful}
use Rattle.grid_exact.specs.Clash.IsLawful.{Starts, StartAndEnd, EndAndStart, Ends, Next, Previous}
use Rattle.grid_exact.proofs.WholeLaws.{sums}
use Rattle.grid_exact.proofs.Commons.{first_turned, second_turned}
use Rattle.arc_map.specs.Map.{Map}
use Rattle.arc_map.specs.Arranged.{EdgesClash, IsEarlier, flags_between}
use Rattle.arc_map.specs.declared.refs.EdgeRef.{EdgeRef}
use Rattle.plane_sweep.specs.declared.spans.Corner.{Corner}
use Rattle.plane_sweep.specs.declared.spans.Span.{Span}
use Rattle.plane_sweep.specs.Meeting.{MayJoin, MeetLawfully}
use Rattle.plane_sweep.specs.Meeting.MayJoin.{One, BothEnd}
use Rattle.plane_sweep.specs.Meeting.IsJunction.{Lows, LowAndHigh, HighAndLow, Highs}
use Rattle.plane_sweep.specs.Spans.{corner_in, IsSpanOf}

same_both : (a b c d : ℕ) → a ≡ b → c ≡ d → IsTrue ((a == b) && (c == d))
same_both a b c d e f = and_from (a == b) (c == d) (eq-eqb a b e) (eq-eqb c d f)

arcs_are : (v w : Corner) → v ≡ w → v.arc ≡ w.arc
arcs_are v w e = ap (λ c. c.arc) e

ats_are : (v w : Corner) → v ≡ w → v.at ≡ w.at
ats_are v w e = ap (λ c. c.at) e

names_differ : (e f : EdgeRef) (i : ℕ) → IsEarlier e f → e.arc ≡ f.arc → e.at + i ≡ f.at + i → ⊥
names_differ e f i (inl before) arcs ats = omega (arith, before, arcs)
names_differ e f i (inr later) arcs ats = let below = later.1 in omega (arith, below, ats)

module _ (m : Map) (e f : EdgeRef) (before : IsEarlier e f) (n s t : ℤ) where
  abbrev e_start : Corner
  e_start = corner_in m e.arc e.at

  abbrev e_end : Corner
  e_end = corner_in m e.arc (e.at + 1)

  abbrev f_start : Corner
  f_start = corner_in m f.arc f.at

  abbrev f_end : Corner
  f_end = corner_in m f.arc (f.at + 1)

  at_starts : s ≡ pos 0 → t ≡ pos 0 → MayJoin e_start f_start → IsLawful (flags_between m e f) n s t
  at_starts p q (BothEnd h k) = Starts p q h k
  at_starts p q (One same) = absurd (names_differ e f 0 before (arcs_are e_start f_start same) (let ats = ats_are e_start f_start same in
      omega (arith, ats)))

  at_start_and_end : s ≡ pos 0 → t ≡ n → MayJoin e_start f_end → IsLawful (flags_between m e f) n s t
  at_start_and_end p q (BothEnd h k) = StartAndEnd p q h k
  at_start_and_end p q (One same) = Previous p q (same_both e.arc f.arc (f.at + 1) e.at (arcs_are e_start f_end same)
      (sym (ats_are e_start f_end same)))

  at_end_and_start : s ≡ n → t ≡ pos 0 → MayJoin e_end f_start → IsLawful (flags_between m e f) n s t
  at_end_and_start p q (BothEnd h k) = EndAndStart p q h k
  at_end_and_start p q (One same) = Next p q (same_both e.arc f.arc (e.at + 1) f.at (arcs_are e_end f_start same)
      (ats_are e_end f_start same))

  at_ends : s ≡ n → t ≡ n → MayJoin e_end f_end → IsLawful (flags_between m e f) n s t
  at_ends p q (BothEnd h k) = Ends p q h k
  at_ends p q (One same) = absurd (names_differ e f 1 before (arcs_are e_end f_end same) (ats_are e_end f_end same))

-- what is left of the way is nothing, or all of it
none_left : (n s : ℤ) → n -ℤ s ≡ pos 0 → s ≡ n
none_left n s e = omega (arith, sums)

all_left : (n s : ℤ) → n -ℤ s ≡ n → s ≡ pos 0
all_left n s e = omega (arith, sums)

abbrev span : Corner → Corner → EdgeRef → Span
span low high e = record { low = low; high = high; edge = e }

plain : (m : Map) (e f : EdgeRef) → IsEarlier e f
    → MeetLawfully (span (corner_in m e.arc e.at) (corner_in m e.arc (e.at + 1)) e)
    (span (corner_in m f.arc f.at) (corner_in m f.arc (f.at + 1)) f) → ¬ (EdgesClash m e f)
plain m e f before law clash = clash.unlawful (elim (law clash.common) [
  | Lows p q j ↦ at_starts m e f before _ _ _ p q j
  | LowAndHigh p q j ↦ at_start_and_end m e f before _ _ _ p q j
  | HighAndLow p q j ↦ at_end_and_start m e f before _ _ _ p q j
  | Highs p q j ↦ at_ends m e f before _ _ _ p q j
])

first_back : (m : Map) (e f : EdgeRef) → IsEarlier e f
    → MeetLawfully (span (corner_in m e.arc (e.at + 1)) (corner_in m e.arc e.at) e)
    (span (corner_in m f.arc f.at) (corner_in m f.arc (f.at + 1)) f) → ¬ (EdgesClash m e f)
first_back m e f before law clash = clash.unlawful (elim (law (first_turned _ _ _ _ clash.common)) [
  | Lows p q j ↦ at_end_and_start m e f before _ _ _ (none_left _ _ p) q j
  | LowAndHigh p q j ↦ at_ends m e f before _ _ _ (none_left _ _ p) q j
  | HighAndLow p q j ↦ at_starts m e f before _ _ _ (all_left _ _ p) q j
  | Highs p q j ↦ at_start_and_end m e f before _ _ _ (all_left _ _ p) q j
])

second_back : (m : Map) (e f : EdgeRef) → IsEarlier e f
    → MeetLawfully (span (corner_in m e.arc e.at) (corner_in m e.arc (e.at + 1)) e)
    (span (corner_in m f.arc (f.at + 1)) (corner_in m f.arc f.at) f) → ¬ (EdgesClash m e f)
second_back m e f before law clash = clash.unlawful (elim (law (second_turned _ _ _ _ clash.common)) [
  | Lows p q j ↦ at_start_and_end m e f before _ _ _ p (none_left _ _ q) j
  | LowAndHigh p q j ↦ at_starts m e f before _ _ _ p (all_left _ _ q) j
  | HighAndLow p q j ↦ at_ends m e f before _ _ _ p (none_left _ _ q) j
  | Highs p q j ↦ at_end_and_start m e f before _ _ _ p (all_left _ _ q) j
])

both_back : (m : Map) (e f : EdgeRef) → IsEarlier e f
    → MeetLawfully (span (corner_in m e.arc (e.at + 1)) (corner_in m e.arc e.at) e)
    (span (corner_in m f.arc (f.at + 1)) (corner_in m f.arc f.at) f) → ¬ (EdgesClash m e f)
both_back m e f before law clash = clash.unlawful (elim (law (first_turned _ _ _ _ (second_turned _ _ _ _ clash.common))) [
  | Lows p q j ↦ at_ends m e f before _ _ _ (none_left _ _ p) (none_left _ _ q) j
  | LowAndHigh p q j ↦ at_end_and_start m e f before _ _ _ (none_left _ _ p) (all_left _ _ q) j
  | HighAndLow p q j ↦ at_start_and_end m e f before _ _ _ (all_left _ _ p) (none_left _ _ q) j
  | Highs p q j ↦ at_starts m e f before _ _ _ (all_left _ _ p) (all_left _ _ q) j
])

spans_are : (s t : Span) (a b c d : Corner) → s.low ≡ a → s.high ≡ b → t.low ≡ c → t.high ≡ d → MeetLawfully s t
    → MeetLawfully (span a b s.edge) (span c d t.edge)
spans_are s t a b c d p q u v law =
    subst (λ x. MeetLawfully (span x b s.edge) (span c d t.edge)) p
    (subst (λ x. MeetLawfully (span s.low x s.edge) (span c d t.edge)) q
    (subst (λ x. MeetLawfully s (span x d t.edge)) u
    (subst (λ x. MeetLawfully s (span t.low x t.edge)) v law)))

pub lawful_is_no_clash : (m : Map) (s t : Span) → IsSpanOf m s → IsSpanOf m t → IsEarlier s.edge t.edge → MeetLawfully s t
    → ¬ (EdgesClash m s.edge t.edge)
lawful_is_no_clash m s t first second before law =
    elim first.ends [
      | inl a ↦ elim second.ends [
        | inl b ↦ plain m s.edge t.edge before (spans_are s t _ _ _ _ a.0 a.1 b.0 b.1 law)
        | inr b ↦ second_back m s.edge t.edge before (spans_are s t _ _ _ _ a.0 a.1 b.0 b.1 law)
      ]
      | inr a ↦ elim second.ends [
        | inl b ↦ first_back m s.edge t.edge before (spans_are s t _ _ _ _ a.0 a.1 b.0 b.1 law)
        | inr b ↦ both_back m s.edge t.edge before (spans_are s t _ _ _ _ a.0 a.1 b.0 b.1 law)
      ]
    ]
