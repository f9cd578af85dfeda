-- The clash of two edges by their flags is a common point that is no lawful junction.
use Rattle.std.proofs.Common.{◌≡◌, ◌⊎◌, inl, inr, Bool, true, false, IsTrue, ℤ, pos, ◌-ℤ◌, refl, sym, ◌∙◌, arith}
use Rattle.grid_exact.specs.Clash.{IsLawful, Flags}
use Rattle.grid_exact.specs.Clash.IsLawful.{Starts as LawfulStarts, StartAndEnd as LawfulStartAndEnd, EndAndStart as LawfulEndAndStart}
use Rattle.grid_exact.specs.Clash.IsLawful.{Ends as LawfulEnds, Next, Previous}
use Rattle.grid_exact.proofs.WholeLaws.{sums}
use Rattle.grid_exact.proofs.Signs.SignOf.{Negative, Zero, Positive}
use Rattle.grid_exact.proofs.Signs.{sign_of}
use Rattle.arc_map.specs.Vertices.{Vertex, IsJunction}
use Rattle.arc_map.specs.Vertices.MayJoin.{One, BothEnd}
use Rattle.arc_map.specs.Vertices.IsJunction.{Starts, StartAndEnd, EndAndStart, Ends}
use Rattle.monotone_split.specs.Laws.{FlagsFit, ClashesAreUnlawful}

-- ---- what can be decided

abbrev OrNot : Type 0 → Type 0
OrNot P = P ⊎ (P → ⊥)

both_or_not : (P Q : Type 0) → OrNot P → OrNot Q → OrNot (P × Q)
both_or_not P Q (inl p) (inl q) = inl (p, q)
both_or_not P Q (inl p) (inr q) = inr (λ h. q h.1)
both_or_not P Q (inr p) q = inr (λ h. p h.0)

same_or_not : (a b : ℤ) → OrNot (a ≡ b)
same_or_not a b =
    elim (sign_of (b -ℤ a)) [
      | Negative h ↦ inr (λ e. omega (arith, sums))
      | Zero h ↦ inl (omega (arith, sums))
      | Positive h ↦ inr (λ e. omega (arith, sums))
    ]

true_or_not : (b : Bool) → OrNot (IsTrue b)
true_or_not true = inl refl
true_or_not false = inr (λ e. cc)

-- the ways in which a junction can be lawful, each or not
record Ways (flags : Flags) (n s t : ℤ) : Type 0 where
  starts : OrNot (((s ≡ pos 0) × (t ≡ pos 0)) × ((IsTrue flags.a_end) × (IsTrue flags.c_end)))
  start_end : OrNot (((s ≡ pos 0) × (t ≡ n)) × ((IsTrue flags.a_end) × (IsTrue flags.d_end)))
  end_start : OrNot (((s ≡ n) × (t ≡ pos 0)) × ((IsTrue flags.b_end) × (IsTrue flags.c_end)))
  ends : OrNot (((s ≡ n) × (t ≡ n)) × ((IsTrue flags.b_end) × (IsTrue flags.d_end)))
  next : OrNot (((s ≡ n) × (t ≡ pos 0)) × (IsTrue flags.joined))
  previous : OrNot (((s ≡ pos 0) × (t ≡ n)) × (IsTrue flags.joined_back))

ways : (flags : Flags) (n s t : ℤ) → Ways flags n s t
ways flags n s t =
    record {
      starts = both_or_not _ _ (both_or_not _ _ (same_or_not s (pos 0)) (same_or_not t (pos 0)))
          (both_or_not _ _ (true_or_not flags.a_end) (true_or_not flags.c_end));
      start_end = both_or_not _ _ (both_or_not _ _ (same_or_not s (pos 0)) (same_or_not t n))
          (both_or_not _ _ (true_or_not flags.a_end) (true_or_not flags.d_end));
      end_start = both_or_not _ _ (both_or_not _ _ (same_or_not s n) (same_or_not t (pos 0)))
          (both_or_not _ _ (true_or_not flags.b_end) (true_or_not flags.c_end));
      ends = both_or_not _ _ (both_or_not _ _ (same_or_not s n) (same_or_not t n))
          (both_or_not _ _ (true_or_not flags.b_end) (true_or_not flags.d_end));
      next = both_or_not _ _ (both_or_not _ _ (same_or_not s n) (same_or_not t (pos 0))) (true_or_not flags.joined);
      previous = both_or_not _ _ (both_or_not _ _ (same_or_not s (pos 0)) (same_or_not t n)) (true_or_not flags.joined_back);
    }

lawful_or_not : (flags : Flags) (n s t : ℤ) → OrNot (IsLawful flags n s t)
lawful_or_not flags n s t =
    let w = ways flags n s t in
    elim w.starts [
      | inl h ↦ inl (LawfulStarts h.0.0 h.0.1 h.1.0 h.1.1)
      | inr p ↦
          elim w.start_end [
            | inl h ↦ inl (LawfulStartAndEnd h.0.0 h.0.1 h.1.0 h.1.1)
            | inr q ↦
                elim w.end_start [
                  | inl h ↦ inl (LawfulEndAndStart h.0.0 h.0.1 h.1.0 h.1.1)
                  | inr r ↦
                      elim w.ends [
                        | inl h ↦ inl (LawfulEnds h.0.0 h.0.1 h.1.0 h.1.1)
                        | inr o ↦
                            elim w.next [
                              | inl h ↦ inl (Next h.0.0 h.0.1 h.1)
                              | inr m ↦
                                  elim w.previous [
                                    | inl h ↦ inl (Previous h.0.0 h.0.1 h.1)
                                    | inr l ↦ inr (λ h. none h p q r o m l)
                                  ]
                            ]
                      ]
                ]
          ]
    ]
  where
    none : IsLawful flags n s t → ¬ (((s ≡ pos 0) × (t ≡ pos 0)) × ((IsTrue flags.a_end) × (IsTrue flags.c_end)))
        → ¬ (((s ≡ pos 0) × (t ≡ n)) × ((IsTrue flags.a_end) × (IsTrue flags.d_end)))
        → ¬ (((s ≡ n) × (t ≡ pos 0)) × ((IsTrue flags.b_end) × (IsTrue flags.c_end)))
        → ¬ (((s ≡ n) × (t ≡ n)) × ((IsTrue flags.b_end) × (IsTrue flags.d_end))) → ¬ (((s ≡ n) × (t ≡ pos 0)) × (IsTrue flags.joined))
        → ¬ (((s ≡ pos 0) × (t ≡ n)) × (IsTrue flags.joined_back)) → ⊥
    none (LawfulStarts e f g h) p q r o m l = p ((e, f), (g, h))
    none (LawfulStartAndEnd e f g h) p q r o m l = q ((e, f), (g, h))
    none (LawfulEndAndStart e f g h) p q r o m l = r ((e, f), (g, h))
    none (LawfulEnds e f g h) p q r o m l = o ((e, f), (g, h))
    none (Next e f g) p q r o m l = m ((e, f), g)
    none (Previous e f g) p q r o m l = l ((e, f), g)

-- ---- flags and vertices

flag : (s t : Bool) → s ≡ t → IsTrue t → IsTrue s
flag s t e h = e ∙ h

to_lawful : (a b c d : Vertex) (flags : Flags) (n s t : ℤ) → FlagsFit a b c d flags → IsJunction a b c d n s t → IsLawful flags n s t
to_lawful a b c d flags n s t fit (Starts e f (One g)) = absurd (fit.other_starts g)
to_lawful a b c d flags n s t fit (Starts e f (BothEnd g h)) = LawfulStarts e f (flag flags.a_end a.is_end fit.a_end g)
    (flag flags.c_end c.is_end fit.c_end h)
to_lawful a b c d flags n s t fit (StartAndEnd e f (One g)) = Previous e f (fit.joined_back.1 g)
to_lawful a b c d flags n s t fit (StartAndEnd e f (BothEnd g h)) =
    LawfulStartAndEnd e f (flag flags.a_end a.is_end fit.a_end g) (flag flags.d_end d.is_end fit.d_end h)
to_lawful a b c d flags n s t fit (EndAndStart e f (One g)) = Next e f (fit.joined.1 g)
to_lawful a b c d flags n s t fit (EndAndStart e f (BothEnd g h)) =
    LawfulEndAndStart e f (flag flags.b_end b.is_end fit.b_end g) (flag flags.c_end c.is_end fit.c_end h)
to_lawful a b c d flags n s t fit (Ends e f (One g)) = absurd (fit.other_ends g)
to_lawful a b c d flags n s t fit (Ends e f (BothEnd g h)) = LawfulEnds e f (flag flags.b_end b.is_end fit.b_end g)
    (flag flags.d_end d.is_end fit.d_end h)

to_junction : (a b c d : Vertex) (flags : Flags) (n s t : ℤ) → FlagsFit a b c d flags → IsLawful flags n s t → IsJunction a b c d n s t
to_junction a b c d flags n s t fit (LawfulStarts e f g h) = Starts e f
    (BothEnd (flag a.is_end flags.a_end (sym fit.a_end) g) (flag c.is_end flags.c_end (sym fit.c_end) h))
to_junction a b c d flags n s t fit (LawfulStartAndEnd e f g h) =
    StartAndEnd e f (BothEnd (flag a.is_end flags.a_end (sym fit.a_end) g) (flag d.is_end flags.d_end (sym fit.d_end) h))
to_junction a b c d flags n s t fit (LawfulEndAndStart e f g h) =
    EndAndStart e f (BothEnd (flag b.is_end flags.b_end (sym fit.b_end) g) (flag c.is_end flags.c_end (sym fit.c_end) h))
to_junction a b c d flags n s t fit (LawfulEnds e f g h) = Ends e f
    (BothEnd (flag b.is_end flags.b_end (sym fit.b_end) g) (flag d.is_end flags.d_end (sym fit.d_end) h))
to_junction a b c d flags n s t fit (Next e f g) = EndAndStart e f (One (fit.joined.0 g))
to_junction a b c d flags n s t fit (Previous e f g) = StartAndEnd e f (One (fit.joined_back.0 g))

pub clashes_are_unlawful : ClashesAreUnlawful
clashes_are_unlawful a b c d flags fit = (
  (λ none h.
      elim (lawful_or_not flags h.denominator h.first h.second) [
        | inl l ↦ to_junction a b c d flags h.denominator h.first h.second fit l
        | inr u ↦ absurd (none (record { common = h; unlawful = u }))
      ]),
  (λ lawful clash. clash.unlawful (to_lawful a b c d flags clash.common.denominator clash.common.first clash.common.second fit
      (lawful clash.common))),
)
