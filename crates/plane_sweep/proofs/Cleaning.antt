-- A map of which any two spans meet lawfully has no clash.
use Rattle.std.proofs.Common.{◌≡◌, ℕ, sym, subst, List, [], arith}
use Rattle.std.proofs.lemmas.List.Elements.{All-contains}
use Rattle.arc_map.specs.Map.{Map}
use Rattle.arc_map.specs.Arranged.{EdgesClash, HasNoClash, IsArranged, IsEarlier, IsHeld, IsHeldList}
use Rattle.arc_map.specs.Arranged.IsHeld.{ByFirst, BySecond, ByPoint}
use Rattle.arrangement_check.proofs.Lesser.{not_before_itself}
use Rattle.plane_sweep.specs.declared.spans.Span.{Span}
use Rattle.plane_sweep.specs.Spans.{AreSpansOf, IsSpanOf}
use Rattle.plane_sweep.specs.Places.{AllMeetLawfully, AllRise}
use Rattle.plane_sweep.proofs.Lists.{contains_none}
use Rattle.plane_sweep.proofs.Names.{lawful_is_no_clash}

pub all_rise : (m : Map) (spans : List Span) → AreSpansOf m spans → AllRise spans
all_rise m spans are s member = (All-contains (IsSpanOf m) spans s are.only member).rising

pub no_clash : (m : Map) (spans : List Span) → AreSpansOf m spans → AllMeetLawfully spans → HasNoClash m
no_clash m spans are lawful e f first second before clash =
    let a = are.all e first in
    let b = are.all f second in
    let early : IsEarlier a.span.edge b.span.edge = subst (λ x. IsEarlier x b.span.edge) (sym a.is)
    (subst (λ x. IsEarlier e x) (sym b.is) before) in
    let apart : ¬ (a.span.edge ≡ b.span.edge) = λ same. not_before_itself b.span.edge (subst (λ x. IsEarlier x b.span.edge) same early) in
    lawful_is_no_clash m a.span b.span (All-contains (IsSpanOf m) spans a.span are.only a.held)
    (All-contains (IsSpanOf m) spans b.span are.only b.held) early
    (lawful a.span b.span a.held b.held apart)
    (subst (λ x. EdgesClash m x b.span.edge) (sym a.is) (subst (λ x. EdgesClash m e x) (sym b.is) clash))

-- ---- what is held

not_held : (m : Map) (arc : ℕ) → IsArranged m → ¬ (IsHeld m arc)
not_held m arc arranged (ByFirst e f is first second rising clash) = contains_none e.arc (arranged.clashes e f first second rising clash).0
not_held m arc arranged (BySecond e f is first second rising clash) = contains_none f.arc (arranged.clashes e f first second rising clash).1
not_held m arc arranged (ByPoint k e is within edge on) = contains_none e.arc (arranged.points k e within edge on)

pub none_held : (m : Map) → IsArranged m → IsHeldList m []
none_held m arranged = record {
  rising = λ k within. absurd (omega (arith, within));
  all = λ arc. (λ member. absurd (contains_none arc member), λ held. absurd (not_held m arc arranged held));
}
