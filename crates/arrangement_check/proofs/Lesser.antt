-- The order of edges, of pairs of edges and of feature points with edges.
use Rattle.std.proofs.Common.{inl, inr, ℕ, IsTrue, arith, sym, subst, ◌∙◌}
use Rattle.std.specs.Prelude.{◌&&◌, ◌==◌, nat_lt}
use Rattle.std.proofs.lemmas.Bool.{and_parts, eqb-true, ltb-true, or_cases}
use Rattle.arc_map.specs.Arranged.{IsEarlier}
use Rattle.arc_map.specs.declared.refs.EdgeRef.{EdgeRef}
use Rattle.sweep_index.specs.Pairs.{is_earlier}
use Rattle.arrangement_check.specs.Least.{IsLessPair, IsLessTown}

pub earlier_says : (e f : EdgeRef) → IsTrue (is_earlier e f) → IsEarlier e f
earlier_says e f t = elim (or_cases (nat_lt e.arc f.arc) ((e.arc == f.arc) && nat_lt e.at f.at) t) [
  | inl first ↦ inl (ltb-true e.arc f.arc first)
  | inr both ↦ let parts = and_parts (e.arc == f.arc) (nat_lt e.at f.at) both in
      inr (eqb-true e.arc f.arc parts.0, ltb-true e.at f.at parts.1)
]

pub not_before_itself : (e : EdgeRef) → ¬ (IsEarlier e e)
not_before_itself e (inl h) = omega (arith, h)
not_before_itself e (inr (same, h)) = omega (arith, h)

pub earlier_trans : (e f g : EdgeRef) → IsEarlier e f → IsEarlier f g → IsEarlier e g
earlier_trans e f g (inl h) (inl k) = inl (omega (arith, h, k))
earlier_trans e f g (inl h) (inr (same, k)) = inl (omega (arith, h, same))
earlier_trans e f g (inr (same, h)) (inl k) = inl (omega (arith, k, same))
earlier_trans e f g (inr (same, h)) (inr (too, k)) = inr (same ∙ too, omega (arith, h, k))

pub pair_not_less : (p : EdgeRef × EdgeRef) → ¬ (IsLessPair p p)
pair_not_less p (inl h) = not_before_itself p.0 h
pair_not_less p (inr (same, h)) = not_before_itself p.1 h

pub pair_trans : (p q r : EdgeRef × EdgeRef) → IsLessPair p q → IsLessPair q r → IsLessPair p r
pair_trans p q r (inl h) (inl k) = inl (earlier_trans p.0 q.0 r.0 h k)
pair_trans p q r (inl h) (inr (same, k)) = inl (subst (λ e. IsEarlier p.0 e) same h)
pair_trans p q r (inr (same, h)) (inl k) = inl (subst (λ e. IsEarlier e r.0) (sym same) k)
pair_trans p q r (inr (same, h)) (inr (too, k)) = inr (same ∙ too, earlier_trans p.1 q.1 r.1 h k)

pub town_not_less : (p : ℕ × EdgeRef) → ¬ (IsLessTown p p)
town_not_less p (inl h) = omega (arith, h)
town_not_less p (inr (same, h)) = not_before_itself p.1 h

pub town_trans : (p q r : ℕ × EdgeRef) → IsLessTown p q → IsLessTown q r → IsLessTown p r
town_trans p q r (inl h) (inl k) = inl (omega (arith, h, k))
town_trans p q r (inl h) (inr (same, k)) = inl (omega (arith, h, same))
town_trans p q r (inr (same, h)) (inl k) = inl (omega (arith, k, same))
town_trans p q r (inr (same, h)) (inr (too, k)) = inr (same ∙ too, earlier_trans p.1 q.1 r.1 h k)
