-- Runs that increase in the order of places: the side on which an edge or a point lies.
use Rattle.std.proofs.Common.{◌≡◌, Bool, true, false, List, [], ◌∷◌, ◌++◌, ℤ, pos, ◌-ℤ◌, ◌<ℤ◌, int_lt, refl, sym, ap, subst, ◌∙◌, arith}
use Rattle.grid_exact.specs.Geometry.{Place, area_of, IsBefore, CommonPoint}
use Rattle.grid_exact.specs.Crossing.{is_before, is_crossed}
use Rattle.grid_exact.specs.Walks.{count_edges, is_odd, end_of, differ, EachEdge}
use Rattle.grid_exact.specs.Spans.{IsUpTo, start_gap, end_gap, SameSign}
use Rattle.grid_exact.specs.Segments.{IsOffSegment, IsApart}
use Rattle.grid_exact.specs.Spans.SameSign.{BothAbove, BothBelow}
use Rattle.grid_exact.proofs.WholeLaws.{sums}
use Rattle.grid_exact.proofs.Signs.SignOf.{Negative, Zero, Positive}
use Rattle.grid_exact.proofs.Signs.{sign_of}
use Rattle.grid_exact.proofs.Commons.{common_swapped, end_is_on, start_on, second_turned}
use Rattle.grid_exact.proofs.Orders.{before_yes, before_no, lt_yes, lt_no, on_by_order, compared, then_before, up_to, up_to_cases}
use Rattle.grid_exact.proofs.Orders.{before_up_to, up_to_before, tested, not_tested, after_meets}
use Rattle.grid_exact.proofs.Crossings.{crossed_turned, differ_false, crossed_between, crossed_before, crossed_after}
use Rattle.grid_exact.proofs.Spans.{one_above, not_above, not_below, start_gap-yes, start_gap-no, end_gap-yes, end_gap-no}
use Rattle.grid_exact.proofs.Walks.{is_odd-counted, same_from, before_end, is_odd-pushed}
use Rattle.grid_exact.proofs.Orders.Compared.{Before, Same, After}
use Rattle.grid_exact.proofs.Orders.UpTo.{Earlier, There}
use Rattle.grid_exact.proofs.Orders.Tested.{Yes, No}
use Rattle.grid_exact.proofs.Views.{off_by_apart_start, apart_turned}

-- ---- an edge beside a run

-- how far cd is above the run over v, w and ws where the later of them starts
abbrev pub run_start_gap : Place → Place → List Place → Place → Place → ℤ
run_start_gap v w [] c d = start_gap v w c d
run_start_gap v w (x ∷ xs) c d = elim (is_before c w) [ true ↦ start_gap v w c d | false ↦ run_start_gap w x xs c d ]

-- and where the earlier of them ends
abbrev pub run_end_gap : Place → Place → List Place → Place → Place → ℤ
run_end_gap v w [] c d = end_gap v w c d
run_end_gap v w (x ∷ xs) c d = elim (is_before d w) [ true ↦ end_gap v w c d | false ↦ run_end_gap w x xs c d ]

pub start_here : (v w x : Place) (xs : List Place) (c d : Place) → is_before c w ≡ true → run_start_gap v w (x ∷ xs) c d ≡ start_gap v w c d
start_here v w x xs c d e = ap (λ (t : Bool). elim t [ true ↦ start_gap v w c d | false ↦ run_start_gap w x xs c d ]) e

pub start_later : (v w x : Place) (xs : List Place) (c d : Place) → is_before c w ≡ false
    → run_start_gap v w (x ∷ xs) c d ≡ run_start_gap w x xs c d
start_later v w x xs c d e = ap (λ (t : Bool). elim t [ true ↦ start_gap v w c d | false ↦ run_start_gap w x xs c d ]) e

pub end_here : (v w x : Place) (xs : List Place) (c d : Place) → is_before d w ≡ true → run_end_gap v w (x ∷ xs) c d ≡ end_gap v w c d
end_here v w x xs c d e = ap (λ (t : Bool). elim t [ true ↦ end_gap v w c d | false ↦ run_end_gap w x xs c d ]) e

pub end_later : (v w x : Place) (xs : List Place) (c d : Place) → is_before d w ≡ false
    → run_end_gap v w (x ∷ xs) c d ≡ run_end_gap w x xs c d
end_later v w x xs c d e = ap (λ (t : Bool). elim t [ true ↦ end_gap v w c d | false ↦ run_end_gap w x xs c d ]) e

same_sign_then : (x y z : ℤ) → SameSign x y → SameSign y z → SameSign x z
same_sign_then x y z (BothAbove h k) (BothAbove l m) = BothAbove h m
same_sign_then x y z (BothAbove h k) (BothBelow l m) = absurd (omega (arith, sums))
same_sign_then x y z (BothBelow h k) (BothAbove l m) = absurd (omega (arith, sums))
same_sign_then x y z (BothBelow h k) (BothBelow l m) = BothBelow h m

one_edge : (v w c d : Place) → IsBefore v w → IsBefore c d → IsUpTo c w → IsUpTo v d → IsApart c d v w
    → SameSign (start_gap v w c d) (end_gap v w c d)
one_edge v w c d vw cd cw vd apart = (one_above v w c d (up_to v w vw) (up_to c d cd) cw vd apart)

-- where cd has begun at w already, the run from w starts below it by the area at w
start_gap_at : (w x : Place) (xs : List Place) (c d : Place) → IsUpTo c w → IsBefore w x → run_start_gap w x xs c d ≡ pos 0 -ℤ area_of c d w
start_gap_at w x [] c d cw wx = start_gap-no w x c d (not_tested w c cw)
start_gap_at w x (y ∷ ys) c d cw wx = start_here w x y ys c d (before_yes c x (up_to_before c w x cw wx))
    ∙ start_gap-no w x c d (not_tested w c cw)

-- An edge that has no common point with a run keeps to one side of it, from where the later of them starts to where the earlier of them
-- ends.
pub keeps_side : (v w : Place) (ws : List Place) (c d : Place) → IsBefore v w → EachEdge IsBefore w ws → IsBefore c d
    → IsUpTo c (end_of w ws) → IsUpTo v d → IsApart c d v w → EachEdge (IsApart c d) w ws
    → SameSign (run_start_gap v w ws c d) (run_end_gap v w ws c d)
keeps_side v w [] c d vw rising cd cu vd apart rest = one_edge v w c d vw cd cu vd apart
keeps_side v w (x ∷ xs) c d vw rising cd cu vd apart rest =
    elim (tested c w) [
      | Yes e cw ↦
          elim (tested d w) [
            | Yes f dw ↦
                subst (λ (z : ℤ). SameSign z (run_end_gap v w (x ∷ xs) c d)) (sym (start_here v w x xs c d e))
                (subst (λ (z : ℤ). SameSign (start_gap v w c d) z) (sym (end_here v w x xs c d f))
                (one_edge v w c d vw cd (up_to c w cw) vd apart))
            | No f wd ↦
                let here : SameSign (start_gap v w c d) (end_gap v w c d) = one_edge v w c d vw cd (up_to c w cw) vd apart in
                let on : SameSign (run_start_gap w x xs c d) (run_end_gap w x xs c d) =
                keeps_side w x xs c d rising.0 rising.1 cd cu wd rest.0 rest.1 in
                let same : end_gap v w c d ≡ run_start_gap w x xs c d = end_gap-no v w c d f
                ∙ sym (start_gap_at w x xs c d (up_to c w cw) rising.0) in
                subst (λ (z : ℤ). SameSign z (run_end_gap v w (x ∷ xs) c d)) (sym (start_here v w x xs c d e))
                (subst (λ (z : ℤ). SameSign (start_gap v w c d) z) (sym (end_later v w x xs c d f))
                (same_sign_then _ _ _ (subst (λ (z : ℤ). SameSign (start_gap v w c d) z) same here) on))
          ]
      | No e wc ↦
          let wd : IsBefore w d = up_to_before w c d wc cd in
          let f : is_before d w ≡ false = before_no d w wd in
          subst (λ (z : ℤ). SameSign z (run_end_gap v w (x ∷ xs) c d)) (sym (start_later v w x xs c d e))
          (subst (λ (z : ℤ). SameSign (run_start_gap w x xs c d) z) (sym (end_later v w x xs c d f))
          (keeps_side w x xs c d rising.0 rising.1 cd cu (up_to w d wd) rest.0 rest.1))
    ]

-- ---- a point beside a run

-- how far p is above the edge of the run that it is over
abbrev pub run_side : Place → Place → List Place → Place → ℤ
run_side v w [] p = area_of v w p
run_side v w (x ∷ xs) p = elim (is_before p w) [ true ↦ area_of v w p | false ↦ run_side w x xs p ]

pub side_here : (v w x : Place) (xs : List Place) (p : Place) → is_before p w ≡ true → run_side v w (x ∷ xs) p ≡ area_of v w p
side_here v w x xs p e = ap (λ (t : Bool). elim t [ true ↦ area_of v w p | false ↦ run_side w x xs p ]) e

pub side_later : (v w x : Place) (xs : List Place) (p : Place) → is_before p w ≡ false → run_side v w (x ∷ xs) p ≡ run_side w x xs p
side_later v w x xs p e = ap (λ (t : Bool). elim t [ true ↦ area_of v w p | false ↦ run_side w x xs p ]) e

-- p is past w, where it is not before it and is not on the edge that ends there
past : (v w p : Place) → IsOffSegment p v w → IsUpTo w p → IsBefore w p
past v w p off h = elim (up_to_cases w p h) [ Earlier k ↦ k | There e ↦ absurd (off (end_is_on v w p (sym e))) ]

start_gap-side : (v w : Place) (ws : List Place) (c d : Place) → IsBefore v c → IsOffSegment c v w → EachEdge (IsOffSegment c) w ws
    → run_start_gap v w ws c d ≡ run_side v w ws c
start_gap-side v w [] c d vc off rest = start_gap-yes v w c d (before_yes v c vc)
start_gap-side v w (x ∷ xs) c d vc off rest =
    elim (tested c w) [
      | Yes e cw ↦ start_here v w x xs c d e ∙ start_gap-yes v w c d (before_yes v c vc) ∙ sym (side_here v w x xs c e)
      | No e wc ↦ start_later v w x xs c d e ∙ start_gap-side w x xs c d (past v w c off wc) rest.0 rest.1 ∙ sym (side_later v w x xs c e)
    ]

end_gap-side : (v w : Place) (ws : List Place) (c d : Place) → IsBefore d (end_of w ws) → run_end_gap v w ws c d ≡ run_side v w ws d
end_gap-side v w [] c d du = end_gap-yes v w c d (before_yes d w du)
end_gap-side v w (x ∷ xs) c d du =
    elim (tested d w) [
      | Yes e dw ↦ end_here v w x xs c d e ∙ end_gap-yes v w c d e ∙ sym (side_here v w x xs d e)
      | No e wd ↦ end_later v w x xs c d e ∙ end_gap-side w x xs c d du ∙ sym (side_later v w x xs d e)
    ]

end_gap_at : (v w : Place) (ws : List Place) (c d : Place) → EachEdge IsBefore w ws → IsUpTo (end_of w ws) d
    → run_end_gap v w ws c d ≡ pos 0 -ℤ area_of c d (end_of w ws)
end_gap_at v w [] c d rising ud = end_gap-no v w c d (not_tested d w ud)
end_gap_at v w (x ∷ xs) c d rising ud =
    let wd : IsBefore w d = before_up_to w (end_of x xs) d (before_end w x xs rising.0 rising.1) ud in
    end_later v w x xs c d (before_no d w wd) ∙ end_gap_at w x xs c d rising.1 ud

-- ---- crossings of a run

-- a run that starts past p is not crossed
none_ahead : (p v : Place) (ws : List Place) → IsBefore p v → EachEdge IsBefore v ws → is_odd (count_edges (is_crossed p) v ws) ≡ false
none_ahead p v [] pv rising = refl
none_ahead p v (w ∷ ws) pv rising =
    let pw : IsBefore p w = then_before p v w pv rising.0 in
    is_odd-counted (is_crossed p) v w ws ∙ ap (λ (t : Bool). differ t (is_odd (count_edges (is_crossed p) w ws)))
    (crossed_before p v w pv pw) ∙ none_ahead p w ws pw rising.1

-- A run that p is over, and on no edge of, is crossed an odd number of times exactly where p is below it.
pub crossings-side : (p v w : Place) (ws : List Place) → IsBefore v w → EachEdge IsBefore w ws → IsBefore v p → IsBefore p (end_of w ws)
    → IsOffSegment p v w → EachEdge (IsOffSegment p) w ws → is_odd (count_edges (is_crossed p) v (w ∷ ws))
    ≡ int_lt (run_side v w ws p) (pos 0)
crossings-side p v w [] vw rising vp pu off rest = is_odd-counted (is_crossed p) v w [] ∙ differ_false (is_crossed p v w)
    ∙ crossed_between p v w vp pu
crossings-side p v w (x ∷ xs) vw rising vp pu off rest =
    elim (tested p w) [
      | Yes e pw ↦
          is_odd-counted (is_crossed p) v w (x ∷ xs)
          ∙ ap (λ (t : Bool). differ (is_crossed p v w) t) (none_ahead p w (x ∷ xs) pw rising)
          ∙ differ_false (is_crossed p v w)
          ∙ crossed_between p v w vp pw
          ∙ ap (λ (z : ℤ). int_lt z (pos 0)) (sym (side_here v w x xs p e))
      | No e wp ↦
          let later : IsBefore w p = past v w p off wp in
          is_odd-counted (is_crossed p) v w (x ∷ xs)
          ∙ ap (λ (t : Bool). differ t (is_odd (count_edges (is_crossed p) w (x ∷ xs)))) (crossed_after p v w vp later)
          ∙ crossings-side p w x xs rising.0 rising.1 later pu rest.0 rest.1
          ∙ ap (λ (z : ℤ). int_lt z (pos 0)) (sym (side_later v w x xs p e))
    ]

-- ---- the run and the segment between its ends

-- z has the sign of y
pub record Follows (y z : ℤ) : Type 0 where
  pub above : pos 0 <ℤ y → pos 0 <ℤ z
  pub below : y <ℤ pos 0 → z <ℤ pos 0

follows_test : (y z : ℤ) → ¬ (z ≡ pos 0) → int_lt y (pos 0) ≡ int_lt z (pos 0) → Follows y z
follows_test y z other same =
    elim (sign_of z) [
      | Negative h ↦ record {
        above = λ k. absurd (false_true (sym (lt_no y (pos 0) (omega (arith, sums))) ∙ same ∙ lt_yes z (pos 0) h));
        below = λ k. h;
      }
      | Zero h ↦ absurd (other h)
      | Positive h ↦ record {
        above = λ k. h;
        below = λ k. absurd
            (false_true (sym (lt_no z (pos 0) (omega (arith, sums))) ∙ sym same ∙ lt_yes y (pos 0) k));
      }
    ]
  where
    false_true : false ≡ true → ⊥
    false_true e = cc

-- The closed walk along the run and back is crossed an even number of times: p is on one side of the run and of the segment.
pub side_follows : (p v w : Place) (ws : List Place) → IsBefore v w → EachEdge IsBefore w ws → IsBefore v p → IsBefore p (end_of w ws)
    → IsOffSegment p v w → EachEdge (IsOffSegment p) w ws → IsOffSegment p v (end_of w ws)
    → is_odd (count_edges (is_crossed p) v ((w ∷ ws) ++ v ∷ [])) ≡ false → Follows (run_side v w ws p) (area_of v (end_of w ws) p)
side_follows p v w ws vw rising vp pu off rest across even =
    follows_test (run_side v w ws p) (area_of v (end_of w ws) p)
    (λ flat. across (on_by_order v (end_of w ws) p (up_to v p vp) (up_to p (end_of w ws) pu) flat))
    (sym (crossings-side p v w ws vw rising vp pu off rest)
    ∙ same_from (is_odd (count_edges (is_crossed p) v (w ∷ ws))) (is_crossed p (end_of w ws) v)
    (sym (is_odd-pushed (is_crossed p) v (w ∷ ws) v) ∙ even)
    ∙ crossed_turned p (end_of w ws) v
    ∙ crossed_between p v (end_of w ws) vp pu)

-- ---- an edge beside the run and the segment

-- p is off the segment, on one side of it and of the run
pub record IsAside (v u : Place) (ws : List Place) (p : Place) : Type 0 where
  pub off : IsOffSegment p v u
  pub even : is_odd (count_edges (is_crossed p) v (ws ++ v ∷ [])) ≡ false

same_as_itself : (z : ℤ) → Follows z z
same_as_itself z = record { above = λ h. h; below = λ h. h }

follows_by : (y y' z z' : ℤ) → y ≡ y' → z ≡ z' → Follows y' z' → Follows y z
follows_by y y' z z' e f h = record {
  above = λ k. subst (λ (x : ℤ). pos 0 <ℤ x) (sym f) (h.above (subst (λ (x : ℤ). pos 0 <ℤ x) e k));
  below = λ k. subst (λ (x : ℤ). x <ℤ pos 0) (sym f) (h.below (subst (λ (x : ℤ). x <ℤ pos 0) e k));
}

-- at the later start the edge is on the same side of the segment as of the run
start_follows : (v w : Place) (ws : List Place) (c d : Place) → IsBefore v w → EachEdge IsBefore w ws → IsBefore c (end_of w ws)
    → EachEdge (IsOffSegment c) v (w ∷ ws) → IsAside v (end_of w ws) (w ∷ ws) c
    → Follows (run_start_gap v w ws c d) (start_gap v (end_of w ws) c d)
start_follows v w ws c d vw rising cu off aside =
    elim (tested v c) [
      | Yes e vc ↦
          follows_by (run_start_gap v w ws c d) (run_side v w ws c) (start_gap v (end_of w ws) c d) (area_of v (end_of w ws) c)
          (start_gap-side v w ws c d vc off.0 off.1) (start_gap-yes v (end_of w ws) c d e)
          (side_follows c v w ws vw rising vc cu off.0 off.1 aside.off aside.even)
      | No e cv ↦
          follows_by (run_start_gap v w ws c d) (pos 0 -ℤ area_of c d v) (start_gap v (end_of w ws) c d) (pos 0 -ℤ area_of c d v)
          (start_before v w ws c d vw cv) (start_gap-no v (end_of w ws) c d e) (same_as_itself (pos 0 -ℤ area_of c d v))
    ]
  where
    start_before : (v w : Place) (ws : List Place) (c d : Place) → IsBefore v w → IsUpTo c v
        → run_start_gap v w ws c d ≡ pos 0 -ℤ area_of c d v
    start_before v w ws c d vw cv = start_gap_at v w ws c d cv vw

-- and at the earlier end
end_follows : (v w : Place) (ws : List Place) (c d : Place) → IsBefore v w → EachEdge IsBefore w ws → IsBefore v d
    → EachEdge (IsOffSegment d) v (w ∷ ws) → IsAside v (end_of w ws) (w ∷ ws) d
    → Follows (run_end_gap v w ws c d) (end_gap v (end_of w ws) c d)
end_follows v w ws c d vw rising vd off aside =
    elim (tested d (end_of w ws)) [
      | Yes e du ↦
          follows_by (run_end_gap v w ws c d) (run_side v w ws d) (end_gap v (end_of w ws) c d) (area_of v (end_of w ws) d)
          (end_gap-side v w ws c d du) (end_gap-yes v (end_of w ws) c d e)
          (side_follows d v w ws vw rising vd du off.0 off.1 aside.off aside.even)
      | No e ud ↦
          follows_by (run_end_gap v w ws c d) (pos 0 -ℤ area_of c d (end_of w ws)) (end_gap v (end_of w ws) c d)
          (pos 0 -ℤ area_of c d (end_of w ws))
          (end_gap_at v w ws c d rising ud) (end_gap-no v (end_of w ws) c d e) (same_as_itself (pos 0 -ℤ area_of c d (end_of w ws)))
    ]

-- An edge that has no common point with an increasing run, and whose ends are off the segment between the run's ends and on one side of it
-- and of the run, has no common point with the segment.
no_common : (v w : Place) (ws : List Place) (c d : Place) → IsBefore v w → EachEdge IsBefore w ws → IsBefore c d
    → EachEdge (IsApart c d) v (w ∷ ws) → IsAside v (end_of w ws) (w ∷ ws) c → IsAside v (end_of w ws) (w ∷ ws) d
    → ¬ (CommonPoint v (end_of w ws) c d)
no_common v w ws c d vw rising cd apart at_c at_d h =
    let u = end_of w ws in
    let vu : IsBefore v (end_of w ws) = before_end v w ws vw rising in
    let cu : IsBefore c (end_of w ws) =
    (elim (compared c (end_of w ws)) [
      | Before k ↦ k
      | Same e ↦ absurd (at_c.off (end_is_on v (end_of w ws) c e))
      | After k ↦ absurd (at_c.off (end_is_on v (end_of w ws) c
          (sym ((after_meets v (end_of w ws) c d vu (up_to (end_of w ws) c k) cd h).one_place))))
    ]) in
    let vd : IsBefore v d =
    (elim (compared v d) [
      | Before k ↦ k
      | Same e ↦ absurd (at_d.off (start_on v (end_of w ws) d (sym e)))
      | After k ↦ absurd
          (at_d.off (start_on v (end_of w ws) d
          ((after_meets c d v (end_of w ws) cd (up_to d v k) vu (common_swapped c d v (end_of w ws) h)).one_place)))
    ]) in
    let side : SameSign (run_start_gap v w ws c d) (run_end_gap v w ws c d) =
    keeps_side v w ws c d vw rising cd (up_to c (end_of w ws) cu) (up_to v d vd) apart.0 apart.1 in
    let start : Follows (run_start_gap v w ws c d) (start_gap v (end_of w ws) c d) =
    start_follows v w ws c d vw rising cu (off_by_apart_start c d v (w ∷ ws) apart) at_c in
    let end : Follows (run_end_gap v w ws c d) (end_gap v (end_of w ws) c d) =
    end_follows v w ws c d vw rising vd (off_by_apart_start d c v (w ∷ ws) (apart_turned c d v (w ∷ ws) apart)) at_d in
    elim side [
      | BothAbove k l ↦ not_above v (end_of w ws) c d h (start.above k) (end.above l)
      | BothBelow k l ↦ not_below v (end_of w ws) c d h (start.below k) (end.below l)
    ]

-- The same for an edge that runs either way.
pub no_common_either_way : (v w : Place) (ws : List Place) (c d : Place) → ¬ (c ≡ d) → IsBefore v w → EachEdge IsBefore w ws
    → EachEdge (IsApart c d) v (w ∷ ws) → IsAside v (end_of w ws) (w ∷ ws) c → IsAside v (end_of w ws) (w ∷ ws) d
    → ¬ (CommonPoint v (end_of w ws) c d)
no_common_either_way v w ws c d other vw rising apart at_c at_d h =
    elim (compared c d) [
      | Before k ↦ no_common v w ws c d vw rising k apart at_c at_d h
      | Same e ↦ other e
      | After k ↦ no_common v w ws d c vw rising k (apart_turned c d v (w ∷ ws) apart) at_d at_c (second_turned v (end_of w ws) c d h)
    ]
