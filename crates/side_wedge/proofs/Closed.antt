-- A place beside a run that goes one way: it keeps its side where it is on one hand of the run's edge under it and of the segment
-- between the run's ends.
use Rattle.std.proofs.Common.{◌≡◌, ◌↔◌, inl, inr, Bool, true, false, List, [], ◌∷◌, ◌++◌, pos, refl, sym, subst, append_assoc, arith}
use Rattle.grid_exact.specs.Geometry.{Place, area_of, IsOnSegment}
use Rattle.grid_exact.specs.Crossing.{is_crossed}
use Rattle.grid_exact.specs.Walks.{EachEdge, end_of, count_edges, is_odd}
use Rattle.grid_exact.specs.Segments.{IsOffSegment}
use Rattle.grid_exact.specs.Runs.{IsEdgeOf, IsMonotone}
use Rattle.grid_exact.specs.Runs.IsMonotone.{Increasing, Decreasing}
use Rattle.grid_exact.specs.declared.frame.Frame.{Frame}
use Rattle.grid_exact.specs.declared.frame.Frame.TheVariants.{Plain, Turned}
use Rattle.grid_exact.proofs.WholeLaws.{sums}
use Rattle.grid_exact.proofs.Signs.SignOf.{Negative, Zero, Positive}
use Rattle.grid_exact.proofs.Signs.{sign_of}
use Rattle.grid_exact.proofs.Commons.{on_turned}
use Rattle.grid_exact.proofs.Segments.{area_of-on}
use Rattle.grid_exact.proofs.Walks.{end_of-pushed}
use Rattle.arc_map.specs.Allowed.{IsConsistent}
use Rattle.arc_map.specs.Allowed.IsConsistent.{AtStart, AtEnd, SameSide}
use Rattle.chain_side.specs.Sides.{IsOutside}
use Rattle.chain_side.specs.Sides.IsOutside.{Before as OutsideBefore, After as OutsideAfter}
use Rattle.chain_side.proofs.Outside.{outside_is_even}
use Rattle.chain_side.specs.Along.{IsAlong}
use Rattle.chain_side.specs.Sides.{IsSideOf}
use Rattle.chain_side.specs.declared.sides.Side.{Side}
use Rattle.chain_side.proofs.AlongOrder.{then_along, one_way, IsPassed, Ahead, Behind, passed_off, on_along}
use Rattle.chain_side.proofs.Passed.{others_passed}
use Rattle.chain_side.proofs.Told.{ends_rise, told_rising, told_falling}
use Rattle.chain_side.proofs.Parity.{sides_tell_crossings}
use Rattle.lane_kernels.specs.declared.side.Hand.{Hand}
use Rattle.lane_kernels.specs.declared.side.Hand.TheVariants.{Left, Right}
use Rattle.lane_kernels.specs.Hands.{IsOnSide}
use Rattle.side_wedge.specs.Lines.{IsSideOfLine, side_of}
use Rattle.side_wedge.proofs.Sidelong.{side_of_hand}

-- ---- hands

pub on_hand_off : (hand : Hand) (a b p : Place) → IsOnSide hand a b p → ¬ (IsOnSegment a b p)
on_hand_off Left a b p h on = let flat = area_of-on a b p on in omega (arith, sums)
on_hand_off Right a b p h on = let flat = area_of-on a b p on in omega (arith, sums)

pub one_hand : (hand other : Hand) (a b p : Place) → IsOnSide hand a b p → IsOnSide other a b p → hand ≡ other
one_hand Left Left a b p h k = refl
one_hand Left Right a b p h k = absurd (omega (arith, sums))
one_hand Right Left a b p h k = absurd (omega (arith, sums))
one_hand Right Right a b p h k = refl

-- p is on a hand of the way from a to b, or on its line
pub data HandOf (a b p : Place) : Type 0 where
  OnHand : (hand : Hand) → IsOnSide hand a b p → HandOf a b p
  OnLine : area_of a b p ≡ pos 0 → HandOf a b p

pub hand_of_place : (a b p : Place) → HandOf a b p
hand_of_place a b p = elim (sign_of (area_of a b p)) [ Negative h ↦ OnHand Right h | Zero h ↦ OnLine h | Positive h ↦ OnHand Left h ]

hand_from_side : (frame : Frame) (rising : Bool) (hand other : Hand) → side_of frame rising hand ≡ side_of frame rising other → hand ≡ other
hand_from_side frame rising Left Left e = refl
hand_from_side frame rising Right Right e = refl
hand_from_side Plain true Left Right e = cc
hand_from_side Plain true Right Left e = cc
hand_from_side Plain false Left Right e = cc
hand_from_side Plain false Right Left e = cc
hand_from_side Turned true Left Right e = cc
hand_from_side Turned true Right Left e = cc
hand_from_side Turned false Left Right e = cc
hand_from_side Turned false Right Left e = cc

-- ---- walks

pub each_by_edges : (P : Place → Place → Type 0) (v : Place) (ws : List Place) → ((a b : Place) → IsEdgeOf v ws a b → P a b)
    → EachEdge P v ws
each_by_edges P v [] h = tt
each_by_edges P v (w ∷ ws) h = (h v w (inl (refl, refl)), each_by_edges P w ws (λ a b e. h a b (inr e)))

and_back : (P : Place → Place → Type 0) (v : Place) (skipped : List Place) (w x : Place) → EachEdge P v (skipped ++ w ∷ []) → P w x
    → EachEdge P v (skipped ++ w ∷ x ∷ [])
and_back P v [] w x h last = (h.0, (last, tt))
and_back P v (k ∷ ks) w x h last = (h.0, and_back P k ks w x h.1 last)

monotone_of : (frame : Frame) (rising : Bool) (v : Place) (ws : List Place) → EachEdge (IsAlong frame rising) v ws → IsMonotone frame v ws
monotone_of frame true v ws h = Increasing h
monotone_of frame false v ws h = Decreasing h

pub not_itself : (frame : Frame) (rising : Bool) (a b : Place) → a ≡ b → IsAlong frame rising a b → ⊥
not_itself frame rising a b e h = let back = subst (λ (x : Place). IsAlong frame rising x b) e h in one_way frame rising b b back back

not_before : (frame : Frame) (rising : Bool) (a b : Place) → IsAlong frame rising a b → ¬ (IsAlong frame rising b a)
not_before frame rising a b h k = one_way frame rising a b h k

-- ---- a run from v over the skipped places to w

run_rises : (frame : Frame) (rising : Bool) (v : Place) (skipped : List Place) (w : Place)
    → EachEdge (IsAlong frame rising) v (skipped ++ w ∷ []) → IsAlong frame rising v w
run_rises frame rising v [] w way = way.0
run_rises frame rising v (k ∷ ks) w way = subst (λ (x : Place). IsAlong frame rising v x) (end_of-pushed k ks w)
    (ends_rise frame rising v k (ks ++ w ∷ []) way)

-- before or behind the run
outside_of : (frame : Frame) (rising : Bool) (v w p : Place) → IsPassed frame rising p v w → IsOutside frame v w p
outside_of frame true v w p (Ahead h k) = OutsideBefore h k
outside_of frame true v w p (Behind h k) = OutsideAfter h k
outside_of frame false v w p (Ahead h k) = OutsideAfter h k
outside_of frame false v w p (Behind h k) = OutsideBefore h k

passed_consistent : (frame : Frame) (rising : Bool) (v : Place) (skipped : List Place) (w p : Place)
    → EachEdge (IsAlong frame rising) v (skipped ++ w ∷ []) → IsPassed frame rising p v w → IsConsistent v w skipped p
passed_consistent frame rising v skipped w p way passed =
    let out : IsOutside frame v (end_of v (skipped ++ w ∷ [])) p =
    subst (λ (x : Place). IsOutside frame v x p) (sym (end_of-pushed v skipped w)) (outside_of frame rising v w p passed) in
    let even = (outside_is_even frame v (skipped ++ w ∷ []) p (monotone_of frame rising v (skipped ++ w ∷ []) way) out).1 in
    SameSide (passed_off frame rising p v w passed) (subst (λ (ws : List Place). is_odd (count_edges (is_crossed p) v ws) ≡ false)
    (append_assoc skipped (w ∷ []) (v ∷ [])) even)

pub before_consistent : (frame : Frame) (rising : Bool) (v : Place) (skipped : List Place) (w p : Place)
    → EachEdge (IsAlong frame rising) v (skipped ++ w ∷ []) → IsAlong frame rising p v → IsConsistent v w skipped p
before_consistent frame rising v skipped w p way h = passed_consistent frame rising v skipped w p way
    (Ahead h (then_along frame rising p v w h (run_rises frame rising v skipped w way)))

pub behind_consistent : (frame : Frame) (rising : Bool) (v : Place) (skipped : List Place) (w p : Place)
    → EachEdge (IsAlong frame rising) v (skipped ++ w ∷ []) → IsAlong frame rising w p → IsConsistent v w skipped p
behind_consistent frame rising v skipped w p way h = passed_consistent frame rising v skipped w p way
    (Behind (then_along frame rising v w p (run_rises frame rising v skipped w way) h) h)

-- ---- between the ends of the run

told : (frame : Frame) (rising : Bool) (v : Place) (ws : List Place) (p a b : Place) → IsEdgeOf v ws a b → IsAlong frame rising a p
    → IsAlong frame rising p b → (side : Side) → IsSideOfLine frame rising a b p side → IsSideOf frame v ws p side
told frame true v ws p a b edge ap' pb side h = told_rising frame v ws p a b edge (not_before frame true a p ap')
    (not_before frame true p b pb) side h
told frame false v ws p a b edge ap' pb side h = told_falling frame v ws p a b edge (not_before frame false a p ap')
    (not_before frame false p b pb) side h

-- p is over the edge ab of the run from v over the skipped places to w, on this hand of it
pub record IsOverRun (frame : Frame) (rising : Bool) (v : Place) (skipped : List Place) (w p a b : Place) (hand : Hand) : Type 0 where
  pub way : EachEdge (IsAlong frame rising) v (skipped ++ w ∷ [])
  pub edge : IsEdgeOf v (skipped ++ w ∷ []) a b
  pub start : IsAlong frame rising a p
  pub end : IsAlong frame rising p b
  pub on_hand : IsOnSide hand a b p
  pub past : IsAlong frame rising v p
  pub before : IsAlong frame rising p w

off_run : (frame : Frame) (rising : Bool) (v : Place) (skipped : List Place) (w p a b : Place) (hand : Hand)
    → IsOverRun frame rising v skipped w p a b hand → EachEdge (IsOffSegment p) v (skipped ++ w ∷ [])
off_run frame rising v skipped w p a b hand over =
    each_by_edges (IsOffSegment p) v (skipped ++ w ∷ []) (λ c d e on.
    elim (others_passed frame rising p v (skipped ++ w ∷ []) a b c d over.way over.edge over.start over.end e) [
      | inl same ↦ on_hand_off hand a b p over.on_hand (subst (λ (x : Place). IsOnSegment x b p) same.0
          (subst (λ (y : Place). IsOnSegment c y p) same.1 on))
      | inr passed ↦ passed_off frame rising p c d passed on
    ])

-- the run and the segment have p on one hand exactly where the closed walk is crossed an even number of times
hands_tell : (frame : Frame) (rising : Bool) (v : Place) (skipped : List Place) (w p a b : Place) (hand other : Hand)
    → IsOverRun frame rising v skipped w p a b hand → IsOnSide other v w p → (side_of frame rising hand ≡ side_of frame rising other)
    ↔ (is_odd (count_edges (is_crossed p) v (skipped ++ w ∷ v ∷ [])) ≡ false)
hands_tell frame rising v skipped w p a b hand other over on =
    sides_tell_crossings frame v w skipped p (side_of frame rising hand) (side_of frame rising other)
    (monotone_of frame rising v (skipped ++ w ∷ []) over.way)
    (and_back (IsOffSegment p) v skipped w v (off_run frame rising v skipped w p a b hand over) (λ back.
    on_hand_off other v w p on (on_turned w v p back)))
    (told frame rising v (skipped ++ w ∷ []) p a b over.edge over.start over.end (side_of frame rising hand)
    ((side_of_hand frame rising hand a b p).0 over.on_hand))
    (told frame rising v (w ∷ []) p v w (inl (refl, refl)) over.past over.before (side_of frame rising other)
    ((side_of_hand frame rising other v w p).0 on))

pub consistent_by_hand : (frame : Frame) (rising : Bool) (v : Place) (skipped : List Place) (w p a b : Place) (hand : Hand)
    → IsOverRun frame rising v skipped w p a b hand → IsOnSide hand v w p → IsConsistent v w skipped p
consistent_by_hand frame rising v skipped w p a b hand over on =
    SameSide (on_hand_off hand v w p on) ((hands_tell frame rising v skipped w p a b hand hand over on).0 refl)

pub hand_by_consistent : (frame : Frame) (rising : Bool) (v : Place) (skipped : List Place) (w p a b : Place) (hand : Hand)
    → IsOverRun frame rising v skipped w p a b hand → IsConsistent v w skipped p → IsOnSide hand v w p
hand_by_consistent frame rising v skipped w p a b hand over (AtStart e) = absurd (not_itself frame rising v p (sym e) over.past)
hand_by_consistent frame rising v skipped w p a b hand over (AtEnd e) = absurd (not_itself frame rising p w e over.before)
hand_by_consistent frame rising v skipped w p a b hand over (SameSide off even) =
    elim (hand_of_place v w p) [
      | OnHand other on ↦ subst (λ (h : Hand). IsOnSide h v w p)
          (sym (hand_from_side frame rising hand other ((hands_tell frame rising v skipped w p a b hand other over on).1 even))) on
      | OnLine flat ↦ absurd (off (on_along frame rising v w p (not_before frame rising v p over.past)
          (not_before frame rising p w over.before) flat))
    ]
