-- A place beyond a chain on one axis is on one hand of each way along the chain that spans it.
use Rattle.std.proofs.Common.{◌≡◌, ℕ, ◌<◌, Bool, true, false, List, length, pos, ◌-ℤ◌, ◌*ℤ◌, ◌≤ℤ◌, ◌<ℤ◌, subst, arith}
use Rattle.std.specs.Prelude.{All}
use Rattle.grid_exact.specs.Geometry.{Place, turned, area_of, IsBefore}
use Rattle.grid_exact.specs.Geometry.IsBefore.{Left as Across, Below as Up}
use Rattle.grid_exact.specs.declared.frame.Frame.{Frame}
use Rattle.grid_exact.specs.declared.frame.Frame.TheVariants.{Plain, Turned}
use Rattle.grid_exact.proofs.WholeLaws.{sums}
use Rattle.grid_exact.proofs.Signs.{times_nonnegative, times_positive, nonnegative_times_nonpositive, times_negative}
use Rattle.grid_exact.proofs.Orders.{up_to}
use Rattle.grid_exact.proofs.Areas.{area_of-turned, area_turned, area_parts}
use Rattle.chain_side.specs.Along.{IsAlong, vertex_at}
use Rattle.lane_kernels.specs.declared.side.Hand.{Hand}
use Rattle.lane_kernels.specs.declared.side.Hand.TheVariants.{Left, Right}
use Rattle.lane_kernels.specs.Hands.{IsOnSide}
use Rattle.side_wedge.specs.Flanks.{IsBeyond}
use Rattle.side_wedge.specs.Flanks.IsBeyond.{West, East, South, North}
use Rattle.side_wedge.proofs.Closed.{one_hand}

below_both : (a b p : Place) → IsBefore a p → IsBefore p b → p.y <ℤ a.y → p.y <ℤ b.y → area_of a b p <ℤ pos 0
below_both a b p (Across h) pb ya yb =
    let right = (up_to p b pb).across in
    let u : ((b.x -ℤ p.x) *ℤ (p.y -ℤ a.y)) ≤ℤ pos 0 = nonnegative_times_nonpositive (b.x -ℤ p.x) (p.y -ℤ a.y) (omega (arith, sums))
    (omega (arith, sums)) in
    let v : ((p.x -ℤ a.x) *ℤ (p.y -ℤ b.y)) <ℤ pos 0 = times_negative (p.x -ℤ a.x) (p.y -ℤ b.y) (omega (arith, sums)) (omega (arith, sums))
    in
    omega (arith, sums, area_parts a b p)
below_both a b p (Up e h) pb ya yb = absurd (omega (arith, sums))

above_both : (a b p : Place) → IsBefore a p → IsBefore p b → a.y <ℤ p.y → b.y <ℤ p.y → pos 0 <ℤ area_of a b p
above_both a b p ap' (Across h) ya yb =
    let left = (up_to a p ap').across in
    let u : pos 0 <ℤ ((b.x -ℤ p.x) *ℤ (p.y -ℤ a.y)) = times_positive (b.x -ℤ p.x) (p.y -ℤ a.y) (omega (arith, sums)) (omega (arith, sums))
    in
    let v : pos 0 ≤ℤ ((p.x -ℤ a.x) *ℤ (p.y -ℤ b.y)) = times_nonnegative (p.x -ℤ a.x) (p.y -ℤ b.y) (omega (arith, sums))
    (omega (arith, sums)) in
    omega (arith, sums, area_parts a b p)
above_both a b p ap' (Up e h) ya yb = absurd (omega (arith, sums))

-- the way from a to b spans nothing that both are to the right of, or to the left
none_west : (a b p : Place) → IsBefore a p → p.x <ℤ a.x → ⊥
none_west a b p h w = let across = (up_to a p h).across in omega (arith, sums)

none_east : (a b p : Place) → IsBefore p b → b.x <ℤ p.x → ⊥
none_east a b p h e = let across = (up_to p b h).across in omega (arith, sums)

-- p is on this hand of each way along the chain that spans it
abbrev AllOnHand : Frame → Bool → List Place → Place → Hand → Type 0
AllOnHand frame rising chain p hand = (i j : ℕ) → i < length chain → j < length chain → IsAlong frame rising (vertex_at chain i) p
    → IsAlong frame rising p (vertex_at chain j) → IsOnSide hand (vertex_at chain i) (vertex_at chain j) p

-- the hand on which a place beyond the chain is
record OnOneHand (frame : Frame) (rising : Bool) (chain : List Place) (p : Place) : Type 0 where
  hand : Hand
  all : AllOnHand frame rising chain p hand

-- what is known of each vertex
at_vertex : (P : Place → Type 0) (chain : List Place) (i : ℕ) → All P chain → i < length chain → P (vertex_at chain i)
at_vertex P chain i all within = all i (record { x = pos 0; y = pos 0 }) within

turned_below : (a b p : Place) → IsBefore (turned a) (turned p) → IsBefore (turned p) (turned b) → p.x <ℤ a.x → p.x <ℤ b.x
    → pos 0 <ℤ area_of a b p
turned_below a b p h k xa xb = let there = below_both (turned a) (turned b) (turned p) h k xa xb in let e = area_of-turned a b p in
    omega (arith, sums)

turned_above : (a b p : Place) → IsBefore (turned a) (turned p) → IsBefore (turned p) (turned b) → a.x <ℤ p.x → b.x <ℤ p.x
    → area_of a b p <ℤ pos 0
turned_above a b p h k xa xb = let there = above_both (turned a) (turned b) (turned p) h k xa xb in let e = area_of-turned a b p in
    omega (arith, sums)

-- read backwards
back_left : (a b p : Place) → pos 0 <ℤ area_of b a p → area_of a b p <ℤ pos 0
back_left a b p h = let turn = area_turned p a b in omega (arith, sums)

back_right : (a b p : Place) → area_of b a p <ℤ pos 0 → pos 0 <ℤ area_of a b p
back_right a b p h = let turn = area_turned p a b in omega (arith, sums)

beyond_one_hand : (frame : Frame) (rising : Bool) (chain : List Place) (p : Place) → IsBeyond chain p → OnOneHand frame rising chain p
beyond_one_hand Plain true chain p (West all) = record {
  hand = Left;
  all = λ i j wi wj h k.
      absurd (none_west (vertex_at chain i) (vertex_at chain j) p h (at_vertex (λ v. p.x <ℤ v.x) chain i all wi));
}
beyond_one_hand Plain true chain p (East all) = record {
  hand = Left;
  all = λ i j wi wj h k.
      absurd (none_east (vertex_at chain i) (vertex_at chain j) p k (at_vertex (λ v. v.x <ℤ p.x) chain j all wj));
}
beyond_one_hand Plain true chain p (South all) = record {
  hand = Right;
  all = λ i j wi wj h k.
      below_both (vertex_at chain i) (vertex_at chain j) p h k (at_vertex (λ v. p.y <ℤ v.y) chain i all wi)
      (at_vertex (λ v. p.y <ℤ v.y) chain j all wj);
}
beyond_one_hand Plain true chain p (North all) = record {
  hand = Left;
  all = λ i j wi wj h k.
      above_both (vertex_at chain i) (vertex_at chain j) p h k (at_vertex (λ v. v.y <ℤ p.y) chain i all wi)
      (at_vertex (λ v. v.y <ℤ p.y) chain j all wj);
}
beyond_one_hand Plain false chain p (West all) = record {
  hand = Left;
  all = λ i j wi wj h k.
      absurd (none_west (vertex_at chain j) (vertex_at chain i) p k (at_vertex (λ v. p.x <ℤ v.x) chain j all wj));
}
beyond_one_hand Plain false chain p (East all) = record {
  hand = Left;
  all = λ i j wi wj h k.
      absurd (none_east (vertex_at chain j) (vertex_at chain i) p h (at_vertex (λ v. v.x <ℤ p.x) chain i all wi));
}
beyond_one_hand Plain false chain p (South all) = record {
  hand = Left;
  all = λ i j wi wj h k.
      back_right (vertex_at chain i) (vertex_at chain j) p (below_both (vertex_at chain j) (vertex_at chain i) p k h
      (at_vertex (λ v. p.y <ℤ v.y) chain j all wj) (at_vertex (λ v. p.y <ℤ v.y) chain i all wi));
}
beyond_one_hand Plain false chain p (North all) = record {
  hand = Right;
  all = λ i j wi wj h k.
      back_left (vertex_at chain i) (vertex_at chain j) p (above_both (vertex_at chain j) (vertex_at chain i) p k h
      (at_vertex (λ v. v.y <ℤ p.y) chain j all wj) (at_vertex (λ v. v.y <ℤ p.y) chain i all wi));
}
beyond_one_hand Turned true chain p (South all) = record {
  hand = Left;
  all = λ i j wi wj h k.
      absurd (none_west (turned (vertex_at chain i)) (turned (vertex_at chain j)) (turned p) h
      (at_vertex (λ v. p.y <ℤ v.y) chain i all wi));
}
beyond_one_hand Turned true chain p (North all) = record {
  hand = Left;
  all = λ i j wi wj h k.
      absurd (none_east (turned (vertex_at chain i)) (turned (vertex_at chain j)) (turned p) k
      (at_vertex (λ v. v.y <ℤ p.y) chain j all wj));
}
beyond_one_hand Turned true chain p (West all) = record {
  hand = Left;
  all = λ i j wi wj h k.
      turned_below (vertex_at chain i) (vertex_at chain j) p h k (at_vertex (λ v. p.x <ℤ v.x) chain i all wi)
      (at_vertex (λ v. p.x <ℤ v.x) chain j all wj);
}
beyond_one_hand Turned true chain p (East all) = record {
  hand = Right;
  all = λ i j wi wj h k.
      turned_above (vertex_at chain i) (vertex_at chain j) p h k (at_vertex (λ v. v.x <ℤ p.x) chain i all wi)
      (at_vertex (λ v. v.x <ℤ p.x) chain j all wj);
}
beyond_one_hand Turned false chain p (South all) = record {
  hand = Left;
  all = λ i j wi wj h k.
      absurd (none_west (turned (vertex_at chain j)) (turned (vertex_at chain i)) (turned p) k
      (at_vertex (λ v. p.y <ℤ v.y) chain j all wj));
}
beyond_one_hand Turned false chain p (North all) = record {
  hand = Left;
  all = λ i j wi wj h k.
      absurd (none_east (turned (vertex_at chain j)) (turned (vertex_at chain i)) (turned p) h
      (at_vertex (λ v. v.y <ℤ p.y) chain i all wi));
}
beyond_one_hand Turned false chain p (West all) = record {
  hand = Right;
  all = λ i j wi wj h k.
      back_left (vertex_at chain i) (vertex_at chain j) p (turned_below (vertex_at chain j) (vertex_at chain i) p k h
      (at_vertex (λ v. p.x <ℤ v.x) chain j all wj) (at_vertex (λ v. p.x <ℤ v.x) chain i all wi));
}
beyond_one_hand Turned false chain p (East all) = record {
  hand = Left;
  all = λ i j wi wj h k.
      back_right (vertex_at chain i) (vertex_at chain j) p (turned_above (vertex_at chain j) (vertex_at chain i) p k h
      (at_vertex (λ v. v.x <ℤ p.x) chain j all wj) (at_vertex (λ v. v.x <ℤ p.x) chain i all wi));
}

-- The hand of an edge is the hand of each way along the chain that spans p.
pub beyond_keeps_hand : (frame : Frame) (rising : Bool) (chain : List Place) (p : Place) (s t i j : ℕ) (hand : Hand) → IsBeyond chain p
    → s < length chain → t < length chain → i < length chain → j < length chain → IsAlong frame rising (vertex_at chain s) p
    → IsAlong frame rising p (vertex_at chain t) → IsAlong frame rising (vertex_at chain i) p → IsAlong frame rising p (vertex_at chain j)
    → IsOnSide hand (vertex_at chain s) (vertex_at chain t) p → IsOnSide hand (vertex_at chain i) (vertex_at chain j) p
beyond_keeps_hand frame rising chain p s t i j hand beyond ws wt wi wj sp pt ip pj on =
    let one = beyond_one_hand frame rising chain p beyond in
    let same : one.hand ≡ hand = one_hand one.hand hand (vertex_at chain s) (vertex_at chain t) p (one.all s t ws wt sp pt) on in
    subst (λ (h : Hand). IsOnSide h (vertex_at chain i) (vertex_at chain j) p) same (one.all i j wi wj ip pj)
