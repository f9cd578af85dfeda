-- Two edges of wavy sides, by the places of their ends: where they have a point in common, and that a town is on none.
--
-- A side lies on a line, from the node `start` of the lattice to the next. `side_place` has the positions of a side that runs
-- across; a side that runs up is one with its axes exchanged.
use Rattle.std.proofs.Common.{◌≡◌, ◌⊎◌, inl, inr, ℕ, zero, suc, ◌+◌, ◌-◌, ◌*◌, ◌<◌, ℤ, pos, negsuc, neg_ℤ, ◌+ℤ◌, ◌-ℤ◌, ◌*ℤ◌, ◌≤ℤ◌, refl}
use Rattle.std.proofs.Common.{sym, ap, ◌∙◌, arith}
use Rattle.std.proofs.lemmas.Int.{ints}
use Rattle.std.proofs.lemmas.Bool.{cases_lt}
use Rattle.grid_exact.specs.Geometry.{Place, IsOnSegment, CommonPoint, turned}
use Rattle.grid_exact.proofs.WholeLaws.{sums}
use Rattle.grid_exact.proofs.Commons.{up_of, at_start, at_end, common_at_start}
use Rattle.map_gen.specs.Lattice.{IsOffset}
use Rattle.map_gen.proofs.Sides.{off_of, along_along, off_off, along_off, multiple_of, Meets, meets, off_below, off_above, one_line, IsWave}
use Rattle.map_gen.proofs.Sides.{flat, node_of_first}
use Rattle.map_gen.proofs.Sides.Multiple.{Nought, Above, Below}
use Rattle.map_gen.proofs.Sides.Meets.{Level, Later, Earlier}
use Rattle.map_gen.proofs.Sides.IsWave.{Rising, Falling}

-- position k of the side on this line from this node, where position k is so far off the line
abbrev pub side_place : ℕ → ℕ → (ℕ → ℤ) → ℕ → Place
side_place line start off k = record { x = pos (64 * start + 8 * k); y = pos (64 * line) +ℤ off k }

-- the positions of a side are at most 7 off its line, and its ends are on it
pub record IsWavy (off : ℕ → ℤ) : Type 0 where
  pub each : (k : ℕ) → IsOffset (off k)
  pub starts : off 0 ≡ pos 0
  pub ends : off 8 ≡ pos 0

-- at most 8 off the line
pub record IsClose (z : ℤ) : Type 0 where
  pub low : negsuc 7 ≤ℤ z
  pub high : z ≤ℤ pos 8

pub close : (off : ℕ → ℤ) (k : ℕ) → IsWavy off → IsClose (off k)
close off k wavy =
    let small : IsOffset (off k) = wavy.each k in
    let from_low : neg_ℤ (pos 7) ≤ℤ off k = small.low in
    let to_high : off k ≤ℤ pos 7 = small.high in
    record { low = omega (arith, ints); high = omega (arith, ints) }

-- how many steps of 8 along the line position k is from the origin
abbrev pub steps : ℕ → ℕ → ℤ
steps start k = pos (8 * start + k)

along_is : (start k : ℕ) → pos (64 * start + 8 * k) ≡ pos 8 *ℤ steps start k
along_is start k = ap pos (omega arith)

along_more : (start k : ℕ) → pos (64 * start + 8 * (k + 1)) ≡ pos 8 *ℤ (steps start k +ℤ pos 1)
along_more start k = ap pos (omega arith)

-- ---- two sides that run the same way

pub record MeetAlong (line line2 : ℕ) (d g s t : ℤ) : Type 0 where
  pub same_line : line ≡ line2
  pub meets : Meets d g s t

same_number : (l k : ℕ) → pos l ≡ pos k → l ≡ k
same_number l k e = omega (arith, ints)

one_eighth : (y z : ℤ) → pos 8 *ℤ y ≡ pos 8 *ℤ z → y ≡ z
one_eighth y z e = omega (arith, ints)

pub parallel : (line start : ℕ) (off : ℕ → ℤ) (k line2 start2 : ℕ) (off2 : ℕ → ℤ) (k2 : ℕ) → IsClose (off k) → IsClose (off (k + 1))
    → IsClose (off2 k2) → IsClose (off2 (k2 + 1))
    → (h : CommonPoint (side_place line start off k) (side_place line start off (k + 1)) (side_place line2 start2 off2 k2)
    (side_place line2 start2 off2 (k2 + 1))) → MeetAlong line line2 h.denominator (steps start k -ℤ steps start2 k2) h.first h.second
parallel line start off k line2 start2 off2 k2 a b c e h =
    let d = h.denominator in
    let s = h.first in
    let t = h.second in
    let across = along_along d s t (pos (64 * start + 8 * k)) (pos (64 * start + 8 * (k + 1))) (pos (64 * start2 + 8 * k2))
    (pos (64 * start2 + 8 * (k2 + 1))) (steps start k) (steps start2 k2) (along_is start k) (along_more start k) (along_is start2 k2)
    (along_more start2 k2) h.across in
    let up = off_off d s t (pos (64 * line) +ℤ off k) (pos (64 * line) +ℤ off (k + 1)) (pos (64 * line2) +ℤ off2 k2)
    (pos (64 * line2) +ℤ off2 (k2 + 1)) (pos line) (pos line2) (off k) (off (k + 1)) (off2 k2) (off2 (k2 + 1)) refl refl refl refl h.up
    in
    record {
      same_line =
          same_number line line2
          (one_line d (pos line) (pos line2) (off_of d s (off k) (off (k + 1))) (off_of d t (off2 k2) (off2 (k2 + 1))) h.whole
          (off_above d s (off k) (off (k + 1)) (negsuc 7) h.first_low h.first_high a.low b.low)
          (off_below d s (off k) (off (k + 1)) (pos 8) h.first_low h.first_high a.high b.high)
          (off_above d t (off2 k2) (off2 (k2 + 1)) (negsuc 7) h.second_low h.second_high c.low e.low)
          (off_below d t (off2 k2) (off2 (k2 + 1)) (pos 8) h.second_low h.second_high c.high e.high)
          up);
      meets = meets d (steps start k -ℤ steps start2 k2) s t h.whole h.first_low h.first_high h.second_low h.second_high
          (one_eighth (d *ℤ (steps start k -ℤ steps start2 k2) +ℤ s) t across);
    }

-- where an edge has a point in common with a later edge of the same direction: the next edge of its side, or the first edge of
-- the next side
pub data MeetNext (start k start2 k2 : ℕ) (d s t : ℤ) : Type 0 where
  InSide : start ≡ start2 → k + 1 ≡ k2 → s ≡ d → t ≡ pos 0 → MeetNext start k start2 k2 d s t
  AtNode : k ≡ 7 → k2 ≡ 0 → s ≡ d → t ≡ pos 0 → MeetNext start k start2 k2 d s t

next_by_steps : (start k start2 k2 : ℕ) (d s t : ℤ) → k < 8 → k2 < 8 → 8 * start + k < 8 * start2 + k2
    → Meets d (steps start k -ℤ steps start2 k2) s t → MeetNext start k start2 k2 d s t
next_by_steps start k start2 k2 d s t inside inside2 before (Level e f) = absurd (omega (arith, ints))
next_by_steps start k start2 k2 d s t inside inside2 before (Later e f h) = absurd (omega (arith, ints))
next_by_steps start k start2 k2 d s t inside inside2 before (Earlier e f h) =
    let next : 8 * start + k + 1 ≡ 8 * start2 + k2 = omega (arith, ints) in
    elim (cases_lt k 7) [
      | inl less ↦ InSide (omega arith) (omega arith) f h
      | inr last ↦ AtNode (omega arith) (omega arith) f h
    ]

pub record MeetInOrder (line line2 start k start2 k2 : ℕ) (d s t : ℤ) : Type 0 where
  pub same_line : line ≡ line2
  pub next : MeetNext start k start2 k2 d s t

pub in_order : (line start : ℕ) (off : ℕ → ℤ) (k line2 start2 : ℕ) (off2 : ℕ → ℤ) (k2 : ℕ) → IsWavy off → IsWavy off2 → k < 8 → k2 < 8
    → (line ≡ line2 → 8 * start + k < 8 * start2 + k2)
    → (h : CommonPoint (side_place line start off k) (side_place line start off (k + 1)) (side_place line2 start2 off2 k2)
    (side_place line2 start2 off2 (k2 + 1))) → MeetInOrder line line2 start k start2 k2 h.denominator h.first h.second
in_order line start off k line2 start2 off2 k2 wavy wavy2 inside inside2 before h =
    let there = parallel line start off k line2 start2 off2 k2 (close off k wavy) (close off (k + 1) wavy) (close off2 k2 wavy2)
    (close off2 (k2 + 1) wavy2) h in
    record {
      same_line = there.same_line;
      next = next_by_steps start k start2 k2 h.denominator h.first h.second inside inside2
          (before there.same_line) there.meets;
    }

-- ---- a side that runs across, and one that runs up

-- n steps from the node a position is less than 8 n off the line
pub record IsWithin (n : ℕ) (z : ℤ) : Type 0 where
  pub low : (negsuc 6 *ℤ pos n) ≤ℤ z
  pub high : z ≤ℤ (pos 7 *ℤ pos n)

within : (off : ℕ → ℤ) (k n : ℕ) → IsWavy off → (n ≡ 0 → off k ≡ pos 0) → IsWithin n (off k)
within off k zero wavy on = let none : off k ≡ pos 0 = on refl in record { low = omega (arith, ints); high = omega (arith, ints) }
within off k (suc n) wavy on =
    let small : IsOffset (off k) = wavy.each k in
    let from_low : neg_ℤ (pos 7) ≤ℤ off k = small.low in
    let to_high : off k ≤ℤ pos 7 = small.high in
    record { low = omega (arith, ints); high = omega (arith, ints) }

-- how many steps past a node of the line position k is
abbrev pub steps_past : ℕ → ℕ → ℕ → ℤ
steps_past start k node = steps start k -ℤ pos 8 *ℤ pos node

rising : (m o p : ℤ) (n : ℕ) → m ≡ pos n → IsWithin n o → IsWithin (n + 1) p → IsWave m o p
rising m o p n e a b =
    let a_low = a.low in
    let a_high = a.high in
    let b_low = b.low in
    let b_high = b.high in
    Rising (omega (arith, ints)) (omega (arith, ints)) (omega (arith, ints)) (omega (arith, ints)) (omega (arith, ints))

falling : (m o p : ℤ) (n : ℕ) → m +ℤ pos 1 ≡ pos 0 -ℤ pos n → IsWithin (n + 1) o → IsWithin n p → IsWave m o p
falling m o p n e a b =
    let a_low = a.low in
    let a_high = a.high in
    let b_low = b.low in
    let b_high = b.high in
    Falling (omega (arith, ints)) (omega (arith, ints)) (omega (arith, ints)) (omega (arith, ints)) (omega (arith, ints))

wave : (start : ℕ) (off : ℕ → ℤ) (k node : ℕ) → IsWavy off → k < 8 → IsWave (steps_past start k node) (off k) (off (k + 1))
wave start off k node wavy inside =
    elim (cases_lt start node) [
      | inl before ↦
          let n : ℕ = 8 * node - (8 * start + k + 1) in
          falling (steps_past start k node) (off k) (off (k + 1)) n (omega (arith, ints))
          (within off k (n + 1) wavy (λ e. absurd (omega arith)))
          (within off (k + 1) n wavy (λ e. let last : k + 1 ≡ 8 = omega arith in ap off last ∙ wavy.ends))
      | inr past ↦
          let n : ℕ = 8 * start + k - 8 * node in
          rising (steps_past start k node) (off k) (off (k + 1)) n (omega (arith, ints))
          (within off k n wavy (λ e. let first : k ≡ 0 = omega arith in ap off first ∙ wavy.starts))
          (within off (k + 1) (n + 1) wavy (λ e. absurd (omega arith)))
    ]

-- the fraction s / d of the way of the edge from position k is an end of the side
pub data IsSideEnd (k : ℕ) (d s : ℤ) : Type 0 where
  AtFirst : k ≡ 0 → s ≡ pos 0 → IsSideEnd k d s
  AtLast : k ≡ 7 → s ≡ d → IsSideEnd k d s

end_by_steps : (start k node : ℕ) (d s : ℤ) → k < 8 → pos 1 ≤ℤ d → Meets d (steps_past start k node) s (pos 0) → IsSideEnd k d s
end_by_steps start k node d s inside one (Level e f) = AtFirst (omega (arith, ints)) f
end_by_steps start k node d s inside one (Later e f h) = absurd (omega (arith, ints))
end_by_steps start k node d s inside one (Earlier e f h) = AtLast (omega (arith, ints)) f

end_of_side : (start k node : ℕ) (d s : ℤ) → k < 8 → pos 1 ≤ℤ d → pos 0 ≤ℤ s → s ≤ℤ d → d *ℤ steps_past start k node +ℤ s ≡ pos 0
    → IsSideEnd k d s
end_of_side start k node d s inside one low high e = end_by_steps start k node d s inside one
    (meets d (steps_past start k node) s (pos 0) one low high (omega (arith, ints)) (omega (arith, sums)) e)

pub record MeetAtEnds (k k2 : ℕ) (d s t : ℤ) : Type 0 where
  pub first : IsSideEnd k d s
  pub second : IsSideEnd k2 d t

pub crossing : (line start : ℕ) (off : ℕ → ℤ) (k line2 start2 : ℕ) (off2 : ℕ → ℤ) (k2 : ℕ) → IsWavy off → IsWavy off2 → k < 8 → k2 < 8
    → (h : CommonPoint (side_place line start off k) (side_place line start off (k + 1)) (turned (side_place line2 start2 off2 k2))
    (turned (side_place line2 start2 off2 (k2 + 1)))) → MeetAtEnds k k2 h.denominator h.first h.second
crossing line start off k line2 start2 off2 k2 wavy wavy2 inside inside2 h =
    let d = h.denominator in
    let s = h.first in
    let t = h.second in
    let m = steps_past start k line2 in
    let m2 = steps_past start2 k2 line in
    let across : pos 8 *ℤ (d *ℤ m +ℤ s) ≡ off_of d t (off2 k2) (off2 (k2 + 1)) =
    along_off d s t (pos (64 * start + 8 * k)) (pos (64 * start + 8 * (k + 1))) (pos (64 * line2) +ℤ off2 k2)
    (pos (64 * line2) +ℤ off2 (k2 + 1)) (steps start k) (pos line2) (off2 k2) (off2 (k2 + 1)) (along_is start k) (along_more start k)
    refl refl h.across in
    let up : pos 8 *ℤ (d *ℤ m2 +ℤ t) ≡ off_of d s (off k) (off (k + 1)) =
    along_off d t s (pos (64 * start2 + 8 * k2)) (pos (64 * start2 + 8 * (k2 + 1))) (pos (64 * line) +ℤ off k)
    (pos (64 * line) +ℤ off (k + 1)) (steps start2 k2) (pos line) (off k) (off (k + 1)) (along_is start2 k2) (along_more start2 k2) refl
    refl (sym h.up) in
    let flat1 = flat d s m (off k) (off (k + 1)) h.whole h.first_low h.first_high (wave start off k line2 wavy inside) in
    let flat2 = flat d t m2 (off2 k2) (off2 (k2 + 1)) h.whole h.second_low h.second_high (wave start2 off2 k2 line wavy2 inside2) in
    record {
      first = end_of_side start k line2 d s inside h.whole h.first_low h.first_high
          (node_of_first (d *ℤ m +ℤ s) (off_of d s (off k) (off (k + 1))) (d *ℤ m2 +ℤ t) (off_of d t (off2 k2) (off2 (k2 + 1))) flat1 flat2
          across up);
      second = end_of_side start2 k2 line d t inside2 h.whole h.second_low h.second_high
          (node_of_first (d *ℤ m2 +ℤ t) (off_of d t (off2 k2) (off2 (k2 + 1))) (d *ℤ m +ℤ s) (off_of d s (off k) (off (k + 1))) flat2 flat1
          up across);
    }

-- ---- a town, 1 above the middle of a side that runs across

abbrev pub town_of_side : ℕ → ℕ → (ℕ → ℤ) → Place
town_of_side line start off = record { x = pos (64 * start + 8 * 4); y = (pos (64 * line) +ℤ off 4) +ℤ pos 1 }

-- the town as position 4 of a side that is 1 above
abbrev pub above_middle : (ℕ → ℤ) → ℕ → ℤ
above_middle off k = off 4 +ℤ pos 1

close_above : (off : ℕ → ℤ) → IsWavy off → IsClose (off 4 +ℤ pos 1)
close_above off wavy =
    let small : IsOffset (off 4) = wavy.each 4 in
    let from_low : neg_ℤ (pos 7) ≤ℤ off 4 = small.low in
    let to_high : off 4 ≤ℤ pos 7 = small.high in
    record { low = omega (arith, ints); high = omega (arith, ints) }

above_is : (y z : ℤ) → (y +ℤ z) +ℤ pos 1 ≡ y +ℤ (z +ℤ pos 1)
above_is y z = omega (arith, sums)

pub town_is : (line start : ℕ) (off : ℕ → ℤ) → town_of_side line start off ≡ side_place line start (above_middle off) 4
town_is line start off = ap (λ (y : ℤ). record { x = pos (64 * start + 8 * 4); y = y }) (above_is (pos (64 * line)) (off 4))

-- the town of the side is on an edge of the other only where both are one
pub record IsTownOver (line start : ℕ) (off : ℕ → ℤ) (line2 start2 : ℕ) (off2 : ℕ → ℤ) : Type 0 where
  pub same_line : line ≡ line2
  pub same_start : start ≡ start2
  pub over : off 4 +ℤ pos 1 ≡ off2 4

same_off : (l l2 : ℕ) (y z : ℤ) → l ≡ l2 → pos (64 * l) +ℤ y ≡ pos (64 * l2) +ℤ z → y ≡ z
same_off l l2 y z e f = omega (arith, ints)

town_beside : (line start : ℕ) (off : ℕ → ℤ) (line2 start2 : ℕ) (off2 : ℕ
    → ℤ) (k2 : ℕ) (h : IsOnSegment (side_place line2 start2 off2 k2) (side_place line2 start2 off2 (k2 + 1))
    (side_place line start (above_middle off) 4)) → k2 < 8 → line ≡ line2
    → Meets h.denominator (steps start 4 -ℤ steps start2 k2) (pos 0) h.numerator → IsTownOver line start off line2 start2 off2
town_beside line start off line2 start2 off2 k2 h inside same (Level e f) =
    let at : k2 ≡ 4 = omega (arith, ints) in
    let spot = up_of (side_place line start (above_middle off) 4) (side_place line2 start2 off2 k2)
    (at_start (side_place line2 start2 off2 k2) (side_place line2 start2 off2 (k2 + 1)) (side_place line start (above_middle off) 4) h
    (sym f)) in
    record {
      same_line = same;
      same_start = omega (arith, ints);
      over = same_off line line2 (off 4 +ℤ pos 1) (off2 k2) same spot
          ∙ ap off2 at;
    }
town_beside line start off line2 start2 off2 k2 h inside same (Later e f g) =
    let at : k2 + 1 ≡ 4 = omega (arith, ints) in
    let spot = up_of (side_place line start (above_middle off) 4) (side_place line2 start2 off2 (k2 + 1))
    (at_end (side_place line2 start2 off2 k2) (side_place line2 start2 off2 (k2 + 1)) (side_place line start (above_middle off) 4) h g)
    in
    record {
      same_line = same;
      same_start = omega (arith, ints);
      over = same_off line line2 (off 4 +ℤ pos 1) (off2 (k2 + 1)) same spot
          ∙ ap off2 at;
    }
town_beside line start off line2 start2 off2 k2 h inside same (Earlier e f g) =
    let one = h.whole in
    absurd (omega (arith, ints))

pub town_on_across : (line start : ℕ) (off : ℕ → ℤ) (line2 start2 : ℕ) (off2 : ℕ → ℤ) (k2 : ℕ) → IsWavy off → IsWavy off2 → k2 < 8
    → IsOnSegment (side_place line2 start2 off2 k2) (side_place line2 start2 off2 (k2 + 1)) (side_place line start (above_middle off) 4)
    → IsTownOver line start off line2 start2 off2
town_on_across line start off line2 start2 off2 k2 wavy wavy2 inside h =
    let there =
    parallel line start (above_middle off) 4 line2 start2 off2 k2 (close_above off wavy) (close_above off wavy) (close off2 k2 wavy2)
    (close off2 (k2 + 1) wavy2)
    (common_at_start (side_place line start (above_middle off) 4) (side_place line start (above_middle off) 5)
    (side_place line2 start2 off2 k2) (side_place line2 start2 off2 (k2 + 1)) h) in
    town_beside line start off line2 start2 off2 k2 h inside there.same_line there.meets

-- eight steps of d are further than 7 off
far_along : (d z v : ℤ) → pos 1 ≤ℤ d → (d ≤ℤ z) ⊎ (z ≤ℤ (pos 0 -ℤ d)) → (negsuc 6 *ℤ d) ≤ℤ v → v ≤ℤ (pos 7 *ℤ d) → pos 8 *ℤ (z +ℤ pos 0) ≡ v
    → ⊥
far_along d z v one (inl far) low high e = omega (arith, ints)
far_along d z v one (inr far) low high e = omega (arith, ints)

middle_apart : (start node : ℕ) → steps_past start 4 node ≡ pos 0 → ⊥
middle_apart start node e = omega (arith, ints)

pub town_off_up : (line start : ℕ) (off : ℕ → ℤ) (line2 start2 : ℕ) (off2 : ℕ → ℤ) (k2 : ℕ) → IsWavy off2
    → IsOnSegment (turned (side_place line2 start2 off2 k2)) (turned (side_place line2 start2 off2 (k2 + 1)))
    (side_place line start (above_middle off) 4) → ⊥
town_off_up line start off line2 start2 off2 k2 wavy2 on =
    let h = common_at_start (side_place line start (above_middle off) 4) (side_place line start (above_middle off) 5)
    (turned (side_place line2 start2 off2 k2)) (turned (side_place line2 start2 off2 (k2 + 1))) on in
    let d = on.denominator in
    let t = on.numerator in
    let m = steps_past start 4 line2 in
    let across : pos 8 *ℤ (d *ℤ m +ℤ pos 0) ≡ off_of d t (off2 k2) (off2 (k2 + 1)) =
    along_off d (pos 0) t (pos (64 * start + 8 * 4)) (pos (64 * start + 8 * 5)) (pos (64 * line2) +ℤ off2 k2)
    (pos (64 * line2) +ℤ off2 (k2 + 1)) (steps start 4) (pos line2) (off2 k2) (off2 (k2 + 1)) (along_is start 4) (along_more start 4)
    refl refl h.across in
    let a = wavy2.each k2 in
    let b = wavy2.each (k2 + 1) in
    let low = off_above d t (off2 k2) (off2 (k2 + 1)) (negsuc 6) on.from_start on.to_end a.low b.low in
    let high = off_below d t (off2 k2) (off2 (k2 + 1)) (pos 7) on.from_start on.to_end a.high b.high in
    elim (multiple_of d m on.whole) [
      | Nought e f ↦ middle_apart start line2 e
      | Above e ↦ far_along d (d *ℤ m) (off_of d t (off2 k2) (off2 (k2 + 1))) on.whole (inl e) low high across
      | Below e ↦ far_along d (d *ℤ m) (off_of d t (off2 k2) (off2 (k2 + 1))) on.whole (inr e) low high across
    ]
