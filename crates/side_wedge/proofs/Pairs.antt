-- What stands beside edges that are passed over, and beside edges that are tested.
use Rattle.std.proofs.Common.{◌≡◌, inl, inr, ℕ, zero, suc, ◌+◌, ◌-◌, ◌*◌, ◌<◌, ◌≤◌, List, length, slice_index, ap, subst, arith}
use Rattle.std.proofs.lemmas.Bool.{cases_lt}
use Rattle.grid_exact.specs.Geometry.{Place}
use Rattle.lane_kernels.specs.declared.side.Hand.{Hand}
use Rattle.lane_kernels.specs.declared.side.Hand.TheVariants.{Left, Right}
use Rattle.lane_kernels.specs.Hands.{IsOnSide}
use Rattle.side_wedge.specs.Flanks.{Flanks, StandsInRow, KeepsSides, row_of}
use Rattle.side_wedge.specs.Rows.{KeepsEdges}

-- the rows lie one behind the other
abbrev pub AreOrdered : List ℕ → Type 0
AreOrdered starts = (row : ℕ) → row + 1 < length starts → slice_index starts row ≤ slice_index starts (row + 1)

rises_by : (n a b : ℕ) (starts : List ℕ) → AreOrdered starts → a + n ≡ b → b < length starts → slice_index starts a ≤ slice_index starts b
rises_by zero a b starts ordered size within = let same : a ≡ b = omega arith in let value = ap (slice_index starts) same in omega arith
rises_by (suc n) a b starts ordered size within =
    let step = ordered a (omega arith) in
    let rest = rises_by n (a + 1) b starts ordered (omega arith) within in
    omega arith

rises : (a b : ℕ) (starts : List ℕ) → AreOrdered starts → a ≤ b → b < length starts → slice_index starts a ≤ slice_index starts b
rises a b starts ordered order within = rises_by (b - a) a b starts ordered (omega arith) within

-- nothing stands in rows that begin where they end
none_stands : (b : Flanks) (first last row : ℕ) (p : Place) → AreOrdered b.starts → first ≤ row → row < last → last < length b.starts
    → slice_index b.starts last ≤ slice_index b.starts first → ¬ (StandsInRow b row p)
none_stands b first last row p ordered up down within empty stands =
    let low = stands.in_row.low in
    let high = stands.in_row.high in
    let one = rises first row b.starts ordered up (omega arith) in
    let two = rises (row + 1) last b.starts ordered (omega arith) within in
    omega arith

row_below : (s j : ℕ) (hand : Hand) → s < j → row_of s hand < 2 * j
row_below s j Left below = omega arith
row_below s j Right below = omega arith

row_above : (i s : ℕ) (hand : Hand) → i ≤ s → 2 * i ≤ row_of s hand
row_above i s Left above = omega arith
row_above i s Right above = omega arith

pub keeps_none : (b : Flanks) (i j : ℕ) (a v : Place) → AreOrdered b.starts → 2 * j < length b.starts
    → slice_index b.starts (2 * j) ≤ slice_index b.starts (2 * i) → KeepsEdges b i j a v
keeps_none b i j a v ordered within empty s above below hand p stands =
    absurd (none_stands b (2 * i) (2 * j) (row_of s hand) p ordered (row_above i s hand above) (row_below s j hand below) within empty
    stands)

pub keeps_both : (b : Flanks) (edge : ℕ) (a v : Place) → ((p : Place) → StandsInRow b (2 * edge) p → IsOnSide Left a v p)
    → ((p : Place) → StandsInRow b (2 * edge + 1) p → IsOnSide Right a v p) → KeepsSides b edge a v
keeps_both b edge a v left right Left p stands = left p stands
keeps_both b edge a v left right Right p stands = right p stands

pub keeps_more : (b : Flanks) (i edge : ℕ) (a v : Place) → KeepsEdges b i edge a v → KeepsSides b edge a v → KeepsEdges b i (edge + 1) a v
keeps_more b i edge a v so_far here s above below = elim (cases_lt s edge) [
  | inl before ↦ so_far s above before
  | inr not_before ↦ let same : edge ≡ s = omega arith in subst (λ (n : ℕ). KeepsSides b n a v) same here
]

pub keeps_joined : (b : Flanks) (i edge j : ℕ) (a v : Place) → KeepsEdges b i edge a v → KeepsEdges b edge j a v → KeepsEdges b i j a v
keeps_joined b i edge j a v first second s above below = elim (cases_lt s edge) [
  | inl before ↦ first s above before
  | inr not_before ↦ second s not_before below
]
