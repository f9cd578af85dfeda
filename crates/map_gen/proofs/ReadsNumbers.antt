-- The coordinates of the made positions are small, and two neighbours on an arc are apart.
use Rattle.std.proofs.Common.{◌≡◌, inl, inr, ℕ, ◌+◌, ◌-◌, ◌*◌, ◌/◌, ◌%◌, ◌^◌, ◌<◌, ◌≤◌, false, ◌&&◌, ltb, cond, ℤ, pos, negsuc, ◌+ℤ◌, neg_ℤ}
use Rattle.std.proofs.Common.{◌≤ℤ◌, sym, ap, subst, arith, is_eq, Less, Greater, Equal}
use Rattle.std.specs.Ordering.{int_eq}
use Rattle.std.proofs.lemmas.Bool.{cond-true, cond-false, cond_both, cases_lt, lt-ltb, le-ltb, and_left, and_right}
use Rattle.std.proofs.lemmas.Int.{ints}
use Rattle.std.proofs.lemmas.Nat.{div_below, mod_below}
use lib.Signed.{mag}
use Rattle.grid_exact.specs.Geometry.{Place}
use Rattle.topo_reader.specs.Arcs.{same_place}
use Rattle.map_gen.specs.Shifts.{number, shift}
use Rattle.map_gen.specs.Lattice.{IsOffset, IsSmall}
use Rattle.map_gen.specs.Make.{across_count, arc_count, offset, across_position, up_position, position, town}

-- a coverage of 1 to 100 rows and columns
pub record IsSize (rows cols : ℕ) : Type 0 where
  pub some_rows : 1 ≤ rows
  pub few_rows : rows ≤ 100
  pub some_cols : 1 ≤ cols
  pub few_cols : cols ≤ 100

pub small-magnitude : (z : ℤ) → IsSmall z → mag z ≤ 2 ^ 30
small-magnitude (pos n) small = omega (arith, ints, small.high)
small-magnitude (negsuc n) small = omega (arith, ints, small.low)

-- ---- offsets

shift-small : (seed n : ℕ) → IsOffset (shift seed n)
shift-small seed n =
    let within : number seed n % 15 < 15 = mod_below (number seed n) 15 (omega arith) in
    record { low = omega (arith, ints, within); high = omega (arith, ints, within) }

pub offset-small : (seed arc k : ℕ) → IsOffset (offset seed arc k)
offset-small seed arc k =
    cond_both (ltb 0 k && ltb k 8) (shift seed (7 * arc + k)) (pos 0) IsOffset (λ e. shift-small seed (7 * arc + k)) (λ e.
    record { low = omega (arith, ints); high = omega (arith, ints) })

-- ---- which way an arc runs

pub across-is : (rows cols seed arc k : ℕ) → arc < across_count rows cols → position rows cols seed arc k ≡ across_position cols seed arc k
across-is rows cols seed arc k before = cond-true (ltb arc (across_count rows cols)) _ _ (lt-ltb arc (across_count rows cols) before)

pub up-is : (rows cols seed arc k : ℕ) → across_count rows cols ≤ arc
    → position rows cols seed arc k ≡ up_position rows cols seed (arc - across_count rows cols) k
up-is rows cols seed arc k past = cond-false (ltb arc (across_count rows cols)) _ _ (le-ltb arc (across_count rows cols) past)

-- ---- coordinates

pub record IsSmallPlace (p : Place) : Type 0 where
  pub across : IsSmall p.x
  pub up : IsSmall p.y
  -- so that a town above it is small too
  pub lower : p.y ≤ℤ pos 6499

small-pair : (x y : ℤ) → neg_ℤ (pos 7) ≤ℤ x → x ≤ℤ pos 6499 → neg_ℤ (pos 7) ≤ℤ y → y ≤ℤ pos 6499 → IsSmallPlace (record { x = x; y = y })
small-pair x y a b c d = record {
  across = record { low = a; high = omega (arith, ints, b) };
  up = record { low = c; high = omega (arith, ints, d) };
  lower = d;
}

across-small : (rows cols seed arc k : ℕ) → IsSize rows cols → arc < across_count rows cols → k < 9
    → IsSmallPlace (across_position cols seed arc k)
across-small rows cols seed arc k size before few =
    let some : 0 < cols = omega (arith, size.some_cols) in
    let column : arc % cols < cols = mod_below arc cols some in
    let line : arc / cols < rows + 1 = div_below arc cols (rows + 1) some before in
    let off = offset-small seed arc k in
    let x : 64 * (arc % cols) + 8 * k ≤ 6499 = omega (arith, column, few, size.few_cols) in
    let y : 64 * (arc / cols) ≤ 6400 = omega (arith, line, size.few_rows) in
    small-pair (pos (64 * (arc % cols) + 8 * k)) (pos (64 * (arc / cols)) +ℤ offset seed arc k)
    (omega (arith, ints)) (omega (arith, ints, x)) (omega (arith, ints, off.low)) (omega (arith, ints, y, off.high))

up-small : (rows cols seed arc k : ℕ) → IsSize rows cols → arc < rows * (cols + 1) → k < 9 → IsSmallPlace (up_position rows cols seed arc k)
up-small rows cols seed arc k size before few =
    let some : 0 < cols + 1 = omega arith in
    let column : arc % (cols + 1) < cols + 1 = mod_below arc (cols + 1) some in
    let line : arc / (cols + 1) < rows = div_below arc (cols + 1) rows some before in
    let off = offset-small seed (across_count rows cols + arc) k in
    let x : 64 * (arc % (cols + 1)) ≤ 6400 = omega (arith, column, size.few_cols) in
    let y : 64 * (arc / (cols + 1)) + 8 * k ≤ 6499 = omega (arith, line, few, size.few_rows) in
    small-pair (pos (64 * (arc % (cols + 1))) +ℤ offset seed (across_count rows cols + arc) k) (pos (64 * (arc / (cols + 1)) + 8 * k))
    (omega (arith, ints, off.low)) (omega (arith, ints, x, off.high)) (omega (arith, ints)) (omega (arith, ints, y))

pub position-small : (rows cols seed arc k : ℕ) → IsSize rows cols → arc < arc_count rows cols → k < 9
    → IsSmallPlace (position rows cols seed arc k)
position-small rows cols seed arc k size before few =
    elim (cases_lt arc (across_count rows cols)) [
      | inl lower ↦ subst IsSmallPlace (sym (across-is rows cols seed arc k lower)) (across-small rows cols seed arc k size lower few)
      | inr upper ↦
          let within : arc - across_count rows cols < rows * (cols + 1) = omega arith in
          subst IsSmallPlace (sym (up-is rows cols seed arc k upper))
          (up-small rows cols seed (arc - across_count rows cols) k size within few)
    ]

one-above : (z : ℤ) → IsSmall z → z ≤ℤ pos 6499 → IsSmall (z +ℤ pos 1)
one-above z small lower = record { low = omega (arith, ints, small.low); high = omega (arith, ints, lower) }

pub record IsSmallTown (p : Place) : Type 0 where
  pub across : IsSmall p.x
  pub up : IsSmall p.y

pub town-small : (rows cols seed arc : ℕ) → IsSize rows cols → arc < across_count rows cols → IsSmallTown (town rows cols seed arc)
town-small rows cols seed arc size before =
    let within : arc < arc_count rows cols = omega arith in
    let middle = position-small rows cols seed arc 4 size within (omega arith) in
    record { across = middle.across; up = one-above (position rows cols seed arc 4).y middle.up middle.lower }

-- ---- neighbours

pos-apart : (m n : ℕ) → m < n → int_eq (pos m) (pos n) ≡ false
pos-apart m n before = ap is_eq (cond-true (ltb m n) Less (cond (ltb n m) Greater Equal) (lt-ltb m n before))

across-moves : (cols seed arc k : ℕ) → same_place (across_position cols seed arc k) (across_position cols seed arc (k + 1)) ≡ false
across-moves cols seed arc k =
    let further : 64 * (arc % cols) + 8 * k < 64 * (arc % cols) + 8 * (k + 1) = omega arith in
    and_left (int_eq (pos (64 * (arc % cols) + 8 * k)) (pos (64 * (arc % cols) + 8 * (k + 1)))) _
    (pos-apart (64 * (arc % cols) + 8 * k) (64 * (arc % cols) + 8 * (k + 1)) further)

up-moves : (rows cols seed arc k : ℕ) → same_place (up_position rows cols seed arc k) (up_position rows cols seed arc (k + 1)) ≡ false
up-moves rows cols seed arc k =
    let further : 64 * (arc / (cols + 1)) + 8 * k < 64 * (arc / (cols + 1)) + 8 * (k + 1) = omega arith in
    and_right _ (int_eq (pos (64 * (arc / (cols + 1)) + 8 * k)) (pos (64 * (arc / (cols + 1)) + 8 * (k + 1))))
    (pos-apart (64 * (arc / (cols + 1)) + 8 * k) (64 * (arc / (cols + 1)) + 8 * (k + 1)) further)

same-apart : (a b c d : Place) → a ≡ c → b ≡ d → same_place c d ≡ false → same_place a b ≡ false
same-apart a b c d p q apart = rw (p, q) apart

pub position-moves : (rows cols seed arc k : ℕ) → same_place (position rows cols seed arc k) (position rows cols seed arc (k + 1)) ≡ false
position-moves rows cols seed arc k =
    elim (cases_lt arc (across_count rows cols)) [
      | inl lower ↦ same-apart (position rows cols seed arc k) (position rows cols seed arc (k + 1)) (across_position cols seed arc k)
          (across_position cols seed arc (k + 1))
          (across-is rows cols seed arc k lower) (across-is rows cols seed arc (k + 1) lower) (across-moves cols seed arc k)
      | inr upper ↦
          let up = arc - across_count rows cols in
          same-apart (position rows cols seed arc k) (position rows cols seed arc (k + 1)) (up_position rows cols seed up k)
          (up_position rows cols seed up (k + 1))
          (up-is rows cols seed arc k upper) (up-is rows cols seed arc (k + 1) upper) (up-moves rows cols seed up k)
    ]
