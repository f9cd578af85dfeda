-- The tests of four places at a time mean what they say: the numbers in the lanes are dot products and areas.
use Rattle.std.proofs.Common.{◌≡◌, ◌↔◌, ℕ, ◌+◌, ◌-◌, ◌%◌, ◌^◌, ◌<◌, ◌≤◌, Bool, true, false, ◌||◌, IsTrue, cond, eqb, List, [], ◌∷◌, map}
use Rattle.std.proofs.Common.{length, ℤ, pos, ◌+ℤ◌, ◌-ℤ◌, ◌*ℤ◌, ◌≤ℤ◌, ◌<ℤ◌, unsigned_abs, bit_or, w64, refl, ap, subst, arith, to_z, of_z}
use Rattle.std.specs.Simd.Lanes.{zip2, chunk, mask_l, top}
use Rattle.grid_exact.specs.Geometry.{Place, IsGridNumber, area_of, length2_of, dot_of}
use Rattle.grid_exact.proofs.WholeLaws.{sums, fits}
use Rattle.lane_kernels.specs.Places.{number_at, place_at, EachBetween, AreCoordinates}
use Rattle.lane_kernels.specs.Band.{IsInBand}
use Rattle.lane_kernels.proofs.LaneBits.{AreLanes, splat_lanes, load_lanes, add_lanes, sub_lanes, mul_lanes, add_bits, sub_bits, mul_bits}
use Rattle.lane_kernels.proofs.LaneBits.{signs_of, or_signs, none_negative, zeros}
use Rattle.lane_kernels.proofs.LaneSizes.{grid_fits, way_size, way_fits, product_size, sized_fits}
use Rattle.std.proofs.lemmas.Int.{ints, by_lt_z}
use lib.Signed.{lt_z}

-- the same number in each lane
abbrev pub splat : ℕ → List ℕ
splat n = n ∷ n ∷ n ∷ n ∷ []

-- the bits of the numbers that a segment gives to the lanes
pub record AreWays (a b : Place) (across up left low : ℕ) : Type 0 where
  pub a_x : IsGridNumber a.x
  pub a_y : IsGridNumber a.y
  pub b_x : IsGridNumber b.x
  pub b_y : IsGridNumber b.y
  pub is_across : across ≡ of_z w64 (b.x -ℤ a.x)
  pub is_up : up ≡ of_z w64 (b.y -ℤ a.y)
  pub is_left : left ≡ of_z w64 a.x
  pub is_low : low ≡ of_z w64 a.y

-- the same, by what the code reads of the points
pub ways_by : (a b : Place) (bx ax by' ay left low : ℤ) → (bx ≡ b.x) × IsGridNumber bx → (ax ≡ a.x) × IsGridNumber ax
    → (by' ≡ b.y) × IsGridNumber by' → (ay ≡ a.y) × IsGridNumber ay → left ≡ a.x → low ≡ a.y
    → AreWays a b (of_z w64 (to_z w64 (of_z w64 bx) -ℤ to_z w64 (of_z w64 ax)))
    (of_z w64 (to_z w64 (of_z w64 by') -ℤ to_z w64 (of_z w64 ay))) (of_z w64 left) (of_z w64 low)
ways_by a b bx ax by' ay left low f g h k is_left is_low =
    let bx_low = f.1.low in let bx_high = f.1.high in let ax_low = g.1.low in let ax_high = g.1.high in
    let by_low = h.1.low in let by_high = h.1.high in let ay_low = k.1.low in let ay_high = k.1.high in
    let is_bx = f.0 in let is_ax = g.0 in let is_by = h.0 in let is_ay = k.0 in
    let across : to_z w64 (of_z w64 bx) -ℤ to_z w64 (of_z w64 ax) ≡ b.x -ℤ a.x = omega (arith, fits) in
    let up : to_z w64 (of_z w64 by') -ℤ to_z w64 (of_z w64 ay) ≡ b.y -ℤ a.y = omega (arith, fits) in
    record {
      a_x = subst IsGridNumber g.0 g.1;
      a_y = subst IsGridNumber k.0 k.1;
      b_x = subst IsGridNumber f.0 f.1;
      b_y = subst IsGridNumber h.0 h.1;
      is_across = ap (of_z w64) across;
      is_up = ap (of_z w64) up;
      is_left = ap (of_z w64) is_left;
      is_low = ap (of_z w64) is_low;
    }

-- four places of the lists from the number `at` on
pub record AreFour (xs ys : List ℤ) (at : ℕ) : Type 0 where
  pub coordinates : AreCoordinates xs ys
  pub room : at + 4 ≤ length xs

module _ (a b : Place) (xs ys : List ℤ) (at : ℕ) (across up left low : ℕ) (ways : AreWays a b across up left low) (four : AreFour xs ys at)
  where
    abbrev pub far_bits : List ℕ
    far_bits = zip2 sub_bits (map (of_z w64) (chunk at 4 xs)) (splat left)

    abbrev pub high_bits : List ℕ
    high_bits = zip2 sub_bits (map (of_z w64) (chunk at 4 ys)) (splat low)

    abbrev pub along_bits : List ℕ
    along_bits = zip2 add_bits (zip2 mul_bits (splat across) far_bits) (zip2 mul_bits (splat up) high_bits)

    abbrev pub off_bits : List ℕ
    off_bits = zip2 sub_bits (zip2 mul_bits (splat across) high_bits) (zip2 mul_bits (splat up) far_bits)

    x_on_grid : (k : ℕ) → k < 4 → IsGridNumber (number_at xs (at + k))
    x_on_grid k h = let room = four.room in four.coordinates.x_on_grid (at + k) (omega arith)

    y_on_grid : (k : ℕ) → k < 4 → IsGridNumber (number_at ys (at + k))
    y_on_grid k h = let room = four.room in four.coordinates.y_on_grid (at + k) (omega arith)

    across_lanes : AreLanes (splat across) (λ k. b.x -ℤ a.x)
    across_lanes = splat_lanes across (b.x -ℤ a.x) (way_fits a.x b.x ways.a_x ways.b_x) ways.is_across

    up_lanes : AreLanes (splat up) (λ k. b.y -ℤ a.y)
    up_lanes = splat_lanes up (b.y -ℤ a.y) (way_fits a.y b.y ways.a_y ways.b_y) ways.is_up

    far_lanes : AreLanes far_bits (λ k. number_at xs (at + k) -ℤ a.x)
    far_lanes =
        sub_lanes (map (of_z w64) (chunk at 4 xs)) (splat left) (λ k. number_at xs (at + k)) (λ k. a.x)
        (load_lanes at xs four.room (λ k h. grid_fits (number_at xs (at + k)) (x_on_grid k h)))
        (splat_lanes left a.x (grid_fits a.x ways.a_x) ways.is_left)
        (λ k h. way_fits a.x (number_at xs (at + k)) ways.a_x (x_on_grid k h))

    high_lanes : AreLanes high_bits (λ k. number_at ys (at + k) -ℤ a.y)
    high_lanes =
        let room = four.room in
        let same = four.coordinates.same_length in
        sub_lanes (map (of_z w64) (chunk at 4 ys)) (splat low) (λ k. number_at ys (at + k)) (λ k. a.y)
        (load_lanes at ys (omega arith) (λ k h. grid_fits (number_at ys (at + k)) (y_on_grid k h)))
        (splat_lanes low a.y (grid_fits a.y ways.a_y) ways.is_low)
        (λ k h. way_fits a.y (number_at ys (at + k)) ways.a_y (y_on_grid k h))

    across_far : (k : ℕ) → k < 4 → unsigned_abs ((b.x -ℤ a.x) *ℤ (number_at xs (at + k) -ℤ a.x)) ≤ 2 ^ 60
    across_far k h = product_size (b.x -ℤ a.x) (number_at xs (at + k) -ℤ a.x) (way_size a.x b.x ways.a_x ways.b_x)
        (way_size a.x (number_at xs (at + k)) ways.a_x (x_on_grid k h))

    up_high : (k : ℕ) → k < 4 → unsigned_abs ((b.y -ℤ a.y) *ℤ (number_at ys (at + k) -ℤ a.y)) ≤ 2 ^ 60
    up_high k h = product_size (b.y -ℤ a.y) (number_at ys (at + k) -ℤ a.y) (way_size a.y b.y ways.a_y ways.b_y)
        (way_size a.y (number_at ys (at + k)) ways.a_y (y_on_grid k h))

    across_high : (k : ℕ) → k < 4 → unsigned_abs ((b.x -ℤ a.x) *ℤ (number_at ys (at + k) -ℤ a.y)) ≤ 2 ^ 60
    across_high k h = product_size (b.x -ℤ a.x) (number_at ys (at + k) -ℤ a.y) (way_size a.x b.x ways.a_x ways.b_x)
        (way_size a.y (number_at ys (at + k)) ways.a_y (y_on_grid k h))

    up_far : (k : ℕ) → k < 4 → unsigned_abs ((b.y -ℤ a.y) *ℤ (number_at xs (at + k) -ℤ a.x)) ≤ 2 ^ 60
    up_far k h = product_size (b.y -ℤ a.y) (number_at xs (at + k) -ℤ a.x) (way_size a.y b.y ways.a_y ways.b_y)
        (way_size a.x (number_at xs (at + k)) ways.a_x (x_on_grid k h))

    pub dot_size : (k : ℕ) → k < 4 → unsigned_abs (dot_of a b (place_at xs ys (at + k))) ≤ 2 ^ 61
    dot_size k h = let p = across_far k h in let q = up_high k h in omega (arith, fits)

    pub area_size : (k : ℕ) → k < 4 → unsigned_abs (area_of a b (place_at xs ys (at + k))) ≤ 2 ^ 61
    area_size k h = let p = across_high k h in let q = up_far k h in omega (arith, fits)

    pub along_lanes : AreLanes along_bits (λ k. dot_of a b (place_at xs ys (at + k)))
    along_lanes =
        add_lanes (zip2 mul_bits (splat across) far_bits) (zip2 mul_bits (splat up) high_bits) (λ k.
        (b.x -ℤ a.x) *ℤ (number_at xs (at + k) -ℤ a.x)) (λ k. (b.y -ℤ a.y) *ℤ (number_at ys (at + k) -ℤ a.y))
        (mul_lanes (splat across) far_bits (λ k. b.x -ℤ a.x) (λ k. number_at xs (at + k) -ℤ a.x) across_lanes far_lanes (λ k h.
        sized_fits _ (let s = across_far k h in omega arith)))
        (mul_lanes (splat up) high_bits (λ k. b.y -ℤ a.y) (λ k. number_at ys (at + k) -ℤ a.y) up_lanes high_lanes (λ k h.
        sized_fits _ (let s = up_high k h in omega arith)))
        (λ k h. sized_fits _ (let s = dot_size k h in omega arith))

    pub off_lanes : AreLanes off_bits (λ k. area_of a b (place_at xs ys (at + k)))
    off_lanes =
        sub_lanes (zip2 mul_bits (splat across) high_bits) (zip2 mul_bits (splat up) far_bits) (λ k.
        (b.x -ℤ a.x) *ℤ (number_at ys (at + k) -ℤ a.y)) (λ k. (b.y -ℤ a.y) *ℤ (number_at xs (at + k) -ℤ a.x))
        (mul_lanes (splat across) high_bits (λ k. b.x -ℤ a.x) (λ k. number_at ys (at + k) -ℤ a.y) across_lanes high_lanes (λ k h.
        sized_fits _ (let s = across_high k h in omega arith)))
        (mul_lanes (splat up) far_bits (λ k. b.y -ℤ a.y) (λ k. number_at xs (at + k) -ℤ a.x) up_lanes far_lanes (λ k h.
        sized_fits _ (let s = up_far k h in omega arith)))
        (λ k h. sized_fits _ (let s = area_size k h in omega arith))

-- ---- what the sign bits say

-- whether no lane of p is negative, by the bits of its lanes
abbrev pub is_none_negative : List ℕ → Bool
is_none_negative p = eqb (mask_l (map (top 63) (zip2 (λ a b. cond (lt_z (to_z w64 a) (to_z w64 b)) (2 ^ 64 - 1) 0) p zeros)) % 2 ^ 64) 0

pub between_four : (at : ℕ) (P : Place → Type 0) (xs ys : List ℤ) → ((k : ℕ) → k < 4 → P (place_at xs ys (at + k)))
    ↔ EachBetween at (at + 4) P xs ys
between_four at P xs ys = (
  λ h k from to. let same : at + (k - at) ≡ k = omega arith in subst (λ (j : ℕ). P (place_at xs ys j)) same (h (k - at) (omega arith)),
  λ h k l. h (at + k) (omega arith) (omega arith),
)

not_negative : (z : ℤ) → lt_z z (pos 0) ≡ false → pos 0 ≤ℤ z
not_negative z e = by_lt_z z (pos 0) (λ h. let k : lt_z z (pos 0) ≡ true = lt-true' z h in absurd (cc)) (λ h. h)
  where
    lt-true' : (z : ℤ) → z <ℤ pos 0 → lt_z z (pos 0) ≡ true
    lt-true' z h = grind (arith, ints)

negative_not : (z : ℤ) → pos 0 ≤ℤ z → lt_z z (pos 0) ≡ false
negative_not z h = grind (arith, ints)

pub on_left_lanes : (a b : Place) (xs ys : List ℤ) (at : ℕ) (across up left low one : ℕ) (ways : AreWays a b across up left low) (four :
    AreFour xs ys at) → one ≡ of_z w64 (pos 1)
    → IsTrue (is_none_negative (zip2 sub_bits (off_bits a b xs ys at across up left low ways four) (splat one)))
    ↔ EachBetween at (at + 4) (λ p. pos 0 <ℤ area_of a b p) xs ys
on_left_lanes a b xs ys at across up left low one ways four is_one =
    let off = off_bits a b xs ys at across up left low ways four in
    let area = λ (k : ℕ). area_of a b (place_at xs ys (at + k)) in
    let lanes = sub_lanes off (splat one) area (λ k. pos 1) (off_lanes a b xs ys at across up left low ways four)
    (splat_lanes one (pos 1) (sized_fits (pos 1) (omega arith)) is_one) (λ k h.
    sized_fits _ (let s = area_size a b xs ys at across up left low ways four k h in omega (arith, fits))) in
    let both = none_negative (zip2 sub_bits off (splat one)) (λ k. lt_z (area k -ℤ pos 1) (pos 0)) (signs_of _ _ lanes) in
    let each = between_four at (λ p. pos 0 <ℤ area_of a b p) xs ys in (
      λ t. each.0 (λ k h. let low = not_negative (area k -ℤ pos 1) (both.0 t k h) in omega (arith, sums)),
      λ g. both.1 (λ k h. let high = each.1 g k h in negative_not (area k -ℤ pos 1) (omega (arith, sums))),
    )

-- the four numbers whose signs tell whether the place is in the band
any_of_four : (p q r s : Bool) → (((p || q) || r) || s) ≡ false → (p ≡ false) × (q ≡ false) × (r ≡ false) × (s ≡ false)
any_of_four true q r s e = absurd (cc)
any_of_four false true r s e = absurd (cc)
any_of_four false false true s e = absurd (cc)
any_of_four false false false true e = absurd (cc)
any_of_four false false false false e = (refl, refl, refl, refl)

none_of_four : (p q r s : Bool) → p ≡ false → q ≡ false → r ≡ false → s ≡ false → (((p || q) || r) || s) ≡ false
none_of_four true q r s e f g h = absurd (cc)
none_of_four false true r s e f g h = absurd (cc)
none_of_four false false true s e f g h = absurd (cc)
none_of_four false false false true e f g h = absurd (cc)
none_of_four false false false false e f g h = refl

pub in_band_lanes : (a b : Place) (reach : ℤ) (xs ys : List ℤ) (at : ℕ) (across up left low one whole room : ℕ) (ways :
    AreWays a b across up left low) (four : AreFour xs ys at)
    → pos 0 ≤ℤ reach → reach <ℤ pos (2 ^ 61) → unsigned_abs (length2_of a b) ≤ 2 ^ 61 → one ≡ of_z w64 (pos 1)
    → whole ≡ of_z w64 (length2_of a b -ℤ pos 1) → room ≡ of_z w64 reach
    → IsTrue (is_none_negative
    (zip2 bit_or
    (zip2 bit_or
    (zip2 bit_or (zip2 sub_bits (along_bits a b xs ys at across up left low ways four) (splat one))
    (zip2 sub_bits (splat whole) (along_bits a b xs ys at across up left low ways four)))
    (zip2 add_bits (splat room) (off_bits a b xs ys at across up left low ways four)))
    (zip2 sub_bits (splat room) (off_bits a b xs ys at across up left low ways four))))
    ↔ EachBetween at (at + 4) (IsInBand a b reach) xs ys
in_band_lanes a b reach xs ys at across up left low one whole room ways four reach_low reach_high long is_one is_whole is_room =
    let along = along_bits a b xs ys at across up left low ways four in
    let off = off_bits a b xs ys at across up left low ways four in
    let dot = λ (k : ℕ). dot_of a b (place_at xs ys (at + k)) in
    let area = λ (k : ℕ). area_of a b (place_at xs ys (at + k)) in
    let dots = along_lanes a b xs ys at across up left low ways four in
    let areas = off_lanes a b xs ys at across up left low ways four in
    let dot_small = dot_size a b xs ys at across up left low ways four in
    let area_small = area_size a b xs ys at across up left low ways four in
    let reaches = splat_lanes room reach (sized_fits reach (omega (arith, fits))) is_room in
    let starts = sub_lanes along (splat one) dot (λ k. pos 1) dots (splat_lanes one (pos 1) (sized_fits (pos 1) (omega arith)) is_one)
    (λ k h. sized_fits _ (let s = dot_small k h in omega (arith, fits))) in
    let ends = sub_lanes (splat whole) along (λ k. length2_of a b -ℤ pos 1) dot
    (splat_lanes whole (length2_of a b -ℤ pos 1) (sized_fits _ (omega (arith, fits))) is_whole) dots (λ k h. let s = dot_small k h in
    omega (arith, fits)) in
    let rights = add_lanes (splat room) off (λ k. reach) area reaches areas (λ k h.
    sized_fits _ (let s = area_small k h in omega (arith, fits))) in
    let lefts = sub_lanes (splat room) off (λ k. reach) area reaches areas (λ k h.
    sized_fits _ (let s = area_small k h in omega (arith, fits))) in
    let signs = or_signs _ _ _ _ (or_signs _ _ _ _ (or_signs _ _ _ _ (signs_of _ _ starts) (signs_of _ _ ends)) (signs_of _ _ rights))
    (signs_of _ _ lefts) in
    let both = none_negative _ _ signs in
    let each = between_four at (IsInBand a b reach) xs ys in (
      λ t. each.0 (λ k h.
          let bits = any_of_four _ _ _ _ (both.0 t k h) in
          let start = not_negative (dot k -ℤ pos 1) bits.0 in
          let end = not_negative (length2_of a b -ℤ pos 1 -ℤ dot k) bits.1 in
          let right = not_negative (reach +ℤ area k) bits.2 in
          let left' = not_negative (reach -ℤ area k) bits.3 in
          record {
            past_start = omega (arith, sums);
            before_end = omega (arith, sums);
            not_right = omega (arith, sums);
            not_left =
                omega (arith, sums);
          }),
      λ g. both.1 (λ k h.
          let band = each.1 g k h in
          let start = band.past_start in
          let end = band.before_end in
          let right = band.not_right in
          let left' = band.not_left in
          none_of_four _ _ _ _ (negative_not (dot k -ℤ pos 1) (omega (arith, sums)))
          (negative_not (length2_of a b -ℤ pos 1 -ℤ dot k) (omega (arith, sums))) (negative_not (reach +ℤ area k) (omega (arith, sums)))
          (negative_not (reach -ℤ area k) (omega (arith, sums)))),
    )
