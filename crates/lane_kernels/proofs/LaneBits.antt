-- Vectors of four 64-bit numbers, lane by lane: each is the list of its lanes' bits. `AreLanes p f` says that the lane k holds
-- the number f k; a sum, a difference or a product of two vectors has the exact numbers where these fit.
use Rattle.std.proofs.Common.{◌≡◌, ◌↔◌, ℕ, zero, suc, ◌+◌, ◌-◌, ◌*◌, ◌/◌, ◌%◌, ◌^◌, ◌<◌, ◌≤◌, Bool, true, false, ◌||◌, IsTrue, cond, leb}
use Rattle.std.proofs.Common.{eqb, List, [], ◌∷◌, map, length, get_or, ℤ, pos, negsuc, ◌+ℤ◌, ◌-ℤ◌, ◌*ℤ◌, bit_or, w64, refl, sym, ap, ◌∙◌}
use Rattle.std.proofs.Common.{arith, to_z, of_z}
use Rattle.std.specs.Simd.Lanes.{zip2, chunk, mask_l, top}
use Rattle.std.proofs.lemmas.Bool.{eqb-true, eq-eqb, le-leb, lt-leb, leb-true, leb-false}
use Rattle.std.proofs.lemmas.Nat.{or_shr, or_lt}
use Rattle.std.proofs.lemmas.Int.{ints, of_z-to_z, to_z_pos, int_wrap_fits, wrapping_add_is, wrapping_sub_is, wrapping_mul_is}
use Rattle.std.proofs.lemmas.List.{get_or-map, length-map}
use Rattle.std.proofs.lemmas.Simd.{length-zip2, get_or-zip2, length-chunk, get_or-chunk, tops_compared, mask_l-mod}
use mir.Val.{SFits}
use lib.Signed.{lt_z}

-- the four lanes hold the bits of these numbers, which fit
pub record AreLanes (bits : List ℕ) (numbers : ℕ → ℤ) : Type 0 where
  pub long : length bits ≡ 4
  pub fit : (k : ℕ) → k < 4 → SFits w64 (numbers k)
  pub each : (k : ℕ) → k < 4 → get_or bits k 0 ≡ of_z w64 (numbers k)

pub splat_lanes : (n : ℕ) (z : ℤ) → SFits w64 z → n ≡ of_z w64 z → AreLanes (n ∷ n ∷ n ∷ n ∷ []) (λ k. z)
splat_lanes n z f e = record { long = refl; fit = λ k h. f; each = λ k h. at k h }
  where
    at : (k : ℕ) → k < 4 → get_or (n ∷ n ∷ n ∷ n ∷ []) k 0 ≡ of_z w64 z
    at zero h = e
    at (suc zero) h = e
    at (suc (suc zero)) h = e
    at (suc (suc (suc zero))) h = e
    at (suc (suc (suc (suc k)))) h = absurd (omega arith)

pub load_lanes : (at : ℕ) (numbers : List ℤ) → at + 4 ≤ length numbers → ((k : ℕ) → k < 4 → SFits w64 (get_or numbers (at + k) (pos 0)))
    → AreLanes (map (of_z w64) (chunk at 4 numbers)) (λ k. get_or numbers (at + k) (pos 0))
load_lanes at numbers room f =
    let long = length-chunk at 4 numbers room in
    record {
      long = length-map (chunk at 4 numbers) (of_z w64) ∙ long;
      fit = f;
      each = λ k h. get_or-map (of_z w64) (chunk at 4 numbers) k (pos 0) 0 (omega arith)
          ∙ ap (of_z w64) (get_or-chunk at 4 numbers k (pos 0) h);
    }

zip_lanes : (op : ℕ → ℕ → ℕ) (p q : List ℕ) (f g h : ℕ → ℤ) → AreLanes p f → AreLanes q g → ((k : ℕ) → k < 4 → SFits w64 (h k))
    → ((k : ℕ) → k < 4 → op (of_z w64 (f k)) (of_z w64 (g k)) ≡ of_z w64 (h k)) → AreLanes (zip2 op p q) h
zip_lanes op p q f g h ps qs fit act =
    let pl = ps.long in let ql = qs.long in
    record {
      long = length-zip2 op p q (omega arith) ∙ pl;
      fit = fit;
      each = λ k l. get_or-zip2 op p q k 0 0 0 (omega arith) (omega arith) ∙ ap (λ (x : ℕ). op x (get_or q k 0)) (ps.each k l)
          ∙ ap (op (of_z w64 (f k))) (qs.each k l) ∙ act k l;
    }

-- the bits of a number are those that read as it
bits_by : (n : ℕ) (z : ℤ) → n < 2 ^ 64 → to_z w64 n ≡ z → n ≡ of_z w64 z
bits_by n z h e = sym (of_z-to_z w64 n h) ∙ ap (of_z w64) e

abbrev pub add_bits : ℕ → ℕ → ℕ
add_bits x y = (x + y) % 2 ^ 64

abbrev pub sub_bits : ℕ → ℕ → ℕ
sub_bits x y = (x + (2 ^ 64 - y)) % 2 ^ 64

abbrev pub mul_bits : ℕ → ℕ → ℕ
mul_bits x y = (x * y) % 2 ^ 64

pub add_lanes : (p q : List ℕ) (f g : ℕ → ℤ) → AreLanes p f → AreLanes q g → ((k : ℕ) → k < 4 → SFits w64 (f k +ℤ g k))
    → AreLanes (zip2 add_bits p q) (λ k. f k +ℤ g k)
add_lanes p q f g ps qs fit = zip_lanes add_bits p q f g (λ k. f k +ℤ g k) ps qs fit (λ k l.
    bits_by _ _ (omega arith) (wrapping_add_is w64 (f k) (g k) (ps.fit k l) (qs.fit k l) ∙ int_wrap_fits w64 (f k +ℤ g k) (fit k l)))

pub sub_lanes : (p q : List ℕ) (f g : ℕ → ℤ) → AreLanes p f → AreLanes q g → ((k : ℕ) → k < 4 → SFits w64 (f k -ℤ g k))
    → AreLanes (zip2 sub_bits p q) (λ k. f k -ℤ g k)
sub_lanes p q f g ps qs fit = zip_lanes sub_bits p q f g (λ k. f k -ℤ g k) ps qs fit (λ k l.
    bits_by _ _ (omega arith) (wrapping_sub_is w64 (f k) (g k) (ps.fit k l) (qs.fit k l) ∙ int_wrap_fits w64 (f k -ℤ g k) (fit k l)))

pub mul_lanes : (p q : List ℕ) (f g : ℕ → ℤ) → AreLanes p f → AreLanes q g → ((k : ℕ) → k < 4 → SFits w64 (f k *ℤ g k))
    → AreLanes (zip2 mul_bits p q) (λ k. f k *ℤ g k)
mul_lanes p q f g ps qs fit = zip_lanes mul_bits p q f g (λ k. f k *ℤ g k) ps qs fit (λ k l.
    bits_by _ _ (omega arith) (wrapping_mul_is w64 (f k) (g k) (ps.fit k l) (qs.fit k l) ∙ int_wrap_fits w64 (f k *ℤ g k) (fit k l)))

-- ---- signs

-- the lanes whose top bit is set
pub record HaveSigns (bits : List ℕ) (signs : ℕ → Bool) : Type 0 where
  pub long : length bits ≡ 4
  pub fit : (k : ℕ) → k < 4 → get_or bits k 0 < 2 ^ 64
  pub each : (k : ℕ) → k < 4 → leb (2 ^ 63) (get_or bits k 0) ≡ signs k

bits_below : (z : ℤ) → SFits w64 z → of_z w64 z < 2 ^ 64
bits_below (pos n) f = omega (arith, f.sfits)
bits_below (negsuc n) f = omega arith

sign_bit : (z : ℤ) → SFits w64 z → leb (2 ^ 63) (of_z w64 z) ≡ lt_z z (pos 0)
sign_bit (pos n) f = lt-leb (2 ^ 63) n (omega (arith, f.sfits)) ∙ sym (lt-leb (suc n) 0 (omega arith))
sign_bit (negsuc n) f = le-leb (2 ^ 63) (2 ^ 64 - suc n) (omega (arith, f.sfits))

pub signs_of : (p : List ℕ) (f : ℕ → ℤ) → AreLanes p f → HaveSigns p (λ k. lt_z (f k) (pos 0))
signs_of p f ps =
    record {
      long = ps.long;
      fit = λ k l. rw (ps.each k l) (bits_below (f k) (ps.fit k l));
      each = λ k l. ap (leb (2 ^ 63)) (ps.each k l) ∙ sign_bit (f k) (ps.fit k l);
    }

-- the part of a 64-bit number above its top bit's place
data TopBit (n : ℕ) : Type 0 where
  Clear : n / 2 ^ 63 ≡ 0 → leb (2 ^ 63) n ≡ false → TopBit n
  Set : n / 2 ^ 63 ≡ 1 → leb (2 ^ 63) n ≡ true → TopBit n

top_bit : (n : ℕ) → n < 2 ^ 64 → TopBit n
top_bit n h = by_test (leb (2 ^ 63) n) refl
  where
    by_test : (b : Bool) → leb (2 ^ 63) n ≡ b → TopBit n
    by_test true e = let k : 2 ^ 63 ≤ n = leb-true (2 ^ 63) n e in Set (omega arith) e
    by_test false e = let k : n < 2 ^ 63 = leb-false (2 ^ 63) n e in Clear (omega arith) e

or_top : (x y : ℕ) → x < 2 ^ 64 → y < 2 ^ 64 → leb (2 ^ 63) (bit_or x y) ≡ (leb (2 ^ 63) x || leb (2 ^ 63) y)
or_top x y hx hy = joined (top_bit x hx) (top_bit y hy) (top_bit (bit_or x y) (or_lt 64 x y hx hy))
  where
    joined : TopBit x → TopBit y → TopBit (bit_or x y) → leb (2 ^ 63) (bit_or x y) ≡ (leb (2 ^ 63) x || leb (2 ^ 63) y)
    joined (Clear a b) (Clear d e) (Clear g h) = h ∙ ap (λ (t : Bool). t || false) (sym b) ∙ ap (λ (t : Bool). leb (2 ^ 63) x || t) (sym e)
    joined (Clear a b) (Clear d e) (Set g h) = let none : bit_or x y / 2 ^ 63 ≡ 0 = or_shr x y 63 ∙ ap (λ (n : ℕ). bit_or n (y / 2 ^ 63)) a
        ∙ ap (bit_or 0) d in absurd (omega arith)
    joined (Clear a b) (Set d e) (Clear g h) = let one : bit_or x y / 2 ^ 63 ≡ 1 = or_shr x y 63 ∙ ap (λ (n : ℕ). bit_or n (y / 2 ^ 63)) a
        ∙ ap (bit_or 0) d in absurd (omega arith)
    joined (Clear a b) (Set d e) (Set g h) = h ∙ ap (λ (t : Bool). false || t) (sym e) ∙ ap (λ (t : Bool). t || leb (2 ^ 63) y) (sym b)
    joined (Set a b) (Clear d e) (Clear g h) = let one : bit_or x y / 2 ^ 63 ≡ 1 = or_shr x y 63 ∙ ap (λ (n : ℕ). bit_or n (y / 2 ^ 63)) a
        ∙ ap (bit_or 1) d in absurd (omega arith)
    joined (Set a b) (Clear d e) (Set g h) = h ∙ ap (λ (t : Bool). t || leb (2 ^ 63) y) (sym b)
    joined (Set a b) (Set d e) (Clear g h) = let one : bit_or x y / 2 ^ 63 ≡ 1 = or_shr x y 63 ∙ ap (λ (n : ℕ). bit_or n (y / 2 ^ 63)) a
        ∙ ap (bit_or 1) d in absurd (omega arith)
    joined (Set a b) (Set d e) (Set g h) = h ∙ ap (λ (t : Bool). t || leb (2 ^ 63) y) (sym b)

pub or_signs : (p q : List ℕ) (s t : ℕ → Bool) → HaveSigns p s → HaveSigns q t → HaveSigns (zip2 bit_or p q) (λ k. s k || t k)
or_signs p q s t ps qs =
    let pl = ps.long in let ql = qs.long in
    let lane : (k : ℕ) → k < 4 → get_or (zip2 bit_or p q) k 0 ≡ bit_or (get_or p k 0) (get_or q k 0) = λ k l.
    get_or-zip2 bit_or p q k 0 0 0 (omega arith) (omega arith) in
    record {
      long = length-zip2 bit_or p q (omega arith) ∙ pl;
      fit = λ k l. rw (lane k l) (or_lt 64 (get_or p k 0) (get_or q k 0) (ps.fit k l) (qs.fit k l));
      each = λ k l. ap (leb (2 ^ 63)) (lane k l) ∙ or_top (get_or p k 0) (get_or q k 0) (ps.fit k l) (qs.fit k l)
          ∙ ap (λ (b : Bool). b || leb (2 ^ 63) (get_or q k 0)) (ps.each k l) ∙ ap (λ (b : Bool). s k || b) (qs.each k l);
    }

-- ---- no lane is negative

mask_empty : (ms : List Bool) → mask_l ms ≡ 0 → (k : ℕ) → get_or ms k false ≡ false
mask_empty [] e k = refl
mask_empty (true ∷ ms) e k = absurd (omega arith)
mask_empty (false ∷ ms) e zero = refl
mask_empty (false ∷ ms) e (suc k) = mask_empty ms (omega arith) k

empty_mask : (ms : List Bool) → ((k : ℕ) → k < length ms → get_or ms k false ≡ false) → mask_l ms ≡ 0
empty_mask [] h = refl
empty_mask (true ∷ ms) h = absurd (let e = h 0 (omega arith) in cc)
empty_mask (false ∷ ms) h = let rest : mask_l ms ≡ 0 = empty_mask ms (λ k l. h (suc k) (omega arith)) in omega arith

below_zero : (n : ℕ) → n < 2 ^ 64 → lt_z (to_z w64 n) (to_z w64 0) ≡ leb (2 ^ 63) n
below_zero n h = by_bit (top_bit n h)
  where
    by_bit : TopBit n → lt_z (to_z w64 n) (to_z w64 0) ≡ leb (2 ^ 63) n
    by_bit (Clear a b) = let low : n < 2 ^ 63 = omega arith in ap (λ (z : ℤ). lt_z z (pos 0)) (to_z_pos w64 n low)
        ∙ lt-leb (suc n) 0 (omega arith) ∙ sym b
    by_bit (Set a b) = let high : 2 ^ 63 ≤ n = omega arith in grind (arith, ints)

compared : ℕ → ℕ → Bool
compared a b = lt_z (to_z w64 a) (to_z w64 b)

abbrev pub zeros : List ℕ
zeros = 0 ∷ 0 ∷ 0 ∷ 0 ∷ []

zero_lane : (k : ℕ) → get_or zeros k 0 ≡ 0
zero_lane zero = refl
zero_lane (suc zero) = refl
zero_lane (suc (suc zero)) = refl
zero_lane (suc (suc (suc zero))) = refl
zero_lane (suc (suc (suc (suc k)))) = refl

pub none_negative : (p : List ℕ) (s : ℕ → Bool) → HaveSigns p s
    → IsTrue (eqb (mask_l (map (top 63) (zip2 (λ a b. cond (lt_z (to_z w64 a) (to_z w64 b)) (2 ^ 64 - 1) 0) p zeros)) % 2 ^ 64) 0)
    ↔ ((k : ℕ) → k < 4 → s k ≡ false)
unfolding compared
none_negative p s ps =
    let four = ps.long in
    let ms = zip2 compared p zeros in
    let long : length ms ≡ 4 = length-zip2 compared p zeros four ∙ four in
    let lane : (k : ℕ) → k < 4 → get_or ms k false ≡ s k =
    λ k l.
    get_or-zip2 compared p zeros k 0 0 false (omega arith) (omega arith)
    ∙ ap (compared (get_or p k 0)) (zero_lane k)
    ∙ below_zero (get_or p k 0) (ps.fit k l)
    ∙ ps.each k l in
    let mask : mask_l (map (top 63) (zip2 (λ a b. cond (compared a b) (2 ^ 64 - 1) 0) p zeros)) % 2 ^ 64 ≡ mask_l ms =
    ap (λ (bs : List Bool). mask_l bs % 2 ^ 64) (tops_compared w64 compared p zeros) ∙ mask_l-mod ms 64 (omega arith) in (
      λ h k l. sym (lane k l) ∙ mask_empty ms (sym mask ∙ eqb-true _ 0 h) k,
      λ h. eq-eqb _ 0 (mask ∙ empty_mask ms (λ k l. let l4 : k < 4 = omega arith in lane k l4 ∙ h k l4)),
    )
