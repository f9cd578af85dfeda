-- Areas of triangles at a common point of two segments, and a common point from the signs of areas.
use Rattle.std.proofs.Common.{◌≡◌, [], ◌∷◌, ℤ, pos, ◌+ℤ◌, ◌-ℤ◌, ◌*ℤ◌, ◌≤ℤ◌, ◌<ℤ◌, refl, arith}
use Rattle.grid_exact.specs.Geometry.{Place, area_of, turned, CommonPoint}
use Rattle.grid_exact.specs.Views.{negated}
use Rattle.grid_exact.proofs.WholeLaws.{sums}
use Rattle.grid_exact.proofs.Polynomial.{Equation, Whole, ◌⊕◌, ◌⊖◌, ◌⊗◌, ◌≈◌, ◌times◌, Variable, by_identity, by_multiples, identity_6}
use Rattle.grid_exact.proofs.Spots.{spot, numbers_of, area_in, turn_in}

-- the cross product of the ways from a to b and from c to d
abbrev pub turn_of : Place → Place → Place → Place → ℤ
turn_of a b c d = (b.x -ℤ a.x) *ℤ (d.y -ℤ c.y) -ℤ (b.y -ℤ a.y) *ℤ (d.x -ℤ c.x)

-- the area by the ways from p
pub area_parts : (a b p : Place) → area_of a b p ≡ (b.x -ℤ p.x) *ℤ (p.y -ℤ a.y) +ℤ (p.x -ℤ a.x) *ℤ (p.y -ℤ b.y)
area_parts a b p =
    identity_6 a.x a.y b.x b.y p.x p.y
    (λ k m g h r s. (g ⊖ k) ⊗ (s ⊖ m) ⊖ (h ⊖ m) ⊗ (r ⊖ k) ≈ (g ⊖ r) ⊗ (s ⊖ m) ⊕ (r ⊖ k) ⊗ (s ⊖ h)) refl

-- ---- from a common point to areas

abbrev across_in : Equation
across_in = Variable 8 ⊗ Variable 0 ⊕ Variable 9 ⊗ (Variable 2 ⊖ Variable 0) ≈ Variable 8 ⊗ Variable 4 ⊕ Variable 10
    ⊗ (Variable 6 ⊖ Variable 4)

abbrev up_in : Equation
up_in = Variable 8 ⊗ Variable 1 ⊕ Variable 9 ⊗ (Variable 3 ⊖ Variable 1) ≈ Variable 8 ⊗ Variable 5 ⊕ Variable 10 ⊗ (Variable 7 ⊖ Variable 5)

pub area_abc : (a b c d : Place) (h : CommonPoint a b c d) → h.denominator *ℤ area_of a b c ≡ pos 0 -ℤ h.second *ℤ turn_of a b c d
area_abc a b c d h =
    let n = Variable 8 in let s = Variable 9 in let t = Variable 10 in
    let p = spot 0 in let q = spot 1 in let r = spot 2 in let o = spot 3 in
    by_multiples (numbers_of (a ∷ b ∷ c ∷ d ∷ []) (h.denominator ∷ h.first ∷ h.second ∷ []))
    (n ⊗ area_in p q r ≈ Whole (pos 0) ⊖ t ⊗ turn_in p q r o)
    (((q.y ⊖ p.y) times across_in) ∷ ((p.x ⊖ q.x) times up_in) ∷ []) (h.across, (h.up, tt)) refl

pub area_abd : (a b c d : Place) (h : CommonPoint a b c d) → h.denominator *ℤ area_of a b d ≡ (h.denominator -ℤ h.second) *ℤ turn_of a b c d
area_abd a b c d h =
    let n = Variable 8 in let s = Variable 9 in let t = Variable 10 in
    let p = spot 0 in let q = spot 1 in let r = spot 2 in let o = spot 3 in
    by_multiples (numbers_of (a ∷ b ∷ c ∷ d ∷ []) (h.denominator ∷ h.first ∷ h.second ∷ []))
    (n ⊗ area_in p q o ≈ (n ⊖ t) ⊗ turn_in p q r o)
    (((q.y ⊖ p.y) times across_in) ∷ ((p.x ⊖ q.x) times up_in) ∷ []) (h.across, (h.up, tt)) refl

pub area_cda : (a b c d : Place) (h : CommonPoint a b c d) → h.denominator *ℤ area_of c d a ≡ h.first *ℤ turn_of a b c d
area_cda a b c d h =
    let n = Variable 8 in let s = Variable 9 in let t = Variable 10 in
    let p = spot 0 in let q = spot 1 in let r = spot 2 in let o = spot 3 in
    by_multiples (numbers_of (a ∷ b ∷ c ∷ d ∷ []) (h.denominator ∷ h.first ∷ h.second ∷ []))
    (n ⊗ area_in r o p ≈ s ⊗ turn_in p q r o)
    (((r.y ⊖ o.y) times across_in) ∷ ((o.x ⊖ r.x) times up_in) ∷ []) (h.across, (h.up, tt)) refl

pub area_cdb : (a b c d : Place) (h : CommonPoint a b c d) → h.denominator *ℤ area_of c d b
    ≡ pos 0 -ℤ (h.denominator -ℤ h.first) *ℤ turn_of a b c d
area_cdb a b c d h =
    let n = Variable 8 in let s = Variable 9 in let t = Variable 10 in
    let p = spot 0 in let q = spot 1 in let r = spot 2 in let o = spot 3 in
    by_multiples (numbers_of (a ∷ b ∷ c ∷ d ∷ []) (h.denominator ∷ h.first ∷ h.second ∷ []))
    (n ⊗ area_in r o q ≈ Whole (pos 0) ⊖ (n ⊖ s) ⊗ turn_in p q r o)
    (((r.y ⊖ o.y) times across_in) ∷ ((o.x ⊖ r.x) times up_in) ∷ []) (h.across, (h.up, tt)) refl

-- ---- of any places

pub area_about : (p a b : Place) → area_of a b p ≡ (a.x -ℤ p.x) *ℤ (b.y -ℤ p.y) -ℤ (a.y -ℤ p.y) *ℤ (b.x -ℤ p.x)
area_about p a b = identity_6 p.x p.y a.x a.y b.x b.y (λ k m g h r s.
    (r ⊖ g) ⊗ (m ⊖ h) ⊖ (s ⊖ h) ⊗ (k ⊖ g) ≈ (g ⊖ k) ⊗ (s ⊖ m) ⊖ (h ⊖ m) ⊗ (r ⊖ k)) refl

pub area_turned : (p a b : Place) → area_of b a p ≡ pos 0 -ℤ area_of a b p
area_turned p a b = identity_6 p.x p.y a.x a.y b.x b.y (λ k m g h r s.
    (g ⊖ r) ⊗ (m ⊖ s) ⊖ (h ⊖ s) ⊗ (k ⊖ r) ≈ Whole (pos 0) ⊖ ((r ⊖ g) ⊗ (m ⊖ h) ⊖ (s ⊖ h) ⊗ (k ⊖ g))) refl

pub area_of-turned : (a b p : Place) → area_of a b p ≡ pos 0 -ℤ area_of (turned a) (turned b) (turned p)
area_of-turned a b p = identity_6 a.x a.y b.x b.y p.x p.y (λ k m g h r s.
    (g ⊖ k) ⊗ (s ⊖ m) ⊖ (h ⊖ m) ⊗ (r ⊖ k) ≈ Whole (pos 0) ⊖ ((h ⊖ m) ⊗ (r ⊖ k) ⊖ (g ⊖ k) ⊗ (s ⊖ m))) refl

pub area_of-negated : (a b p : Place) → area_of a b p ≡ pos 0 -ℤ area_of (negated b) (negated a) (negated p)
area_of-negated a b p =
    identity_6 a.x a.y b.x b.y p.x p.y (λ k m g h r s.
    let z = Whole (pos 0) in
    (g ⊖ k) ⊗ (s ⊖ m) ⊖ (h ⊖ m) ⊗ (r ⊖ k) ≈ z ⊖ (((z ⊖ k) ⊖ (z ⊖ g)) ⊗ ((z ⊖ s) ⊖ (z ⊖ h)) ⊖ ((z ⊖ m) ⊖ (z ⊖ h)) ⊗ ((z ⊖ r) ⊖ (z ⊖ g))))
    refl

pub areas_differ : (a b c d : Place) → area_of a b d -ℤ area_of a b c ≡ area_of c d a -ℤ area_of c d b
areas_differ a b c d =
    let p = spot 0 in let q = spot 1 in let r = spot 2 in let o = spot 3 in
    by_identity (numbers_of (a ∷ b ∷ c ∷ d ∷ []) []) (area_in p q o ⊖ area_in p q r ≈ area_in r o p ⊖ area_in r o q) refl

pub flat_where : (a b c : Place) → b.x -ℤ a.x ≡ pos 0 → c.x -ℤ a.x ≡ pos 0 → area_of a b c ≡ pos 0
flat_where a b c e f =
    let k = spot 0 in let m = spot 1 in let r = spot 2 in
    by_multiples (numbers_of (a ∷ b ∷ c ∷ []) []) (area_in k m r ≈ Whole (pos 0))
    (((r.y ⊖ k.y) times (m.x ⊖ k.x ≈ Whole (pos 0))) ∷ ((k.y ⊖ m.y) times (r.x ⊖ k.x ≈ Whole (pos 0))) ∷ []) (e, (f, tt)) refl

-- ---- from signs to a common point

-- Two segments of which neither has both ends strictly on one side of the other, and which are not on one line, have a
-- common point: where the second crosses from the right of the first to its left ..
pub common_right : (a b c d : Place) → area_of a b c ≤ℤ pos 0 → pos 0 ≤ℤ area_of a b d → pos 0 ≤ℤ area_of c d a → area_of c d b ≤ℤ pos 0
    → area_of a b c <ℤ area_of a b d → CommonPoint a b c d
common_right a b c d abc abd cda cdb apart =
    let p = spot 0 in let q = spot 1 in let r = spot 2 in let o = spot 3 in
    let xs = numbers_of (a ∷ b ∷ c ∷ d ∷ []) [] in
    let same = by_identity xs (area_in p q o ⊖ area_in p q r ≈ area_in r o p ⊖ area_in r o q) refl in
    record {
      denominator = area_of a b d -ℤ area_of a b c;
      first = area_of c d a;
      second = pos 0 -ℤ area_of a b c;
      whole = omega (arith, sums);
      first_low = cda;
      first_high = omega (arith, sums, same);
      second_low = omega (arith, sums);
      second_high = omega (arith, sums);
      across = by_identity xs ((area_in p q o ⊖ area_in p q r) ⊗ p.x ⊕ area_in r o p ⊗ (q.x ⊖ p.x) ≈ (area_in p q o ⊖ area_in p q r) ⊗ r.x
          ⊕ (Whole (pos 0) ⊖ area_in p q r) ⊗ (o.x ⊖ r.x)) refl;
      up = by_identity xs ((area_in p q o ⊖ area_in p q r) ⊗ p.y ⊕ area_in r o p ⊗ (q.y ⊖ p.y) ≈ (area_in p q o ⊖ area_in p q r) ⊗ r.y
          ⊕ (Whole (pos 0) ⊖ area_in p q r) ⊗ (o.y ⊖ r.y)) refl;
    }

-- .. and where it crosses from the left to the right
pub common_left : (a b c d : Place) → pos 0 ≤ℤ area_of a b c → area_of a b d ≤ℤ pos 0 → area_of c d a ≤ℤ pos 0 → pos 0 ≤ℤ area_of c d b
    → area_of a b d <ℤ area_of a b c → CommonPoint a b c d
common_left a b c d abc abd cda cdb apart =
    let p = spot 0 in let q = spot 1 in let r = spot 2 in let o = spot 3 in
    let xs = numbers_of (a ∷ b ∷ c ∷ d ∷ []) [] in
    let same = by_identity xs (area_in p q o ⊖ area_in p q r ≈ area_in r o p ⊖ area_in r o q) refl in
    record {
      denominator = area_of a b c -ℤ area_of a b d;
      first = pos 0 -ℤ area_of c d a;
      second = area_of a b c;
      whole = omega (arith, sums);
      first_low = omega (arith, sums);
      first_high = omega (arith, sums, same);
      second_low = abc;
      second_high = omega (arith, sums);
      across = by_identity xs ((area_in p q r ⊖ area_in p q o) ⊗ p.x ⊕ (Whole (pos 0) ⊖ area_in r o p) ⊗ (q.x ⊖ p.x) ≈
          (area_in p q r ⊖ area_in p q o) ⊗ r.x ⊕ area_in p q r ⊗ (o.x ⊖ r.x)) refl;
      up = by_identity xs ((area_in p q r ⊖ area_in p q o) ⊗ p.y ⊕ (Whole (pos 0) ⊖ area_in r o p) ⊗ (q.y ⊖ p.y) ≈
          (area_in p q r ⊖ area_in p q o) ⊗ r.y ⊕ area_in p q r ⊗ (o.y ⊖ r.y)) refl;
    }
