-- Three places past a start in one direction: the turns from the first to the second and from the second to the third make up the
-- turn from the first to the third.
use Rattle.std.proofs.Common.{◌≡◌, Bool, true, false, [], ◌∷◌, ℤ, pos, ◌+ℤ◌, ◌-ℤ◌, ◌*ℤ◌, ◌≤ℤ◌, ◌<ℤ◌, refl, arith}
use Rattle.grid_exact.specs.Geometry.{Place, turned, area_of, IsBefore}
use Rattle.grid_exact.specs.Geometry.IsBefore.{Left as Across, Below as Up}
use Rattle.grid_exact.specs.declared.frame.Frame.{Frame}
use Rattle.grid_exact.specs.declared.frame.Frame.TheVariants.{Plain, Turned}
use Rattle.grid_exact.proofs.WholeLaws.{sums}
use Rattle.grid_exact.proofs.Signs.{times_nonnegative, times_positive, positive_from_times}
use Rattle.grid_exact.proofs.Polynomial.{Whole, ◌⊕◌, ◌⊖◌, ◌⊗◌, ◌≈◌, ◌times◌, Variable, by_multiples, identity_6}
use Rattle.grid_exact.proofs.Areas.{area_of-turned}
use Rattle.chain_side.specs.Along.{IsAlong}

-- ---- ways from the start, by their parts on the two axes

-- a way that goes across, or straight up
data Goes (x y : ℤ) : Type 0 where
  GoesAcross : pos 0 <ℤ x → Goes x y
  GoesUp : x ≡ pos 0 → pos 0 <ℤ y → Goes x y

-- how far the second way turns to the left of the first
abbrev turn : ℤ → ℤ → ℤ → ℤ → ℤ
turn x y u v = x *ℤ v -ℤ y *ℤ u

not_back : (x y : ℤ) → Goes x y → pos 0 ≤ℤ x
not_back x y (GoesAcross h) = omega (arith, sums)
not_back x y (GoesUp e h) = omega (arith, sums)

joined : (ax ay bx by' cx cy : ℤ) → bx *ℤ turn ax ay cx cy ≡ cx *ℤ turn ax ay bx by' +ℤ ax *ℤ turn bx by' cx cy
joined ax ay bx by' cx cy = identity_6 ax ay bx by' cx cy (λ ax ay bx b cx cy.
    bx ⊗ (ax ⊗ cy ⊖ ay ⊗ cx) ≈ cx ⊗ (ax ⊗ b ⊖ ay ⊗ bx) ⊕ ax ⊗ (bx ⊗ cy ⊖ b ⊗ cx)) refl

-- a way straight up
to_up : (x y u v : ℤ) → u ≡ pos 0 → turn x y u v ≡ x *ℤ v
to_up x y u v e = let n = Variable in by_multiples (x ∷ y ∷ u ∷ v ∷ []) (n 0 ⊗ n 3 ⊖ n 1 ⊗ n 2 ≈ n 0 ⊗ n 3)
    (((Whole (pos 0) ⊖ n 1) times (n 2 ≈ Whole (pos 0))) ∷ []) (e, tt) refl

from_up : (x y u v : ℤ) → x ≡ pos 0 → turn x y u v ≡ pos 0 -ℤ y *ℤ u
from_up x y u v e = let n = Variable in by_multiples (x ∷ y ∷ u ∷ v ∷ []) (n 0 ⊗ n 3 ⊖ n 1 ⊗ n 2 ≈ Whole (pos 0) ⊖ n 1 ⊗ n 2)
    ((n 3 times (n 0 ≈ Whole (pos 0))) ∷ []) (e, tt) refl

first_turns : (ax ay bx by' cx cy : ℤ) → Goes ax ay → Goes bx by' → Goes cx cy → pos 0 <ℤ turn ax ay bx by' → pos 0 ≤ℤ turn bx by' cx cy
    → pos 0 <ℤ turn ax ay cx cy
first_turns ax ay bx by' cx cy a (GoesAcross b) (GoesAcross c) ab bc =
    let u : pos 0 <ℤ (cx *ℤ turn ax ay bx by') = times_positive cx (turn ax ay bx by') c ab in
    let v : pos 0 ≤ℤ (ax *ℤ turn bx by' cx cy) = times_nonnegative ax (turn bx by' cx cy) (not_back ax ay a) bc in
    positive_from_times bx (turn ax ay cx cy) b (omega (arith, sums, joined ax ay bx by' cx cy))
first_turns ax ay bx by' cx cy (GoesAcross a) (GoesAcross b) (GoesUp e c) ab bc =
    let u : pos 0 <ℤ (ax *ℤ cy) = times_positive ax cy a c in
    omega (arith, sums, to_up ax ay cx cy e)
first_turns ax ay bx by' cx cy (GoesUp e a) (GoesAcross b) (GoesUp f c) ab bc =
    let u : pos 0 <ℤ (ay *ℤ bx) = times_positive ay bx a b in
    absurd (omega (arith, sums, from_up ax ay bx by' e))
first_turns ax ay bx by' cx cy a (GoesUp e b) (GoesAcross c) ab bc =
    let u : pos 0 <ℤ (by' *ℤ cx) = times_positive by' cx b c in
    absurd (omega (arith, sums, from_up bx by' cx cy e))
first_turns ax ay bx by' cx cy (GoesAcross a) (GoesUp e b) (GoesUp f c) ab bc =
    let u : pos 0 <ℤ (ax *ℤ cy) = times_positive ax cy a c in
    omega (arith, sums, to_up ax ay cx cy f)
first_turns ax ay bx by' cx cy (GoesUp d a) (GoesUp e b) (GoesUp f c) ab bc = absurd (none d e)
  where
    none : ax ≡ pos 0 → bx ≡ pos 0 → ⊥
    none d e = let flat = by_multiples (ax ∷ ay ∷ bx ∷ by' ∷ []) (Variable 0 ⊗ Variable 3 ⊖ Variable 1 ⊗ Variable 2 ≈ Whole (pos 0))
        ((Variable 3 times (Variable 0 ≈ Whole (pos 0))) ∷ ((Whole (pos 0) ⊖ Variable 1) times (Variable 2 ≈ Whole (pos 0))) ∷ [])
        (d, (e, tt)) refl in omega (arith, sums, flat)

then_turns : (ax ay bx by' cx cy : ℤ) → Goes ax ay → Goes bx by' → Goes cx cy → pos 0 ≤ℤ turn ax ay bx by' → pos 0 <ℤ turn bx by' cx cy
    → pos 0 <ℤ turn ax ay cx cy
then_turns ax ay bx by' cx cy (GoesAcross a) (GoesAcross b) c ab bc =
    let u : pos 0 ≤ℤ (cx *ℤ turn ax ay bx by') = times_nonnegative cx (turn ax ay bx by') (not_back cx cy c) ab in
    let v : pos 0 <ℤ (ax *ℤ turn bx by' cx cy) = times_positive ax (turn bx by' cx cy) a bc in
    positive_from_times bx (turn ax ay cx cy) b (omega (arith, sums, joined ax ay bx by' cx cy))
then_turns ax ay bx by' cx cy (GoesUp e a) (GoesAcross b) c ab bc =
    let u : pos 0 <ℤ (ay *ℤ bx) = times_positive ay bx a b in
    absurd (omega (arith, sums, from_up ax ay bx by' e))
then_turns ax ay bx by' cx cy a (GoesUp e b) c ab bc =
    let u : pos 0 ≤ℤ (by' *ℤ cx) = times_nonnegative by' cx (omega (arith, sums)) (not_back cx cy c) in
    absurd (omega (arith, sums, from_up bx by' cx cy e))

-- ---- places past a start

goes_on : (s a : Place) → IsBefore s a → Goes (a.x -ℤ s.x) (a.y -ℤ s.y)
goes_on s a (Across h) = GoesAcross (omega (arith, sums))
goes_on s a (Up e h) = GoesUp (omega (arith, sums)) (omega (arith, sums))

back_area : (s a b : Place) → area_of s a b ≡ turn (s.x -ℤ a.x) (s.y -ℤ a.y) (s.x -ℤ b.x) (s.y -ℤ b.y)
back_area s a b = identity_6 s.x s.y a.x a.y b.x b.y (λ k m g h r t.
    (g ⊖ k) ⊗ (t ⊖ m) ⊖ (h ⊖ m) ⊗ (r ⊖ k) ≈ (k ⊖ g) ⊗ (m ⊖ t) ⊖ (m ⊖ h) ⊗ (k ⊖ r)) refl

pub area_swapped : (s a b : Place) → area_of s b a ≡ pos 0 -ℤ area_of s a b
area_swapped s a b = identity_6 s.x s.y a.x a.y b.x b.y (λ k m g h r t.
    (r ⊖ k) ⊗ (h ⊖ m) ⊖ (t ⊖ m) ⊗ (g ⊖ k) ≈ Whole (pos 0) ⊖ ((g ⊖ k) ⊗ (t ⊖ m) ⊖ (h ⊖ m) ⊗ (r ⊖ k))) refl

-- a strict turn to the left, and then one that is not to the right
plain_first : (s a b c : Place) → IsBefore s a → IsBefore s b → IsBefore s c → pos 0 <ℤ area_of s a b → pos 0 ≤ℤ area_of s b c
    → pos 0 <ℤ area_of s a c
plain_first s a b c p q r ab bc = first_turns (a.x -ℤ s.x) (a.y -ℤ s.y) (b.x -ℤ s.x) (b.y -ℤ s.y) (c.x -ℤ s.x) (c.y -ℤ s.y) (goes_on s a p)
    (goes_on s b q) (goes_on s c r) ab bc

plain_then : (s a b c : Place) → IsBefore s a → IsBefore s b → IsBefore s c → pos 0 ≤ℤ area_of s a b → pos 0 <ℤ area_of s b c
    → pos 0 <ℤ area_of s a c
plain_then s a b c p q r ab bc = then_turns (a.x -ℤ s.x) (a.y -ℤ s.y) (b.x -ℤ s.x) (b.y -ℤ s.y) (c.x -ℤ s.x) (c.y -ℤ s.y) (goes_on s a p)
    (goes_on s b q) (goes_on s c r) ab bc

back_first : (s a b c : Place) → IsBefore a s → IsBefore b s → IsBefore c s → pos 0 <ℤ area_of s a b → pos 0 ≤ℤ area_of s b c
    → pos 0 <ℤ area_of s a c
back_first s a b c p q r ab bc =
    let e = back_area s a b in let f = back_area s b c in let g = back_area s a c in
    let h = first_turns (s.x -ℤ a.x) (s.y -ℤ a.y) (s.x -ℤ b.x) (s.y -ℤ b.y) (s.x -ℤ c.x) (s.y -ℤ c.y) (goes_on a s p) (goes_on b s q)
    (goes_on c s r) (omega (arith, sums, e)) (omega (arith, sums, f)) in
    omega (arith, sums, g, h)

back_then : (s a b c : Place) → IsBefore a s → IsBefore b s → IsBefore c s → pos 0 ≤ℤ area_of s a b → pos 0 <ℤ area_of s b c
    → pos 0 <ℤ area_of s a c
back_then s a b c p q r ab bc =
    let e = back_area s a b in let f = back_area s b c in let g = back_area s a c in
    let h = then_turns (s.x -ℤ a.x) (s.y -ℤ a.y) (s.x -ℤ b.x) (s.y -ℤ b.y) (s.x -ℤ c.x) (s.y -ℤ c.y) (goes_on a s p) (goes_on b s q)
    (goes_on c s r) (omega (arith, sums, e)) (omega (arith, sums, f)) in
    omega (arith, sums, g, h)

-- the other way round, in the plane with its axes exchanged
turned_area : (s a b : Place) → area_of s a b ≡ area_of (turned s) (turned b) (turned a)
turned_area s a b = let e = area_of-turned s a b in let f = area_swapped (turned s) (turned a) (turned b) in omega (arith, sums)

-- ---- in the direction of a chain

pub left_then_not_right : (frame : Frame) (rising : Bool) (s a b c : Place) → IsAlong frame rising s a → IsAlong frame rising s b
    → IsAlong frame rising s c → pos 0 <ℤ area_of s a b → pos 0 ≤ℤ area_of s b c → pos 0 <ℤ area_of s a c
left_then_not_right Plain true s a b c p q r ab bc = plain_first s a b c p q r ab bc
left_then_not_right Plain false s a b c p q r ab bc = back_first s a b c p q r ab bc
left_then_not_right Turned true s a b c p q r ab bc =
    let e = turned_area s a b in let f = turned_area s b c in let g = turned_area s a c in
    let h = plain_then (turned s) (turned c) (turned b) (turned a) r q p (omega (arith, sums, f)) (omega (arith, sums, e)) in
    omega (arith, sums, g, h)
left_then_not_right Turned false s a b c p q r ab bc =
    let e = turned_area s a b in let f = turned_area s b c in let g = turned_area s a c in
    let h = back_then (turned s) (turned c) (turned b) (turned a) r q p (omega (arith, sums, f)) (omega (arith, sums, e)) in
    omega (arith, sums, g, h)

pub not_right_then_left : (frame : Frame) (rising : Bool) (s a b c : Place) → IsAlong frame rising s a → IsAlong frame rising s b
    → IsAlong frame rising s c → pos 0 ≤ℤ area_of s a b → pos 0 <ℤ area_of s b c → pos 0 <ℤ area_of s a c
not_right_then_left Plain true s a b c p q r ab bc = plain_then s a b c p q r ab bc
not_right_then_left Plain false s a b c p q r ab bc = back_then s a b c p q r ab bc
not_right_then_left Turned true s a b c p q r ab bc =
    let e = turned_area s a b in let f = turned_area s b c in let g = turned_area s a c in
    let h = plain_first (turned s) (turned c) (turned b) (turned a) r q p (omega (arith, sums, f)) (omega (arith, sums, e)) in
    omega (arith, sums, g, h)
not_right_then_left Turned false s a b c p q r ab bc =
    let e = turned_area s a b in let f = turned_area s b c in let g = turned_area s a c in
    let h = back_first (turned s) (turned c) (turned b) (turned a) r q p (omega (arith, sums, f)) (omega (arith, sums, e)) in
    omega (arith, sums, g, h)
