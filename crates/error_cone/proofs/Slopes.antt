-- Ways that go forward, which of them are under a limit, and what two limits leave open.
use Rattle.std.proofs.Common.{◌≡◌, ◌↔◌, inl, inr, Bool, true, false, IsTrue, ℤ, pos, ◌+ℤ◌, ◌-ℤ◌, ◌*ℤ◌, ◌≤ℤ◌, ◌<ℤ◌, refl, sym, ap, subst}
use Rattle.std.proofs.Common.{◌∙◌, arith}
use lib.IntN.{*ℤ_comm, *ℤ-zero}
use Rattle.grid_exact.specs.Geometry.{Place, IsBefore, turned}
use Rattle.grid_exact.specs.Geometry.IsBefore.{Left, Below}
use Rattle.grid_exact.specs.Crossing.{is_before}
use Rattle.grid_exact.specs.declared.frame.Frame.{Frame}
use Rattle.grid_exact.specs.declared.frame.Frame.TheVariants.{Plain, Turned}
use Rattle.grid_exact.proofs.WholeLaws.{sums, *ℤ-one}
use Rattle.grid_exact.proofs.Signs.{Negative, Zero, Positive, sign_of, at_most_or_above, times_nonnegative, times_positive}
use Rattle.grid_exact.proofs.Signs.{nonnegative_from_times}
use Rattle.grid_exact.proofs.Orders.{tested, Yes, No, no_times, denied}
use Rattle.grid_exact.proofs.Polynomial.{Whole, ◌⊕◌, ◌⊖◌, ◌⊗◌, ◌≈◌, identity_2, identity_6}
use Rattle.chain_side.specs.Along.{IsAlong}
use Rattle.error_cone.specs.Ways.{step_of, way_of, is_forward, mirrored, IsUnder}
use Rattle.error_cone.specs.declared.ways.Way.{Way}

-- ---- ways that go forward

pub record GoesForward (w : Way) : Type 0 where
  pub across : pos 0 ≤ℤ w.across
  pub up : w.across ≡ pos 0 → pos 0 <ℤ w.up

abbrev start_of_all : Place
start_of_all = record { x = pos 0; y = pos 0 }

abbrev end_of_way : Way → Place
end_of_way w = record { x = w.across; y = w.up }

forward_before : (w : Way) → IsBefore start_of_all (end_of_way w) → GoesForward w
forward_before w (Left h) = record { across = omega (arith, sums); up = λ e. absurd (omega (arith, sums)) }
forward_before w (Below e h) = record { across = omega (arith, sums); up = λ f. h }

pub forward_by : (w : Way) → IsTrue (is_forward w) → GoesForward w
forward_by w h = elim (tested start_of_all (end_of_way w)) [
  | Yes e k ↦ forward_before w k
  | No e k ↦ absurd (denied (is_before start_of_all (end_of_way w)) e h)
]

step_forward : (a b : Place) → IsBefore a b → GoesForward (step_of Plain a b)
step_forward a b (Left h) = record { across = omega (arith, sums); up = λ e. absurd (omega (arith, sums)) }
step_forward a b (Below e h) = record { across = omega (arith, sums); up = λ f. omega (arith, sums) }

forward_step : (a b : Place) → GoesForward (step_of Plain a b) → IsBefore a b
forward_step a b h =
    let low = h.across in
    elim (sign_of (b.x -ℤ a.x)) [
      | Negative n ↦ absurd (omega (arith, sums))
      | Zero z ↦ let up = h.up z in Below (omega (arith, sums)) (omega (arith, sums))
      | Positive p ↦ Left (omega (arith, sums))
    ]

-- along a chain every way goes forward
pub along_forward : (frame : Frame) (rising : Bool) (o v : Place) → IsAlong frame rising o v → GoesForward (way_of frame rising o v)
along_forward Plain true o v h = step_forward o v h
along_forward Plain false o v h = step_forward v o h
along_forward Turned true o v h = step_forward (turned o) (turned v) h
along_forward Turned false o v h = step_forward (turned v) (turned o) h

forward_along : (frame : Frame) (rising : Bool) (o v : Place) → GoesForward (way_of frame rising o v) → IsAlong frame rising o v
forward_along Plain true o v h = forward_step o v h
forward_along Plain false o v h = forward_step v o h
forward_along Turned true o v h = forward_step (turned o) (turned v) h
forward_along Turned false o v h = forward_step (turned v) (turned o) h

abbrev way_by : ℤ → ℤ → Way
way_by across up = record { across = across; up = up }

pub same_way : (a b : Way) → a.across ≡ b.across → a.up ≡ b.up → a ≡ b
same_way a b e f = ap (λ (x : ℤ). way_by x a.up) e ∙ ap (λ (y : ℤ). way_by b.across y) f

-- where a way leads
abbrev pub place_by : Frame → Bool → Place → Way → Place
place_by Plain true o d = record { x = o.x +ℤ d.across; y = o.y +ℤ d.up }
place_by Plain false o d = record { x = o.x -ℤ d.across; y = o.y -ℤ d.up }
place_by Turned true o d = record { x = o.x +ℤ d.up; y = o.y +ℤ d.across }
place_by Turned false o d = record { x = o.x -ℤ d.up; y = o.y -ℤ d.across }

pub way_of-place_by : (frame : Frame) (rising : Bool) (o : Place) (d : Way) → way_of frame rising o (place_by frame rising o d) ≡ d
way_of-place_by Plain true o d = same_way _ d (omega (arith, sums)) (omega (arith, sums))
way_of-place_by Plain false o d = same_way _ d (omega (arith, sums)) (omega (arith, sums))
way_of-place_by Turned true o d = same_way _ d (omega (arith, sums)) (omega (arith, sums))
way_of-place_by Turned false o d = same_way _ d (omega (arith, sums)) (omega (arith, sums))

pub along_by : (frame : Frame) (rising : Bool) (o : Place) (d : Way) → GoesForward d → IsAlong frame rising o (place_by frame rising o d)
along_by frame rising o d h = forward_along frame rising o (place_by frame rising o d)
    (subst GoesForward (sym (way_of-place_by frame rising o d)) h)

-- ---- limits

-- what goes under a way straight up goes straight up
straight_up : (hx hu cx cu : ℤ) → pos 0 ≤ℤ hx → cx ≡ pos 0 → pos 0 <ℤ cu → (cu *ℤ hx) ≤ℤ (cx *ℤ hu) → hx ≡ pos 0
straight_up hx hu cx cu low e up under =
    elim (sign_of hx) [
      | Negative n ↦ absurd (omega (arith, sums))
      | Zero z ↦ z
      | Positive p ↦ let r : pos 0 <ℤ (cu *ℤ hx) = times_positive cu hx up p in let z : cx *ℤ hu ≡ pos 0 = no_times cx hu e in
          absurd (omega (arith, sums))
    ]

under_straight_up : (hx hu dx du : ℤ) → hx ≡ pos 0 → pos 0 <ℤ hu → pos 0 ≤ℤ dx → (du *ℤ hx) ≤ℤ (dx *ℤ hu)
under_straight_up hx hu dx du e up low =
    let z : du *ℤ hx ≡ pos 0 = *ℤ_comm du hx ∙ no_times hx du e in
    let p : pos 0 ≤ℤ (dx *ℤ hu) = times_nonnegative dx hu low (omega (arith, sums)) in
    omega (arith, sums)

under_across : (hx hu cx cu dx du : ℤ) → pos 0 ≤ℤ hx → pos 0 <ℤ cx → pos 0 ≤ℤ dx → (cu *ℤ hx) ≤ℤ (cx *ℤ hu) → (du *ℤ cx) ≤ℤ (dx *ℤ cu)
    → (du *ℤ hx) ≤ℤ (dx *ℤ hu)
under_across hx hu cx cu dx du h c d hc cd =
    let e = identity_6 hx hu cx cu dx du (λ hx hu cx cu dx du. cx ⊗ (dx ⊗ hu ⊖ du ⊗ hx) ≈ dx ⊗ (cx ⊗ hu ⊖ cu ⊗ hx) ⊕ hx
    ⊗ (dx ⊗ cu ⊖ du ⊗ cx)) refl in
    let p : pos 0 ≤ℤ (dx *ℤ (cx *ℤ hu -ℤ cu *ℤ hx)) = times_nonnegative dx (cx *ℤ hu -ℤ cu *ℤ hx) d (omega (arith, sums)) in
    let q : pos 0 ≤ℤ (hx *ℤ (dx *ℤ cu -ℤ du *ℤ cx)) = times_nonnegative hx (dx *ℤ cu -ℤ du *ℤ cx) h (omega (arith, sums)) in
    let whole : pos 0 ≤ℤ (cx *ℤ (dx *ℤ hu -ℤ du *ℤ hx)) = omega (arith, sums, e) in
    let left : pos 0 ≤ℤ (dx *ℤ hu -ℤ du *ℤ hx) = nonnegative_from_times cx (dx *ℤ hu -ℤ du *ℤ hx) c whole in
    omega (arith, sums)

-- c is under h, and d under c
pub under_then : (h c d : Way) → GoesForward h → GoesForward c → pos 0 ≤ℤ d.across → IsUnder h c → IsUnder c d → IsUnder h d
under_then h c d fh fc dx hc cd =
    let low = fc.across in
    elim (sign_of c.across) [
      | Negative n ↦ absurd (omega (arith, sums))
      | Zero z ↦ let e = straight_up h.across h.up c.across c.up fh.across z (fc.up z) hc in
          under_straight_up h.across h.up d.across d.up e (fh.up e) dx
      | Positive p ↦ under_across h.across h.up c.across c.up d.across d.up fh.across p dx hc cd
    ]

pub under_other : (h c : Way) → ¬ (IsUnder h c) → IsUnder c h
under_other h c over =
    elim (at_most_or_above (c.up *ℤ h.across) (c.across *ℤ h.up)) [
      | inl k ↦ absurd (over k)
      | inr k ↦ omega (arith, sums, *ℤ_comm h.up c.across, *ℤ_comm h.across c.up)
    ]

pub over_by : (h c : Way) (t : Bool) → (IsTrue t ↔ IsUnder h c) → t ≡ false → ¬ (IsUnder h c)
over_by h c t says e under = denied t e (says.1 under)

-- straight up there is no limit
pub under_up : (d : Way) → pos 0 ≤ℤ d.across → IsUnder (record { across = pos 0; up = pos 1 }) d
under_up d low = omega (arith, sums, *ℤ-zero d.up, *ℤ-one d.across)

pub under_itself : (h : Way) → IsUnder h h
under_itself h = omega (arith, sums, *ℤ_comm h.up h.across)

-- the way under both limits is under one of them, which is under the other
pub takes_limit : (a b : Way) → IsTrue (is_forward a) → IsTrue (is_forward b) → IsUnder a b → (d : Way) → pos 0 ≤ℤ d.across → IsUnder b d
    ↔ (IsUnder a d × IsUnder b d)
takes_limit a b fa fb under d dx = (λ bd. (under_then a b d (forward_by a fa) (forward_by b fb) dx under bd, bd), λ both. both.1)

pub keeps_limit : (a b : Way) → IsTrue (is_forward a) → IsTrue (is_forward b) → ¬ (IsUnder a b) → (d : Way) → pos 0 ≤ℤ d.across
    → IsUnder a d ↔ (IsUnder a d × IsUnder b d)
keeps_limit a b fa fb over d dx = (
  λ ad. (ad, under_then b a d (forward_by b fb) (forward_by a fa) dx (under_other a b over) ad),
  λ both.
      both.0,
)

-- ---- two limits, the second of them upside down

-- some way is under both
abbrev pub IsOpen : Way → Way → Type 0
IsOpen h m = (pos 0 -ℤ h.across *ℤ m.up) ≤ℤ (h.up *ℤ m.across)

open_across : (hx hu mx mu dx du : ℤ) → pos 0 ≤ℤ hx → pos 0 ≤ℤ mx → pos 0 <ℤ dx → (du *ℤ hx) ≤ℤ (dx *ℤ hu)
    → ((pos 0 -ℤ du) *ℤ mx) ≤ℤ (dx *ℤ mu) → (pos 0 -ℤ hx *ℤ mu) ≤ℤ (hu *ℤ mx)
open_across hx hu mx mu dx du h m d hd md =
    let e = identity_6 hx hu mx mu dx du (λ hx hu mx mu dx du. dx ⊗ (hx ⊗ mu ⊕ hu ⊗ mx) ≈ hx ⊗ (dx ⊗ mu ⊖ (Whole (pos 0) ⊖ du) ⊗ mx) ⊕ mx
    ⊗ (dx ⊗ hu ⊖ du ⊗ hx)) refl in
    let p : pos 0 ≤ℤ (hx *ℤ (dx *ℤ mu -ℤ (pos 0 -ℤ du) *ℤ mx)) =
    times_nonnegative hx (dx *ℤ mu -ℤ (pos 0 -ℤ du) *ℤ mx) h (omega (arith, sums)) in
    let q : pos 0 ≤ℤ (mx *ℤ (dx *ℤ hu -ℤ du *ℤ hx)) = times_nonnegative mx (dx *ℤ hu -ℤ du *ℤ hx) m (omega (arith, sums)) in
    let whole : pos 0 ≤ℤ (dx *ℤ (hx *ℤ mu +ℤ hu *ℤ mx)) = omega (arith, sums, e) in
    let left : pos 0 ≤ℤ (hx *ℤ mu +ℤ hu *ℤ mx) = nonnegative_from_times dx (hx *ℤ mu +ℤ hu *ℤ mx) d whole in
    omega (arith, sums)

open_straight_up : (hx hu mx mu : ℤ) → hx ≡ pos 0 → pos 0 <ℤ hu → pos 0 ≤ℤ mx → (pos 0 -ℤ hx *ℤ mu) ≤ℤ (hu *ℤ mx)
open_straight_up hx hu mx mu e up low =
    let z : hx *ℤ mu ≡ pos 0 = no_times hx mu e in
    let p : pos 0 ≤ℤ (hu *ℤ mx) = times_nonnegative hu mx (omega (arith, sums)) low in
    omega (arith, sums)

pub open_by : (h m d : Way) → GoesForward h → GoesForward m → GoesForward d → IsUnder h d → IsUnder m (mirrored d) → IsOpen h m
open_by h m d fh fm fd hd md =
    let low = fd.across in
    elim (sign_of d.across) [
      | Negative n ↦ absurd (omega (arith, sums))
      | Zero z ↦ let e = straight_up h.across h.up d.across d.up fh.across z (fd.up z) hd in
          open_straight_up h.across h.up m.across m.up e (fh.up e) fm.across
      | Positive p ↦ open_across h.across h.up m.across m.up d.across d.up fh.across fm.across p hd md
    ]

-- the upper limit itself is under the lower one, where the two leave something open
pub open_limit : (h m : Way) → IsOpen h m → IsUnder m (mirrored h)
open_limit h m is_open =
    let e = identity_2 h.up m.across (λ u x. (Whole (pos 0) ⊖ u) ⊗ x ≈ Whole (pos 0) ⊖ u ⊗ x) refl in
    omega (arith, sums, e)
