-- The places of a part of two lists are places of the lists.
use Rattle.std.proofs.Common.{◌≡◌, ◌↔◌, ℕ, ◌+◌, ◌-◌, ◌<◌, ◌≤◌, List, length, take, drop, ℤ, subst, sym, length-take, length-drop}
use Rattle.std.proofs.Common.{get_or-take, get_or-drop, arith}
use Rattle.grid_exact.specs.Geometry.{Place}
use Rattle.grid_exact.proofs.Commons.{same_place}
use Rattle.lane_kernels.specs.Places.{number_at, place_at, EachBetween, EachPlace, IsFirstOff}

abbrev pub part : ℕ → ℕ → List ℤ → List ℤ
part from to numbers = take (to - from) (drop from numbers)

number_at-part : (from to : ℕ) (numbers : List ℤ) (k : ℕ) → k < to - from
    → number_at (part from to numbers) k ≡ number_at numbers (from + k)
number_at-part from to numbers k h = rw (get_or-take, get_or-drop)

place_at-part : (from to : ℕ) (xs ys : List ℤ) (k : ℕ) → k < to - from
    → place_at (part from to xs) (part from to ys) k ≡ place_at xs ys (from + k)
place_at-part from to xs ys k h = same_place _ _ (number_at-part from to xs k h) (number_at-part from to ys k h)

pub part_places : (P : Place → Type 0) (from to : ℕ) (xs ys : List ℤ) → to ≤ length xs → EachPlace P (part from to xs) (part from to ys)
    ↔ EachBetween from to P xs ys
part_places P from to xs ys room =
    let long : length (part from to xs) ≡ to - from = simp (length-take, length-drop) (omega arith) in (
      λ h k low high.
          let inside : k - from < to - from = omega arith in
          let same : from + (k - from) ≡ k = omega arith in
          subst (λ (j : ℕ). P (place_at xs ys j)) same (subst P (place_at-part from to xs ys (k - from) inside)
          (h (k - from) (omega arith) (omega arith))),
      λ h k low high.
          let inside : k < to - from = omega arith in
          subst P (sym (place_at-part from to xs ys k inside)) (h (from + k) (omega arith) (omega arith)),
    )

-- the first place of the part that lacks a property is one of the lists, so many places further on
pub part_first : (P : Place → Type 0) (from to : ℕ) (xs ys : List ℤ) (k : ℕ) → to ≤ length xs
    → IsFirstOff 0 (length (part from to xs)) P (part from to xs) (part from to ys) k → IsFirstOff from to P xs ys (from + k)
part_first P from to xs ys k room first =
    let long : length (part from to xs) ≡ to - from = simp (length-take, length-drop) (omega arith) in
    let high = first.high in
    let inside : k < to - from = omega arith in
    record {
      low = omega arith;
      high = omega arith;
      off = λ here. first.off (subst P (sym (place_at-part from to xs ys k inside)) here);
      before = λ j low below.
          let within : j - from < to - from = omega arith in
          let same : from + (j - from) ≡ j = omega arith in
          subst (λ (i : ℕ). P (place_at xs ys i)) same (subst P (place_at-part from to xs ys (j - from) within)
          (first.before (j - from) (omega arith) (omega arith)));
    }
