-- The lines of feature points, from one on.
use Rattle.std.proofs.Common.{◌≡◌, ◌∙◌, ℕ, suc, ◌+◌, ◌-◌, ◌<◌, ◌≤◌, List, [], ◌++◌, length, ap, refl, sym, arith}
use Rattle.std.specs.List.{flat_map, range_with_len}
use Rattle.arc_map.specs.Map.{Map}
use Rattle.face_parity.specs.Lines.{line_of}

-- the lines of the points from number k on
abbrev pub lines_from : Map → ℕ → List ℕ
lines_from m k = flat_map (line_of m) (range_with_len k (length m.points - k))

by_count : (m : Map) (k n : ℕ) → flat_map (line_of m) (range_with_len k (suc n)) ≡ line_of m k ++ flat_map (line_of m)
    (range_with_len (k + 1) n)
by_count m k n = refl

pub next_line : (m : Map) (k : ℕ) → k < length m.points → lines_from m k ≡ line_of m k ++ lines_from m (k + 1)
next_line m k within =
    let count : length m.points - k ≡ suc (length m.points - (k + 1)) = omega arith in
    ap (λ (n : ℕ). flat_map (line_of m) (range_with_len k n)) count ∙ by_count m k (length m.points - (k + 1))

-- the line of a point, as it was written, stands first
pub next_written : (m : Map) (k : ℕ) (line : List ℕ) → k < length m.points → line ≡ line_of m k
    → lines_from m k ≡ line ++ lines_from m (k + 1)
next_written m k line within is = next_line m k within ∙ ap (λ (xs : List ℕ). xs ++ lines_from m (k + 1)) (sym is)

pub no_more : (m : Map) (k : ℕ) → length m.points ≤ k → lines_from m k ≡ []
no_more m k past = let none : length m.points - k ≡ 0 = omega arith in ap (λ (n : ℕ). flat_map (line_of m) (range_with_len k n)) none
