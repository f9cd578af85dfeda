-- The front has the kept positions so far, and the rest is as it was.
use Rattle.std.proofs.Common.{◌≡◌, ◌<◌, ◌≤◌, ℕ, get_or}
use Rattle.grid_exact.specs.Geometry.{Place}
use Rattle.arc_map.proofs.work.keep.Given as goal

abbrev pub invariant-loop-place : goal.invariant-loop-place
invariant-loop-place l = record {
  front : (j : ℕ) (d : Place) → j < l.place → get_or l.positions j d ≡ get_or l.fn.positions (get_or l.kept j 0) d;
  behind : (j : ℕ) (d : Place) → l.place ≤ j → get_or l.positions j d ≡ get_or l.fn.positions j d;
}
