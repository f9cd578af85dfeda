-- Coordinates that are weighed one after the other.
use Rattle.std.proofs.Common.{◌≡◌, ◌≢◌, ◌∙◌, ℕ, ◌+◌, ◌<◌, ◌≤◌, ℤ, ◌*ℤ◌, List, set, take, length, get_or, sym, arith, below_more}
use Rattle.std.proofs.Common.{get_or-set_other, get_or-set_same}
use Rattle.std.proofs.lemmas.List.{length-set, length-take-le, get_or-take, get_or_default}
use Rattle.grid_exact.specs.Geometry.{Place, IsGridNumber}
use Rattle.grid_exact.specs.Weights.{Scales}
use Rattle.lane_kernels.specs.Places.{number_at}
use Rattle.arc_map.specs.Arranged.{nowhere}
use Rattle.shortcut_graph.specs.Weighed.{AreWeighed}

-- the numbers at k are the coordinates of the place number k, weighed, and on the grid
pub record IsWeighedAt (weights : Scales) (places : List Place) (xs ys : List ℤ) (k : ℕ) : Type 0 where
  pub across : number_at xs k ≡ weights.x *ℤ (get_or places k nowhere).x
  pub up : number_at ys k ≡ weights.y *ℤ (get_or places k nowhere).y
  pub x_on_grid : IsGridNumber (number_at xs k)
  pub y_on_grid : IsGridNumber (number_at ys k)

-- those of the places before the number n are
pub record AreWeighedBelow (weights : Scales) (places : List Place) (xs ys : List ℤ) (n : ℕ) : Type 0 where
  pub across : length places ≤ length xs
  pub up : length places ≤ length ys
  pub each : (k : ℕ) → k < n → IsWeighedAt weights places xs ys k

pub weighed_more : (weights : Scales) (places : List Place) (xs ys : List ℤ) (n : ℕ) (p : Place) (x y : ℤ) → n < length places
    → p ≡ get_or places n p → x ≡ weights.x *ℤ p.x → y ≡ weights.y *ℤ p.y → IsGridNumber x → IsGridNumber y
    → AreWeighedBelow weights places xs ys n → AreWeighedBelow weights places (set xs n x) (set ys n y) (n + 1)
weighed_more weights places xs ys n p x y below there is_x is_y grid_x grid_y so_far =
    let in_xs : n < length xs = omega (arith, so_far.across) in
    let in_ys : n < length ys = omega (arith, so_far.up) in
    let place : get_or places n nowhere ≡ p = get_or_default places n nowhere p below ∙ sym there in
    record {
      across = omega (arith, so_far.across, length-set xs n x);
      up = omega (arith, so_far.up, length-set ys n y);
      each = below_more (λ k. IsWeighedAt weights places (set xs n x) (set ys n y) k) n
          (λ k under.
          let other : k ≢ n = omega arith in
          let before = so_far.each k under in
          record {
            across = rw get_or-set_other before.across;
            up = rw get_or-set_other before.up;
            x_on_grid = rw get_or-set_other before.x_on_grid;
            y_on_grid = rw get_or-set_other before.y_on_grid;
          })
          (record {
            across = rw (get_or-set_same, place) is_x;
            up = rw (get_or-set_same, place) is_y;
            x_on_grid = rw get_or-set_same grid_x;
            y_on_grid = rw get_or-set_same grid_y;
          });
    }

pub weighed_all : (weights : Scales) (places : List Place) (xs ys : List ℤ) (n : ℕ) → length places ≤ n
    → AreWeighedBelow weights places xs ys n → AreWeighed weights places (take (length places) xs) (take (length places) ys)
weighed_all weights places xs ys n all done =
    let count = length places in
    let across : length (take count xs) ≡ count = length-take-le count xs done.across in
    let up : length (take count ys) ≡ count = length-take-le count ys done.up in
    record {
      count = across;
      coordinates = record {
        same_length = across ∙ sym up;
        x_on_grid = λ k below. let inside : k < count = omega arith in rw get_or-take (done.each k (omega arith)).x_on_grid;
        y_on_grid = λ k below. let inside : k < count = omega arith in rw get_or-take (done.each k (omega arith)).y_on_grid;
      };
      across = λ k below. rw get_or-take (done.each k (omega arith)).across;
      up = λ k below. rw get_or-take (done.each k (omega arith)).up;
    }
