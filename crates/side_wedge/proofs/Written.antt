-- Coordinates that are written one after another, and the starts of rows.
use Rattle.std.proofs.Common.{◌≡◌, ℕ, ◌+◌, ◌<◌, ◌≤◌, List, [], ◌∷◌, ◌++◌, length, get_or, map, take, ℤ, pos, sym, ap, ◌∙◌, subst, arith}
use Rattle.std.proofs.Common.{length-append}
use Rattle.std.proofs.lemmas.List.{map_more}
use Rattle.std.proofs.lemmas.List.Elements.{All-push, All-get_or, All-from_get_or, at_read}
use Rattle.std.specs.List.Sorted.{IsNonDecreasingBy}
use Rattle.grid_exact.specs.Geometry.{IsGridNumber}
use Rattle.lane_kernels.specs.Places.{number_at, AreCoordinates}
use Rattle.side_wedge.specs.Strays.{IsStartOf}
use Rattle.side_wedge.specs.declared.strays.Stray.{Stray}

grid_more : (zs : List ℤ) (z : ℤ) → ((k : ℕ) → k < length zs → IsGridNumber (number_at zs k)) → IsGridNumber z → (k : ℕ)
    → k < length (zs ++ z ∷ []) → IsGridNumber (number_at (zs ++ z ∷ []) k)
grid_more zs z on here k within = All-get_or IsGridNumber (zs ++ z ∷ []) k (pos 0) within
    (All-push IsGridNumber zs z (All-from_get_or IsGridNumber zs (pos 0) on) here)

pub coordinates_more : (xs ys : List ℤ) (x y : ℤ) → AreCoordinates xs ys → IsGridNumber x → IsGridNumber y
    → AreCoordinates (xs ++ x ∷ []) (ys ++ y ∷ [])
coordinates_more xs ys x y h gx gy =
    let same = h.same_length in
    record {
      same_length = omega (arith, length-append xs (x ∷ []), length-append ys (y ∷ []));
      x_on_grid = grid_more xs x h.x_on_grid gx;
      y_on_grid = λ k within. grid_more ys y (λ j below. h.y_on_grid j (omega arith)) gy k
          (omega (arith, length-append xs (x ∷ []), length-append ys (y ∷ [])));
    }

pub coordinates_pushed : (xs ys xs' ys' : List ℤ) (x y u w : ℤ) → xs' ≡ xs ++ u ∷ [] → ys' ≡ ys ++ w ∷ [] → u ≡ x → w ≡ y
    → AreCoordinates xs ys → IsGridNumber x → IsGridNumber y → AreCoordinates xs' ys'
coordinates_pushed xs ys xs' ys' x y u w e f k l h gx gy = rw (e, f)
    (coordinates_more xs ys u w h (subst IsGridNumber (sym k) gx) (subst IsGridNumber (sym l) gy))

-- one more number, of one more stray
pub mapped_pushed : (f : Stray → ℤ) (zs zs' : List ℤ) (strays : List Stray) (i : ℕ) (x : Stray) (z u : ℤ) → i < length strays
    → x ≡ get_or strays i x → zs ≡ map f (take i strays) → zs' ≡ zs ++ u ∷ [] → u ≡ z → z ≡ f x → zs' ≡ map f (take (i + 1) strays)
mapped_pushed f zs zs' strays i x z u within is so_far pushed k e =
    pushed
    ∙ ap (λ (us : List ℤ). us ++ u ∷ []) so_far
    ∙ ap (λ (v : ℤ). map f (take i strays) ++ v ∷ []) (k ∙ e ∙ ap f is)
    ∙ sym (map_more f strays i x within)

-- the first stray that is not of an earlier row is the start
pub start_here : (strays : List Stray) (row at : ℕ) (x : Stray) → IsNonDecreasingBy (λ y. y.row) strays → at < length strays
    → x ≡ get_or strays at x → row ≤ x.row → ((k : ℕ) (d : Stray) → k < at → (get_or strays k d).row < row) → IsStartOf strays row at
start_here strays row at x sorted within is high below = record {
  within = omega arith;
  before = below;
  after = λ k d from_at in_list.
      let here : row ≤ (get_or strays at d).row = at_read strays (λ y. row ≤ y.row) at x within is high d in
      let rises = sorted at k d from_at in_list in
      omega (arith, here, rises);
}
