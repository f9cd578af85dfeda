-- Coordinates that are copied one place after another.
use Rattle.std.proofs.Common.{◌≡◌, ℕ, ◌+◌, ◌<◌, inl, inr, ℤ, pos, List, [], ◌∷◌, ◌++◌, length, get_or, sym, ap, subst, ◌∙◌, arith}
use Rattle.std.proofs.lemmas.Bool.{cases_lt}
use Rattle.std.proofs.lemmas.List.{get_or_append_left, get_or_push, length_push, get_or_read}
use Rattle.grid_exact.specs.Geometry.{Place, IsGridNumber}
use Rattle.grid_exact.proofs.WholeLaws.{one-*ℤ}
use Rattle.lane_kernels.specs.Places.{number_at}
use Rattle.arc_map.specs.Arranged.{nowhere}
use Rattle.shortcut_graph.specs.Weighed.{AreWeighed, IsColumn}

pub place_more : (part : Place → ℤ) (places : List Place) (numbers : List ℤ) (count : ℕ) (p : Place) (z : ℤ) → count < length places
    → p ≡ get_or places count p → z ≡ part p → IsGridNumber z → IsColumn part places numbers count
    → IsColumn part places (numbers ++ z ∷ []) (count + 1)
place_more part places numbers count p z within read is grid copied =
    let many = copied.length in
    let here : number_at (numbers ++ z ∷ []) count ≡ z = get_or_push numbers z (pos 0) count copied.length in
    record {
      length = omega (arith, length_push numbers z);
      same = λ k low. elim (cases_lt k count) [
        | inl below ↦ get_or_append_left numbers (z ∷ []) (pos 0) k (omega arith) ∙ copied.same k below
        | inr up ↦
            let same : count ≡ k = omega arith in
            subst (λ (n : ℕ). number_at (numbers ++ z ∷ []) n ≡ part (get_or places n nowhere)) same (here ∙ is
            ∙ ap part (get_or_read places count p within read nowhere))
      ];
      on_grid = λ k low. elim (cases_lt k count) [
        | inl below ↦ subst IsGridNumber (sym (get_or_append_left numbers (z ∷ []) (pos 0) k (omega arith))) (copied.on_grid k below)
        | inr up ↦ let same : count ≡ k = omega arith in subst (λ (n : ℕ). IsGridNumber (number_at (numbers ++ z ∷ []) n)) same
            (subst IsGridNumber (sym here) grid)
      ];
    }

-- with the weights 1 and 1
pub weighed_by_one : (places : List Place) (xs ys : List ℤ) → IsColumn (λ p. p.x) places xs (length places)
    → IsColumn (λ p. p.y) places ys (length places) → AreWeighed (record { x = pos 1; y = pos 1 }) places xs ys
weighed_by_one places xs ys across up =
    let many = across.length in
    let others = up.length in
    record {
      count = many;
      coordinates = record {
        same_length = omega arith;
        x_on_grid = λ k low. across.on_grid k (omega arith);
        y_on_grid = λ k low.
            up.on_grid k (omega arith);
      };
      across = λ k low. across.same k low ∙ sym (one-*ℤ (get_or places k nowhere).x);
      up = λ k low. up.same k low ∙ sym (one-*ℤ (get_or places k nowhere).y);
    }
