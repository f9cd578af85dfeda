-- How a first difference is found, and what it says.
use Rattle.std.proofs.Common.{◌≡◌, ◌∙◌, ◌<◌, ◌≤◌, ℕ, List, length, get_or, take, sym, ap}
use Rattle.std.specs.Prelude.{slice_get}
use Rattle.std.proofs.lemmas.List.{take_all}
use Rattle.std.proofs.lemmas.Option.{none-some, same_Some, slice_get-get_or, slice_get_past}
use Rattle.cert_checker.specs.Difference.{IsFirstDifference}

-- the lists differ at a place within both
pub differ_within : {A : Type 0} (xs ys : List A) (k : ℕ) (d : A) → k < length xs → k < length ys → take k xs ≡ take k ys
    → (get_or xs k d ≡ get_or ys k d → ⊥) → IsFirstDifference xs ys k
differ_within xs ys k d in_xs in_ys same other = record {
  same_before = same;
  differ = λ e. other (same_Some (get_or xs k d) (get_or ys k d) (sym (slice_get-get_or xs k d in_xs) ∙ e ∙ slice_get-get_or ys k d in_ys));
}

-- the first list has ended
pub differ_first_ended : {A : Type 0} (xs ys : List A) (k : ℕ) (d : A) → length xs ≤ k → k < length ys → take k xs ≡ take k ys
    → IsFirstDifference xs ys k
differ_first_ended xs ys k d ended within same = record {
  same_before = same;
  differ = λ e. none-some (get_or ys k d) (sym (slice_get_past xs k ended) ∙ e ∙ slice_get-get_or ys k d within);
}

pub differ_second_ended : {A : Type 0} (xs ys : List A) (k : ℕ) (d : A) → k < length xs → length ys ≤ k → take k xs ≡ take k ys
    → IsFirstDifference xs ys k
differ_second_ended xs ys k d within ended same = record {
  same_before = same;
  differ = λ e. none-some (get_or xs k d) (sym (slice_get_past ys k ended) ∙ sym e ∙ slice_get-get_or xs k d within);
}

-- lists that are equal have no first difference
pub differ_not_equal : {A : Type 0} (xs ys : List A) (k : ℕ) → IsFirstDifference xs ys k → xs ≡ ys → ⊥
differ_not_equal xs ys k h e = h.differ (ap (λ zs. slice_get zs k) e)

-- lists of one length that are equal up to it are equal
pub same_whole : {A : Type 0} (xs ys : List A) (k : ℕ) → length xs ≤ k → length ys ≤ k → take k xs ≡ take k ys → xs ≡ ys
same_whole xs ys k in_xs in_ys same = sym (take_all k xs in_xs) ∙ same ∙ take_all k ys in_ys
