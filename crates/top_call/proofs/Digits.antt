-- Reading digits.
use Rattle.std.proofs.Common.{◌≡◌, ℕ, ◌+◌, ◌*◌, ◌-◌, ◌<◌, List, [], ◌∷◌, None, Bool, true, false, length, drop, slice_index, arith, refl}
use Rattle.std.proofs.Common.{◌∙◌}
use Rattle.std.proofs.lemmas.List.{at_drop_more}
use Rattle.std.proofs.lemmas.Bool.Decides.{nat_tests}
use Rattle.std.specs.Char.{is_ascii_digit}
use Rattle.top_call.specs.Words.{read_digits, between}

one_more : (least most n c : ℕ) (cs : List ℕ) → between least most (read_digits (10 * n + (c - 48)) cs) ≡ None → (b : Bool)
    → is_ascii_digit c ≡ b → between least most (read_digits n (c ∷ cs)) ≡ None
one_more least most n c cs rest true is = rw is rest
one_more least most n c cs rest false is = rw is refl

-- more digits only make a number greater
pub too_great : (least most n : ℕ) (digits : List ℕ) → most < n → between least most (read_digits n digits) ≡ None
too_great least most n [] more = grind (arith, nat_tests)
too_great least most n (c ∷ cs) more =
    one_more least most n c cs (too_great least most (10 * n + (c - 48)) cs (omega arith)) (is_ascii_digit c) refl

-- where the next digit makes the number too great
pub stops : (least most n i : ℕ) (digits : List ℕ) → i < length digits → is_ascii_digit (slice_index digits i) ≡ true
    → most < 10 * n + (slice_index digits i - 48) → between least most (read_digits n (drop i digits)) ≡ None
stops least most n i digits within is more =
    at_drop_more (λ (ds : List ℕ). between least most (read_digits n ds)) digits i 0 within
    ∙ one_more least most n (slice_index digits i) (drop (i + 1) digits)
    (too_great least most (10 * n + (slice_index digits i - 48)) (drop (i + 1) digits) more) true is
