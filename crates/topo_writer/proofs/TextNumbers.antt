-- The shortest decimal of a whole number is a JSON number, and that whole number.
use Rattle.std.proofs.Common.{◌≡◌, ℕ, suc, ◌+◌, ◌-◌, ◌*◌, ◌/◌, ◌%◌, ◌^◌, ◌<◌, ◌≤◌, inl, inr, Bool, true, false, ltb, List, [], ◌∷◌, ◌++◌}
use Rattle.std.proofs.Common.{None, ℤ, pos, negsuc, refl, sym, ap, subst, ◌∙◌, arith, eq-zero-or-pos}
use Rattle.std.proofs.lemmas.Bool.{cond-false, le-ltb}
use Rattle.std.proofs.lemmas.Fmt.{decimal_by_steps}
use Rattle.std.specs.Fmt.{decimal, signed_decimal}
use lib.Signed.{mag}
use Rattle.json_scan.specs.declared.whole.Whole.TheVariants as whole
use Rattle.json_scan.specs.Bytes.{is_digit}
use Rattle.json_scan.specs.Grammar.{NumberForm, number_then, AreDigits, IsWholePart, IsNumber}
use Rattle.json_scan.specs.Whole.{decimal_behind, sized, whole_form}
use Rattle.json_scan.proofs.NumberRuns.{digit-is}

-- ---- digits

value-push : (size : ℕ) (ds : List ℕ) (d : ℕ) → decimal_behind size (ds ++ d ∷ []) ≡ decimal_behind size ds * 10 + (d - 48)
value-push size [] d = refl
value-push size (e ∷ ds) d = value-push (size * 10 + (e - 48)) ds d

digits-push : (ds : List ℕ) (d : ℕ) → AreDigits ds → is_digit d ≡ true → AreDigits (ds ++ d ∷ [])
digits-push [] d all is = (is, tt)
digits-push (e ∷ ds) d all is = (all.0, digits-push ds d all.1 is)

-- digits of which the first is none of 0
abbrev IsUnpadded : List ℕ → Type 0
IsUnpadded [] = ⊥
IsUnpadded (d ∷ ds) = (49 ≤ d) × (d ≤ 57) × AreDigits ds

unpadded-push : (ds : List ℕ) (d : ℕ) → IsUnpadded ds → is_digit d ≡ true → IsUnpadded (ds ++ d ∷ [])
unpadded-push [] d un is = absurd un
unpadded-push (e ∷ ds) d un is = (un.0, un.1, digits-push ds d un.2 is)

-- the digits of a number
record IsDecimal (n : ℕ) (ds : List ℕ) : Type 0 where
  zero_alone : n ≡ 0 → ds ≡ 48 ∷ []
  unpadded : 0 < n → IsUnpadded ds
  value : decimal_behind 0 ds ≡ n

one-digit : (n : ℕ) → n < 10 → IsDecimal n ((48 + n) ∷ [])
one-digit n few = record {
  zero_alone = λ e. rw e refl;
  unpadded = λ some. (omega arith, omega arith, tt);
  value = omega arith;
}

more-digits : (n : ℕ) (ds : List ℕ) → 10 ≤ n → IsDecimal (n / 10) ds → IsDecimal n (ds ++ ((48 + n % 10) ∷ []))
more-digits n ds many is =
    let some : 0 < n / 10 = omega arith in
    let low : 48 ≤ 48 + n % 10 = omega arith in
    let high : 48 + n % 10 ≤ 57 = omega arith in
    let before = is.value in
    record {
      zero_alone = λ e. absurd (omega arith);
      unpadded = λ more. unpadded-push ds (48 + n % 10) (is.unpadded some) (digit-is (48 + n % 10) low high);
      value = omega (arith, before, value-push 0 ds (48 + n % 10));
    }

decimal-is : (n : ℕ) → n < 2 ^ 64 → IsDecimal n (decimal n)
decimal-is n small = decimal_by_steps IsDecimal one-digit more-digits n small

whole-from_unpadded : (ds : List ℕ) → IsUnpadded ds → IsWholePart ds
whole-from_unpadded [] un = absurd un
whole-from_unpadded (d ∷ ds) un = inr un

whole-part : (n : ℕ) (ds : List ℕ) → IsDecimal n ds → IsWholePart ds
whole-part n ds is =
    elim (eq-zero-or-pos n) [
      | inl none ↦ subst IsWholePart (sym (is.zero_alone none)) (inl (refl, refl))
      | inr some ↦ whole-from_unpadded ds (is.unpadded some)
    ]

-- ---- the number form

abbrev plain_form : Bool → ℕ → NumberForm
plain_form negative n = record { negative = negative; digits = decimal n; fraction = []; exponent = None }

abbrev pub number_form : ℤ → NumberForm
number_form (pos n) = plain_form false n
number_form (negsuc n) = plain_form true (suc n)

plain-number : (negative : Bool) (n : ℕ) → n < 2 ^ 64 → IsNumber (plain_form negative n)
plain-number negative n small = record { digits = whole-part n (decimal n) (decimal-is n small); fraction = tt; exponent = tt }

pub form-is_number : (z : ℤ) → mag z ≤ 2 ^ 30 → IsNumber (number_form z)
form-is_number (pos n) small = plain-number false n (omega arith)
form-is_number (negsuc n) small = plain-number true (suc n) (omega arith)

pub form-spelled : (z : ℤ) (rest : List ℕ) → number_then (number_form z) rest ≡ signed_decimal z ++ rest
form-spelled (pos n) rest = refl
form-spelled (negsuc n) rest = refl

sized-within : (negative : Bool) (n : ℕ) → n ≤ 2 ^ 31 → whole_form (plain_form negative n) ≡ sized negative n
sized-within negative n small = let fits : n < 2 ^ 64 = omega arith in ap (sized negative) ((decimal-is n fits).value)

pub form-whole : (z : ℤ) → mag z ≤ 2 ^ 30 → whole_form (number_form z) ≡ whole.Value z
form-whole (pos n) small =
    let few : n ≤ 2 ^ 31 = omega arith in
    let below : n ≤ 2 ^ 40 = omega arith in
    sized-within false n few ∙ cond-false (ltb (2 ^ 40) n) whole.Beyond (whole.Value (pos n)) (le-ltb (2 ^ 40) n below)
form-whole (negsuc n) small =
    let few : suc n ≤ 2 ^ 31 = omega arith in
    let below : suc n ≤ 2 ^ 40 = omega arith in
    sized-within true (suc n) few ∙ cond-false (ltb (2 ^ 40) (suc n)) whole.Beyond (whole.Value (negsuc n)) (le-ltb (2 ^ 40) (suc n) below)
