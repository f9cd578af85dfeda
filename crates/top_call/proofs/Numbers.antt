-- A word spells a number exactly where it is that number's decimal.
use Rattle.std.proofs.Common.{◌≡◌, ℕ, ◌+◌, ◌*◌, ◌-◌, ◌^◌, ◌<◌, ◌≤◌, ◌==◌, ◌&&◌, ◌||◌, nat_lt, List, [], ◌∷◌, Option}
use Rattle.std.proofs.Common.{None, Some, option_map, Bool, true, false, cond, length, get_or, decimal, refl, sym, ap, ◌∙◌, arith}
use Rattle.std.proofs.Common.{inl, inr, le-leb, leb-true}
use Rattle.std.proofs.lemmas.Bool.{cases_lt, and_parts}
use Rattle.std.proofs.lemmas.Bool.Decides.{nat_tests}
use Rattle.std.proofs.lemmas.Option.{none-some, same_Some, cond_some}
use Rattle.std.proofs.lemmas.Fmt.{decimal_is_IsNumeral, decimal_digit, first_decimal, decimal-digits_value}
use Rattle.std.proofs.lemmas.Slice.Eq.{bytes_eq-Decides}
use Rattle.std.proofs.lemmas.Str.{digit_value_digit}
use Rattle.std.proofs.lemmas.Str.Parse.{numerals_by_value, tells_digits, digit_from_value}
use Rattle.std.specs.Prelude.{◌⊎◌, nat_le}
use Rattle.std.specs.Char.{digit_value, is_ascii_digit}
use Rattle.std.specs.Int.{IsInRange}
use Rattle.std.specs.Str.{bytes_eq}
use Rattle.std.specs.Str.Parse.{AllDigits, digits_value, digits_value_after}
use Rattle.top_call.specs.Words.{read_digits, between, number_between}

pub kept : {A : Type 0} (b : Bool) (o : Option A) (x : A) → cond b o None ≡ Some x → (b ≡ true) × (o ≡ Some x)
kept true o x e = (refl, e)
kept false o x e = absurd (none-some x e)

pub kept_behind : {A : Type 0} (b : Bool) (o : Option A) (x : A) → cond b None o ≡ Some x → (b ≡ false) × (o ≡ Some x)
kept_behind true o x e = absurd (none-some x e)
kept_behind false o x e = (refl, e)

pub one_of : {A : Type 0} (b : Bool) (o p : Option A) (x : A) → cond b o p ≡ Some x → ((b ≡ true) × (o ≡ Some x)) ⊎ (p ≡ Some x)
one_of true o p x e = inl (refl, e)
one_of false o p x e = inr e

pub mapped_some : {A B : Type 0} (f : A → B) (o : Option A) (y : B) → option_map f o ≡ Some y → (x : A) × (o ≡ Some x) × (f x ≡ y)
mapped_some f None y e = absurd (none-some y e)
mapped_some f (Some x) y e = (x, refl, same_Some _ _ e)

-- the words are equal where the test says so
pub same : (a b : List ℕ) → bytes_eq a b ≡ true → a ≡ b
same a b e = (bytes_eq-Decides a b).0 e

-- ---- digits

in_range : (c : ℕ) → is_ascii_digit c ≡ true → IsInRange 48 57 c
in_range c is = let parts = and_parts _ _ is in (leb-true 48 c parts.0, leb-true c 57 parts.1)

is_digit : (c : ℕ) → IsInRange 48 57 c → is_ascii_digit c ≡ true
is_digit c inside = λ i. le-leb 48 c inside.0 i && le-leb c 57 inside.1 i

-- what was read are digits, and their number
digits_read : (m : ℕ) (ds : List ℕ) (n : ℕ) → read_digits m ds ≡ Some n → AllDigits 10 ds × (digits_value_after 10 m ds ≡ n)
digits_read m [] n e = (tt, same_Some m n e)
digits_read m (c ∷ cs) n e =
    let parts = kept (is_ascii_digit c) (read_digits (10 * m + (c - 48)) cs) n e in
    let value = digit_value_digit c (in_range c parts.0) in
    let rest = digits_read (10 * m + (c - 48)) cs n parts.1 in
    let same : m * 10 + digit_value c ≡ 10 * m + (c - 48) = omega (arith, value) in
    ((omega (arith, value, in_range c parts.0), rest.0), ap (λ k. digits_value_after 10 k cs) same ∙ rest.1)

-- digits are read
read_all : (m : ℕ) (ds : List ℕ) → AllDigits 10 ds → read_digits m ds ≡ Some (digits_value_after 10 m ds)
read_all m [] all = refl
read_all m (c ∷ cs) all =
    let inside = digit_from_value c all.0 in
    let same : 10 * m + (c - 48) ≡ m * 10 + digit_value c = omega (arith, digit_value_digit c inside) in
    rw (is_digit c inside) (ap (λ k. read_digits k cs) same ∙ read_all (m * 10 + digit_value c) cs all.1)

-- ---- numbers

between_some : (least most : ℕ) (o : Option ℕ) (n : ℕ) → between least most o ≡ Some n → (o ≡ Some n) × (least ≤ n) × (n ≤ most)
between_some least most None n e = absurd (none-some n e)
between_some least most (Some k) n e =
    let parts = cond_some (nat_le least k && nat_le k most) k n e in
    let tests = and_parts (nat_le least k) (nat_le k most) parts.0 in
    (ap Some parts.1, omega (arith, parts.1, leb-true least k tests.0), omega (arith, parts.1, leb-true k most tests.1))

between_found : (least most n : ℕ) → least ≤ n → n ≤ most → between least most (Some n) ≡ Some n
between_found least most n low high = rw (le-leb least n low, le-leb n most high) refl

some_digit : (n first : ℕ) → ((n == 0) || (nat_lt 1 n && (first == 48))) ≡ false → 0 < n
some_digit n first e = grind (arith, nat_tests)

one_digit : (n first : ℕ) → ((n == 0) || (nat_lt 1 n && (first == 48))) ≡ false → first ≡ 48 → n ≡ 1
one_digit n first e zero_first = grind (arith, nat_tests)

no_leading_zero : (n first : ℕ) → 0 < n → (first ≡ 48 → n ≡ 1) → ((n == 0) || (nat_lt 1 n && (first == 48))) ≡ false
no_leading_zero n first some alone = grind (arith, nat_tests)

-- a word that spells a number is its decimal
pub number_spelled : (least most : ℕ) (word : List ℕ) (n : ℕ) → most < 2 ^ 64 → number_between least most word ≡ Some n → word ≡ decimal n
number_spelled least most word n small e =
    let parts = kept_behind _ (between least most (read_digits 0 word)) n e in
    let number = between_some least most (read_digits 0 word) n parts.1 in
    let digits = digits_read 0 word n number.0 in
    let some = some_digit (length word) (get_or word 0 0) parts.0 in
    let alone = one_digit (length word) (get_or word 0 0) parts.0 in
    let fits : digits_value 10 word < 2 ^ 64 = omega (arith, digits.1, number.2) in
    sym (decimal-digits_value (numerals_by_value _ tells_digits) word digits.0 some alone fits) ∙ ap decimal digits.1

-- the decimal of a number spells it
pub number_found : (least most n : ℕ) → most < 2 ^ 64 → least ≤ n → n ≤ most → number_between least most (decimal n) ≡ Some n
number_found least most n small low high =
    let fits : n < 2 ^ 64 = omega arith in
    let numeral = decimal_is_IsNumeral n fits in
    let alone : get_or (decimal n) 0 0 ≡ 48 → length (decimal n) ≡ 1 = λ zero_first.
    elim (cases_lt n 10) [
      | inl one ↦ ap length (decimal_digit n one)
      | inr more ↦ absurd (omega (arith, zero_first, first_decimal n (omega arith) fits))
    ] in
    rw (no_leading_zero (length (decimal n)) (get_or (decimal n) 0 0) numeral.0.0 alone, read_all 0 (decimal n) numeral.0.1, numeral.1)
    (between_found least most n low high)

-- the number that a word spells is within its limits
pub number_in_range : (least most : ℕ) (word : List ℕ) (n : ℕ) → number_between least most word ≡ Some n → (least ≤ n) × (n ≤ most)
number_in_range least most word n e =
    let parts = kept_behind _ (between least most (read_digits 0 word)) n e in
    let number = between_some least most (read_digits 0 word) n parts.1 in
    (number.1, number.2)
