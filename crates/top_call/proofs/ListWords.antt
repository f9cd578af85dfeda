-- A word is a list of numbers exactly where it is their decimals with commas between them.
use Rattle.std.proofs.Common.{◌≡◌, ◌≢◌, ◌∙◌, ℕ, suc, ◌+◌, ◌-◌, ◌^◌, ◌<◌, ◌≤◌, ◌==◌, ◌&&◌, nat_lt, List, [], ◌∷◌, ◌++◌, Option, None, Some}
use Rattle.std.proofs.Common.{true, false, All, length, get_or, map, decimal, refl, sym, ap, subst, arith, ltb-true, lt-ltb}
use Rattle.std.proofs.lemmas.Bool.{and_parts}
use Rattle.std.proofs.lemmas.Bool.Decides.{nat_tests}
use Rattle.std.proofs.lemmas.Fmt.{decimal_is_IsNumeral}
use Rattle.std.proofs.lemmas.List.{length-map}
use Rattle.std.proofs.lemmas.List.Elements.{All-nil, All-cons}
use Rattle.std.proofs.lemmas.List.Splits.{length-slice_split, join_with_byte-slice_split, slice_split_none, slice_split_at}
use Rattle.std.proofs.lemmas.Str.Parse.{digit_from_value}
use Rattle.std.specs.List.{join_with_byte}
use Rattle.std.specs.Str.Parse.{AllDigits}
use Rattle.top_call.specs.Words.{number_between, words_between, is_some_number, are_rising, is_list, number_then, numbers_in, numbers_of}
use Rattle.top_call.specs.Requests.{AreRising, AreListed, list_word}
use Rattle.top_call.proofs.Numbers.{number_spelled, number_found, number_in_range}

-- ---- words that spell rising numbers

-- the words are the decimals of their numbers, which rise and are no more than there is room for
record AreNumbers (most least room : ℕ) (words : List (List ℕ)) : Type 0 where
  words_are : words ≡ map decimal (numbers_in most words)
  few : length (numbers_in most words) ≤ room
  rising : AreRising most least (numbers_in most words)

rising_step : (most least room : ℕ) (word : List ℕ) (words : List (List ℕ)) (o : Option ℕ) → most < 2 ^ 64
    → number_between least most word ≡ o
    → ((n : ℕ) → are_rising most (n + 1) (room - 1) words ≡ true → AreNumbers most (n + 1) (room - 1) words)
    → is_some_number (λ n. nat_lt 0 room && are_rising most (n + 1) (room - 1) words) o ≡ true → AreNumbers most least room (word ∷ words)
rising_step most least room word words None small is more e = absurd cc
rising_step most least room word words (Some n) small is more e =
    let tests = and_parts (nat_lt 0 room) (are_rising most (n + 1) (room - 1) words) e in
    let rest = more n tests.1 in
    let some : 0 < room = ltb-true 0 room tests.0 in
    let range = number_in_range least most word n is in
    let spelled : word ≡ decimal n = number_spelled least most word n small is in
    let again : number_between 0 most word ≡ Some n = ap (number_between 0 most) spelled
    ∙ number_found 0 most n small (omega arith) range.1 in
    let numbers : numbers_in most (word ∷ words) ≡ n ∷ numbers_in most words =
    ap (λ (p : Option ℕ). number_then p (numbers_in most words)) again in
    let fits : length (n ∷ numbers_in most words) ≤ room = omega (arith, rest.few, some) in
    record {
      words_are = ap (λ (w : List ℕ). w ∷ words) spelled ∙ ap (λ (ws : List (List ℕ)). decimal n ∷ ws) rest.words_are
          ∙ ap (map decimal) (sym numbers);
      few = subst (λ (ns : List ℕ). length ns ≤ room) (sym numbers) fits;
      rising = subst (AreRising most least) (sym numbers) (range.0, range.1, rest.rising);
    }

rising_made : (most least room : ℕ) (words : List (List ℕ)) → most < 2 ^ 64 → are_rising most least room words ≡ true
    → AreNumbers most least room words
rising_made most least room [] small e = record { words_are = refl; few = omega arith; rising = tt }
rising_made most least room (word ∷ words) small e =
    rising_step most least room word words (number_between least most word) small refl
    (λ n rises. rising_made most (n + 1) (room - 1) words small rises) e

-- the list is that of its numbers
pub record IsListed (most room : ℕ) (list : List ℕ) : Type 0 where
  pub spelled : list ≡ list_word (numbers_of most list)
  pub numbers : AreListed most room (numbers_of most list)

pub list_made : (most room : ℕ) (list : List ℕ) → most < 2 ^ 64 → is_list most room list ≡ true → IsListed most room list
list_made most room list small e =
    let are = rising_made most 0 room (words_between list) small e in
    let words = length-slice_split (λ (b : ℕ). b == 44) list in
    let numbers : length (words_between list) ≡ length (numbers_of most list) = ap length are.words_are
    ∙ length-map (numbers_of most list) decimal in
    record {
      spelled = sym (join_with_byte-slice_split 44 list) ∙ ap (join_with_byte 44) are.words_are;
      numbers = record { some = omega (arith, words, numbers); few = are.few; rising = are.rising };
    }

-- ---- the decimals of rising numbers

rising_found : (most least room : ℕ) (ns : List ℕ) → most < 2 ^ 64 → AreRising most least ns → length ns ≤ room
    → are_rising most least room (map decimal ns) ≡ true
rising_found most least room [] small rising few = refl
rising_found most least room (n ∷ ns) small rising few =
    let found = number_found least most n small rising.0 rising.1 in
    let rest : are_rising most (n + 1) (room - 1) (map decimal ns) ≡ true =
    rising_found most (n + 1) (room - 1) ns small rising.2 (omega arith) in
    let some : nat_lt 0 room ≡ true = lt-ltb 0 room (omega arith) in
    let both : (nat_lt 0 room && are_rising most (n + 1) (room - 1) (map decimal ns)) ≡ true = λ i. some i && rest i in
    ap (is_some_number (λ k. nat_lt 0 room && are_rising most (k + 1) (room - 1) (map decimal ns))) found ∙ both

numbers_found : (most least : ℕ) (ns : List ℕ) → most < 2 ^ 64 → AreRising most least ns → numbers_in most (map decimal ns) ≡ ns
numbers_found most least [] small rising = refl
numbers_found most least (n ∷ ns) small rising =
    ap (λ (o : Option ℕ). number_then o (numbers_in most (map decimal ns))) (number_found 0 most n small (omega arith) rising.1)
    ∙ ap (λ (ms : List ℕ). n ∷ ms) (numbers_found most (n + 1) ns small rising.2)

no_comma : (ds : List ℕ) → AllDigits 10 ds → All (λ b. (b == 44) ≡ false) ds
no_comma [] digits = All-nil (λ b. (b == 44) ≡ false)
no_comma (c ∷ cs) digits =
    let inside = digit_from_value c digits.0 in
    let apart : (c == 44) ≡ false = not_comma c (omega (arith, inside.0)) in
    All-cons (λ b. (b == 44) ≡ false) c cs apart (no_comma cs digits.1)
  where
    not_comma : (c : ℕ) → 48 ≤ c → (c == 44) ≡ false
    not_comma c high = grind (arith, nat_tests)

words_joined : (most least n : ℕ) (ns : List ℕ) → most < 2 ^ 64 → AreRising most least (n ∷ ns)
    → words_between (join_with_byte 44 (map decimal (n ∷ ns))) ≡ map decimal (n ∷ ns)
words_joined most least n [] small rising =
    slice_split_none (λ b. b == 44) (decimal n) (no_comma (decimal n) (decimal_is_IsNumeral n (omega (arith, rising.1))).0.1)
words_joined most least n (m ∷ ns) small rising =
    slice_split_at (λ b. b == 44) (decimal n) 44 (join_with_byte 44 (map decimal (m ∷ ns)))
    (no_comma (decimal n) (decimal_is_IsNumeral n (omega (arith, rising.1))).0.1) refl
    ∙ ap (λ (ws : List (List ℕ)). decimal n ∷ ws) (words_joined most (n + 1) m ns small rising.2)

words_found : (most room : ℕ) (numbers : List ℕ) → most < 2 ^ 64 → AreListed most room numbers
    → words_between (list_word numbers) ≡ map decimal numbers
words_found most room [] small are = absurd (omega (arith, are.some))
words_found most room (n ∷ ns) small are = words_joined most 0 n ns small are.rising

pub list_found : (most room : ℕ) (numbers : List ℕ) → most < 2 ^ 64 → AreListed most room numbers
    → is_list most room (list_word numbers) ≡ true
list_found most room numbers small are =
    ap (are_rising most 0 room) (words_found most room numbers small are) ∙ rising_found most 0 room numbers small are.rising are.few

pub listed_found : (most room : ℕ) (numbers : List ℕ) → most < 2 ^ 64 → AreListed most room numbers
    → numbers_of most (list_word numbers) ≡ numbers
listed_found most room numbers small are =
    ap (numbers_in most) (words_found most room numbers small are) ∙ numbers_found most 0 numbers small are.rising

-- ---- the numbers of a list

small_then : (most : ℕ) (o : Option ℕ) (numbers : List ℕ) → ((n : ℕ) → o ≡ Some n → n ≤ most) → All (λ n. n ≤ most) numbers
    → All (λ n. n ≤ most) (number_then o numbers)
small_then most None numbers small rest = rest
small_then most (Some n) numbers small rest = All-cons (λ k. k ≤ most) n numbers (small n refl) rest

-- each is at most `most`
pub all_small : (most : ℕ) (words : List (List ℕ)) → All (λ n. n ≤ most) (numbers_in most words)
all_small most [] = All-nil (λ n. n ≤ most)
all_small most (word ∷ words) =
    small_then most (number_between 0 most word) (numbers_in most words) (λ n is. (number_in_range 0 most word n is).1)
    (all_small most words)

-- ---- what is left of a list

-- no byte is a comma
lacks_comma : (text : List ℕ) → ((i : ℕ) → i < length text → get_or text i 0 ≢ 44) → All (λ b. (b == 44) ≡ false) text
lacks_comma [] lacks = All-nil (λ b. (b == 44) ≡ false)
lacks_comma (c ∷ cs) lacks =
    let apart : c ≢ 44 = lacks 0 (omega arith) in
    All-cons (λ b. (b == 44) ≡ false) c cs (grind (arith, nat_tests)) (lacks_comma cs (λ i below. lacks (suc i) (omega arith)))

pub cut_at_comma : (word rest : List ℕ) → ((i : ℕ) → i < length word → get_or word i 0 ≢ 44)
    → words_between (word ++ 44 ∷ rest) ≡ word ∷ words_between rest
cut_at_comma word rest lacks = slice_split_at (λ b. b == 44) word 44 rest (lacks_comma word lacks) refl

pub uncut : (word : List ℕ) → ((i : ℕ) → i < length word → get_or word i 0 ≢ 44) → words_between word ≡ word ∷ []
uncut word lacks = slice_split_none (λ b. b == 44) word (lacks_comma word lacks)
