-- How long the text of a certificate is: a record of a chain of m edges takes at most 59 m bytes, its comma counted.
use Rattle.std.specs.Prelude.{codes, if◌then◌else◌}
use Rattle.std.specs.Fmt.{decimal}
use Rattle.std.proofs.Common.{◌≡◌, ℕ, ◌+◌, ◌*◌, ◌<◌, ◌≤◌, ◌^◌, Bool, true, false, nat_le, List, [], ◌∷◌, ◌++◌, All, map, length, refl, inl}
use Rattle.std.proofs.Common.{inr, arith}
use Rattle.std.proofs.lemmas.Bool.{cases_lt}
use Rattle.std.proofs.lemmas.Fmt.{length-decimal-le}
use Rattle.std.proofs.lemmas.List.{length-append}
use Rattle.std.proofs.lemmas.List.Elements.{All-head, All-tail}
use Rattle.arc_map.specs.Records.{Record}
use Rattle.cert_format.specs.Certificate.{Content, further, listed, numbers_text, record_text, held_text, weights_text, certificate_text}

-- ---- lists of numbers

-- the most bytes of numbers of so many digits, each behind a comma
abbrev room : ℕ → List ℕ → ℕ
room digits [] = 0
room digits (n ∷ ns) = digits + 1 + room digits ns

numbers_fit : (digits : ℕ) (ns : List ℕ) → All (λ n. length (decimal n) ≤ digits) ns → length (further (map decimal ns)) ≤ room digits ns
numbers_fit digits [] short = omega arith
numbers_fit digits (n ∷ ns) short =
    let here : length (decimal n) ≤ digits = All-head (λ (n : ℕ). length (decimal n) ≤ digits) n ns short in
    let later = numbers_fit digits ns (All-tail (λ (n : ℕ). length (decimal n) ≤ digits) n ns short) in
    omega (arith, here, later, length-append (44 ∷ decimal n) (further (map decimal ns)))

-- brackets and commas
listed_fits : (t : List ℕ) (ts : List (List ℕ)) → length (listed (t ∷ ts)) ≡ 1 + length (further (t ∷ ts))
listed_fits t ts =
    omega (arith, length-append (91 ∷ t) (further ts ++ 93 ∷ []), length-append (further ts) (93 ∷ []), length-append (44 ∷ t) (further ts))

list_fits : (ts : List (List ℕ)) → length (listed ts) ≤ 2 + length (further ts)
list_fits [] = omega arith
list_fits (t ∷ ts) = omega (arith, listed_fits t ts)

numbers_listed : (digits : ℕ) (ns : List ℕ) → 0 < length ns → All (λ n. length (decimal n) ≤ digits) ns
    → length (numbers_text ns) ≤ 1 + room digits ns
numbers_listed digits [] some short = absurd (omega (arith, some))
numbers_listed digits (n ∷ ns) some short = omega (arith, listed_fits (decimal n) (map decimal ns), numbers_fit digits (n ∷ ns) short)

-- the room of numbers of one, four and seven digits
room_1 : (ns : List ℕ) → room 1 ns ≡ 2 * length ns
room_1 [] = refl
room_1 (n ∷ ns) = omega (arith, room_1 ns)

room_4 : (ns : List ℕ) → room 4 ns ≡ 5 * length ns
room_4 [] = refl
room_4 (n ∷ ns) = omega (arith, room_4 ns)

room_7 : (ns : List ℕ) → room 7 ns ≡ 8 * length ns
room_7 [] = refl
room_7 (n ∷ ns) = omega (arith, room_7 ns)

one_digit : (n : ℕ) → n < 10 → length (decimal n) ≤ 1
one_digit n small = length-decimal-le 1 n (omega arith) (omega (arith, small)) (omega (arith, small))

four_digits : (n : ℕ) → n < 10000 → length (decimal n) ≤ 4
four_digits n small = length-decimal-le 4 n (omega arith) (omega (arith, small)) (omega (arith, small))

seven_digits : (n : ℕ) → n < 10000000 → length (decimal n) ≤ 7
seven_digits n small = length-decimal-le 7 n (omega arith) (omega (arith, small)) (omega (arith, small))

ten_digits : (n : ℕ) → n < 10000000000 → length (decimal n) ≤ 10
ten_digits n small = length-decimal-le 10 n (omega arith) (omega (arith, small)) (omega (arith, small))

five_digits : (n : ℕ) → n < 100000 → length (decimal n) ≤ 5
five_digits n small = length-decimal-le 5 n (omega arith) (omega (arith, small)) (omega (arith, small))

-- ---- one record

-- the record of a chain of m edges: the numbers of a map, and at most m + 1 places kept and as many layers, none past m
pub record IsOfEdges (m : ℕ) (r : Record) : Type 0 where
  pub arc : r.arc < 2 ^ 20
  pub «from» : r.«from» < 2 ^ 20
  pub some_kept : 0 < length r.kept
  pub few_kept : length r.kept ≤ m + 1
  pub kept : All (λ n. n ≤ m) r.kept
  pub layer_count : length r.layers ≡ m + 1
  pub layers : All (λ n. n ≤ m) r.layers

-- texts one behind the other
five_texts : (a b c d e : List ℕ) → length (a ++ b ++ c ++ d ++ e) ≡ length a + length b + length c + length d + length e
five_texts a b c d e =
    omega (arith, length-append a b, length-append (a ++ b) c, length-append (a ++ b ++ c) d, length-append (a ++ b ++ c ++ d) e)

nine_texts : (a b c d e f g h i : List ℕ)
    → length (a ++ b ++ c ++ d ++ e ++ f ++ g ++ h ++ i) ≡ length a + length b + length c + length d + length e + length f + length g
    + length h + length i
nine_texts a b c d e f g h i = omega (arith, five_texts a b c d e, five_texts (a ++ b ++ c ++ d ++ e) f g h i)

-- the bytes of a record, part by part
record_parts : (r : Record)
    → length (record_text r) ≡ 34 + length (decimal r.arc) + length (decimal r.«from») + length (numbers_text r.kept) + length
    (numbers_text r.layers)
record_parts r =
    omega (
      arith,
      nine_texts (codes "{\"arc\":") (decimal r.arc) (codes ",\"from\":") (decimal r.«from») (codes ",\"kept\":")
          (numbers_text r.kept) (codes ",\"layers\":") (numbers_text r.layers) (codes "}"),
    )

-- where no number has more digits than these
record_fits : (digits : ℕ) (m : ℕ) (r : Record) → IsOfEdges m r → ((n : ℕ) → n ≤ m → length (decimal n) ≤ digits)
    → length (record_text r) ≤ 50 + room digits r.kept + room digits r.layers
record_fits digits m r is short =
    let kept = numbers_listed digits r.kept is.some_kept (λ k d below. short _ (is.kept k d below)) in
    let layers = numbers_listed digits r.layers (omega (arith, is.layer_count)) (λ k d below. short _ (is.layers k d below)) in
    omega (
      arith,
      kept,
      layers,
      record_parts r,
      seven_digits r.arc (omega (arith, is.arc)),
      seven_digits r.«from»
          (omega (arith, is.«from»)),
    )

-- a record of a chain of one edge, and of one of more edges
record_of_one : (m : ℕ) (r : Record) → m ≤ 1 → IsOfEdges m r → 1 ≤ m → 1 + length (record_text r) ≤ 59 * m
record_of_one m r one is edge =
    omega (
      arith,
      record_fits 1 m r is (λ n within. one_digit n (omega (arith, within, one))),
      room_1 r.kept,
      room_1 r.layers,
      is.few_kept,
      is.layer_count,
    )

record_of_more : (m : ℕ) (r : Record) → 1 < m → m ≤ 1023 → IsOfEdges m r → 1 + length (record_text r) ≤ 59 * m
record_of_more m r more few is =
    omega (
      arith,
      record_fits 4 m r is (λ n within. four_digits n (omega (arith, within, few))),
      room_4 r.kept,
      room_4 r.layers,
      is.few_kept,
      is.layer_count,
    )

pub record_is_short : (m : ℕ) (r : Record) → 1 ≤ m → m ≤ 1023 → IsOfEdges m r → 1 + length (record_text r) ≤ 59 * m
record_is_short m r edge few is =
    elim (cases_lt 1 m) [
      | inl more ↦ record_of_more m r more few is
      | inr one ↦ record_of_one m r (omega (arith, one)) is edge
    ]

-- ---- the whole

held_fits : (version : ℕ) (held : List ℕ) → All (λ n. n < 2 ^ 20) held → length (held_text version held) ≤ 10 + 8 * length held
held_fits version held small = at_version (nat_le 2 version)
  where
    listed_held : length (numbers_text held) ≤ 2 + 8 * length held
    listed_held =
        omega (
          arith,
          list_fits (map decimal held),
          numbers_fit 7 held
              (λ k d below. seven_digits _ (omega (arith, small k d below))),
          room_7 held,
        )

    at_version : (b : Bool) → length (if b then codes ",\"held\":" ++ numbers_text held else []) ≤ 10 + 8 * length held
    at_version true = omega (arith, length-append (codes ",\"held\":") (numbers_text held), listed_held)
    at_version false = omega arith

weights_fit : (version wx wy : ℕ) → wx ≤ 65536 → wy ≤ 65536 → length (weights_text version wx wy) ≤ 24
weights_fit version wx wy across up = at_version (nat_le 3 version)
  where
    both : length (numbers_text (wx ∷ wy ∷ [])) ≤ 13
    both =
        omega (
          arith,
          listed_fits (decimal wx) (decimal wy ∷ []),
          length-append (44 ∷ decimal wx) ((44 ∷ decimal wy) ++ []),
          length-append
              (44 ∷ decimal wy) [],
          five_digits wx (omega (arith, across)),
          five_digits wy (omega (arith, up)),
        )

    at_version : (b : Bool) → length (if b then codes ",\"weights\":" ++ numbers_text (wx ∷ wy ∷ []) else []) ≤ 24
    at_version true = omega (arith, length-append (codes ",\"weights\":") (numbers_text (wx ∷ wy ∷ [])), both)
    at_version false = omega arith

eight_texts : (a b c d e f g h : List ℕ)
    → length (a ++ b ++ c ++ d ++ e ++ f ++ g ++ h) ≡ length a + length b + length c + length d + length e + length f + length g + length h
eight_texts a b c d e f g h =
    omega (
      arith,
      five_texts a b c d e,
      length-append (a ++ b ++ c ++ d ++ e) f,
      length-append (a ++ b ++ c ++ d ++ e ++ f) g,
      length-append
          (a ++ b ++ c ++ d ++ e ++ f ++ g) h,
    )

-- what a certificate says keeps to these numbers
pub record HasShortParts (c : Content) : Type 0 where
  pub version : c.version ≤ 3
  pub bound : c.bound ≤ 2 ^ 30
  pub across : c.wx ≤ 65536
  pub up : c.wy ≤ 65536
  pub held : All (λ n. n < 2 ^ 20) c.held

pub certificate_fits : (c : Content) → HasShortParts c
    → length (certificate_text c) ≤ 78 + length (further (map record_text c.entries)) + 8 * length c.held
certificate_fits c is =
    omega (
      arith,
      eight_texts (codes "{\"bound\":") (decimal c.bound) (codes ",\"chains\":") (listed (map record_text c.entries))
          (held_text c.version c.held) (codes ",\"version\":") (decimal c.version) (weights_text c.version c.wx c.wy),
      length-append (codes "{\"bound\":" ++ decimal c.bound ++ codes ",\"chains\":" ++ listed (map record_text c.entries)
          ++ held_text c.version c.held ++ codes ",\"version\":" ++ decimal c.version ++ weights_text c.version c.wx c.wy) (codes "}"),
      ten_digits c.bound (omega (arith, is.bound)),
      list_fits (map record_text c.entries),
      held_fits c.version c.held is.held,
      one_digit c.version (omega (arith, is.version)),
      weights_fit c.version c.wx c.wy is.across is.up,
    )
