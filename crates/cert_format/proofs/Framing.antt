-- The text of a certificate round its records, which bytes its parts lack, and how often a part has a byte.
use Rattle.std.proofs.Common.{◌≡◌, ◌≢◌, ◌+◌, ◌<◌, ◌≤◌, ◌^◌, ◌==◌, ℕ, true, false, not, cond, List, [], ◌∷◌, ◌++◌, map, length, All, refl}
use Rattle.std.proofs.Common.{sym, ap, ap₂, ◌∙◌, arith, append_assoc, codes, decimal}
use Rattle.std.proofs.lemmas.Bool.{and_from, ne_eqb}
use Rattle.std.proofs.lemmas.Fmt.{decimal_is_IsNumeral}
use Rattle.std.proofs.lemmas.List.Elements.{All-head, All-tail}
use Rattle.std.proofs.lemmas.List.Folds.{list_all-append}
use Rattle.std.proofs.lemmas.List.Sums.{sum_by-append, sum_by-cons}
use Rattle.std.proofs.lemmas.Str.Parse.{digit_from_value}
use Rattle.std.specs.Str.Parse.{AllDigits}
use Rattle.arc_map.specs.Records.{Record}
use Rattle.cert_format.specs.Certificate.{Content, IsRecord, IsSmall, further, listed, numbers_text, record_text, held_text, weights_text}
use Rattle.cert_format.specs.Certificate.{certificate_text}
use Rattle.cert_format.specs.Parts.{joined, bare, lacks, count}

-- ---- the text round the records

abbrev pub front_text : Content → List ℕ
front_text c = codes "{\"bound\":" ++ decimal c.bound ++ codes ",\"chains\":"

abbrev pub back_text : Content → List ℕ
back_text c = held_text c.version c.held ++ (codes ",\"version\":"
    ++ (decimal c.version ++ (weights_text c.version c.wx c.wy ++ codes "}")))

seven : (a b c d e f g : List ℕ) → (((((a ++ b) ++ c) ++ d) ++ e) ++ f) ++ g ≡ a ++ (b ++ (c ++ (d ++ (e ++ (f ++ g)))))
seven a b c d e f g = simp append_assoc

listed_joined : (ts : List (List ℕ)) → listed ts ≡ 91 ∷ (joined ts ++ 93 ∷ [])
listed_joined [] = refl
listed_joined (t ∷ ts) = ap (λ l. 91 ∷ l) (sym (append_assoc t (further ts) (93 ∷ [])))

pub opened : (c : Content) → certificate_text c ≡ front_text c ++ (91 ∷ (joined (map record_text c.entries) ++ (93 ∷ back_text c)))
opened c =
    let ts = map record_text c.entries in
    seven (front_text c) (listed ts) (held_text c.version c.held) (codes ",\"version\":") (decimal c.version)
    (weights_text c.version c.wx c.wy) (codes "}")
    ∙ ap (λ l. front_text c ++ (l ++ back_text c)) (listed_joined ts)
    ∙ ap (λ l. front_text c ++ (91 ∷ l)) (append_assoc (joined ts) (93 ∷ []) (back_text c))

pub bare_opened : (c : Content) → certificate_text (bare c) ≡ front_text c ++ (91 ∷ (93 ∷ back_text c))
bare_opened c = opened (bare c)

-- the records between the two parts, and the two parts alone
pub with_records : (c : Content) (front back : List ℕ) → front ≡ front_text c ++ 91 ∷ [] → back ≡ 93 ∷ back_text c
    → (front ++ joined (map record_text c.entries)) ++ back ≡ certificate_text c
with_records c front back e f =
    let j = joined (map record_text c.entries) in
    ap₂ (λ (a b : List ℕ). (a ++ j) ++ b) e f
    ∙ append_assoc (front_text c ++ 91 ∷ []) j (93 ∷ back_text c) ∙ append_assoc (front_text c) (91 ∷ []) (j ++ (93 ∷ back_text c))
    ∙ sym (opened c)

pub without_records : (c : Content) (front back : List ℕ) → front ≡ front_text c ++ 91 ∷ [] → back ≡ 93 ∷ back_text c
    → front ++ back ≡ certificate_text (bare c)
without_records c front back e f = ap₂ (λ (a b : List ℕ). a ++ b) e f ∙ append_assoc (front_text c) (91 ∷ []) (93 ∷ back_text c)
    ∙ sym (bare_opened c)

-- ---- the bytes that a part lacks

pub lacks_both : (byte : ℕ) (xs ys : List ℕ) → lacks byte xs ≡ true → lacks byte ys ≡ true → lacks byte (xs ++ ys) ≡ true
lacks_both byte xs ys e f = list_all-append (λ b. not (b == byte)) xs ys ∙ and_from _ _ e f

-- neither digit nor comma nor bracket of a list
pub record IsMark (byte : ℕ) : Type 0 where
  pub digit : (d : ℕ) → 48 ≤ d → d ≤ 57 → d ≢ byte
  pub comma : (44 == byte) ≡ false
  pub opening : (91 == byte) ≡ false
  pub closing : (93 == byte) ≡ false

digits_lack : (byte : ℕ) → ((d : ℕ) → 48 ≤ d → d ≤ 57 → d ≢ byte) → (ds : List ℕ) → AllDigits 10 ds → lacks byte ds ≡ true
digits_lack byte other [] all = refl
digits_lack byte other (d ∷ ds) all =
    let range = digit_from_value d all.0 in
    and_from _ _ (ap not (ne_eqb d byte (other d (omega arith) (omega arith)))) (digits_lack byte other ds all.1)

pub decimal_lacks : (byte : ℕ) → ((d : ℕ) → 48 ≤ d → d ≤ 57 → d ≢ byte) → (n : ℕ) → n < 2 ^ 64 → lacks byte (decimal n) ≡ true
decimal_lacks byte other n h = digits_lack byte other (decimal n) (decimal_is_IsNumeral n h).0.1

one_lacks : (byte b : ℕ) (bs : List ℕ) → (b == byte) ≡ false → lacks byte bs ≡ true → lacks byte (b ∷ bs) ≡ true
one_lacks byte b bs other rest = and_from _ _ (ap not other) rest

pub further_lack : (byte : ℕ) → IsMark byte → (ns : List ℕ) → All IsSmall ns → lacks byte (further (map decimal ns)) ≡ true
further_lack byte mark [] all = refl
further_lack byte mark (n ∷ ns) all =
    let small = All-head IsSmall n ns all in
    lacks_both byte (44 ∷ decimal n) (further (map decimal ns))
    (one_lacks byte 44 (decimal n) mark.comma (decimal_lacks byte mark.digit n (omega arith)))
    (further_lack byte mark ns (All-tail IsSmall n ns all))

pub numbers_lack : (byte : ℕ) → IsMark byte → (ns : List ℕ) → All IsSmall ns → lacks byte (numbers_text ns) ≡ true
numbers_lack byte mark [] all = one_lacks byte 91 (93 ∷ []) mark.opening (one_lacks byte 93 [] mark.closing refl)
numbers_lack byte mark (n ∷ ns) all =
    let small = All-head IsSmall n ns all in
    lacks_both byte (91 ∷ decimal n) (further (map decimal ns) ++ 93 ∷ [])
    (one_lacks byte 91 (decimal n) mark.opening (decimal_lacks byte mark.digit n (omega arith)))
    (lacks_both byte (further (map decimal ns)) (93 ∷ []) (further_lack byte mark ns (All-tail IsSmall n ns all))
    (one_lacks byte 93 [] mark.closing refl))

-- the text of a record up to its closing brace
abbrev pub record_body : Record → List ℕ
record_body r = codes "{\"arc\":" ++ decimal r.arc ++ codes ",\"from\":" ++ decimal r.«from»
    ++ codes ",\"kept\":" ++ numbers_text r.kept ++ codes ",\"layers\":" ++ numbers_text r.layers

brace : IsMark 125
brace = record { digit = λ d low high. omega arith; comma = refl; opening = refl; closing = refl }

eight_lack : (byte : ℕ) (a b c d e f g h : List ℕ) → lacks byte a ≡ true → lacks byte b ≡ true → lacks byte c ≡ true → lacks byte d ≡ true
    → lacks byte e ≡ true → lacks byte f ≡ true → lacks byte g ≡ true → lacks byte h ≡ true
    → lacks byte (((((((a ++ b) ++ c) ++ d) ++ e) ++ f) ++ g) ++ h) ≡ true
eight_lack byte a b c d e f g h la lb lc ld le lf lg lh =
    lacks_both byte ((((((a ++ b) ++ c) ++ d) ++ e) ++ f) ++ g) h
    (lacks_both byte (((((a ++ b) ++ c) ++ d) ++ e) ++ f) g
    (lacks_both byte ((((a ++ b) ++ c) ++ d) ++ e) f
    (lacks_both byte (((a ++ b) ++ c) ++ d) e
    (lacks_both byte ((a ++ b) ++ c) d
    (lacks_both byte (a ++ b) c (lacks_both byte a b la lb) lc) ld) le) lf) lg) lh

pub body_lacks : (r : Record) → IsRecord r → lacks 125 (record_body r) ≡ true
body_lacks r fits =
    let a = fits.arc in
    let f = fits.«from» in
    eight_lack 125 (codes "{\"arc\":") (decimal r.arc) (codes ",\"from\":") (decimal r.«from») (codes ",\"kept\":") (numbers_text r.kept)
    (codes ",\"layers\":") (numbers_text r.layers)
    refl (decimal_lacks 125 brace.digit r.arc (omega arith)) refl (decimal_lacks 125 brace.digit r.«from» (omega arith))
    refl (numbers_lack 125 brace r.kept fits.kept) refl (numbers_lack 125 brace r.layers fits.layers)

pub front_lacks : (c : Content) → c.bound < 2 ^ 64 → lacks 91 (front_text c) ≡ true
front_lacks c small =
    lacks_both 91 (codes "{\"bound\":" ++ decimal c.bound) (codes ",\"chains\":")
    (lacks_both 91 (codes "{\"bound\":") (decimal c.bound) refl (decimal_lacks 91 (λ d low high. omega arith) c.bound small)) refl

-- ---- how often a part has a byte

pub count_both : (byte : ℕ) (xs ys : List ℕ) → count byte (xs ++ ys) ≡ count byte xs + count byte ys
count_both byte xs ys = sum_by-append (λ b. cond (b == byte) 1 0) xs ys

pub count_one : (byte b : ℕ) (bs : List ℕ) → (b == byte) ≡ true → count byte (b ∷ bs) ≡ 1 + count byte bs
count_one byte b bs e = sum_by-cons (λ x. cond (x == byte) 1 0) b bs ∙ ap (λ t. cond t 1 0 + count byte bs) e

commas_further : (ns : List ℕ) → length ns ≤ count 44 (further (map decimal ns))
commas_further [] = omega arith
commas_further (n ∷ ns) =
    let more = commas_further ns in
    let both = count_both 44 (44 ∷ decimal n) (further (map decimal ns)) in
    let one = count_one 44 44 (decimal n) refl in
    omega arith

commas_numbers : (ns : List ℕ) → length ns ≤ count 44 (numbers_text ns) + 1
commas_numbers [] = omega arith
commas_numbers (n ∷ ns) =
    let more = commas_further ns in
    let a = count_both 44 (91 ∷ decimal n) (further (map decimal ns) ++ 93 ∷ []) in
    let b = count_both 44 (further (map decimal ns)) (93 ∷ []) in
    omega arith

-- a record has a comma for each of its kept places and layers
pub commas_record : (r : Record) → (length r.kept ≤ count 44 (record_text r)) × (length r.layers ≤ count 44 (record_text r))
commas_record r =
    let kept = commas_numbers r.kept in
    let layers = commas_numbers r.layers in
    let to_layers = count_both 44 (record_body r) (codes "}") in
    let a = codes "{\"arc\":" ++ decimal r.arc ++ codes ",\"from\":" ++ decimal r.«from» in
    let b = a ++ codes ",\"kept\":" in
    let c = b ++ numbers_text r.kept in
    let d = c ++ codes ",\"layers\":" in
    let e = count_both 44 d (numbers_text r.layers) in
    let f = count_both 44 c (codes ",\"layers\":") in
    let g = count_both 44 b (numbers_text r.kept) in
    let h = count_both 44 a (codes ",\"kept\":") in
    let one : count 44 (codes ",\"kept\":") ≡ 1 = refl in
    let two : count 44 (codes ",\"layers\":") ≡ 1 = refl in
    (omega arith, omega arith)
