-- How many objects and lists the text of a record opens, and that of a certificate without its records.
use Rattle.std.proofs.Common.{◌≡◌, ◌+◌, ◌<◌, ◌≤◌, ◌^◌, ◌==◌, ◌≢◌, ℕ, Bool, true, false, nat_le, cond, if◌then◌else◌, List, [], ◌∷◌, ◌++◌}
use Rattle.std.proofs.Common.{map, All, refl, ap, arith, codes, decimal}
use Rattle.std.proofs.lemmas.Bool.{and_parts, not-true}
use Rattle.std.proofs.lemmas.List.Elements.{All-head, All-tail}
use Rattle.std.proofs.lemmas.List.Sums.{sum_by-cons}
use Rattle.arc_map.specs.Records.{Record}
use Rattle.cert_format.specs.Certificate.{Content, IsCertificate, IsRecord, IsSmall, further, numbers_text, record_text, held_text}
use Rattle.cert_format.specs.Certificate.{weights_text, certificate_text}
use Rattle.cert_format.specs.Parts.{IsTextOf, bare, lacks, count}
use Rattle.cert_format.specs.Values.{record_data, data_of}
use Rattle.cert_format.proofs.Bare.{bare_fits}
use Rattle.cert_format.proofs.Found.{wide_bound, small_version, small_across, small_up}
use Rattle.cert_format.proofs.Framing.{IsMark, decimal_lacks, numbers_lack, count_both, count_one}
use Rattle.cert_format.proofs.ReadBack.{certificate_reads, certificate_utf8, record_reads, record_is_utf8, two_small}

no_more : (all first rest : ℕ) → all ≡ first + rest → first ≡ 0 → rest ≡ 0 → all ≡ 0
no_more all first rest sum f r = omega arith

count_none : (byte : ℕ) (bs : List ℕ) → lacks byte bs ≡ true → count byte bs ≡ 0
count_none byte [] none = refl
count_none byte (b ∷ bs) none =
    let other : (b == byte) ≡ false = not-true (b == byte) (and_parts _ _ none).0 in
    let rest = count_none byte bs (and_parts _ _ none).1 in
    no_more (count byte (b ∷ bs)) (cond (b == byte) 1 0) (count byte bs) (sum_by-cons (λ x. cond (x == byte) 1 0) b bs)
    (ap (λ t. cond t 1 0) other) rest

decimal_none : (byte : ℕ) → ((d : ℕ) → 48 ≤ d → d ≤ 57 → d ≢ byte) → (n : ℕ) → n < 2 ^ 64 → count byte (decimal n) ≡ 0
decimal_none byte other n h = count_none byte (decimal n) (decimal_lacks byte other n h)

brace : IsMark 123
brace = record { digit = λ d low high. omega arith; comma = refl; opening = refl; closing = refl }

-- a list of numbers opens one list
further_none : (ns : List ℕ) → All IsSmall ns → count 91 (further (map decimal ns)) ≡ 0
further_none [] all = refl
further_none (n ∷ ns) all =
    let small = All-head IsSmall n ns all in
    let own = decimal_none 91 (λ d low high. omega arith) n (omega arith) in
    let more = further_none ns (All-tail IsSmall n ns all) in
    let a = count_both 91 (44 ∷ decimal n) (further (map decimal ns)) in
    let b = count_both 91 (44 ∷ []) (decimal n) in
    omega arith

one_list : (ns : List ℕ) → All IsSmall ns → count 91 (numbers_text ns) ≡ 1
one_list [] all = refl
one_list (n ∷ ns) all =
    let small = All-head IsSmall n ns all in
    let own = decimal_none 91 (λ d low high. omega arith) n (omega arith) in
    let more = further_none ns (All-tail IsSmall n ns all) in
    let a = count_both 91 (91 ∷ decimal n) (further (map decimal ns) ++ 93 ∷ []) in
    let b = count_one 91 91 (decimal n) refl in
    let c = count_both 91 (further (map decimal ns)) (93 ∷ []) in
    omega arith

nine : (byte : ℕ) (a b c d e f g h i : List ℕ) → count byte ((((((((a ++ b) ++ c) ++ d) ++ e) ++ f) ++ g) ++ h) ++ i)
    ≡ count byte a + count byte b + count byte c + count byte d + count byte e + count byte f + count byte g + count byte h + count byte i
nine byte a b c d e f g h i =
    let ab = count_both byte a b in
    let abc = count_both byte (a ++ b) c in
    let abd = count_both byte ((a ++ b) ++ c) d in
    let abe = count_both byte (((a ++ b) ++ c) ++ d) e in
    let abf = count_both byte ((((a ++ b) ++ c) ++ d) ++ e) f in
    let abg = count_both byte (((((a ++ b) ++ c) ++ d) ++ e) ++ f) g in
    let abh = count_both byte ((((((a ++ b) ++ c) ++ d) ++ e) ++ f) ++ g) h in
    let abi = count_both byte (((((((a ++ b) ++ c) ++ d) ++ e) ++ f) ++ g) ++ h) i in
    omega arith

record_parts : (byte : ℕ) (r : Record) → count byte (record_text r)
    ≡ count byte (codes "{\"arc\":") + count byte (decimal r.arc) + count byte (codes ",\"from\":") + count byte (decimal r.«from») + count
    byte (codes ",\"kept\":")
    + count byte (numbers_text r.kept) + count byte (codes ",\"layers\":") + count byte (numbers_text r.layers) + count byte (codes "}")
record_parts byte r = nine byte (codes "{\"arc\":") (decimal r.arc) (codes ",\"from\":") (decimal r.«from») (codes ",\"kept\":")
    (numbers_text r.kept) (codes ",\"layers\":") (numbers_text r.layers) (codes "}")

pub record_is_text : (r : Record) → IsRecord r → IsTextOf 2 (record_data r) (record_text r)
record_is_text r fits =
    let arc = fits.arc in
    let start = fits.«from» in
    let braces = record_parts 123 r in
    let brackets = record_parts 91 r in
    let a = decimal_none 123 brace.digit r.arc (omega arith) in
    let b = decimal_none 123 brace.digit r.«from» (omega arith) in
    let c = count_none 123 (numbers_text r.kept) (numbers_lack 123 brace r.kept fits.kept) in
    let d = count_none 123 (numbers_text r.layers) (numbers_lack 123 brace r.layers fits.layers) in
    let e = decimal_none 91 (λ d low high. omega arith) r.arc (omega arith) in
    let f = decimal_none 91 (λ d low high. omega arith) r.«from» (omega arith) in
    let g = one_list r.kept fits.kept in
    let h = one_list r.layers fits.layers in
    let p : count 123 (codes "{\"arc\":") ≡ 1 = refl in
    let q : count 123 (codes ",\"from\":") ≡ 0 = refl in
    let s : count 123 (codes ",\"kept\":") ≡ 0 = refl in
    let t : count 123 (codes ",\"layers\":") ≡ 0 = refl in
    let u : count 123 (codes "}") ≡ 0 = refl in
    let p' : count 91 (codes "{\"arc\":") ≡ 0 = refl in
    let q' : count 91 (codes ",\"from\":") ≡ 0 = refl in
    let s' : count 91 (codes ",\"kept\":") ≡ 0 = refl in
    let t' : count 91 (codes ",\"layers\":") ≡ 0 = refl in
    let u' : count 91 (codes "}") ≡ 0 = refl in
    record { utf8 = record_is_utf8 r fits; reads = record_reads r fits; objects = omega arith; lists = omega arith }

-- a list behind a word, where it stands
count_if : (byte most : ℕ) (b : Bool) (front text : List ℕ) → count byte front ≡ 0 → count byte text ≤ most
    → count byte (if b then front ++ text else []) ≤ most
count_if byte most true front text none few = let both = count_both byte front text in omega arith
count_if byte most false front text none few = omega arith

pub bare_is_text : (c : Content) → IsCertificate c → IsTextOf 3 (data_of (bare c)) (certificate_text (bare c))
bare_is_text c fits =
    let wide = wide_bound c fits in
    let small = small_version c fits in
    let pair = two_small c.wx c.wy (small_across c fits) (small_up c fits) in
    let held = one_list c.held fits.held in
    let weights = one_list (c.wx ∷ c.wy ∷ []) pair in
    let no_held = count_none 123 (numbers_text c.held) (numbers_lack 123 brace c.held fits.held) in
    let no_weights = count_none 123 (numbers_text (c.wx ∷ c.wy ∷ [])) (numbers_lack 123 brace (c.wx ∷ c.wy ∷ []) pair) in
    let a = count_if 91 1 (nat_le 2 c.version) (codes ",\"held\":") (numbers_text c.held) refl (omega arith) in
    let b = count_if 91 1 (nat_le 3 c.version) (codes ",\"weights\":") (numbers_text (c.wx ∷ c.wy ∷ [])) refl (omega arith) in
    let d = count_if 123 0 (nat_le 2 c.version) (codes ",\"held\":") (numbers_text c.held) refl (omega arith) in
    let e = count_if 123 0 (nat_le 3 c.version) (codes ",\"weights\":") (numbers_text (c.wx ∷ c.wy ∷ [])) refl (omega arith) in
    let f = decimal_none 123 brace.digit c.bound wide in
    let g = decimal_none 123 brace.digit c.version (omega arith) in
    let h = decimal_none 91 (λ d low high. omega arith) c.bound wide in
    let i = decimal_none 91 (λ d low high. omega arith) c.version (omega arith) in
    let brackets = bare_parts 91 c in
    let braces = bare_parts 123 c in
    let p : count 123 (codes "{\"bound\":") ≡ 1 = refl in
    let q : count 123 (codes ",\"chains\":") ≡ 0 = refl in
    let s : count 123 (codes "[]") ≡ 0 = refl in
    let t : count 123 (codes ",\"version\":") ≡ 0 = refl in
    let u : count 123 (codes "}") ≡ 0 = refl in
    let p' : count 91 (codes "{\"bound\":") ≡ 0 = refl in
    let q' : count 91 (codes ",\"chains\":") ≡ 0 = refl in
    let s' : count 91 (codes "[]") ≡ 1 = refl in
    let t' : count 91 (codes ",\"version\":") ≡ 0 = refl in
    let u' : count 91 (codes "}") ≡ 0 = refl in
    record {
      utf8 = certificate_utf8 (bare c) (bare_fits c fits);
      reads = certificate_reads (bare c) (bare_fits c fits);
      objects =
          omega arith;
      lists = omega arith;
    }
  where
    bare_parts : (byte : ℕ) (c : Content) → count byte (certificate_text (bare c))
        ≡ count byte (codes "{\"bound\":") + count byte (decimal c.bound) + count byte (codes ",\"chains\":") + count byte (codes "[]")
        + count byte (held_text c.version c.held)
        + count byte (codes ",\"version\":") + count byte (decimal c.version) + count byte (weights_text c.version c.wx c.wy) + count byte
        (codes "}")
    bare_parts byte c = nine byte (codes "{\"bound\":") (decimal c.bound) (codes ",\"chains\":") (codes "[]") (held_text c.version c.held)
        (codes ",\"version\":") (decimal c.version) (weights_text c.version c.wx c.wy) (codes "}")
