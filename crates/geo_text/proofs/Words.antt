-- Words of letters in quotes, and objects by their members.
use Rattle.std.proofs.Common.{◌≡◌, ℕ, ◌<◌, Bool, true, ◌&&◌, nat_lt, List, [], ◌∷◌, ◌++◌, refl, sym, ap, ◌∙◌, arith, append_assoc}
use Rattle.std.specs.Str.{IsAscii}
use Rattle.std.specs.List.{AllByRecursion}
use Rattle.std.proofs.lemmas.Bool.{and_parts, ltb-true}
use Rattle.std.proofs.lemmas.Str.{IsAscii-append}
use Rattle.std.proofs.lemmas.Str.Ascii.{IsAscii-nil, IsAscii-cons}
use Rattle.json_scan.specs.Bytes.{is_plain}
use Rattle.json_scan.specs.View.{symbols}
use Rattle.json_scan.specs.Grammar.{Piece, Plain, IsPiece, Text, pieces_then}
use Rattle.json_scan.specs.Tree.{Tree, TextAt, ObjectAt, Entries, NoEntries, NextEntry}
use Rattle.topo_writer.proofs.TextForms.{Spelled}

abbrev pub IsTextTree : List ℕ → Tree → Type 0
IsTextTree word (TextAt e symbols) = symbols ≡ word
IsTextTree word _ = ⊥

abbrev pub IsObjectTree : (Entries → Type 0) → Tree → Type 0
IsObjectTree Q (ObjectAt e members) = Q members
IsObjectTree Q _ = ⊥

-- the first member has this name, its value and the members behind it are such
abbrev pub StartsWith : List ℕ → (Tree → Type 0) → (Entries → Type 0) → Entries → Type 0
StartsWith name P Q NoEntries = ⊥
StartsWith name P Q (NextEntry e word t others) = (word ≡ name) × P t × Q others

abbrev pub IsEnd : Entries → Type 0
IsEnd NoEntries = Unit {0}
IsEnd (NextEntry e word t others) = ⊥

-- ---- words of letters

abbrev pub pieces : List ℕ → List Piece
pieces [] = []
pieces (b ∷ bs) = Plain b ∷ pieces bs

abbrev pub are_letters : List ℕ → Bool
are_letters [] = true
are_letters (b ∷ bs) = (is_plain b && nat_lt b 128) && are_letters bs

pub pieces-valid : (word : List ℕ) → are_letters word ≡ true → AllByRecursion IsPiece (pieces word)
pieces-valid [] all = tt
pieces-valid (b ∷ bs) all =
    let both = and_parts (is_plain b && nat_lt b 128) (are_letters bs) all in
    ((and_parts (is_plain b) (nat_lt b 128) both.0).0, pieces-valid bs both.1)

letters-ascii : (word : List ℕ) → are_letters word ≡ true → IsAscii word
letters-ascii [] all = IsAscii-nil
letters-ascii (b ∷ bs) all =
    let both = and_parts (is_plain b && nat_lt b 128) (are_letters bs) all in
    IsAscii-cons b bs (ltb-true b 128 (and_parts (is_plain b) (nat_lt b 128) both.0).1) (letters-ascii bs both.1)

pieces-spelled : (word rest : List ℕ) → pieces_then (pieces word) rest ≡ word ++ rest
pieces-spelled [] rest = refl
pieces-spelled (b ∷ bs) rest = ap (λ (l : List ℕ). b ∷ l) (pieces-spelled bs rest)

pub pieces-mean : (word : List ℕ) → symbols (pieces word) ≡ word
pieces-mean [] = refl
pieces-mean (b ∷ bs) = ap (λ (l : List ℕ). b ∷ l) (pieces-mean bs)

-- the word in quotes
abbrev pub quoted : List ℕ → List ℕ
quoted word = 34 ∷ (word ++ 34 ∷ [])

pub quoted-ascii : (word : List ℕ) → are_letters word ≡ true → IsAscii (quoted word)
quoted-ascii word all = IsAscii-cons 34 (word ++ 34 ∷ []) (omega arith)
    (IsAscii-append word (34 ∷ []) (letters-ascii word all) (IsAscii-cons 34 [] (omega arith) IsAscii-nil))

pub quoted-spelled : (word rest : List ℕ) → 34 ∷ pieces_then (pieces word) (34 ∷ rest) ≡ quoted word ++ rest
quoted-spelled word rest = ap (λ (l : List ℕ). 34 ∷ l) (pieces-spelled word (34 ∷ rest) ∙ sym (append_assoc word (34 ∷ []) rest))

pub word-spelled : (word : List ℕ) → are_letters word ≡ true → Spelled (IsTextTree word) 0 (quoted word)
word-spelled word all = record {
  form = Text (pieces word);
  valid = pieces-valid word all;
  deep = omega arith;
  spelled = quoted-spelled word;
  ascii = quoted-ascii word all;
  tree = λ place. pieces-mean word;
}
