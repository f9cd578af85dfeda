-- Texts that are JSON values without white space: words, lists of values by their numbers, and objects.
use Rattle.std.proofs.Common.{◌≡◌, ℕ, zero, suc, ◌+◌, ◌<◌, ◌≤◌, Bool, true, ◌&&◌, nat_lt, List, [], ◌∷◌, ◌++◌, refl, sym, ap, ◌∙◌, arith}
use Rattle.std.proofs.Common.{append_assoc}
use Rattle.std.specs.Str.{IsAscii}
use Rattle.std.specs.List.{AllByRecursion, range_with_len}
use Rattle.std.proofs.lemmas.Bool.{and_parts, ltb-true}
use Rattle.std.proofs.lemmas.Str.{IsAscii-append}
use Rattle.std.proofs.lemmas.Str.Ascii.{IsAscii-nil, IsAscii-cons}
use Rattle.json_scan.specs.Bytes.{is_plain}
use Rattle.json_scan.specs.View.{symbols}
use Rattle.json_scan.specs.Grammar.{Piece, Plain, IsPiece, Text, FullObject, Members, LastMember, NextMember, pieces_then, value_then}
use Rattle.json_scan.specs.Grammar.{members_then, AreMembers, value_depth, members_depth}
use Rattle.json_scan.specs.Tree.{Tree, Entries, members_entries}
use Rattle.map_gen.specs.Make.{list_of}
use Rattle.topo_writer.proofs.TreeShapes.{IsListTree, AreTrees}
use Rattle.topo_writer.proofs.TextForms.{Spelled, list-spelled}
use Rattle.map_gen.proofs.TreeShapes.{IsTextTree, IsObjectTree, StartsWith, IsEnd}

pub record SpelledMembers (Q : Entries → Type 0) (depth : ℕ) (text : List ℕ) : Type 0 where
  pub form : Members
  pub valid : AreMembers form
  pub deep : members_depth form ≤ depth
  pub spelled : (rest : List ℕ) → members_then form rest ≡ text ++ rest
  pub ascii : IsAscii text
  pub entries : (place : ℕ) → Q (members_entries form place)

-- ---- words of letters

abbrev pieces : List ℕ → List Piece
pieces [] = []
pieces (b ∷ bs) = Plain b ∷ pieces bs

abbrev pub are_letters : List ℕ → Bool
are_letters [] = true
are_letters (b ∷ bs) = (is_plain b && nat_lt b 128) && are_letters bs

pieces-valid : (word : List ℕ) → are_letters word ≡ true → AllByRecursion IsPiece (pieces word)
pieces-valid [] all = tt
pieces-valid (b ∷ bs) all =
    let both = and_parts (is_plain b && nat_lt b 128) (are_letters bs) all in
    ((and_parts (is_plain b) (nat_lt b 128) both.0).0, pieces-valid bs both.1)

letters-ascii : (word : List ℕ) → are_letters word ≡ true → IsAscii word
letters-ascii [] all = IsAscii-nil
letters-ascii (b ∷ bs) all =
    let both = and_parts (is_plain b && nat_lt b 128) (are_letters bs) all in
    IsAscii-cons b bs (ltb-true b 128 (and_parts (is_plain b) (nat_lt b 128) both.0).1) (letters-ascii bs both.1)

pieces-spelled : (word rest : List ℕ) → pieces_then (pieces word) rest ≡ word ++ rest
pieces-spelled [] rest = refl
pieces-spelled (b ∷ bs) rest = ap (λ (l : List ℕ). b ∷ l) (pieces-spelled bs rest)

pieces-mean : (word : List ℕ) → symbols (pieces word) ≡ word
pieces-mean [] = refl
pieces-mean (b ∷ bs) = ap (λ (l : List ℕ). b ∷ l) (pieces-mean bs)

-- the word in quotes
abbrev pub quoted : List ℕ → List ℕ
quoted word = 34 ∷ (word ++ 34 ∷ [])

quoted-ascii : (word : List ℕ) → are_letters word ≡ true → IsAscii (quoted word)
quoted-ascii word all = IsAscii-cons 34 (word ++ 34 ∷ []) (omega arith)
    (IsAscii-append word (34 ∷ []) (letters-ascii word all) (IsAscii-cons 34 [] (omega arith) IsAscii-nil))

quoted-spelled : (word rest : List ℕ) → 34 ∷ pieces_then (pieces word) (34 ∷ rest) ≡ quoted word ++ rest
quoted-spelled word rest = ap (λ (l : List ℕ). 34 ∷ l) (pieces-spelled word (34 ∷ rest) ∙ sym (append_assoc word (34 ∷ []) rest))

pub word-spelled : (word : List ℕ) → are_letters word ≡ true → Spelled (IsTextTree word) 0 (quoted word)
word-spelled word all = record {
  form = Text (pieces word);
  valid = pieces-valid word all;
  deep = omega arith;
  spelled = quoted-spelled word;
  ascii = quoted-ascii word all;
  tree = λ place. pieces-mean word;
}

-- ---- lists

range-all : (P : ℕ → Type 0) (start len : ℕ) → ((k : ℕ) → k < start + len → P k) → AllByRecursion P (range_with_len start len)
range-all P start zero each = tt
range-all P start (suc len) each =
    let here : start < start + suc len = omega arith in
    (each start here, range-all P (start + 1) len (λ k before. let within : k < start + suc len = omega arith in each k within))

-- the list of the values with the numbers below n
pub range-spelled : (P : ℕ → Tree → Type 0) (text : ℕ → List ℕ) (depth n : ℕ) → 0 < n → ((k : ℕ) → k < n → Spelled (P k) depth (text k))
    → Spelled (IsListTree (AreTrees P (range_with_len 0 n))) (suc depth) (list_of text n)
range-spelled P text depth zero some each = absurd (omega arith)
range-spelled P text depth (suc m) some each =
    list-spelled P text depth 0 (range_with_len 1 m) (each 0 some)
    (range-all (λ k. Spelled (P k) depth (text k)) 1 m (λ k before. let within : k < suc m = omega arith in each k within))

-- ---- objects

pub last-member : (P : Tree → Type 0) (depth : ℕ) (name text : List ℕ) → are_letters name ≡ true → Spelled P depth text
    → SpelledMembers (StartsWith name P IsEnd) depth (quoted name ++ 58 ∷ text)
last-member P depth name text letters s = record {
  form = LastMember [] (pieces name) [] [] s.form [];
  valid = (tt, pieces-valid name letters, tt, tt, s.valid, tt);
  deep = s.deep;
  spelled = λ rest. quoted-spelled name (58 ∷ value_then s.form rest) ∙ ap (λ (l : List ℕ). quoted name ++ 58 ∷ l) (s.spelled rest)
      ∙ sym (append_assoc (quoted name) (58 ∷ text) rest);
  ascii = IsAscii-append (quoted name) (58 ∷ text) (quoted-ascii name letters) (IsAscii-cons 58 text (omega arith) s.ascii);
  entries = λ place. (pieces-mean name, s.tree _, tt);
}

pub next-member : (P : Tree → Type 0) (Q : Entries → Type 0) (depth : ℕ) (name text more : List ℕ) → are_letters name ≡ true
    → Spelled P depth text → SpelledMembers Q depth more
    → SpelledMembers (StartsWith name P Q) depth (quoted name ++ 58 ∷ (text ++ 44 ∷ more))
next-member P Q depth name text more letters s others =
    let first : value_depth s.form ≤ depth = s.deep in
    let rest_deep : members_depth others.form ≤ depth = others.deep in
    record {
      form = NextMember [] (pieces name) [] [] s.form [] others.form;
      valid = (tt, pieces-valid name letters, tt, tt, s.valid, tt, others.valid);
      deep = omega (arith, first, rest_deep);
      spelled = λ rest.
          quoted-spelled name (58 ∷ value_then s.form (44 ∷ members_then others.form rest))
          ∙ ap (λ (l : List ℕ). quoted name ++ 58 ∷ l) (s.spelled (44 ∷ members_then others.form rest)
          ∙ ap (λ (l : List ℕ). text ++ 44 ∷ l) (others.spelled rest) ∙ sym (append_assoc text (44 ∷ more) rest))
          ∙ sym (append_assoc (quoted name) (58 ∷ (text ++ 44 ∷ more)) rest);
      ascii = IsAscii-append (quoted name) (58 ∷ (text ++ 44 ∷ more)) (quoted-ascii name letters)
          (IsAscii-cons 58 (text ++ 44 ∷ more) (omega arith) (IsAscii-append text (44 ∷ more) s.ascii
          (IsAscii-cons 44 more (omega arith) others.ascii)));
      entries = λ place. (pieces-mean name, s.tree _, others.entries _);
    }

pub braced : (Q : Entries → Type 0) (depth : ℕ) (text : List ℕ) → SpelledMembers Q depth text
    → Spelled (IsObjectTree Q) (suc depth) (123 ∷ (text ++ 125 ∷ []))
braced Q depth text s =
    let deep = s.deep in
    record {
      form = FullObject s.form;
      valid = s.valid;
      deep = omega (arith, deep);
      spelled = λ rest. ap (λ (l : List ℕ). 123 ∷ l) (s.spelled (125 ∷ rest) ∙ sym (append_assoc text (125 ∷ []) rest));
      ascii = IsAscii-cons 123 (text ++ 125 ∷ []) (omega arith)
          (IsAscii-append text (125 ∷ []) s.ascii (IsAscii-cons 125 [] (omega arith) IsAscii-nil));
      tree = λ place. s.entries (place + 1);
    }

-- the texts of an object of two members, and of three
abbrev pub two_members : List ℕ → List ℕ → List ℕ → List ℕ → List ℕ
two_members name text other more = 123 ∷ ((quoted name ++ 58 ∷ (text ++ 44 ∷ (quoted other ++ 58 ∷ more))) ++ 125 ∷ [])

abbrev pub three_members : List ℕ → List ℕ → List ℕ → List ℕ → List ℕ → List ℕ → List ℕ
three_members name text other more last end =
    123 ∷ ((quoted name ++ 58 ∷ (text ++ 44 ∷ (quoted other ++ 58 ∷ (more ++ 44 ∷ (quoted last ++ 58 ∷ end))))) ++ 125 ∷ [])

pub two-spelled : (P Q : Tree → Type 0) (depth : ℕ) (name text other more : List ℕ) → are_letters name ≡ true → are_letters other ≡ true
    → Spelled P depth text → Spelled Q depth more
    → Spelled (IsObjectTree (StartsWith name P (StartsWith other Q IsEnd))) (suc depth) (two_members name text other more)
two-spelled P Q depth name text other more a b s t =
    braced (StartsWith name P (StartsWith other Q IsEnd)) depth (quoted name ++ 58 ∷ (text ++ 44 ∷ (quoted other ++ 58 ∷ more))) (
    next-member P (StartsWith other Q IsEnd) depth name text (quoted other ++ 58 ∷ more) a s (
    last-member Q depth other more b t))

pub three-spelled : (P Q R : Tree → Type 0) (depth : ℕ) (name text other more last end : List ℕ) → are_letters name ≡ true
    → are_letters other ≡ true → are_letters last ≡ true
    → Spelled P depth text → Spelled Q depth more → Spelled R depth end
    → Spelled (IsObjectTree (StartsWith name P (StartsWith other Q (StartsWith last R IsEnd)))) (suc depth)
    (three_members name text other more last end)
three-spelled P Q R depth name text other more last end a b c s t u =
    braced (StartsWith name P (StartsWith other Q (StartsWith last R IsEnd))) depth
    (quoted name ++ 58 ∷ (text ++ 44 ∷ (quoted other ++ 58 ∷ (more ++ 44 ∷ (quoted last ++ 58 ∷ end))))) (
    next-member P (StartsWith other Q (StartsWith last R IsEnd)) depth name text
    (quoted other ++ 58 ∷ (more ++ 44 ∷ (quoted last ++ 58 ∷ end))) a s (
    next-member Q (StartsWith last R IsEnd) depth other more (quoted last ++ 58 ∷ end) b t (
    last-member R depth last end c u)))
