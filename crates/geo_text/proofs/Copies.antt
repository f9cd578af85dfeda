-- The bytes of the values of a text are values again, wherever they are put.
use Rattle.std.proofs.Common.{◌≡◌, inl, inr, ℕ, ◌+◌, ◌<◌, ◌≤◌, Bool, true, false, List, [], ◌∷◌, ◌++◌, length, take, drop, IsUtf8, refl}
use Rattle.std.proofs.Common.{sym, ap, subst, ◌∙◌, arith, append_assoc, append-nil, take_at, drop_at}
use Rattle.std.specs.Prelude.{if◌then◌else◌}
use Rattle.std.proofs.lemmas.List.{length-append}
use Rattle.json_scan.specs.Bytes.{is_white}
use Rattle.json_scan.specs.Grammar.{Value, Null, False, True, Number, Text, EmptyList, FullList, EmptyObject, FullObject, Items, LastItem}
use Rattle.json_scan.specs.Grammar.{NextItem, Members, LastMember, NextMember, Document, IsDocument, NumberForm, IsNumber, IsWholePart}
use Rattle.json_scan.specs.Grammar.{number_then, minus_then, value_then, items_then, members_then, quoted_width, value_width, IsGap}
use Rattle.json_scan.specs.Grammar.{IsValue, AreItems, AreMembers, mark_then, document_text}
use Rattle.json_scan.specs.Tree.{Extent, extent, extent_of, Tree, NullAt, FalseAt, TrueAt, NumberAt, TextAt, ListAt, ObjectAt, Trees}
use Rattle.json_scan.specs.Tree.{NoTrees, NextTree, Entries, NoEntries, NextEntry, value_tree, items_trees, members_entries, document_tree}
use Rattle.json_scan.proofs.Appends.{value-append, members-append}
use Rattle.json_scan.proofs.Widths.{value-width}
use Rattle.topo_reader.proofs.Lookups.{IsAmong}
use Rattle.topo_writer.proofs.Replaced.{BeginsAscii, white-ascii, head_of, head-then, head-length, member_of, member-length}
use Rattle.topo_writer.proofs.ReadsBack.{cut-before, extent-is, mark-append, mark-length}
use Rattle.geo_text.specs.Shapes.{bytes_in}
use Rattle.geo_text.proofs.Told.{Told}
use Rattle.geo_text.proofs.Depths.{tree_depth, value-depth}

-- ---- first bytes

-- nothing, or an ASCII byte first
abbrev pub MayFollow : List ℕ → Type 0
MayFollow [] = Unit {0}
MayFollow (b ∷ bs) = b < 128

gap-follows : (gap rest : List ℕ) → IsGap gap → MayFollow rest → MayFollow (gap ++ rest)
gap-follows [] rest is follows = follows
gap-follows (b ∷ bs) rest is follows = white-ascii b is.0

digits-begin : (digits rest : List ℕ) → IsWholePart digits → BeginsAscii (digits ++ rest)
digits-begin [] rest is = absurd is
digits-begin (d ∷ ds) rest (inl is) = omega (arith, is.0)
digits-begin (d ∷ ds) rest (inr is) = omega (arith, is.1)

number-begins : (negative : Bool) (digits rest : List ℕ) → IsWholePart digits → BeginsAscii (minus_then negative (digits ++ rest))
number-begins true digits rest is = omega arith
number-begins false digits rest is = digits-begin digits rest is

value-begins : (v : Value) (rest : List ℕ) → IsValue v → BeginsAscii (value_then v rest)
value-begins Null rest is = omega arith
value-begins False rest is = omega arith
value-begins True rest is = omega arith
value-begins (Number n) rest is = number-begins n.negative n.digits _ is.digits
value-begins (Text ps) rest is = omega arith
value-begins (EmptyList gap) rest is = omega arith
value-begins (FullList items) rest is = omega arith
value-begins (EmptyObject gap) rest is = omega arith
value-begins (FullObject members) rest is = omega arith

part-utf8 : (part back : List ℕ) → MayFollow back → IsUtf8 (part ++ back) → IsUtf8 part
part-utf8 part [] follows utf8 = subst IsUtf8 (append-nil part) utf8
part-utf8 part (b ∷ bs) follows utf8 = (cut-before part (b ∷ bs) follows utf8).0

-- ---- a value

-- the bytes of the value are a value
abbrev pub IsCopied : List ℕ → Tree → Type 0
IsCopied input t = Told (λ u. Unit {0}) (tree_depth t) (bytes_in input t)

bytes-are : (input front part back : List ℕ) (t : Tree) (place width : ℕ) → extent_of t ≡ extent place width → place ≡ length front
    → width ≡ length part → input ≡ front ++ (part ++ back) → bytes_in input t ≡ part
bytes-are input front part back t place width at start wide is =
    let long : length (front ++ part) ≡ place + width = length-append front part ∙ sym (omega (arith, start, wide)) in
    let taken : take (place + width) input ≡ front ++ part = ap (take (place + width)) (is ∙ sym (append_assoc front part back))
    ∙ take_at (front ++ part) back (place + width) long in
    ap (λ (e : Extent). drop e.start (take e.end input)) at ∙ ap (drop place) taken ∙ drop_at front part place (sym start)

self-copied : (input : List ℕ) (v : Value) (front back : List ℕ) (place : ℕ) → IsUtf8 input → IsValue v → place ≡ length front
    → input ≡ front ++ value_then v back → MayFollow back → IsCopied input (value_tree v place)
self-copied input v front back place utf8 is at text follows =
    let part = value_then v [] in
    let whole : input ≡ front ++ (part ++ back) = text ∙ ap (λ (l : List ℕ). front ++ l) (value-append v [] back) in
    let bytes : bytes_in input (value_tree v place) ≡ part = bytes-are input front part back (value_tree v place) place (value_width v)
    (extent-is v place) at refl whole in
    let begins : BeginsAscii (part ++ back) = subst BeginsAscii (value-append v [] back) (value-begins v back is) in
    let behind = (cut-before front (part ++ back) begins (subst IsUtf8 whole utf8)).1 in
    let depth = value-depth v place in
    subst (λ (l : List ℕ). Told (λ u. Unit {0}) (tree_depth (value_tree v place)) l) (sym bytes) (record {
      form = v;
      valid = is;
      deep = omega (arith, depth);
      spelled = λ rest. value-append v [] rest;
      utf8 = part-utf8 part back follows behind;
      tree = λ there. tt;
    })

-- ---- the values in it

abbrev mutual
  pub AllCopied : List ℕ → Tree → Type 0
  AllCopied input (NullAt e) = IsCopied input (NullAt e)
  AllCopied input (FalseAt e) = IsCopied input (FalseAt e)
  AllCopied input (TrueAt e) = IsCopied input (TrueAt e)
  AllCopied input (NumberAt e whole) = IsCopied input (NumberAt e whole)
  AllCopied input (TextAt e word) = IsCopied input (TextAt e word)
  AllCopied input (ListAt e trees) = IsCopied input (ListAt e trees) × EachCopied input trees
  AllCopied input (ObjectAt e members) = IsCopied input (ObjectAt e members) × MembersCopied input members

  pub EachCopied : List ℕ → Trees → Type 0
  EachCopied input NoTrees = Unit {0}
  EachCopied input (NextTree t others) = AllCopied input t × EachCopied input others

  pub MembersCopied : List ℕ → Entries → Type 0
  MembersCopied input NoEntries = Unit {0}
  MembersCopied input (NextEntry e word t others) = AllCopied input t × MembersCopied input others

-- an item and the comma behind it
abbrev item_of : List ℕ → Value → List ℕ → List ℕ
item_of before v after = before ++ value_then v (after ++ 44 ∷ [])

item-then : (before : List ℕ) (v : Value) (after rest : List ℕ)
    → before ++ value_then v (after ++ 44 ∷ rest) ≡ item_of before v after ++ rest
item-then before v after rest =
    ap (λ (l : List ℕ). before ++ value_then v l) (sym (append_assoc after (44 ∷ []) rest))
    ∙ ap (λ (l : List ℕ). before ++ l) (value-append v (after ++ 44 ∷ []) rest)
    ∙ sym (append_assoc before (value_then v (after ++ 44 ∷ [])) rest)

item-length : (before : List ℕ) (v : Value) (after : List ℕ)
    → length (item_of before v after) ≡ length before + value_width v + length after + 1
item-length before v after = omega (
  arith,
  length-append before (value_then v (after ++ 44 ∷ [])),
  value-width v (after ++ 44 ∷ []),
  length-append after (44 ∷ []),
)

moved : (input front part rest : List ℕ) (more : List ℕ) → input ≡ front ++ more → more ≡ part ++ rest → input ≡ (front ++ part) ++ rest
moved input front part rest more is split = is ∙ ap (λ (l : List ℕ). front ++ l) split ∙ sym (append_assoc front part rest)

mutual
  pub value-copied : (input : List ℕ) (v : Value) (front back : List ℕ) (place : ℕ) → IsUtf8 input → IsValue v → place ≡ length front
      → input ≡ front ++ value_then v back → MayFollow back → AllCopied input (value_tree v place)
  value-copied input Null front back place utf8 is at text follows = self-copied input Null front back place utf8 is at text follows
  value-copied input False front back place utf8 is at text follows = self-copied input False front back place utf8 is at text follows
  value-copied input True front back place utf8 is at text follows = self-copied input True front back place utf8 is at text follows
  value-copied input (Number n) front back place utf8 is at text follows = self-copied input (Number n) front back place utf8 is at text
      follows
  value-copied input (Text ps) front back place utf8 is at text follows = self-copied input (Text ps) front back place utf8 is at text
      follows
  value-copied input (EmptyList gap) front back place utf8 is at text
      follows = (self-copied input (EmptyList gap) front back place utf8 is at text follows, tt)
  value-copied input (FullList items) front back place utf8 is at text follows =
      let long : place + 1 ≡ length (front ++ 91 ∷ []) = omega (arith, at, length-append front (91 ∷ [])) in (
        self-copied input (FullList items) front back place utf8 is at text follows,
        items-copied input items (front ++ 91 ∷ []) (93 ∷ back) (place + 1) utf8 is long
            (moved input front (91 ∷ []) (items_then items (93 ∷ back)) (value_then (FullList items) back) text refl) (omega arith),
      )
  value-copied input (EmptyObject gap) front back place utf8 is at text
      follows = (self-copied input (EmptyObject gap) front back place utf8 is at text follows, tt)
  value-copied input (FullObject members) front back place utf8 is at text follows =
      let long : place + 1 ≡ length (front ++ 123 ∷ []) = omega (arith, at, length-append front (123 ∷ [])) in (
        self-copied input (FullObject members) front back place utf8 is at text follows,
        members-copied input members (front ++ 123 ∷ []) (125 ∷ back) (place + 1) utf8 is long
            (moved input front (123 ∷ []) (members_then members (125 ∷ back)) (value_then (FullObject members) back) text refl)
            (omega arith),
      )

  items-copied : (input : List ℕ) (items : Items) (front back : List ℕ) (place : ℕ) → IsUtf8 input → AreItems items → place ≡ length front
      → input ≡ front ++ items_then items back → MayFollow back → EachCopied input (items_trees items place)
  items-copied input (LastItem before v after) front back place utf8 are at text follows =
      let long : place + length before ≡ length (front ++ before) = omega (arith, at, length-append front before) in (
        value-copied input v (front ++ before) (after ++ back) (place + length before) utf8 are.1 long
            (moved input front before (value_then v (after ++ back)) (items_then (LastItem before v after) back) text refl)
            (gap-follows after back are.2 follows),
        tt,
      )
  items-copied input (NextItem before v after items) front back place utf8 are at text follows =
      let more = items_then items back in
      let long : place + length before ≡ length (front ++ before) = omega (arith, at, length-append front before) in
      let next : place + length before + value_width v + length after + 1 ≡ length (front ++ item_of before v after) = omega
      (arith, at, length-append front (item_of before v after), item-length before v after) in (
        value-copied input v (front ++ before) (after ++ 44 ∷ more) (place + length before) utf8 are.1 long
            (moved input front before (value_then v (after ++ 44 ∷ more)) (items_then (NextItem before v after items) back) text refl)
            (gap-follows after (44 ∷ more) are.2 (omega arith)),
        items-copied input items (front ++ item_of before v after) back (place + length before + value_width v + length after + 1) utf8
            are.3 next
            (moved input front (item_of before v after) more (items_then (NextItem before v after items) back) text
            (item-then before v after more)) follows,
      )

  members-copied : (input : List ℕ) (members : Members) (front back : List ℕ) (place : ℕ) → IsUtf8 input → AreMembers members
      → place ≡ length front → input ≡ front ++ members_then members back → MayFollow back
      → MembersCopied input (members_entries members place)
  members-copied input (LastMember before name behind ahead v after) front back place utf8 are at text follows =
      let head = head_of before name behind ahead in
      let value_at = place + length before + quoted_width name + length behind + 1 + length ahead in
      let long : value_at ≡ length (front ++ head) = omega (arith, at, length-append front head, head-length before name behind ahead) in (
        value-copied input v (front ++ head) (after ++ back) value_at utf8 are.4 long
            (moved input front head (value_then v (after ++ back)) (members_then (LastMember before name behind ahead v after) back) text
            (head-then before name behind ahead (value_then v (after ++ back)))) (gap-follows after back are.5 follows),
        tt,
      )
  members-copied input (NextMember before name behind ahead v after members) front back place utf8 are at text follows =
      let more = members_then members back in
      let head = head_of before name behind ahead in
      let whole = member_of before name behind ahead v after [] in
      let value_at = place + length before + quoted_width name + length behind + 1 + length ahead in
      let long : value_at ≡ length (front ++ head) = omega (arith, at, length-append front head, head-length before name behind ahead) in
      let next : value_at + value_width v + length after + 1 ≡ length (front ++ whole) = omega
      (arith, at, length-append front whole, member-length before name behind ahead v after []) in (
        value-copied input v (front ++ head) (after ++ 44 ∷ more) value_at utf8 are.4 long
            (moved input front head (value_then v (after ++ 44 ∷ more))
            (members_then (NextMember before name behind ahead v after members) back) text
            (head-then before name behind ahead (value_then v (after ++ 44 ∷ more)))) (gap-follows after (44 ∷ more) are.5 (omega arith)),
        members-copied input members (front ++ whole) back (value_at + value_width v + length after + 1) utf8 are.6 next
            (moved input front whole more (members_then (NextMember before name behind ahead v after members) back) text
            (members-append (LastMember before name behind ahead v after) (44 ∷ []) more)) follows,
      )

pub document-copied : (input : List ℕ) (d : Document) → IsUtf8 input → IsDocument d → input ≡ document_text d
    → AllCopied input (document_tree d)
document-copied input d utf8 is text =
    let place = (if d.mark then 3 else 0) + length d.before in
    value-copied input d.value (mark_then d.mark d.before) d.after place utf8 is.value (sym (mark-length d.mark d.before))
    (text ∙ mark-append d.mark d.before (value_then d.value d.after)) (gap-alone d.after is.after)
  where
    gap-alone : (gap : List ℕ) → IsGap gap → MayFollow gap
    gap-alone [] is = tt
    gap-alone (b ∷ bs) is = white-ascii b is.0

-- ---- a value among members

pub among-copied : (input : List ℕ) (t : Tree) (members : Entries) → MembersCopied input members → IsAmong t members → AllCopied input t
among-copied input t NoEntries copied is = absurd is
among-copied input t (NextEntry e word value others) copied (inl same) = subst (AllCopied input) same copied.0
among-copied input t (NextEntry e word value others) copied (inr further) = among-copied input t others copied.1 further

pub self-of : (input : List ℕ) (t : Tree) → AllCopied input t → IsCopied input t
self-of input (NullAt e) copied = copied
self-of input (FalseAt e) copied = copied
self-of input (TrueAt e) copied = copied
self-of input (NumberAt e whole) copied = copied
self-of input (TextAt e word) copied = copied
self-of input (ListAt e trees) copied = copied.0
self-of input (ObjectAt e members) copied = copied.0
