-- The members of an object with another value of `arcs`.
use Rattle.std.specs.Prelude.{codes}
use Rattle.std.proofs.Common.{◌≡◌, inl, inr, ℕ, ◌+◌, ◌<◌, ◌≤◌, Bool, true, false, bytes_eq, List, [], ◌∷◌, ◌++◌, length, refl, sym, ap, ◌∙◌}
use Rattle.std.proofs.Common.{arith, append_assoc}
use Rattle.std.proofs.lemmas.Bool.{cond-true, cond-false}
use Rattle.std.proofs.lemmas.List.{length-append}
use Rattle.json_scan.specs.Bytes.{is_white}
use Rattle.json_scan.specs.View.{symbols}
use Rattle.json_scan.specs.Grammar.{Piece, Value, Members, LastMember, NextMember, quoted_then, value_then, members_then, quoted_width}
use Rattle.json_scan.specs.Grammar.{value_width, IsGap, IsValue, AreMembers, value_depth, members_depth}
use Rattle.json_scan.specs.Tree.{Extent, Tree, Entries, NoEntries, NextEntry, value_tree, members_entries, NowhereIn, OnceIn, TwiceIn}
use Rattle.json_scan.specs.Tree.{named, at_second, at_first, lookup}
use Rattle.json_scan.proofs.Appends.{quoted-append, members-append}
use Rattle.json_scan.proofs.Widths.{quoted-width, value-width}
use Rattle.topo_writer.proofs.Alike.{value-alike, members-alike, AlikeBut, alike-but, named-alike}

-- ---- the bytes before a value

abbrev pub BeginsAscii : List ℕ → Type 0
BeginsAscii [] = ⊥
BeginsAscii (b ∷ bs) = b < 128

pub white-ascii : (b : ℕ) → is_white b ≡ true → b < 128
white-ascii b white = grind arith

gap-begins : (gap rest : List ℕ) → IsGap gap → BeginsAscii rest → BeginsAscii (gap ++ rest)
gap-begins [] rest is begins = begins
gap-begins (b ∷ bs) rest is begins = white-ascii b is.0

-- a name and its colon, and the white space round them
abbrev pub head_of : List ℕ → List Piece → List ℕ → List ℕ → List ℕ
head_of before name behind ahead = before ++ quoted_then name (behind ++ (58 ∷ ahead))

pub head-then : (before : List ℕ) (name : List Piece) (behind ahead rest : List ℕ)
    → before ++ quoted_then name (behind ++ (58 ∷ (ahead ++ rest))) ≡ head_of before name behind ahead ++ rest
head-then before name behind ahead rest =
    ap (λ (l : List ℕ). before ++ l) (ap (quoted_then name) (sym (append_assoc behind (58 ∷ ahead) rest))
    ∙ quoted-append name (behind ++ (58 ∷ ahead)) rest)
    ∙ sym (append_assoc before (quoted_then name (behind ++ (58 ∷ ahead))) rest)

pub head-length : (before : List ℕ) (name : List Piece) (behind ahead : List ℕ)
    → length (head_of before name behind ahead) ≡ length before + quoted_width name + length behind + 1 + length ahead
head-length before name behind ahead =
    omega (
      arith,
      length-append before (quoted_then name (behind ++ (58 ∷ ahead))),
      quoted-width name (behind ++ (58 ∷ ahead)),
      length-append behind (58 ∷ ahead),
    )

-- a whole member, and the comma behind it
abbrev pub member_of : List ℕ → List Piece → List ℕ → List ℕ → Value → List ℕ → List ℕ → List ℕ
member_of before name behind ahead v after rest = members_then (LastMember before name behind ahead v after) (44 ∷ rest)

pub member-length : (before : List ℕ) (name : List Piece) (behind ahead : List ℕ) (v : Value) (after rest : List ℕ)
    → length (member_of before name behind ahead v after rest) ≡ length before + quoted_width name + length behind + 1 + length ahead
    + value_width v + length after + 1 + length rest
member-length before name behind ahead v after rest =
    omega (
      arith,
      ap length (head-then before name behind ahead (value_then v (after ++ (44 ∷ rest)))),
      length-append (head_of before name behind ahead) (value_then v (after ++ (44 ∷ rest))),
      head-length before name behind ahead,
      value-width v (after ++ (44 ∷ rest)),
      length-append after (44 ∷ rest),
    )

-- ---- looking for the value of `arcs`

abbrev pub IsArcsName : List ℕ → Type 0
IsArcsName word = bytes_eq word (codes "arcs") ≡ true

lookup-here : (name : List ℕ) (e : Extent) (word : List ℕ) (t : Tree) (others : Entries) → bytes_eq word name ≡ true
    → lookup name (NextEntry e word t others) ≡ at_second t (named name others)
lookup-here name e word t others same = ap (at_first name) (cond-true (bytes_eq word name) _ _ same)

lookup-past : (name : List ℕ) (e : Extent) (word : List ℕ) (t : Tree) (others : Entries) → bytes_eq word name ≡ false
    → lookup name (NextEntry e word t others) ≡ lookup name others
lookup-past name e word t others other = ap (at_first name) (cond-false (bytes_eq word name) _ _ other)

record IsAlone (found t : Tree) (others : Entries) : Type 0 where
  is : t ≡ found
  none : others ≡ NoEntries

nowhere : {P : Type 0} (t : Tree) → NowhereIn ≡ OnceIn t → P
nowhere t h = absurd cc

twice : {P : Type 0} (e : Extent) (t : Tree) → TwiceIn e ≡ OnceIn t → P
twice e t h = absurd cc

once : (t u : Tree) → OnceIn t ≡ OnceIn u → u ≡ t
once t u h = cc

alone : (found t : Tree) (others : Entries) → at_second found others ≡ OnceIn t → IsAlone found t others
alone found t NoEntries h = record { is = once found t h; none = refl }
alone found t (NextEntry e word u others) h = twice e t h

none-alike : (es fs : Entries) → es ≡ NoEntries → AlikeBut IsArcsName es fs → fs ≡ NoEntries
none-alike NoEntries NoEntries e are = refl
none-alike NoEntries (NextEntry f word u others) e are = absurd are
none-alike (NextEntry g word t others) fs e are = absurd cc

-- ---- another value

-- members with the value w of `arcs` in the place of the one with the tree t
pub record Replaced (w : Value) (ms : Members) (place : ℕ) (t : Tree) : Type 0 where
  pub members : Members
  pub value : Value
  pub front : List ℕ
  pub behind : List ℕ → List ℕ
  pub spelled : (rest : List ℕ) → members_then ms rest ≡ front ++ value_then value (behind rest)
  pub respelled : (rest : List ℕ) → members_then members rest ≡ front ++ value_then w (behind rest)
  pub tree : t ≡ value_tree value (place + length front)
  pub valid : AreMembers ms → IsValue w → AreMembers members
  pub deep : (limit : ℕ) → members_depth ms ≤ limit → value_depth w ≤ limit → members_depth members ≤ limit
  pub ascii : AreMembers ms → (rest : List ℕ) → BeginsAscii rest → BeginsAscii (behind rest)
  pub found : lookup (codes "arcs") (members_entries members place) ≡ OnceIn (value_tree w (place + length front))
  pub others : AlikeBut IsArcsName (members_entries ms place) (members_entries members place)

last-replaced : (w : Value) (before : List ℕ) (name : List Piece) (behind ahead : List ℕ) (v : Value) (after : List ℕ) (place : ℕ) (t :
    Tree) → bytes_eq (symbols name) (codes "arcs") ≡ true
    → lookup (codes "arcs") (members_entries (LastMember before name behind ahead v after) place) ≡ OnceIn t
    → Replaced w (LastMember before name behind ahead v after) place t
last-replaced w before name behind ahead v after place t same h =
    let at = place + length before + quoted_width name + length behind + 1 + length ahead in
    let here : at ≡ place + length (head_of before name behind ahead) = omega (arith, head-length before name behind ahead) in
    let is = alone (value_tree v at) t NoEntries (sym (lookup-here (codes "arcs") _ (symbols name) (value_tree v at) NoEntries same) ∙ h) in
    record {
      members = LastMember before name behind ahead w after;
      value = v;
      front = head_of before name behind ahead;
      behind = λ rest. after ++ rest;
      spelled = λ rest. head-then before name behind ahead (value_then v (after ++ rest));
      respelled = λ rest. head-then before name behind ahead (value_then w (after ++ rest));
      tree = is.is ∙ ap (value_tree v) here;
      valid = λ are valid. (are.0, are.1, are.2, are.3, valid, are.5);
      deep = λ limit few fits. fits;
      ascii = λ are rest begins. gap-begins after rest are.5 begins;
      found = lookup-here (codes "arcs") _ (symbols name) (value_tree w at) NoEntries same ∙ ap (λ (p : ℕ). OnceIn (value_tree w p)) here;
      others = (refl, inl same, tt);
    }

first-replaced : (w : Value) (before : List ℕ) (name : List Piece) (behind ahead : List ℕ) (v : Value) (after : List ℕ) (ms : Members)
    (place : ℕ) (t : Tree) → bytes_eq (symbols name) (codes "arcs") ≡ true
    → lookup (codes "arcs") (members_entries (NextMember before name behind ahead v after ms) place) ≡ OnceIn t
    → Replaced w (NextMember before name behind ahead v after ms) place t
first-replaced w before name behind ahead v after ms place t same h =
    let at = place + length before + quoted_width name + length behind + 1 + length ahead in
    let here : at ≡ place + length (head_of before name behind ahead) = omega (arith, head-length before name behind ahead) in
    let next = at + value_width v + length after + 1 in
    let moved = at + value_width w + length after + 1 in
    let is = alone (value_tree v at) t (named (codes "arcs") (members_entries ms next))
    (sym (lookup-here (codes "arcs") _ (symbols name) (value_tree v at) (members_entries ms next) same) ∙ h) in
    let are_alike : AlikeBut IsArcsName (members_entries ms next) (members_entries ms moved) =
    alike-but IsArcsName (members_entries ms next) (members_entries ms moved) (members-alike ms next moved) in
    let none : named (codes "arcs") (members_entries ms moved) ≡ NoEntries =
    none-alike (named (codes "arcs") (members_entries ms next)) (named (codes "arcs") (members_entries ms moved)) is.none
    (named-alike IsArcsName (codes "arcs") (members_entries ms next) (members_entries ms moved) are_alike) in
    record {
      members = NextMember before name behind ahead w after ms;
      value = v;
      front = head_of before name behind ahead;
      behind = λ rest. after ++ (44 ∷ members_then ms rest);
      spelled = λ rest. head-then before name behind ahead (value_then v (after ++ (44 ∷ members_then ms rest)));
      respelled = λ rest. head-then before name behind ahead (value_then w (after ++ (44 ∷ members_then ms rest)));
      tree = is.is ∙ ap (value_tree v) here;
      valid = λ are valid. (are.0, are.1, are.2, are.3, valid, are.5, are.6);
      deep = λ limit few fits. omega (arith, few, fits);
      ascii = λ are rest begins. gap-begins after (44 ∷ members_then ms rest) are.5 (omega arith);
      found = lookup-here (codes "arcs") _ (symbols name) (value_tree w at) (members_entries ms moved) same
          ∙ ap (at_second (value_tree w at)) none ∙ ap (λ (p : ℕ). OnceIn (value_tree w p)) here;
      others = (refl, inl same, are_alike);
    }

later-replaced : (w : Value) (before : List ℕ) (name : List Piece) (behind ahead : List ℕ) (v : Value) (after : List ℕ) (ms : Members)
    (place : ℕ) (t : Tree) → bytes_eq (symbols name) (codes "arcs") ≡ false
    → Replaced w ms (place + length before + quoted_width name + length behind + 1 + length ahead + value_width v + length after + 1) t
    → Replaced w (NextMember before name behind ahead v after ms) place t
later-replaced w before name behind ahead v after ms place t other r =
    let at = place + length before + quoted_width name + length behind + 1 + length ahead in
    let next = at + value_width v + length after + 1 in
    let front = member_of before name behind ahead v after r.front in
    let here : next + length r.front ≡ place + length front = omega (arith, member-length before name behind ahead v after r.front) in
    let one = LastMember before name behind ahead v after in
    record {
      members = NextMember before name behind ahead v after r.members;
      value = r.value;
      front = front;
      behind = r.behind;
      spelled = λ rest. ap (λ (l : List ℕ). members_then one (44 ∷ l)) (r.spelled rest)
          ∙ members-append one (44 ∷ r.front) (value_then r.value (r.behind rest));
      respelled = λ rest. ap (λ (l : List ℕ). members_then one (44 ∷ l)) (r.respelled rest)
          ∙ members-append one (44 ∷ r.front) (value_then w (r.behind rest));
      tree = r.tree ∙ ap (value_tree r.value) here;
      valid = λ are valid. (are.0, are.1, are.2, are.3, are.4, are.5, r.valid are.6 valid);
      deep = λ limit few fits.
          let first : value_depth v ≤ limit = omega (arith, few) in
          let more : members_depth ms ≤ limit = omega (arith, few) in
          let rest = r.deep limit more fits in
          omega (arith, first, rest);
      ascii = λ are rest begins. r.ascii are.6 rest begins;
      found = lookup-past (codes "arcs") _ (symbols name) (value_tree v at) (members_entries r.members next) other ∙ r.found
          ∙ ap (λ (p : ℕ). OnceIn (value_tree w p)) here;
      others = (refl, inr (value-alike v at at), r.others);
    }

pub replaced : (w : Value) (ms : Members) (place : ℕ) (t : Tree) → lookup (codes "arcs") (members_entries ms place) ≡ OnceIn t
    → Replaced w ms place t
replaced w (LastMember before name behind ahead v after) place t h = at_case (bytes_eq (symbols name) (codes "arcs")) refl
  where
    at_case : (b : Bool) → bytes_eq (symbols name) (codes "arcs") ≡ b → Replaced w (LastMember before name behind ahead v after) place t
    at_case true same = last-replaced w before name behind ahead v after place t same h
    at_case false other = nowhere t (sym (lookup-past (codes "arcs") _ (symbols name) _ NoEntries other) ∙ h)
replaced w (NextMember before name behind ahead v after ms) place t h =
    at_case (λ p found. replaced w ms p t found) (bytes_eq (symbols name) (codes "arcs")) refl
  where
    at_case : ((p : ℕ) → lookup (codes "arcs") (members_entries ms p) ≡ OnceIn t → Replaced w ms p t) → (b : Bool)
        → bytes_eq (symbols name) (codes "arcs") ≡ b → Replaced w (NextMember before name behind ahead v after ms) place t
    at_case further true same = first-replaced w before name behind ahead v after ms place t same h
    at_case further false other =
        later-replaced w before name behind ahead v after ms place t other
        (further (place + length before + quoted_width name + length behind + 1 + length ahead + value_width v + length after + 1)
        (sym (lookup-past (codes "arcs") _ (symbols name) _ _ other) ∙ h))
