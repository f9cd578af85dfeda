-- Trees that are the same but for their places.
use Rattle.std.proofs.Common.{◌≡◌, ◌⊎◌, inl, inr, ℕ, ◌+◌, Bool, true, false, bytes_eq, List, length, refl, sym, ap, subst, ◌∙◌}
use Rattle.std.proofs.lemmas.Bool.{cond-true, cond-false}
use Rattle.json_scan.specs.declared.whole.Whole.{Whole}
use Rattle.json_scan.specs.Grammar.{Value, Null, False, True, Number, Text, EmptyList, FullList, EmptyObject, FullObject, Items, LastItem}
use Rattle.json_scan.specs.Grammar.{NextItem, Members, LastMember, NextMember, quoted_width, value_width}
use Rattle.json_scan.specs.Tree.{Tree, NullAt, FalseAt, TrueAt, NumberAt, TextAt, ListAt, ObjectAt, Trees, NoTrees, NextTree, Entries}
use Rattle.json_scan.specs.Tree.{NoEntries, NextEntry, value_tree, items_trees, members_entries, Lookup, NowhereIn, OnceIn, TwiceIn, named}
use Rattle.json_scan.specs.Tree.{at_second, at_first, lookup}
use Rattle.topo_writer.proofs.TreeShapes.{IsListTree}

abbrev IsNullTree : Tree → Type 0
IsNullTree (NullAt e) = Unit {0}
IsNullTree _ = ⊥

abbrev IsFalseTree : Tree → Type 0
IsFalseTree (FalseAt e) = Unit {0}
IsFalseTree _ = ⊥

abbrev IsTrueTree : Tree → Type 0
IsTrueTree (TrueAt e) = Unit {0}
IsTrueTree _ = ⊥

abbrev IsWholeTree : Whole → Tree → Type 0
IsWholeTree whole (NumberAt e other) = other ≡ whole
IsWholeTree whole _ = ⊥

abbrev IsWordTree : List ℕ → Tree → Type 0
IsWordTree word (TextAt e other) = other ≡ word
IsWordTree word _ = ⊥

abbrev IsObjectTree : (Entries → Type 0) → Tree → Type 0
IsObjectTree Q (ObjectAt e members) = Q members
IsObjectTree Q _ = ⊥

-- the same but for the places
abbrev mutual
  pub Alike : Tree → Tree → Type 0
  Alike (NullAt e) u = IsNullTree u
  Alike (FalseAt e) u = IsFalseTree u
  Alike (TrueAt e) u = IsTrueTree u
  Alike (NumberAt e whole) u = IsWholeTree whole u
  Alike (TextAt e word) u = IsWordTree word u
  Alike (ListAt e trees) u = IsListTree (AreAlike trees) u
  Alike (ObjectAt e members) u = IsObjectTree (EntriesAlike members) u

  pub AreAlike : Trees → Trees → Type 0
  AreAlike NoTrees NoTrees = Unit {0}
  AreAlike NoTrees (NextTree u us) = ⊥
  AreAlike (NextTree t ts) NoTrees = ⊥
  AreAlike (NextTree t ts) (NextTree u us) = Alike t u × AreAlike ts us

  pub EntriesAlike : Entries → Entries → Type 0
  EntriesAlike NoEntries NoEntries = Unit {0}
  EntriesAlike NoEntries (NextEntry f word u others) = ⊥
  EntriesAlike (NextEntry e word t others) NoEntries = ⊥
  EntriesAlike (NextEntry e word t others) (NextEntry f name u more) = (name ≡ word) × Alike t u × EntriesAlike others more

-- ---- one form at two places

mutual
  pub value-alike : (v : Value) (p q : ℕ) → Alike (value_tree v p) (value_tree v q)
  value-alike Null p q = tt
  value-alike False p q = tt
  value-alike True p q = tt
  value-alike (Number n) p q = refl
  value-alike (Text ps) p q = refl
  value-alike (EmptyList gap) p q = tt
  value-alike (FullList items) p q = items-alike items (p + 1) (q + 1)
  value-alike (EmptyObject gap) p q = tt
  value-alike (FullObject members) p q = members-alike members (p + 1) (q + 1)

  pub items-alike : (items : Items) (p q : ℕ) → AreAlike (items_trees items p) (items_trees items q)
  items-alike (LastItem before v after) p q = (value-alike v (p + length before) (q + length before), tt)
  items-alike (NextItem before v after items) p q = (
    value-alike v (p + length before) (q + length before),
    items-alike items (p + length before + value_width v + length after + 1)
        (q + length before + value_width v + length after + 1),
  )

  pub members-alike : (members : Members) (p q : ℕ) → EntriesAlike (members_entries members p) (members_entries members q)
  members-alike (LastMember before name behind ahead v after) p q =
      let from = p + length before + quoted_width name + length behind + 1 + length ahead in
      let to = q + length before + quoted_width name + length behind + 1 + length ahead in
      (refl, value-alike v from to, tt)
  members-alike (NextMember before name behind ahead v after members) p q =
      let from = p + length before + quoted_width name + length behind + 1 + length ahead in
      let to = q + length before + quoted_width name + length behind + 1 + length ahead in
      (refl, value-alike v from to, members-alike members (from + value_width v + length after + 1) (to + value_width v + length after + 1))

-- ---- looking for a member

-- members with the same names, and alike values but where the name may be passed over
abbrev pub AlikeBut : (List ℕ → Type 0) → Entries → Entries → Type 0
AlikeBut Passed NoEntries NoEntries = Unit {0}
AlikeBut Passed NoEntries (NextEntry f word u others) = ⊥
AlikeBut Passed (NextEntry e word t others) NoEntries = ⊥
AlikeBut Passed (NextEntry e word t others) (NextEntry f name u more) = (name ≡ word) × (Passed word ⊎ Alike t u)
    × AlikeBut Passed others more

pub alike-but : (Passed : List ℕ → Type 0) (es fs : Entries) → EntriesAlike es fs → AlikeBut Passed es fs
alike-but Passed NoEntries NoEntries are = tt
alike-but Passed NoEntries (NextEntry f word u others) are = absurd are
alike-but Passed (NextEntry e word t others) NoEntries are = absurd are
alike-but Passed (NextEntry e word t others) (NextEntry f name u more) are = (are.0, inr are.1, alike-but Passed others more are.2)

-- the first of the members has this name, where there is one
abbrev BeginsNamed : List ℕ → Entries → Type 0
BeginsNamed name NoEntries = Unit {0}
BeginsNamed name (NextEntry e word t others) = bytes_eq word name ≡ true

named-begins : (name : List ℕ) (es : Entries) → BeginsNamed name (named name es)
named-begins name NoEntries = tt
named-begins name (NextEntry e word t others) = at_case (named-begins name others) (bytes_eq word name) refl
  where
    at_case : BeginsNamed name (named name others) → (b : Bool) → bytes_eq word name ≡ b
        → BeginsNamed name (named name (NextEntry e word t others))
    at_case further true same = subst (BeginsNamed name) (sym (cond-true (bytes_eq word name) _ _ same)) same
    at_case further false other = subst (BeginsNamed name) (sym (cond-false (bytes_eq word name) _ _ other)) further

pub named-alike : (Passed : List ℕ → Type 0) (name : List ℕ) (es fs : Entries) → AlikeBut Passed es fs
    → AlikeBut Passed (named name es) (named name fs)
named-alike Passed name NoEntries NoEntries are = tt
named-alike Passed name NoEntries (NextEntry f word u others) are = absurd are
named-alike Passed name (NextEntry e word t others) NoEntries are = absurd are
named-alike Passed name (NextEntry e word t others) (NextEntry f same_word u more) are =
    at_case (named-alike Passed name others more are.2) (bytes_eq word name) refl
  where
    at_case : AlikeBut Passed (named name others) (named name more) → (b : Bool) → bytes_eq word name ≡ b
        → AlikeBut Passed (named name (NextEntry e word t others)) (named name (NextEntry f same_word u more))
    at_case further true same =
        let here : named name (NextEntry e word t others) ≡ NextEntry e word t others = cond-true (bytes_eq word name) _ _ same in
        let there : named name (NextEntry f same_word u more) ≡ NextEntry f same_word u more =
        cond-true (bytes_eq same_word name) _ _ (ap (λ (w : List ℕ). bytes_eq w name) are.0 ∙ same) in
        rw (here, there) are
    at_case further false other =
        let here : named name (NextEntry e word t others) ≡ named name others = cond-false (bytes_eq word name) _ _ other in
        let there : named name (NextEntry f same_word u more) ≡ named name more =
        cond-false (bytes_eq same_word name) _ _ (ap (λ (w : List ℕ). bytes_eq w name) are.0 ∙ other) in
        rw (here, there) further

-- a member is found in the one as in the other
abbrev pub FoundAlike : Lookup → Lookup → Type 0
FoundAlike NowhereIn NowhereIn = Unit {0}
FoundAlike (OnceIn t) (OnceIn u) = Alike t u
FoundAlike (TwiceIn e) (TwiceIn f) = Unit {0}
FoundAlike _ _ = ⊥

second-alike : (Passed : List ℕ → Type 0) (t u : Tree) (es fs : Entries) → Alike t u → AlikeBut Passed es fs
    → FoundAlike (at_second t es) (at_second u fs)
second-alike Passed t u NoEntries NoEntries is are = is
second-alike Passed t u NoEntries (NextEntry f word v others) is are = absurd are
second-alike Passed t u (NextEntry e word v others) NoEntries is are = absurd are
second-alike Passed t u (NextEntry e word v others) (NextEntry f name w more) is are = tt

first-alike : (Passed : List ℕ → Type 0) (name : List ℕ) (es fs : Entries) → ((word : List ℕ) → Passed word → bytes_eq word name ≡ true → ⊥)
    → BeginsNamed name es → AlikeBut Passed es fs → FoundAlike (at_first name es) (at_first name fs)
first-alike Passed name NoEntries NoEntries other begins are = tt
first-alike Passed name NoEntries (NextEntry f word v others) other begins are = absurd are
first-alike Passed name (NextEntry e word v others) NoEntries other begins are = absurd are
first-alike Passed name (NextEntry e word t others) (NextEntry f same_word u more) other begins are = at_case are.1
  where
    at_case : Passed word ⊎ Alike t u → FoundAlike (at_first name (NextEntry e word t others))
        (at_first name (NextEntry f same_word u more))
    at_case (inl passed) = absurd (other word passed begins)
    at_case (inr is) = second-alike Passed t u (named name others) (named name more) is (named-alike Passed name others more are.2)

-- a name that is none of those passed over
pub lookup-but : (Passed : List ℕ → Type 0) (name : List ℕ) (es fs : Entries)
    → ((word : List ℕ) → Passed word → bytes_eq word name ≡ true → ⊥) → AlikeBut Passed es fs → FoundAlike (lookup name es) (lookup name fs)
lookup-but Passed name es fs other are = first-alike Passed name (named name es) (named name fs) other (named-begins name es)
    (named-alike Passed name es fs are)

pub lookup-alike : (name : List ℕ) (es fs : Entries) → EntriesAlike es fs → FoundAlike (lookup name es) (lookup name fs)
lookup-alike name es fs are = lookup-but (λ word. ⊥) name es fs (λ word none same. none) (alike-but (λ word. ⊥) es fs are)
