-- How many Lists and Objects a value holds in one another.
use Rattle.std.proofs.Common.{◌≡◌, inl, inr, ℕ, ◌+◌, ◌≤◌, max, length, refl, ap, arith}
use Rattle.json_scan.specs.Grammar.{Value, Null, False, True, Number, Text, EmptyList, FullList, EmptyObject, FullObject, Items, LastItem}
use Rattle.json_scan.specs.Grammar.{NextItem, Members, LastMember, NextMember, quoted_width, value_width, value_depth, items_depth}
use Rattle.json_scan.specs.Grammar.{members_depth}
use Rattle.json_scan.specs.Tree.{Tree, NullAt, FalseAt, TrueAt, NumberAt, TextAt, ListAt, ObjectAt, Trees, NoTrees, NextTree, Entries}
use Rattle.json_scan.specs.Tree.{NoEntries, NextEntry, value_tree, items_trees, members_entries}
use Rattle.topo_reader.proofs.Lookups.{IsAmong}

abbrev mutual
  pub tree_depth : Tree → ℕ
  tree_depth (NullAt e) = 0
  tree_depth (FalseAt e) = 0
  tree_depth (TrueAt e) = 0
  tree_depth (NumberAt e whole) = 0
  tree_depth (TextAt e word) = 0
  tree_depth (ListAt e trees) = trees_depth trees + 1
  tree_depth (ObjectAt e members) = entries_depth members + 1

  pub trees_depth : Trees → ℕ
  trees_depth NoTrees = 0
  trees_depth (NextTree t others) = max (tree_depth t) (trees_depth others)

  pub entries_depth : Entries → ℕ
  entries_depth NoEntries = 0
  entries_depth (NextEntry e word t others) = max (tree_depth t) (entries_depth others)

alone-depth : (t : Tree) (n : ℕ) → tree_depth t ≡ n → max (tree_depth t) 0 ≡ n
alone-depth t n same = omega (arith, same)

both-depth : (a b c d : ℕ) → a ≡ b → c ≡ d → max a c ≡ max b d
both-depth a b c d p q = rw (p, q) refl

mutual
  pub value-depth : (v : Value) (place : ℕ) → tree_depth (value_tree v place) ≡ value_depth v
  value-depth Null place = refl
  value-depth False place = refl
  value-depth True place = refl
  value-depth (Number n) place = refl
  value-depth (Text ps) place = refl
  value-depth (EmptyList gap) place = refl
  value-depth (FullList items) place = ap (λ (n : ℕ). n + 1) (items-depth items (place + 1))
  value-depth (EmptyObject gap) place = refl
  value-depth (FullObject members) place = ap (λ (n : ℕ). n + 1) (members-depth members (place + 1))

  items-depth : (items : Items) (place : ℕ) → trees_depth (items_trees items place) ≡ items_depth items
  items-depth (LastItem before v after) place = alone-depth (value_tree v (place + length before)) (value_depth v)
      (value-depth v (place + length before))
  items-depth (NextItem before v after items) place =
      both-depth (tree_depth (value_tree v (place + length before))) (value_depth v)
      (trees_depth (items_trees items (place + length before + value_width v + length after + 1))) (items_depth items)
      (value-depth v (place + length before)) (items-depth items (place + length before + value_width v + length after + 1))

  members-depth : (members : Members) (place : ℕ) → entries_depth (members_entries members place) ≡ members_depth members
  members-depth (LastMember before name behind ahead v after) place =
      let at = place + length before + quoted_width name + length behind + 1 + length ahead in
      alone-depth (value_tree v at) (value_depth v) (value-depth v at)
  members-depth (NextMember before name behind ahead v after members) place =
      let at = place + length before + quoted_width name + length behind + 1 + length ahead in
      both-depth (tree_depth (value_tree v at)) (value_depth v)
      (entries_depth (members_entries members (at + value_width v + length after + 1))) (members_depth members)
      (value-depth v at) (members-depth members (at + value_width v + length after + 1))

pub among-depth : (t : Tree) (members : Entries) → IsAmong t members → tree_depth t ≤ entries_depth members
among-depth t NoEntries is = absurd is
among-depth t (NextEntry e word value others) (inl same) = omega (arith, ap tree_depth same)
among-depth t (NextEntry e word value others) (inr further) = omega (arith, among-depth t others further)
