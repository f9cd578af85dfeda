-- How much a value holds.
use Rattle.std.proofs.Common.{◌≡◌, inl, inr, ℕ, ◌+◌, ◌≤◌, List, Ok, sym, ap, arith}
use Rattle.json_scan.specs.Tree.{Tree, NullAt, FalseAt, TrueAt, NumberAt, TextAt, ListAt, ObjectAt, Trees, NoTrees, NextTree, Entries}
use Rattle.json_scan.specs.Tree.{NoEntries, NextEntry}
use Rattle.topo_reader.specs.Sequence.{required, list_of}
use Rattle.topo_reader.proofs.ArcLaws.{same-ok}
use Rattle.topo_reader.proofs.Lookups.{IsAmong, once-among, required-once}

abbrev mutual
  pub size : Tree → ℕ
  size (NullAt e) = 0
  size (FalseAt e) = 0
  size (TrueAt e) = 0
  size (NumberAt e whole) = 0
  size (TextAt e word) = 0
  size (ListAt e trees) = 1 + sizes trees
  size (ObjectAt e members) = 1 + entry_sizes members

  pub sizes : Trees → ℕ
  sizes NoTrees = 0
  sizes (NextTree t others) = size t + sizes others

  pub entry_sizes : Entries → ℕ
  entry_sizes NoEntries = 0
  entry_sizes (NextEntry e word t others) = size t + entry_sizes others

pub listed-size : (t : Tree) (trees : Trees) → Ok trees ≡ list_of t → size t ≡ 1 + sizes trees
listed-size (NullAt e) trees h = absurd cc
listed-size (FalseAt e) trees h = absurd cc
listed-size (TrueAt e) trees h = absurd cc
listed-size (NumberAt e whole) trees h = absurd cc
listed-size (TextAt e word) trees h = absurd cc
listed-size (ListAt e others) trees h = ap (λ (ts : Trees). 1 + sizes ts) (same-ok others trees (sym h))
listed-size (ObjectAt e members) trees h = absurd cc

pub among-size : (t : Tree) (members : Entries) → IsAmong t members → size t ≤ entry_sizes members
among-size t NoEntries is = absurd is
among-size t (NextEntry e word value others) (inl same) = omega (arith, ap size same)
among-size t (NextEntry e word value others) (inr further) = omega (arith, among-size t others further)

pub required-size : (name : List ℕ) (holder : Tree) (members : Entries) (t : Tree) → Ok t ≡ required name holder members
    → size t ≤ entry_sizes members
required-size name holder members t h = among-size t members (once-among name members t (required-once name holder members t h))
