-- What a value holds, by its kind.
use Rattle.std.specs.Prelude.{ℕ, Bool, true, false, bytes_eq, List, Option, None, Some}
use Rattle.json_scan.specs.declared.whole.Whole.{Whole}
use Rattle.json_scan.specs.Tree.{Tree, NumberAt, TextAt, ListAt, ObjectAt, Trees, NoTrees, NextTree, Entries}

abbrev pub number_in : Tree → Option Whole
number_in (NumberAt e whole) = Some whole
number_in t = None

abbrev pub is_text : List ℕ → Tree → Bool
is_text word (TextAt e symbols) = bytes_eq symbols word
is_text word t = false

abbrev pub items_in : Tree → Option Trees
items_in (ListAt e trees) = Some trees
items_in t = None

-- fewer than two values
abbrev pub are_few : Trees → Bool
are_few NoTrees = true
are_few (NextTree first NoTrees) = true
are_few (NextTree first (NextTree second more)) = false

-- an Object, and its members
abbrev pub members_in : Tree → Option (Tree × Entries)
members_in (ObjectAt e members) = Some (ObjectAt e members, members)
members_in t = None
