-- How much the values hold that the walk comes to.
use Rattle.std.proofs.Common.{◌≡◌, ℕ, ◌+◌, ◌≤◌, List, Ok, sym, ap}
use Rattle.json_scan.specs.Tree.{Tree, NullAt, FalseAt, TrueAt, NumberAt, TextAt, ListAt, ObjectAt, Trees, Entries, Lookup, NowhereIn}
use Rattle.json_scan.specs.Tree.{OnceIn, TwiceIn, lookup}
use Rattle.topo_reader.proofs.ArcLaws.{not-ok, same-ok}
use Rattle.topo_reader.proofs.Lookups.{once-among}
use Rattle.topo_reader.proofs.Sizes.{size, sizes, entry_sizes, among-size}
use Rattle.geo_reader.specs.Steps.{list_of, at_found, required}

found-once : (holder t : Tree) (l : Lookup) → Ok t ≡ at_found holder l → l ≡ OnceIn t
found-once holder t NowhereIn h = not-ok _ t (sym h)
found-once holder t (OnceIn u) h = ap (λ (v : Tree). OnceIn v) (sym (same-ok t u h))
found-once holder t (TwiceIn e) h = not-ok _ t (sym h)

pub required-once : (name : List ℕ) (holder : Tree) (members : Entries) (t : Tree) → Ok t ≡ required name holder members
    → lookup name members ≡ OnceIn t
required-once name holder members t h = found-once holder t (lookup name members) h

pub required-size : (name : List ℕ) (holder : Tree) (members : Entries) (t : Tree) → Ok t ≡ required name holder members
    → size t ≤ entry_sizes members
required-size name holder members t h = among-size t members (once-among name members t (required-once name holder members t h))

pub listed-size : (t : Tree) (trees : Trees) → Ok trees ≡ list_of t → size t ≡ 1 + sizes trees
listed-size (NullAt e) trees h = not-ok _ trees (sym h)
listed-size (FalseAt e) trees h = not-ok _ trees (sym h)
listed-size (TrueAt e) trees h = not-ok _ trees (sym h)
listed-size (NumberAt e whole) trees h = not-ok _ trees (sym h)
listed-size (TextAt e word) trees h = not-ok _ trees (sym h)
listed-size (ListAt e others) trees h = ap (λ (ts : Trees). 1 + sizes ts) (same-ok others trees (sym h))
listed-size (ObjectAt e members) trees h = not-ok _ trees (sym h)
