-- The values of a List, or the members of an Object, that are still to come.
use Rattle.std.specs.Prelude.{ℕ, ◌-◌}
use Rattle.json_scan.specs.View.{ScanView}
use Rattle.json_scan.specs.Tree.{Trees, NodesAre, Entries, EntriesAre}
use Rattle.json_scan.specs.TreeAt.{trees_of, entries_of}

pub record Left : Type 0 where
  pub scan : ScanView
  pub at : ℕ
  pub end : ℕ

abbrev pub trees : Left → Trees
trees l = trees_of l.scan l.at l.end

abbrev pub entries : Left → Entries
entries l = entries_of l.scan l.at l.end

abbrev pub few_left : Left → ℕ
few_left l = l.end - l.at

-- ---- the nodes up to an end stand for values, or for members

abbrev pub HasItems : ScanView → ℕ → ℕ → Type 0
HasItems s k end = (trees : Trees) × NodesAre s k end trees

abbrev pub HasEntries : ScanView → ℕ → ℕ → Type 0
HasEntries s k end = (members : Entries) × EntriesAre s k end members
