-- The tree that a node stands for, from its number alone.
use Rattle.std.specs.Prelude.{ℕ, zero, suc, ◌+◌, ◌*◌, List, [], ◌∷◌, length, drop, slice_range, Option, Some, None, if◌then◌else◌, ◌==◌}
use Rattle.json_scan.specs.declared.node.Kind.{Kind}
use Rattle.json_scan.specs.declared.node.Kind.TheVariants as kind
use Rattle.json_scan.specs.declared.whole.Whole.{Whole}
use Rattle.json_scan.specs.Whole.{read_whole}
use Rattle.json_scan.specs.View.{ScanView, read_symbol}
use Rattle.json_scan.specs.Tree.{Extent, Tree, NullAt, FalseAt, TrueAt, NumberAt, TextAt, ListAt, ObjectAt, Trees, NoTrees, NextTree}
use Rattle.json_scan.specs.Tree.{Entries, NoEntries, NextEntry, node_at, after_at}

abbrev pub place_at : ScanView → ℕ → Extent
place_at s k = record { start = (node_at s k).start; end = (node_at s k).end }

abbrev pub bytes_at : ScanView → ℕ → List ℕ
bytes_at s k = slice_range s.bytes (node_at s k).start (node_at s k).end

abbrev pub word_from : Option (ℕ × ℕ) → (ℕ → List ℕ) → List ℕ
word_from None more = []
word_from (Some p) more = p.0 ∷ more p.1

unfoldable pub read_word : ℕ → List ℕ → List ℕ
read_word zero bytes = []
read_word (suc n) bytes = word_from (read_symbol bytes) (λ width. read_word n (drop width bytes))

-- the symbols of a quoted text
abbrev pub word_of : List ℕ → List ℕ
word_of bytes = read_word (length bytes) (drop 1 bytes)

abbrev pub word_at : ScanView → ℕ → List ℕ
word_at s k = word_of (bytes_at s k)

abbrev pub shaped : Kind → Extent → Whole → List ℕ → Trees → Entries → Tree
shaped kind.Null e whole word trees members = NullAt e
shaped kind.False e whole word trees members = FalseAt e
shaped kind.True e whole word trees members = TrueAt e
shaped kind.Number e whole word trees members = NumberAt e whole
shaped kind.Text e whole word trees members = TextAt e word
shaped kind.List e whole word trees members = ListAt e trees
shaped kind.Object e whole word trees members = ObjectAt e members

unfoldable mutual
  pub tree_by : ℕ → ScanView → ℕ → Tree
  tree_by zero s k = NullAt (place_at s k)
  tree_by (suc n) s k =
      shaped (node_at s k).kind (place_at s k) (read_whole (bytes_at s k)) (word_at s k) (trees_by n s (k + 1) (after_at s k))
      (entries_by n s (k + 1) (after_at s k))

  pub trees_by : ℕ → ScanView → ℕ → ℕ → Trees
  trees_by zero s k end = NoTrees
  trees_by (suc n) s k end = if k == end then NoTrees else NextTree (tree_by n s k) (trees_by n s (after_at s k) end)

  pub entries_by : ℕ → ScanView → ℕ → ℕ → Entries
  entries_by zero s k end = NoEntries
  entries_by (suc n) s k end = if k == end then NoEntries else NextEntry (place_at s k) (word_at s k) (tree_by n s (k + 1))
      (entries_by n s (after_at s (k + 1)) end)

-- the value of a node, and the values of the nodes up to an end
unfoldable pub tree_of : ScanView → ℕ → Tree
tree_of s k = tree_by (2 * length s.nodes) s k

unfoldable pub trees_of : ScanView → ℕ → ℕ → Trees
trees_of s k end = trees_by (2 * length s.nodes + 1) s k end

unfoldable pub entries_of : ScanView → ℕ → ℕ → Entries
entries_of s k end = entries_by (2 * length s.nodes + 1) s k end
