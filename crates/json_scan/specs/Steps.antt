-- One value after the other: the first that is left, and those behind it.
use Rattle.std.specs.Prelude.{◌≡◌, Option, None, Some}
use Rattle.json_scan.specs.Tree.{NoTrees, NextTree, NoEntries, NextEntry}
use Rattle.json_scan.specs.TreeAt.{place_at, word_at}
use Rattle.json_scan.specs.declared.value.Value.{Value}
use Rattle.json_scan.specs.Left.{Left, trees, entries}
use Rattle.json_scan.specs.Shown.{tree}

-- the values of a List
abbrev pub Steps : Left → Option Value → Left → Type 0
Steps old None new = (trees old ≡ NoTrees) × (trees new ≡ NoTrees)
Steps old (Some v) new = trees old ≡ NextTree (tree v) (trees new)

-- the values of the members of an Object, each behind its name
abbrev pub MemberSteps : Left → Option Value → Left → Type 0
MemberSteps old None new = (entries old ≡ NoEntries) × (entries new ≡ NoEntries)
MemberSteps old (Some v) new = entries old ≡ NextEntry (place_at old.scan old.at) (word_at old.scan old.at) (tree v) (entries new)
