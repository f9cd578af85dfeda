-- The members of an Object.
use Rattle.std.specs.Prelude.{◌+◌}
use Rattle.json_scan.specs.Tree.{Tree, Entries, Lookup, NowhereIn, OnceIn, TwiceIn, after_at}
use Rattle.json_scan.specs.declared.object.Object.{Object}
use Rattle.json_scan.specs.declared.object.Member.{Member}
use Rattle.json_scan.specs.declared.object.Member.TheVariants.{Absent, Once, Twice}
use Rattle.json_scan.specs.TreeAt.{entries_of}
use Rattle.json_scan.specs.Shown.{tree}

-- the Object itself
abbrev pub holder : Object → Tree
holder o = tree o.value

abbrev pub members : Object → Entries
members o = entries_of o.value.scan.now (o.value.node + 1) (after_at o.value.scan.now o.value.node)

abbrev pub with_members : Object → Tree × Entries
with_members o = (holder o, members o)

abbrev pub found : Member → Lookup
found Absent = NowhereIn
found (Once v) = OnceIn (tree v)
found (Twice start end) = TwiceIn (record { start = start; end = end })
