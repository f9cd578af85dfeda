-- The feature points so far stand behind the items that were there.
use Rattle.std.proofs.Common.{◌≡◌, ◌++◌, map, take}
use Rattle.sweep_index.specs.declared.index.Owner.TheVariants.{Town}
use Rattle.map_index.specs.Listing.{item_of}
use Rattle.map_index.proofs.listing.push_points.Given as goal

abbrev pub invariant-loop-k : goal.invariant-loop-k
invariant-loop-k l = l.items.items ≡ l.initial.items.items ++ map (item_of Town) (take l.k l.work.read.points)
