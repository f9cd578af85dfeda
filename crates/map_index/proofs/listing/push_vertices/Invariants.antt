-- The places so far stand behind the items that were there.
use Rattle.std.proofs.Common.{◌≡◌, ◌++◌, map, take}
use Rattle.map_index.specs.Listing.{item_of}
use Rattle.map_index.proofs.listing.push_vertices.Given as goal

abbrev pub invariant-loop-place : goal.invariant-loop-place
invariant-loop-place l = l.items.items ≡ l.initial.items.items ++ map (item_of l.owner) (take l.place-index l.places)
