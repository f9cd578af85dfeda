-- How what is found of a chain lies in memory.
use Rattle.std.specs.Prelude.{◌≡◌, ◌≤◌, take, length}
use Rattle.chain_replace.specs.Finder.{Found}
use Rattle.chain_replace.specs.declared.finder.PathFinder.TheInside.{Inside}

abbrev pub found_in : Inside → Found
found_in a = record { path = take a.kept a.path.items; lay = a.layering; room = a.beside.room }

-- each list has a place for each vertex of the longest chain
pub record HasPlaces (a : Inside) : Type 0 where
  pub xs : length a.xs.items ≡ 1024
  pub ys : length a.ys.items ≡ 1024
  pub path : length a.path.items ≡ 1024
  pub kept : a.kept ≤ 1024
