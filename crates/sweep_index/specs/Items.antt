-- What an index holds, and what of it stands in a box.
use Rattle.std.specs.Prelude.{◌&&◌, ℕ, Bool, false, List, filter, get_or}
use Rattle.grid_exact.specs.Geometry.{Place}
use Rattle.sweep_index.specs.Box.{is_in_box}
use Rattle.sweep_index.specs.declared.index.Item.{Item}

-- the items with their numbers, in the order of the index, and whether the item with each number is live
pub record Items : Type 0 where
  pub numbered : List (ℕ × Item)
  pub live : List Bool

-- whether the numbered item is in the box and live
abbrev pub is_found : List Bool → Place → Place → ℕ × Item → Bool
is_found live low high e = is_in_box low high e.1.at && get_or live e.0 false

-- the live items in the box, in the order of the index
abbrev pub found_in : Items → Place → Place → List (ℕ × Item)
found_in items low high = filter (is_found items.live low high) items.numbered
