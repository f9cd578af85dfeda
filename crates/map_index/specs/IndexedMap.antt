-- A map at work with its index and the table of its chain ends; and the items of a map in a box.
use Rattle.std.specs.Prelude.{◌≡◌, ◌≤◌, ℕ, IsTrue, List, length, map, Contains}
use Rattle.grid_exact.specs.Geometry.{Place}
use Rattle.arc_map.specs.Ends.{EndLists, IsEndTable}
use Rattle.arc_map.specs.Work.{Work, chain_in}
use Rattle.sweep_index.specs.Box.{is_in_box}
use Rattle.sweep_index.specs.declared.index.Item.{Item}
use Rattle.sweep_index.specs.declared.index.Owner.{Owner}
use Rattle.map_index.specs.Items.{Owns}
use Rattle.map_index.specs.Listing.{item_of, items_of}
use Rattle.map_index.specs.MapIndex.{Placed, IsIndexAt}

-- how many items a map has: its feature points, and the vertices of its chains as read
abbrev pub items_in : Work → ℕ
items_in w = length (items_of w.read.points (map (chain_in w.read) w.refs))

-- the index is that of the map, and the table that of its chain ends
pub record IsInStep (w : Work) (index : Placed) (ends : EndLists) : Type 0 where
  pub at_work : IsIndexAt w index
  pub count : length index.items.numbered ≡ items_in w
  pub chain_ends : IsEndTable w.chains ends

-- these are the items in the closed box from its corner `low` to its corner `high`, each with a number: the feature points there, and
-- the vertices there of the chains as they are now
pub record AreItemsIn (w : Work) (low high : Place) (found : List (ℕ × Item)) : Type 0 where
  pub only : (n : ℕ) (item : Item) → Contains found (n, item) → Owns w.chains w.read.points item.owner item.at
  pub inside : (n : ℕ) (item : Item) → Contains found (n, item) → IsTrue (is_in_box low high item.at)
  pub all : (owner : Owner) (p : Place) → Owns w.chains w.read.points owner p → IsTrue (is_in_box low high p)
      → (n : ℕ) × Contains found (n, item_of owner p)
  pub few : length found ≤ items_in w
