-- The items of a map in the order of their numbers: its feature points, then the vertices of its chains, chain
-- after chain.
use Rattle.std.specs.Prelude.{ℕ, suc, List, [], ◌∷◌, ◌++◌, map, take}
use Rattle.grid_exact.specs.Geometry.{Place}
use Rattle.arc_map.specs.Chains.{Chain, chain_places}
use Rattle.sweep_index.specs.declared.index.Item.{Item}
use Rattle.sweep_index.specs.declared.index.Owner.{Owner}
use Rattle.sweep_index.specs.declared.index.Owner.TheVariants.{Town, Chain as OfChain}

abbrev pub item_of : Owner → Place → Item
item_of owner p = record { at = p; owner = owner }

-- the items of the chains, the first of which has this number
abbrev pub vertex_items : ℕ → List Chain → List Item
vertex_items k [] = []
vertex_items k (c ∷ cs) = map (item_of (OfChain k)) (chain_places c) ++ vertex_items (suc k) cs

abbrev pub items_of : List Place → List Chain → List Item
items_of points chains = map (item_of Town) points ++ vertex_items 0 chains

-- the items before those of the chain number k
abbrev pub items_before : List Place → List Chain → ℕ → List Item
items_before points chains k = items_of points (take k chains)
