-- Which items stand for a map at work: its feature points, and the vertices of its chains as they are now.
use Rattle.std.specs.Prelude.{◌≢◌, ◌<◌, ℕ, IsTrue, false, List, length, get_or, Contains}
use Rattle.grid_exact.specs.Geometry.{Place}
use Rattle.arc_map.specs.Chains.{Chain, chain_at, chain_places}
use Rattle.sweep_index.specs.Items.{Items}
use Rattle.sweep_index.specs.declared.index.Item.{Item}
use Rattle.sweep_index.specs.declared.index.Owner.{Owner}
use Rattle.sweep_index.specs.declared.index.Owner.TheVariants.{Town, Chain as OfChain}

-- the owner has p: it is a feature point, or a vertex of the chain
abbrev pub Owns : List Chain → List Place → Owner → Place → Type 0
Owns chains points Town p = Contains points p
Owns chains points (OfChain l) p = (l < length chains) × Contains (chain_places (chain_at chains l)) p

-- the owner is a feature point, or another chain than the chain number k
abbrev pub IsOther : ℕ → Owner → Type 0
IsOther k Town = Unit {0}
IsOther k (OfChain l) = l ≢ k

-- the item with this number is in the index and live
abbrev pub IsLiveItem : Items → ℕ → Item → Type 0
IsLiveItem items n item = Contains items.numbered (n, item) × IsTrue (get_or items.live n false)

-- the live items are the feature points and the vertices of the chains
pub record AreItemsOf (chains : List Chain) (points : List Place) (items : Items) : Type 0 where
  pub only : (n : ℕ) (item : Item) → IsLiveItem items n item → Owns chains points item.owner item.at
  pub all : (owner : Owner) (p : Place) → Owns chains points owner p → (n : ℕ) × IsLiveItem items n (record { at = p; owner = owner })
