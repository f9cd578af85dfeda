-- What the index of a map tells of a run that may become a segment: the items that let it, and the chains that are one edge between its
-- ends.
use Rattle.std.specs.Prelude.{◌≡◌, ◌≢◌, ◌<◌, ℕ, List, length}
use Rattle.grid_exact.specs.Geometry.{Place}
use Rattle.arc_map.specs.Allowed.{IsConsistent}
use Rattle.arc_map.specs.Chains.{Chain, chain_at, chain_places, EndsAt}
use Rattle.sweep_index.specs.declared.index.Item.{Item}
use Rattle.map_index.specs.Items.{IsOther}
use Rattle.cert_checker.specs.Open.{Joins}

-- the item does not change sides where the run of the chain number k from v over the skipped places to w becomes the segment vw
abbrev pub ItemLets : ℕ → Place → List Place → Place → ℕ × Item → Type 0
ItemLets k v skipped w numbered = IsOther k numbered.1.owner → IsConsistent v w skipped numbered.1.at

-- the chain number l is another one than the chain number k, and is one edge between v and w
pub record IsEdgeBetween (chains : List Chain) (k : ℕ) (v w : Place) (l : ℕ) : Type 0 where
  pub other : l ≢ k
  pub whole : length (chain_places (chain_at chains l)) ≡ 2
  pub joins : Joins v w (chain_places (chain_at chains l))

-- some other chain than the chain number k is one edge between v and w
pub record IsDouble (chains : List Chain) (k : ℕ) (v w : Place) : Type 0 where
  pub number : ℕ
  pub known : number < length chains
  pub starts : EndsAt v (chain_at chains number)
  pub edge : IsEdgeBetween chains k v w number
