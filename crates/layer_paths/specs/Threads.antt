-- How layers lie in memory: the vertices of each layer are threaded in their order.
use Rattle.std.specs.Prelude.{◌≡◌, ℕ, ◌+◌, ◌<◌, ◌≤◌, List, length, slice_index}
use Rattle.layer_paths.specs.Lay.{Lay}
use Rattle.layer_paths.specs.Order.{IsFirstIn}
use Rattle.layer_paths.specs.declared.layering.Layering.TheInside.{Inside}

abbrev pub lay_of : Inside → Lay
lay_of a = record { last = a.last; front = a.front; layers = a.layers.items; nexts = a.nexts.items }

-- each layer has its least vertex as its head, and each vertex the next one of its layer as its link; layers fall by one at most from a
-- vertex to the one after it
pub record AreThreads (m front : ℕ) (layers nexts heads links : List ℕ) : Type 0 where
  pub head : (layer : ℕ) → layer ≤ m → IsFirstIn layers m front layer (slice_index heads layer)
  pub link : (k : ℕ) → front ≤ k → k ≤ m → IsFirstIn layers m (k + 1) (slice_index layers k) (slice_index links k)
  pub small : (k : ℕ) → front ≤ k → k ≤ m → slice_index layers k + k ≤ m
  pub falls : (k : ℕ) → front ≤ k → k < m → slice_index layers k ≤ slice_index layers (k + 1) + 1
  pub next : (k : ℕ) → front ≤ k → k < m → (k < slice_index nexts k) × (slice_index nexts k ≤ m)

pub record IsThreaded (a : Inside) : Type 0 where
  pub last : a.last < 1024
  pub front : a.front ≤ a.last
  pub layers_room : length a.layers.items ≡ 1024
  pub nexts_room : length a.nexts.items ≡ 1024
  pub heads_room : length a.heads.items ≡ 1024
  pub links_room : length a.links.items ≡ 1024
  pub threads : AreThreads a.last a.front a.layers.items a.nexts.items a.heads.items a.links.items
