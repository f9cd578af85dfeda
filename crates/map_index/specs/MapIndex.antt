-- The index of a map at work: how its items are numbered, and which of them are live.
use Rattle.std.specs.Prelude.{◌≡◌, ◌↔◌, ◌+◌, ◌<◌, ◌≤◌, ◌^◌, ℕ, IsTrue, false, List, length, get_or, All, Contains}
use Rattle.grid_exact.specs.declared.frame.Frame.TheVariants.{Plain}
use Rattle.arc_map.specs.Map.{Map}
use Rattle.arc_map.specs.Chains.{Chain, chain_at}
use Rattle.arc_map.specs.Paths.{vertices_of, vertex_at}
use Rattle.arc_map.specs.Vertices.{Vertex}
use Rattle.arc_map.specs.Arranged.{nowhere}
use Rattle.arc_map.specs.Work.{Work, chain_in}
use Rattle.arc_map.specs.declared.refs.ChainRef.{ChainRef}
use Rattle.sweep_index.specs.Items.{Items}
use Rattle.sweep_index.specs.declared.index.Item.{Item}
use Rattle.sweep_index.specs.declared.index.Owner.TheVariants.{Town, Chain as OfChain}
use Rattle.map_index.specs.Items.{AreItemsOf}
use Rattle.map_index.specs.Listing.{item_of}

-- the items of a map with their numbers, and for each chain the number of its first item
pub record Placed : Type 0 where
  pub items : Items
  pub firsts : List ℕ

-- what stands past the end of a list of places of chains
abbrev pub no_ref : ChainRef
no_ref = record { arc = 0; «from» = 0; to = 0; frame = Plain }

-- the chain number k as the map read has it
abbrev pub chain_read : Map → List ChainRef → ℕ → Chain
chain_read m refs k = chain_in m (get_or refs k no_ref)

-- the chain number k is as the map read has it
abbrev pub IsAsRead : Work → ℕ → Type 0
IsAsRead w k = chain_at w.chains k ≡ chain_read w.read w.refs k

-- i numbers a vertex of the chain number k as read
pub record IsVertexRead (m : Map) (refs : List ChainRef) (k i : ℕ) : Type 0 where
  pub chain : k < length refs
  pub vertex : i < length (vertices_of (chain_read m refs k))

-- the item has this number: first the feature points are numbered, and then the vertices of the chains as read,
-- each chain's from its first number on
pub data IsItem (m : Map) (refs : List ChainRef) (firsts : List ℕ) (n : ℕ) (item : Item) : Type 0 where
  IsTown : n < length m.points → item ≡ item_of Town (get_or m.points n nowhere) → IsItem m refs firsts n item
  IsVertex : (k i : ℕ) → IsVertexRead m refs k i → n ≡ get_or firsts k 0 + i
      → item ≡ item_of (OfChain k) (vertex_at (chain_read m refs k) i).place → IsItem m refs firsts n item

-- the numbers of the items; no two chains share one
pub record AreNumbered (m : Map) (refs : List ChainRef) (v : Placed) : Type 0 where
  pub only : (n : ℕ) (item : Item) → Contains v.items.numbered (n, item) → IsItem m refs v.firsts n item
  pub all : (n : ℕ) (item : Item) → IsItem m refs v.firsts n item → Contains v.items.numbered (n, item)
  pub past_towns : (k : ℕ) → k < length refs → length m.points ≤ get_or v.firsts k 0
  pub apart : (k l : ℕ) → k < l → l < length refs → get_or v.firsts k 0 + length (vertices_of (chain_read m refs k)) ≤ get_or v.firsts l 0
  pub within : (k : ℕ) → k < length refs → get_or v.firsts k 0 + length (vertices_of (chain_read m refs k)) ≤ length v.items.live
  pub few : length v.items.live < 2 ^ 32
  pub firsts_count : length v.firsts ≡ length refs

-- a feature point is live, and a vertex as read is live exactly where it is in its chain as it is now
pub record AreLiveIn (w : Work) (v : Placed) : Type 0 where
  pub towns : (n : ℕ) → n < length w.read.points → IsTrue (get_or v.items.live n false)
  pub vertices : (k i : ℕ) → IsVertexRead w.read w.refs k i → IsTrue (get_or v.items.live (get_or v.firsts k 0 + i) false)
      ↔ Contains (vertices_of (chain_at w.chains k)) (vertex_at (chain_read w.read w.refs k) i)

-- the chains of a map at work have vertices as read, and no others; each has its frame as read, and an edge
pub record AreOfRead (w : Work) : Type 0 where
  pub count : length w.chains ≡ length w.refs
  pub frames : (k : ℕ) → k < length w.chains → (chain_at w.chains k).frame ≡ (get_or w.refs k no_ref).frame
  pub edges : All (λ chain. 0 < length chain.rest) w.chains
  pub left : (k : ℕ) (v : Vertex) → k < length w.refs → Contains (vertices_of (chain_at w.chains k)) v
      → (i : ℕ) × (i < length (vertices_of (chain_read w.read w.refs k))) × (v ≡ vertex_at (chain_read w.read w.refs k) i)

-- this is the index of the map at work
pub record IsIndexAt (w : Work) (v : Placed) : Type 0 where
  pub items : AreItemsOf w.chains w.read.points v.items
  pub numbers : AreNumbered w.read w.refs v
  pub live : AreLiveIn w v
  pub chains : AreOfRead w
