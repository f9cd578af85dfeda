-- The index of a map of which no chain is thinned, and what the live items of an index are.
use Rattle.std.proofs.Common.{◌≡◌, ◌∙◌, ℕ, ◌+◌, ◌<◌, ◌^◌, IsTrue, true, false, List, length, get_or, replicate, All, Contains, refl, ap}
use Rattle.std.proofs.Common.{sym, subst, arith, inl, inr}
use Rattle.std.specs.List.{enumerate_from}
use Rattle.std.specs.List.Sorted.{IsPermutation}
use Rattle.std.proofs.lemmas.Bool.{cases_lt}
use Rattle.std.proofs.lemmas.List.{take_all, get_or_default, get_or-replicate, length-replicate}
use Rattle.std.proofs.lemmas.List.Elements.{Contains-get_or}
use Rattle.std.proofs.lemmas.List.FromFn.{length-enumerate_from, get_or-enumerate_from}
use Rattle.std.proofs.lemmas.List.Sorted.{Contains-permutation, IsPermutation-sym}
use Rattle.grid_exact.specs.Geometry.{Place}
use Rattle.arc_map.specs.Arranged.{nowhere}
use Rattle.arc_map.specs.Chains.{Chain, chain_at, chain_places}
use Rattle.arc_map.specs.Paths.{vertices_of, vertex_at}
use Rattle.arc_map.specs.Vertices.{Vertex}
use Rattle.arc_map.specs.Work.{Work}
use Rattle.sweep_index.specs.declared.index.Item.{Item}
use Rattle.sweep_index.specs.declared.index.Owner.{Owner}
use Rattle.sweep_index.specs.declared.index.Owner.TheVariants.{Town, Chain as OfChain}
use Rattle.map_index.specs.Items.{Owns, IsLiveItem}
use Rattle.map_index.specs.Listing.{item_of, items_of, items_before}
use Rattle.map_index.specs.MapIndex.{Placed, chain_read, IsAsRead, IsVertexRead, IsItem, AreNumbered, AreLiveIn, AreOfRead, IsIndexAt}
use Rattle.map_index.specs.MapIndex.IsItem.{IsTown, IsVertex}
use Rattle.map_index.proofs.Listed.{size, after_towns, apart, town_at, vertex_at_place, stands_at}
use Rattle.map_index.proofs.AsRead.{vertex_count, place_of, has_vertex, has_place, vertex_of_place}

-- ---- what the live items are

owner_of_item : (w : Work) (v : Placed) (n : ℕ) (item : Item) → AreLiveIn w v → AreOfRead w → IsItem w.read w.refs v.firsts n item
    → IsTrue (get_or v.items.live n false) → Owns w.chains w.read.points item.owner item.at
owner_of_item w v n item live chains (IsTown below is) alive =
    subst (λ (it : Item). Owns w.chains w.read.points it.owner it.at) (sym is) (Contains-get_or w.read.points n nowhere below)
owner_of_item w v n item live chains (IsVertex k i read number is) alive =
    let below : k < length w.chains = omega (arith, read.chain, chains.count) in
    let has = (live.vertices k i read).0 (subst (λ a. IsTrue (get_or v.items.live a false)) number alive) in
    subst (λ (it : Item). Owns w.chains w.read.points it.owner it.at) (sym is)
    (below, has_place (chain_at w.chains k) (vertex_at (chain_read w.read w.refs k) i) has)

live_of_owner : (w : Work) (v : Placed) (owner : Owner) (p : Place) → AreNumbered w.read w.refs v → AreLiveIn w v → AreOfRead w
    → Owns w.chains w.read.points owner p → (n : ℕ) × IsLiveItem v.items n (item_of owner p)
live_of_owner w v Town p numbers live chains has =
    let point : p ≡ get_or w.read.points has.0 nowhere = sym (get_or_default w.read.points has.0 nowhere p has.1 ∙ has.2) in
    (has.0, (numbers.all has.0 (item_of Town p) (IsTown has.1 (ap (item_of Town) point)), live.towns has.0 has.1))
live_of_owner w v (OfChain k) p numbers live chains has =
    let found = vertex_of_place (chain_at w.chains k) p has.1 in
    let below : k < length w.refs = omega (arith, has.0, chains.count) in
    let left = chains.left k found.vertex below found.has in
    let read : IsVertexRead w.read w.refs k left.0 = record { chain = below; vertex = left.1 } in
    let place : p ≡ (vertex_at (chain_read w.read w.refs k) left.0).place = sym found.is ∙ ap (λ (u : Vertex). u.place) left.2 in
    let there = (live.vertices k left.0 read).1 (subst (Contains (vertices_of (chain_at w.chains k))) left.2 found.has) in (
      get_or v.firsts k 0 + left.0,
      (
        numbers.all (get_or v.firsts k 0 + left.0) (item_of (OfChain k) p)
            (IsVertex k left.0 read refl (ap (item_of (OfChain k)) place)),
        there,
      ),
    )

pub index_of_parts : (w : Work) (v : Placed) → AreNumbered w.read w.refs v → AreLiveIn w v → AreOfRead w → IsIndexAt w v
index_of_parts w v numbers live chains = record {
  items = record {
    only = λ n item is. owner_of_item w v n item live chains (numbers.only n item is.0) is.1;
    all = λ owner p owns. live_of_owner w v owner p numbers live chains owns;
  };
  numbers = numbers;
  live = live;
  chains = chains;
}

-- ---- the first index

-- the items of the map are listed in order, and the list is indexed
pub record IsListed (w : Work) (items : List Item) (v : Placed) : Type 0 where
  pub list : items ≡ items_of w.read.points w.chains
  pub few : length items < 2 ^ 32
  pub firsts : (k : ℕ) → k < length w.chains → get_or v.firsts k 0 ≡ length (items_before w.read.points w.chains k)
  pub firsts_count : length v.firsts ≡ length w.chains
  pub refs_count : length v.firsts ≡ length w.refs
  pub numbered : IsPermutation (enumerate_from 0 items) v.items.numbered
  pub live : v.items.live ≡ replicate (length items) true
  pub read : (k : ℕ) → k < length w.chains → IsAsRead w k
  pub edges : All (λ chain. 0 < length chain.rest) w.chains

read_count : (w : Work) (items : List Item) (v : Placed) (k : ℕ) → IsListed w items v → k < length w.chains
    → length (vertices_of (chain_read w.read w.refs k)) ≡ size (chain_at w.chains k)
read_count w items v k listed below =
    vertex_count (chain_read w.read w.refs k) ∙ ap size (sym (listed.read k below))

read_place : (w : Work) (items : List Item) (v : Placed) (k i : ℕ) → IsListed w items v → k < length w.chains
    → i < length (vertices_of (chain_read w.read w.refs k)) → get_or (chain_places (chain_at w.chains k)) i nowhere
    ≡ (vertex_at (chain_read w.read w.refs k) i).place
read_place w items v k i listed below inside =
    ap (λ (c : Chain). get_or (chain_places c) i nowhere) (listed.read k below) ∙ place_of (chain_read w.read w.refs k) i inside

-- the item with a number
item_with : (w : Work) (items : List Item) (v : Placed) (n : ℕ) (item : Item) → IsListed w items v → n < length items
    → get_or items n item ≡ item → IsItem w.read w.refs v.firsts n item
item_with w items v n item listed below is =
    let points = w.read.points in
    let there : item ≡ get_or (items_of points w.chains) n item = sym is ∙ ap (λ (xs : List Item). get_or xs n item) listed.list in
    let count = ap length listed.list in
    elim (cases_lt n (length points)) [
      | inl town ↦ IsTown town (there ∙ town_at points w.chains n item town)
      | inr past ↦
          let at = stands_at points w.chains n past (omega (arith, below, count)) in
          let k = at.chain in
          let i = at.vertex in
          let inside : i < length (vertices_of (chain_read w.read w.refs k)) =
          omega (arith, at.inside, read_count w items v k listed at.below) in
          let number : n ≡ get_or v.firsts k 0 + i = omega (arith, at.place, listed.firsts k at.below) in
          let read : IsVertexRead w.read w.refs k i = record {
            chain =
                omega (arith, at.below, listed.firsts_count, listed.refs_count);
            vertex = inside;
          } in
          IsVertex k i read number
          (there ∙ ap (λ a. get_or (items_of points w.chains) a item) at.place ∙ vertex_at_place points w.chains k i item at.below at.inside
          ∙ ap (item_of (OfChain k)) (read_place w items v k i listed at.below inside))
    ]

contained : (items : List Item) (n : ℕ) (item : Item) → n < length items → get_or items n item ≡ item
    → Contains (enumerate_from 0 items) (n, item)
contained items n item below is =
    let number : 0 + n ≡ n = omega arith in (
      n,
      omega (arith, below, length-enumerate_from 0 items),
      get_or-enumerate_from 0 items n (n, item) below ∙ ap (λ a. (a, get_or items n item)) number ∙ ap (λ it. (n, it)) is,
    )

item_listed : (w : Work) (items : List Item) (v : Placed) (n : ℕ) (item : Item) → IsListed w items v → IsItem w.read w.refs v.firsts n item
    → Contains (enumerate_from 0 items) (n, item)
item_listed w items v n item listed (IsTown below is) =
    let points = w.read.points in
    let count = ap length listed.list in
    let towns = after_towns points w.chains (length w.chains) in
    let whole = ap (λ (cs : List Chain). length (items_of points cs)) (take_all (length w.chains) w.chains (omega arith)) in
    contained items n item (omega (arith, below, count, towns, whole))
    (ap (λ (xs : List Item). get_or xs n item) listed.list ∙ town_at points w.chains n item below ∙ sym is)
item_listed w items v n item listed (IsVertex k i read number is) =
    let points = w.read.points in
    let count = ap length listed.list in
    let below : k < length w.chains = omega (arith, read.chain, listed.firsts_count, listed.refs_count) in
    let inside : i < size (chain_at w.chains k) = omega (arith, read.vertex, read_count w items v k listed below) in
    let room = apart points w.chains k (length w.chains) below (omega arith) in
    let whole = ap (λ (cs : List Chain). length (items_of points cs)) (take_all (length w.chains) w.chains (omega arith)) in
    let first = listed.firsts k below in
    let place : n ≡ length (items_before points w.chains k) + i = omega (arith, number, first) in
    contained items n item (omega (arith, place, inside, room, whole, count))
    (ap (λ (xs : List Item). get_or xs n item) listed.list
    ∙ ap (λ a. get_or (items_of points w.chains) a item) place
    ∙ vertex_at_place points w.chains k i item below inside
    ∙ ap (item_of (OfChain k)) (read_place w items v k i listed below read.vertex)
    ∙ sym is)

numbers_at_first : (w : Work) (items : List Item) (v : Placed) → IsListed w items v → AreNumbered w.read w.refs v
numbers_at_first w items v listed =
    let points = w.read.points in
    let pairs = enumerate_from 0 items in
    let chains : length w.refs ≡ length w.chains = omega (arith, listed.firsts_count, listed.refs_count) in
    let count = ap length listed.list in
    let live_count : length v.items.live ≡ length items = ap length listed.live ∙ length-replicate (length items) true in
    let whole = ap (λ (cs : List Chain). length (items_of points cs)) (take_all (length w.chains) w.chains (omega arith)) in
    record {
      only = λ n item has.
          let there = Contains-permutation v.items.numbered pairs (n, item) (IsPermutation-sym pairs v.items.numbered listed.numbered) has
          in
          let below : there.0 < length items = omega (arith, there.1, length-enumerate_from 0 items) in
          let pair = sym (get_or-enumerate_from 0 items there.0 (n, item) below) ∙ there.2 in
          let number : there.0 ≡ n = let z = ap (λ (q : ℕ × Item). q.0) pair in omega arith in
          let is : get_or items there.0 item ≡ item = ap (λ (q : ℕ × Item). q.1) pair in
          item_with w items v n item listed (omega (arith, below, number)) (subst (λ a. get_or items a item ≡ item) number is);
      all = λ n item is. Contains-permutation pairs v.items.numbered (n, item) listed.numbered (item_listed w items v n item listed is);
      past_towns = λ k below. omega (arith, listed.firsts k (omega (arith, below, chains)), after_towns points w.chains k);
      apart = λ k l before below.
          let inside : l < length w.chains = omega (arith, below, chains) in
          omega (
            arith,
            listed.firsts k (omega (arith, before, inside)),
            listed.firsts l inside,
            read_count w items v k listed
                (omega (arith, before, inside)),
            apart points w.chains k l before (omega (arith, inside)),
          );
      within = λ k below.
          let inside : k < length w.chains = omega (arith, below, chains) in
          omega (
            arith,
            live_count,
            count,
            whole,
            listed.firsts k inside,
            read_count w items v k listed inside,
            apart points w.chains k
                (length w.chains) inside (omega arith),
          );
      few = omega (arith, live_count, listed.few);
      firsts_count = listed.refs_count;
    }

live_at_first : (w : Work) (items : List Item) (v : Placed) → IsListed w items v → AreNumbered w.read w.refs v → AreLiveIn w v
live_at_first w items v listed numbers =
    let live_count : length v.items.live ≡ length items = ap length listed.live ∙ length-replicate (length items) true in
    let alive : (n : ℕ) → n < length items → IsTrue (get_or v.items.live n false) =
    λ n below. rw listed.live (get_or-replicate (length items) n true false below) in
    record {
      towns = λ n below.
          let points = w.read.points in
          let count = ap length listed.list in
          let whole = ap (λ (cs : List Chain). length (items_of points cs)) (take_all (length w.chains) w.chains (omega arith)) in
          alive n (omega (arith, below, count, whole, after_towns points w.chains (length w.chains)));
      vertices = λ k i read.
          let below : k < length w.chains = omega (arith, read.chain, listed.firsts_count, listed.refs_count) in (
            λ is. subst (λ (c : Chain). Contains (vertices_of c) (vertex_at (chain_read w.read w.refs k) i)) (sym (listed.read k below))
                (has_vertex (chain_read w.read w.refs k) i read.vertex),
            λ has. alive (get_or v.firsts k 0 + i) (omega (arith, numbers.within k read.chain, read.vertex, live_count)),
          );
    }

of_read_at_first : (w : Work) (items : List Item) (v : Placed) → IsListed w items v → AreOfRead w
of_read_at_first w items v listed = record {
  count = omega (arith, listed.firsts_count, listed.refs_count);
  frames = λ k below. ap (λ (c : Chain). c.frame) (listed.read k below);
  edges = listed.edges;
  left = λ k u below has.
      let inside : k < length w.chains = omega (arith, below, listed.firsts_count, listed.refs_count) in
      let read = chain_read w.read w.refs k in
      let there = subst (λ (c : Chain). Contains (vertices_of c) u) (listed.read k inside) has in
      (there.0, there.1, sym (get_or_default (vertices_of read) there.0 read.first u there.1 ∙ there.2));
}

pub index_at_first : (w : Work) (items : List Item) (v : Placed) → IsListed w items v → IsIndexAt w v
index_at_first w items v listed =
    let numbers = numbers_at_first w items v listed in
    index_of_parts w v numbers (live_at_first w items v listed numbers) (of_read_at_first w items v listed)
