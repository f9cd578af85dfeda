-- The items that the index of a map finds in a box.
use Rattle.std.proofs.Common.{◌≡◌, ◌≤◌, ℕ, Bool, true, false, cond, List, [], ◌∷◌, length, get_or, filter, Contains, sym, subst, arith}
use Rattle.std.proofs.lemmas.Bool.{and_from, and_parts}
use Rattle.std.proofs.lemmas.List.Elements.{All-contains, All-contains_itself, All-filter, filter_passes}
use Rattle.grid_exact.specs.Geometry.{Place}
use Rattle.arc_map.specs.Work.{Work}
use Rattle.sweep_index.specs.Box.{is_in_box}
use Rattle.sweep_index.specs.Items.{Items, is_found, found_in}
use Rattle.sweep_index.specs.declared.index.Item.{Item}
use Rattle.sweep_index.proofs.Holding.{filter_holds}
use Rattle.map_index.specs.Items.{IsLiveItem}
use Rattle.map_index.specs.IndexedMap.{AreItemsIn, items_in}
use Rattle.map_index.specs.Listing.{item_of}
use Rattle.map_index.specs.MapIndex.{Placed, IsIndexAt}

filtered_fewer : {X : Type 0} (p : X → Bool) (xs : List X) → length (filter p xs) ≤ length xs
filtered_fewer p [] = omega arith
filtered_fewer p (x ∷ xs) = let rest = filtered_fewer p xs in elim (p x) as (λ t.
    length (cond t (x ∷ filter p xs) (filter p xs)) ≤ length (x ∷ xs)) [ true ↦ omega (arith, rest) | false ↦ omega (arith, rest) ]

-- an item that is found is live, and in the box
found_parts : (items : Items) (low high : Place) (n : ℕ) (item : Item) → Contains (found_in items low high) (n, item)
    → (is_in_box low high item.at ≡ true) × (get_or items.live n false ≡ true)
found_parts items low high n item has =
    let p = is_found items.live low high in
    and_parts (is_in_box low high item.at) (get_or items.live n false)
    (All-contains (λ e. p e ≡ true) (found_in items low high) (n, item) (filter_passes p items.numbered) has)

found_is_live : (items : Items) (low high : Place) (n : ℕ) (item : Item) → Contains (found_in items low high) (n, item)
    → IsLiveItem items n item
found_is_live items low high n item has =
    let p = is_found items.live low high in
    let among = All-contains (Contains items.numbered) (found_in items low high) (n, item)
    (All-filter p (Contains items.numbered) items.numbered (All-contains_itself items.numbered)) has in
    (among, (found_parts items low high n item has).1)

live_is_found : (items : Items) (low high : Place) (n : ℕ) (item : Item) → IsLiveItem items n item → is_in_box low high item.at ≡ true
    → Contains (found_in items low high) (n, item)
live_is_found items low high n item live inside =
    filter_holds (is_found items.live low high) items.numbered (n, item) live.0
    (and_from (is_in_box low high item.at) (get_or items.live n false) inside live.1)

pub items_in_box : (w : Work) (v : Placed) (low high : Place) (found : List (ℕ × Item)) → IsIndexAt w v
    → length v.items.numbered ≡ items_in w → found ≡ found_in v.items low high → AreItemsIn w low high found
items_in_box w v low high found index count is = subst (AreItemsIn w low high) (sym is) (record {
  only = λ n item has. index.items.only n item (found_is_live v.items low high n item has);
  inside = λ n item has. (found_parts v.items low high n item has).0;
  all = λ owner p owns inside. let there = index.items.all owner p owns in
      (there.0, live_is_found v.items low high there.0 (item_of owner p) there.1 inside);
  few = omega (arith, count, filtered_fewer (is_found v.items.live low high) v.items.numbered);
})
