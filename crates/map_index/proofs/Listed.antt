-- The list of the items of a map: where the items of each chain begin, and which item stands at each place.
use Rattle.std.proofs.Common.{◌≡◌, ◌∙◌, ℕ, zero, suc, ◌+◌, ◌-◌, ◌<◌, ◌≤◌, List, [], ◌∷◌, ◌++◌, map, length, get_or, take, ap, sym, arith}
use Rattle.std.proofs.Common.{inl, inr, length-append, append_assoc}
use Rattle.std.proofs.lemmas.Bool.{cases_lt}
use Rattle.std.proofs.lemmas.List.{append-nil, length-map, get_or-map, get_or_append_left, get_or-append-add, get_or_push, map_more}
use Rattle.grid_exact.specs.Geometry.{Place}
use Rattle.arc_map.specs.Arranged.{nowhere}
use Rattle.arc_map.specs.Chains.{Chain, chain_at, chain_places}
use Rattle.sweep_index.specs.declared.index.Item.{Item}
use Rattle.sweep_index.specs.declared.index.Owner.TheVariants.{Town, Chain as OfChain}
use Rattle.map_index.specs.Listing.{item_of, vertex_items, items_of, items_before}

abbrev pub size : Chain → ℕ
size c = length (chain_places c)

-- ---- the items of chains

-- one chain more
chain_more : (a k : ℕ) (cs : List Chain) → k < length cs → vertex_items a (take (suc k) cs) ≡ vertex_items a (take k cs)
    ++ map (item_of (OfChain (a + k))) (chain_places (chain_at cs k))
chain_more a k [] below = absurd (omega arith)
chain_more a zero (c ∷ cs) below =
    let same : a ≡ a + 0 = omega arith in
    append-nil (map (item_of (OfChain a)) (chain_places c)) ∙ ap (λ n. map (item_of (OfChain n)) (chain_places c)) same
chain_more a (suc k) (c ∷ cs) below =
    let here = map (item_of (OfChain a)) (chain_places c) in
    let before = vertex_items (suc a) (take k cs) in
    let same : suc a + k ≡ a + suc k = omega arith in
    ap (λ zs. here ++ zs) (chain_more (suc a) k cs (omega arith))
    ∙ sym (append_assoc here before (map (item_of (OfChain (suc a + k))) (chain_places (chain_at cs k))))
    ∙ ap (λ n. (here ++ before) ++ map (item_of (OfChain n)) (chain_places (chain_at cs k))) same

-- the items of a chain stand before those of each later one
chains_apart : (a k l : ℕ) (cs : List Chain) → k < l → l ≤ length cs
    → length (vertex_items a (take k cs)) + size (chain_at cs k) ≤ length (vertex_items a (take l cs))
chains_apart a k zero cs before within = absurd (omega arith)
chains_apart a k (suc l) [] before within = absurd (omega arith)
chains_apart a zero (suc l) (c ∷ cs) before within =
    let here = map (item_of (OfChain a)) (chain_places c) in
    omega (arith, length-append here (vertex_items (suc a) (take l cs)), length-map (chain_places c) (item_of (OfChain a)))
chains_apart a (suc k) (suc l) (c ∷ cs) before within =
    let here = map (item_of (OfChain a)) (chain_places c) in
    let rest = chains_apart (suc a) k l cs (omega arith) (omega arith) in
    omega (arith, rest, length-append here (vertex_items (suc a) (take k cs)), length-append here (vertex_items (suc a) (take l cs)))

-- the item of a vertex
item_at : (a k i : ℕ) (cs : List Chain) (d : Item) → k < length cs → i < size (chain_at cs k)
    → get_or (vertex_items a cs) (length (vertex_items a (take k cs)) + i) d
    ≡ item_of (OfChain (a + k)) (get_or (chain_places (chain_at cs k)) i nowhere)
item_at a k i [] d below inside = absurd (omega arith)
item_at a zero i (c ∷ cs) d below inside =
    let here = map (item_of (OfChain a)) (chain_places c) in
    let place : 0 + i ≡ i = omega arith in
    let same : a ≡ a + 0 = omega arith in
    ap (λ n. get_or (here ++ vertex_items (suc a) cs) n d) place
    ∙ get_or_append_left here (vertex_items (suc a) cs) d i (omega (arith, inside, length-map (chain_places c) (item_of (OfChain a))))
    ∙ get_or-map (item_of (OfChain a)) (chain_places c) i nowhere d inside
    ∙ ap (λ n. item_of (OfChain n) (get_or (chain_places c) i nowhere)) same
item_at a (suc k) i (c ∷ cs) d below inside =
    let here = map (item_of (OfChain a)) (chain_places c) in
    let before = vertex_items (suc a) (take k cs) in
    let place : length (here ++ before) + i ≡ length here + (length before + i) = omega (arith, length-append here before) in
    let same : suc a + k ≡ a + suc k = omega arith in
    ap (λ n. get_or (here ++ vertex_items (suc a) cs) n d) place
    ∙ get_or-append-add here (vertex_items (suc a) cs) (length before + i) d
    ∙ item_at (suc a) k i cs d (omega arith) inside
    ∙ ap (λ n. item_of (OfChain n) (get_or (chain_places (chain_at cs k)) i nowhere)) same

-- the n-th item is that of a vertex of a chain
pub record StandsIn (a : ℕ) (cs : List Chain) (n : ℕ) : Type 0 where
  pub chain : ℕ
  pub vertex : ℕ
  pub below : chain < length cs
  pub inside : vertex < size (chain_at cs chain)
  pub place : n ≡ length (vertex_items a (take chain cs)) + vertex

stands_in : (a : ℕ) (cs : List Chain) (n : ℕ) → n < length (vertex_items a cs) → StandsIn a cs n
stands_in a [] n within = absurd (omega arith)
stands_in a (c ∷ cs) n within =
    let here = map (item_of (OfChain a)) (chain_places c) in
    let count = length-map (chain_places c) (item_of (OfChain a)) in
    elim (cases_lt n (size c)) [
      | inl first ↦ record { chain = 0; vertex = n; below = omega arith; inside = first; place = omega arith }
      | inr past ↦
          let rest = stands_in (suc a) cs (n - size c) (omega (arith, count, length-append here (vertex_items (suc a) cs))) in
          record {
            chain = suc rest.chain;
            vertex = rest.vertex;
            below = omega (arith, rest.below);
            inside = rest.inside;
            place = omega (arith, count, past, rest.place, length-append here (vertex_items (suc a) (take rest.chain cs)));
          }
    ]

-- ---- the items of a map

town_count : (points : List Place) → length (map (item_of Town) points) ≡ length points
town_count points = length-map points (item_of Town)

-- how many items stand before those of a chain
before_count : (points : List Place) (cs : List Chain) (k : ℕ) → length (items_before points cs k)
    ≡ length points + length (vertex_items 0 (take k cs))
before_count points cs k =
    omega (arith, length-append (map (item_of Town) points) (vertex_items 0 (take k cs)), town_count points)

pub after_towns : (points : List Place) (cs : List Chain) (k : ℕ) → length points ≤ length (items_before points cs k)
after_towns points cs k = omega (arith, before_count points cs k)

pub apart : (points : List Place) (cs : List Chain) (k l : ℕ) → k < l → l ≤ length cs
    → length (items_before points cs k) + size (chain_at cs k) ≤ length (items_before points cs l)
apart points cs k l before within =
    omega (arith, before_count points cs k, before_count points cs l, chains_apart 0 k l cs before within)

pub chain_items_more : (points : List Place) (cs : List Chain) (k : ℕ) → k < length cs
    → items_before points cs k ++ map (item_of (OfChain k)) (chain_places (chain_at cs k)) ≡ items_before points cs (k + 1)
chain_items_more points cs k below =
    let towns = map (item_of Town) points in
    let own = chain_places (chain_at cs k) in
    let same : k ≡ 0 + k = omega arith in
    let next : suc k ≡ k + 1 = omega arith in
    append_assoc towns (vertex_items 0 (take k cs)) (map (item_of (OfChain k)) own)
    ∙ ap (λ n. towns ++ (vertex_items 0 (take k cs) ++ map (item_of (OfChain n)) own)) same
    ∙ ap (λ zs. towns ++ zs) (sym (chain_more 0 k cs below))
    ∙ ap (λ n. towns ++ vertex_items 0 (take n cs)) next

pub town_at : (points : List Place) (cs : List Chain) (n : ℕ) (d : Item) → n < length points
    → get_or (items_of points cs) n d ≡ item_of Town (get_or points n nowhere)
town_at points cs n d below =
    get_or_append_left (map (item_of Town) points) (vertex_items 0 cs) d n (omega (arith, town_count points))
    ∙ get_or-map (item_of Town) points n nowhere d below

pub vertex_at_place : (points : List Place) (cs : List Chain) (k i : ℕ) (d : Item) → k < length cs → i < size (chain_at cs k)
    → get_or (items_of points cs) (length (items_before points cs k) + i) d
    ≡ item_of (OfChain k) (get_or (chain_places (chain_at cs k)) i nowhere)
vertex_at_place points cs k i d below inside =
    let towns = map (item_of Town) points in
    let before = length (vertex_items 0 (take k cs)) in
    let place : length (items_before points cs k) + i ≡ length towns + (before + i) =
    omega (arith, before_count points cs k, town_count points) in
    let same : 0 + k ≡ k = omega arith in
    ap (λ n. get_or (towns ++ vertex_items 0 cs) n d) place
    ∙ get_or-append-add towns (vertex_items 0 cs) (before + i) d
    ∙ item_at 0 k i cs d below inside
    ∙ ap (λ n. item_of (OfChain n) (get_or (chain_places (chain_at cs k)) i nowhere)) same

-- what stands at a place behind the feature points
pub record StandsAt (points : List Place) (cs : List Chain) (n : ℕ) : Type 0 where
  pub chain : ℕ
  pub vertex : ℕ
  pub below : chain < length cs
  pub inside : vertex < size (chain_at cs chain)
  pub place : n ≡ length (items_before points cs chain) + vertex

pub stands_at : (points : List Place) (cs : List Chain) (n : ℕ) → length points ≤ n → n < length (items_of points cs) → StandsAt points cs n
stands_at points cs n past within =
    let at = stands_in 0 cs (n - length points)
    (omega (arith, past, within, length-append (map (item_of Town) points) (vertex_items 0 cs), town_count points)) in
    record {
      chain = at.chain;
      vertex = at.vertex;
      below = at.below;
      inside = at.inside;
      place = omega (arith, past, at.place, before_count points cs at.chain);
    }

-- ---- one item more

pub point_more : (before now : List Item) (points : List Place) (k : ℕ) (p : Place) → k < length points → get_or points k p ≡ p
    → now ≡ before ++ map (item_of Town) (take k points) → now ++ item_of Town p ∷ [] ≡ before ++ map (item_of Town) (take (k + 1) points)
point_more before now points k p below is same =
    let so_far = map (item_of Town) (take k points) in
    ap (λ zs. zs ++ item_of Town p ∷ []) same
    ∙ append_assoc before so_far (item_of Town p ∷ [])
    ∙ ap (λ q. before ++ (so_far ++ item_of Town q ∷ [])) (sym is)
    ∙ ap (λ zs. before ++ zs) (sym (map_more (item_of Town) points k p below))

pub first_more : (firsts now : List ℕ) (first k : ℕ) (f : ℕ → ℕ) → now ≡ firsts ++ first ∷ [] → length firsts ≡ k → first ≡ f k
    → ((j : ℕ) → j < k → get_or firsts j 0 ≡ f j) → (j : ℕ) → j < k + 1 → get_or now j 0 ≡ f j
first_more firsts now first k f is count here so_far j below =
    elim (cases_lt j k) [
      | inl before ↦ rw is (get_or_append_left firsts (first ∷ []) 0 j (omega (arith, before, count)) ∙ so_far j before)
      | inr last ↦ let same : k ≡ j = omega arith in rw is (get_or_push firsts first 0 j (count ∙ same) ∙ here ∙ ap f same)
    ]
