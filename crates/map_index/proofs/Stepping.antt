-- What a thinning of a chain leaves of the index of a map at work.
use Rattle.std.proofs.Common.{◌≡◌, ◌≢◌, ◌↔◌, ◌∙◌, ℕ, ◌+◌, ◌-◌, ◌<◌, Bool, IsTrue, false, List, [], ◌∷◌, length, get_or, drop, All, Contains}
use Rattle.std.proofs.Common.{ap, sym, subst, arith, inl, inr, get_or-set_other, get_or-set_same}
use Rattle.std.proofs.lemmas.Bool.{cases_eq, cases_lt}
use Rattle.std.proofs.lemmas.List.{length-map, length-set, get_or-map, get_or_default}
use Rattle.std.proofs.lemmas.List.Elements.{All-set}
use Rattle.arc_map.specs.Chains.{Chain, no_chain, chain_at}
use Rattle.arc_map.specs.Paths.{vertices_of, vertex_at, vertices_at}
use Rattle.arc_map.specs.Vertices.{Vertex}
use Rattle.arc_map.specs.Work.{Work, AreKeptIn, thinned_work}
use Rattle.arc_map.proofs.Rising.{rising_order}
use Rattle.map_index.specs.MapIndex.{Placed, no_ref, chain_read, IsAsRead, IsVertexRead, AreNumbered, AreLiveIn, AreOfRead, IsIndexAt}
use Rattle.map_index.specs.Drops.{AreDropped}
use Rattle.map_index.proofs.Listed.{size}
use Rattle.map_index.proofs.AsRead.{vertices_differ, vertex_count, has_vertex}
use Rattle.map_index.proofs.Indexing.{index_of_parts}

-- ---- the vertices that are kept

kept_vertices : (c : Chain) (kept : List ℕ) → AreKeptIn c kept → c.first ∷ vertices_at c (drop 1 kept) ≡ vertices_at c kept
kept_vertices c [] keep = absurd (omega (arith, keep.some))
kept_vertices c (n ∷ ns) keep = ap (λ at. vertex_at c at ∷ vertices_at c ns) (sym keep.first)

kept_within : (c : Chain) (kept : List ℕ) (j : ℕ) → AreKeptIn c kept → j < length kept → get_or kept j 0 < length (vertices_of c)
kept_within c kept j keep below =
    let order = rising_order kept keep.rising j (length kept - 1) (omega arith) (omega (arith, keep.some)) in
    omega (arith, order, keep.last)

-- a kept place gives a vertex that is left
left_at : (c : Chain) (kept : List ℕ) (i : ℕ) → Contains kept i → Contains (vertices_at c kept) (vertex_at c i)
left_at c kept i has = (
  has.0,
  omega (arith, has.1, length-map kept (λ at. vertex_at c at)),
  get_or-map (λ at. vertex_at c at) kept has.0 i (vertex_at c i) has.1 ∙ ap (λ at. vertex_at c at) has.2,
)

-- a vertex that is left, and the place that it was kept at
record IsLeftAt (c : Chain) (kept : List ℕ) (u : Vertex) : Type 0 where
  place : ℕ
  kept_here : Contains kept place
  within : place < length (vertices_of c)
  is : u ≡ vertex_at c place

left_from : (c : Chain) (kept : List ℕ) (u : Vertex) → AreKeptIn c kept → Contains (vertices_at c kept) u → IsLeftAt c kept u
left_from c kept u keep has =
    let below : has.0 < length kept = omega (arith, has.1, length-map kept (λ at. vertex_at c at)) in
    record {
      place = get_or kept has.0 0;
      kept_here = (has.0, below, get_or_default kept has.0 (get_or kept has.0 0) 0 below);
      within = kept_within c kept has.0 keep below;
      is = sym (sym (get_or-map (λ at. vertex_at c at) kept has.0 0 u below) ∙ has.2);
    }

-- ---- the chains afterwards

-- a chain that is as read is thinned
pub record IsStep (w : Work) (k : ℕ) (kept : List ℕ) : Type 0 where
  pub below : k < length w.chains
  pub read : IsAsRead w k
  pub keep : AreKeptIn (chain_at w.chains k) kept

abbrev thinned_chain : Work → ℕ → List ℕ → Chain
thinned_chain w k kept = record {
  frame = (chain_at w.chains k).frame;
  first = (chain_at w.chains k).first;
  rest =
      vertices_at (chain_at w.chains k) (drop 1 kept);
}

vertices_after : (w : Work) (k : ℕ) (kept : List ℕ) → IsStep w k kept
    → vertices_of (chain_at (thinned_work w k kept).chains k) ≡ vertices_at (chain_read w.read w.refs k) kept
vertices_after w k kept step =
    ap vertices_of (get_or-set_same w.chains k (thinned_chain w k kept) no_chain step.below)
    ∙ kept_vertices (chain_at w.chains k) kept step.keep
    ∙ ap (λ (c : Chain). vertices_at c kept) step.read

chain_stays : (w : Work) (k l : ℕ) (kept : List ℕ) → l ≢ k → chain_at (thinned_work w k kept).chains l ≡ chain_at w.chains l
chain_stays w k l kept other = get_or-set_other w.chains k l (thinned_chain w k kept) no_chain other

keep_read : (w : Work) (k : ℕ) (kept : List ℕ) → IsStep w k kept → AreKeptIn (chain_read w.read w.refs k) kept
keep_read w k kept step = subst (λ (c : Chain). AreKeptIn c kept) step.read step.keep

-- its first and its last vertex are two, so an edge is left of it
edge_after : (c : Chain) (kept : List ℕ) → 0 < length c.rest → AreKeptIn c kept → 0 < length (vertices_at c (drop 1 kept))
edge_after c [] edge keep = absurd (omega (arith, keep.some))
edge_after c (n ∷ []) edge keep = absurd (omega (arith, edge, keep.first, keep.last))
edge_after c (n ∷ m ∷ ns) edge keep = omega arith

frame_after : (w : Work) (k : ℕ) (kept : List ℕ) → IsStep w k kept
    → (chain_at (thinned_work w k kept).chains k).frame ≡ (chain_at w.chains k).frame
frame_after w k kept step = ap (λ (c : Chain). c.frame) (get_or-set_same w.chains k (thinned_chain w k kept) no_chain step.below)

edges_after : (w : Work) (k : ℕ) (kept : List ℕ) → All (λ chain. 0 < length chain.rest) w.chains → IsStep w k kept
    → All (λ chain. 0 < length chain.rest) (thinned_work w k kept).chains
edges_after w k kept edges step =
    All-set (λ (c : Chain). 0 < length c.rest) w.chains k (thinned_chain w k kept)
    (edge_after (chain_at w.chains k) kept (edges k no_chain step.below) step.keep) edges

of_read_after : (w : Work) (k : ℕ) (kept : List ℕ) → AreOfRead w → IsStep w k kept → AreOfRead (thinned_work w k kept)
of_read_after w k kept chains step =
    let read = chain_read w.read w.refs k in
    let own : (u : Vertex) → Contains (vertices_of (chain_at (thinned_work w k kept).chains k)) u
    → (i : ℕ) × (i < length (vertices_of read)) × (u ≡ vertex_at read i) =
    λ u has.
    let left = left_from read kept u (keep_read w k kept step) (subst (λ (us : List Vertex). Contains us u) (vertices_after w k kept step)
    has) in
    (left.place, left.within, left.is) in
    record {
      count = length-set w.chains k (thinned_chain w k kept) ∙ chains.count;
      frames = λ l below.
          let under : l < length w.chains = omega (arith, below, length-set w.chains k (thinned_chain w k kept)) in
          elim (cases_eq l k) [
            | inl same ↦
                let own = frame_after w k kept step ∙ chains.frames k step.below in
                subst (λ a. (chain_at (thinned_work w k kept).chains a).frame ≡ (get_or w.refs a no_ref).frame) (sym same) own
            | inr other ↦ ap (λ (c : Chain). c.frame) (chain_stays w k l kept other) ∙ chains.frames l under
          ];
      edges = edges_after w k kept chains.edges step;
      left = λ l u below has. elim (cases_eq l k) [
        | inl same ↦
            subst (λ a. Contains (vertices_of (chain_at (thinned_work w k kept).chains a)) u
            → (i : ℕ) × (i < length (vertices_of (chain_read w.read w.refs a))) × (u ≡ vertex_at (chain_read w.read w.refs a) i))
            (sym same) (own u) has
        | inr other ↦ chains.left l u below (subst (λ (c : Chain). Contains (vertices_of c) u) (chain_stays w k l kept other) has)
      ];
    }

-- ---- the items afterwards

-- the index with these marks of life
abbrev pub with_live : Placed → List Bool → Placed
with_live v live = record { items = record { numbered = v.items.numbered; live = live }; firsts = v.firsts }

numbers_after : (w : Work) (v : Placed) (live : List Bool) → AreNumbered w.read w.refs v → length live ≡ length v.items.live
    → AreNumbered w.read w.refs (with_live v live)
numbers_after w v live numbers count = record {
  only = numbers.only;
  all = numbers.all;
  past_towns = numbers.past_towns;
  apart = numbers.apart;
  within = λ k below. omega (arith, numbers.within k below, count);
  few = omega (arith, numbers.few, count);
  firsts_count = numbers.firsts_count;
}

-- the number of an item of another chain is not among those of this one
other_number : (w : Work) (v : Placed) (k l i at : ℕ) → AreNumbered w.read w.refs v → l ≢ k → k < length w.refs
    → IsVertexRead w.read w.refs l i → at < length (vertices_of (chain_read w.read w.refs k))
    → get_or v.firsts l 0 + i ≢ get_or v.firsts k 0 + at
other_number w v k l i at numbers other below read inside same =
    elim (cases_lt l k) [
      | inl before ↦ let room = numbers.apart l k before below in let within = read.vertex in omega arith
      | inr not_before ↦ let room = numbers.apart k l (omega arith) read.chain in omega arith
    ]

alike : (a b : Bool) (P : Type 0) → a ≡ b → (IsTrue b ↔ P) → (IsTrue a ↔ P)
alike a b P same known = subst (λ c. IsTrue c ↔ P) (sym same) known

live_after : (w : Work) (k : ℕ) (kept : List ℕ) (v : Placed) (live : List Bool) → IsIndexAt w v → IsStep w k kept
    → AreDropped kept (get_or v.firsts k 0) (length (vertices_of (chain_read w.read w.refs k))) v.items.live live
    → AreLiveIn (thinned_work w k kept) (with_live v live)
live_after w k kept v live index step drops =
    let read = chain_read w.read w.refs k in
    let first = get_or v.firsts k 0 in
    let inside : k < length w.refs = omega (arith, step.below, index.chains.count) in
    let own : (i : ℕ) → IsVertexRead w.read w.refs k i → IsTrue (get_or live (first + i) false)
    ↔ Contains (vertices_of (chain_at (thinned_work w k kept).chains k)) (vertex_at read i) =
    λ i is. (
      λ alive. subst (λ (us : List Vertex). Contains us (vertex_at read i)) (sym (vertices_after w k kept step))
          (left_at read kept i (drops.only i is.vertex alive)),
      λ has.
          let left = left_from read kept (vertex_at read i) (keep_read w k kept step)
          (subst (λ (us : List Vertex). Contains us (vertex_at read i)) (vertices_after w k kept step) has) in
          let here : left.place ≡ i = sym (vertices_differ w.read (get_or w.refs k no_ref) i left.place is.vertex left.within left.is) in
          let stays = drops.others (first + i) (λ at below same. let there : left.place ≡ at = omega arith in
          subst (λ n. Contains kept n) there left.kept_here) in
          let was = (index.live.vertices k i is).1 (subst (λ (c : Chain). Contains (vertices_of c) (vertex_at read i)) (sym step.read)
          (has_vertex read i is.vertex)) in
          subst (λ b. IsTrue b) (sym stays) was,
    ) in
    record {
      towns = λ n below.
          let stays = drops.others n (λ at under same. let past = index.numbers.past_towns k inside in absurd (omega arith)) in
          subst (λ b. IsTrue b) (sym stays) (index.live.towns n below);
      vertices = λ l i is. elim (cases_eq l k) [
        | inl same ↦
            subst (λ a. IsVertexRead w.read w.refs a i → IsTrue (get_or live (get_or v.firsts a 0 + i) false)
            ↔ Contains (vertices_of (chain_at (thinned_work w k kept).chains a)) (vertex_at (chain_read w.read w.refs a) i)) (sym same)
            (own i) is
        | inr other ↦
            let stays = drops.others (get_or v.firsts l 0 + i) (λ at below same.
            absurd (other_number w v k l i at index.numbers other inside is below same)) in
            let chain = chain_stays w k l kept other in
            alike (get_or live (get_or v.firsts l 0 + i) false) (get_or v.items.live (get_or v.firsts l 0 + i) false)
            (Contains (vertices_of (chain_at (thinned_work w k kept).chains l)) (vertex_at (chain_read w.read w.refs l) i)) stays
            (subst (λ (c : Chain). IsTrue (get_or v.items.live (get_or v.firsts l 0 + i) false)
            ↔ Contains (vertices_of c) (vertex_at (chain_read w.read w.refs l) i)) (sym chain) (index.live.vertices l i is))
      ];
    }

pub index_after : (w : Work) (k : ℕ) (kept : List ℕ) (v : Placed) (live : List Bool) → IsIndexAt w v → IsStep w k kept
    → length live ≡ length v.items.live → AreDropped kept (get_or v.firsts k 0) (size (chain_at w.chains k)) v.items.live live
    → IsIndexAt (thinned_work w k kept) (with_live v live)
index_after w k kept v live index step count drops =
    let size_is : size (chain_at w.chains k) ≡ length (vertices_of (chain_read w.read w.refs k)) = ap size step.read
    ∙ sym (vertex_count (chain_read w.read w.refs k)) in
    let of_read = subst (λ n. AreDropped kept (get_or v.firsts k 0) n v.items.live live) size_is drops in
    index_of_parts (thinned_work w k kept) (with_live v live) (numbers_after w v live index.numbers count)
    (live_after w k kept v live index step of_read) (of_read_after w k kept index.chains step)
