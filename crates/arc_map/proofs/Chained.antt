-- The chains in memory are chains of one map: each runs strictly one way within one arc, and they have no vertex in
-- common but their ends.
use Rattle.std.proofs.Common.{◌≡◌, ◌≢◌, ◌∙◌, ℕ, zero, suc, ◌+◌, ◌-◌, ◌<◌, ◌≤◌, ◌==◌, ◌||◌, Bool, false, List, [], ◌∷◌, All, map, length}
use Rattle.std.proofs.Common.{get_or, slice_index, drop, refl, inl, inr, sym, ap, subst, ne_eqb, arith}
use Rattle.std.specs.List.{AllByRecursion}
use Rattle.std.proofs.lemmas.Bool.{cases_lt, cases_eq}
use Rattle.std.proofs.lemmas.List.{get_or-map, get_or-drop, get_or_default, get_or_past, length-map}
use Rattle.std.proofs.lemmas.List.Elements.{recursion_from_All}
use Rattle.std.proofs.lemmas.List.Kept.{AllPairs-from_increasing}
use Rattle.grid_exact.specs.Walks.{EachEdge}
use Rattle.grid_exact.specs.Runs.{IsEdgeOf, IsMonotone}
use Rattle.grid_exact.specs.Runs.IsMonotone.{Increasing}
use Rattle.arc_map.specs.Map.{Map}
use Rattle.arc_map.specs.Vertices.{Vertex, places}
use Rattle.arc_map.specs.Clear.{IsWithinChain, EachButLast}
use Rattle.arc_map.specs.Chains.{Chain, no_chain, chain_at, chain_places, IsOtherEdge, AreChains}
use Rattle.arc_map.specs.Arranged.{arc_at, is_arc_end}
use Rattle.arc_map.specs.Work.{vertex_in}
use Rattle.arc_map.specs.Live.{chains_in, live_chain, work_in, IsLive, AreInOrder, AreLive, SpansChain, LiveChain, numbers_of}
use Rattle.arc_map.specs.declared.refs.ChainRef.{ChainRef}
use Rattle.arc_map.specs.declared.work.WorkMap.TheInside.{Inside}
use Rattle.arc_map.proofs.Parts.{places_of}
use Rattle.arc_map.proofs.Rising.{rising_order}
use Rattle.arc_map.proofs.Thinning.{length_rest}

-- ---- any list of chains

-- a chain past the list has no edge
pub chain_is_known : (chains : List Chain) (l : ℕ) (c d : Vertex)
    → IsEdgeOf (chain_at chains l).first (chain_at chains l).rest c d → l < length chains
chain_is_known chains l c d edge =
    elim (cases_lt l (length chains)) [
      | inl less ↦ less
      | inr past ↦ absurd (subst (λ (x : Chain). IsEdgeOf x.first x.rest c d) (get_or_past chains l no_chain past) edge)
    ]

pub length-chain_places : (c : Chain) → length (chain_places c) ≡ length c.rest + 1
length-chain_places c = omega (arith, length-map c.rest (λ v. v.place))

-- ---- one chain

arcs_alike : (m : Map) (arc n : ℕ) (ns : List ℕ) → EachEdge (λ a b. a.arc ≡ arc) (vertex_in m arc n) (map (vertex_in m arc) ns)
arcs_alike m arc n [] = tt
arcs_alike m arc n (k ∷ ks) = (refl, arcs_alike m arc k ks)

-- v is of the arc, at one of its positions from low to high
record IsFrom (arc low high : ℕ) (v : Vertex) : Type 0 where
  arc_is : v.arc ≡ arc
  from_low : low ≤ v.at
  to_high : v.at ≤ high

edge_from : (m : Map) (arc low high n : ℕ) (ns : List ℕ) (c d : Vertex) → AllByRecursion (λ k. (low ≤ k) × (k ≤ high)) (n ∷ ns)
    → IsEdgeOf (vertex_in m arc n) (map (vertex_in m arc) ns) c d → IsFrom arc low high c × IsFrom arc low high d
edge_from m arc low high n [] c d all edge = absurd edge
edge_from m arc low high n (k ∷ ks) c d all (inl is) = (
  subst (IsFrom arc low high) is.0 (record { arc_is = refl; from_low = all.0.0; to_high = all.0.1 }),
  subst (IsFrom arc low high) is.1 (record { arc_is = refl; from_low = all.1.0.0; to_high = all.1.0.1 }),
)
edge_from m arc low high n (k ∷ ks) c d all (inr later) = edge_from m arc low high k ks c d all.1 later

numbers_between : (r : ChainRef) (numbers : List ℕ) → SpansChain r numbers → All (λ k. (r.«from» ≤ k) × (k ≤ r.to)) numbers
numbers_between r numbers spans k d below =
    let several = spans.several in
    let low = rising_order numbers spans.rising 0 k (omega arith) below in
    let high = rising_order numbers spans.rising k (length numbers - 1) (omega arith) (omega arith) in
    let same = get_or_default numbers k d 0 below in
    (omega (arith, low, same, spans.first), omega (arith, high, same, spans.last))

first_and_rest : (numbers : List ℕ) (first : ℕ) → 2 ≤ length numbers → slice_index numbers 0 ≡ first → numbers ≡ first ∷ drop 1 numbers
first_and_rest [] first several is = absurd (omega arith)
first_and_rest (n ∷ ns) first several is = ap (λ k. k ∷ ns) is

edge_of_live : (m : Map) (x : LiveChain) (c d : Vertex) → IsLive m x → IsEdgeOf (live_chain m x).first (live_chain m x).rest c d
    → IsFrom x.place.arc x.place.«from» x.place.to c × IsFrom x.place.arc x.place.«from» x.place.to d
edge_of_live m x c d live edge =
    let spans = live.spans in
    let within = recursion_from_All (λ k. (x.place.«from» ≤ k) × (k ≤ x.place.to)) (numbers_of m x)
    (numbers_between x.place (numbers_of m x) spans) in
    edge_from m x.place.arc x.place.«from» x.place.to x.place.«from» (drop 1 (numbers_of m x)) c d
    (subst (AllByRecursion (λ k. (x.place.«from» ≤ k) × (k ≤ x.place.to)))
    (first_and_rest (numbers_of m x) x.place.«from» spans.several spans.first) within) edge

but_last : (P : Vertex → Type 0) (f : ℕ → Vertex) (ns : List ℕ) → ((j : ℕ) → suc j < length ns → P (f (get_or ns j 0)))
    → EachButLast P (map f ns)
but_last P f [] each = tt
but_last P f (n ∷ []) each = tt
but_last P f (n ∷ k ∷ ks) each = (each 0 (omega arith), but_last P f (k ∷ ks) (λ j below. each (suc j) (omega arith)))

-- what holds of each vertex strictly between the ends of the chain
inner : (m : Map) (x : LiveChain) (P : Vertex → Type 0) → IsLive m x
    → ((n : ℕ) → x.place.«from» < n → n < x.place.to → P (vertex_in m x.place.arc n)) → EachButLast P (live_chain m x).rest
inner m x P live each =
    let numbers = (numbers_of m x) in
    let spans = live.spans in
    but_last P (vertex_in m x.place.arc) (drop 1 numbers) (λ j below.
    let count = length_rest numbers in
    let place : get_or (drop 1 numbers) j 0 ≡ get_or numbers (1 + j) 0 = get_or-drop 1 numbers j 0 in
    let behind = AllPairs-from_increasing numbers spans.rising 0 (1 + j) 0 (omega arith) (omega arith) in
    let before = AllPairs-from_increasing numbers spans.rising (1 + j) (length numbers - 1) 0 (omega arith) (omega arith) in
    each (get_or (drop 1 numbers) j 0) (omega (arith, place, behind, spans.first)) (omega (arith, place, before, spans.last)))

no_arc_end : (m : Map) (arc n : ℕ) → 0 < n → n + 1 < length (arc_at m arc) → is_arc_end m arc n ≡ false
no_arc_end m arc n behind before =
    let start : (n == 0) ≡ false = ne_eqb n 0 (λ e. omega arith) in
    let last : (n + 1 == length (arc_at m arc)) ≡ false = ne_eqb (n + 1) (length (arc_at m arc)) (λ e. omega arith) in
    ap (λ (b : Bool). b || (n + 1 == length (arc_at m arc))) start ∙ last

-- ---- two chains

some_item : {X : Type 0} (xs : List X) (k : ℕ) → k < length xs → (x : X) × ((d : X) → get_or xs k d ≡ x)
some_item [] k below = absurd (omega arith)
some_item (x ∷ xs) zero below = (x, λ d. refl)
some_item (x ∷ xs) (suc k) below = some_item xs k (omega arith)

-- the chain number k, where there is one
live_at : (m : Map) (cs : List LiveChain) (k : ℕ) (x : LiveChain) → k < length cs → ((d : LiveChain) → get_or cs k d ≡ x)
    → chain_at (map (live_chain m) cs) k ≡ live_chain m x
live_at m cs k x below is = get_or-map (live_chain m) cs k x no_chain below ∙ ap (live_chain m) (is x)

place_is : (cs : List LiveChain) (k : ℕ) (x : LiveChain) (d : ChainRef) → k < length cs → ((e : LiveChain) → get_or cs k e ≡ x)
    → get_or (map (λ c. c.place) cs) k d ≡ x.place
place_is cs k x d below is = get_or-map (λ (c : LiveChain). c.place) cs k x d below ∙ ap (λ (c : LiveChain). c.place) (is x)

-- no number of a vertex of one chain is strictly within another of its arc
apart : (cs : List LiveChain) (k l : ℕ) (x y : LiveChain) (n at : ℕ) → AreInOrder (map (λ c. c.place) cs) → k < length cs → l < length cs
    → l ≢ k → ((d : LiveChain) → get_or cs k d ≡ x) → ((d : LiveChain) → get_or cs l d ≡ y) → x.place.arc ≡ y.place.arc → x.place.«from» < n
    → n < x.place.to → y.place.«from» ≤ at → at ≤ y.place.to → n ≢ at
apart cs k l x y n at order here there other k_is l_is arcs behind before low high same =
    let count = length-map cs (λ (c : LiveChain). c.place) in
    let first = place_is cs k x x.place here k_is in
    let second = place_is cs l y x.place there l_is in
    elim (cases_lt k l) [
      | inl lt ↦
          let ends = order k l x.place lt (omega arith) in
          let ends : x.place.arc ≡ y.place.arc → x.place.to ≤ y.place.«from» =
          subst (λ (r : ChainRef). r.arc ≡ y.place.arc → r.to ≤ y.place.«from») first
          (subst (λ (s : ChainRef). (get_or (map (λ (c : LiveChain). c.place) cs) k x.place).arc ≡ s.arc
          → (get_or (map (λ (c : LiveChain). c.place) cs) k x.place).to ≤ s.«from») second ends) in
          let gap = ends arcs in
          omega arith
      | inr ge ↦
          let lt : l < k = elim (cases_eq l k) [ inl e ↦ absurd (other e) | inr ne ↦ omega arith ] in
          let ends = order l k x.place lt (omega arith) in
          let ends : y.place.arc ≡ x.place.arc → y.place.to ≤ x.place.«from» =
          subst (λ (r : ChainRef). r.arc ≡ x.place.arc → r.to ≤ x.place.«from») second
          (subst (λ (s : ChainRef). (get_or (map (λ (c : LiveChain). c.place) cs) l x.place).arc ≡ s.arc
          → (get_or (map (λ (c : LiveChain). c.place) cs) l x.place).to ≤ s.«from») first ends) in
          let gap = ends (sym arcs) in
          omega arith
    ]

-- the ends of an edge of another chain are no vertices strictly within this one
other_ends : (m : Map) (cs : List LiveChain) (k : ℕ) (x : LiveChain) (n : ℕ) (c d : Vertex) → All (IsLive m) cs
    → AreInOrder (map (λ c. c.place) cs) → k < length cs → ((e : LiveChain) → get_or cs k e ≡ x) → x.place.«from» < n → n < x.place.to
    → IsOtherEdge (map (live_chain m) cs) k c d → (vertex_in m x.place.arc n ≢ c) × (vertex_in m x.place.arc n ≢ d)
other_ends m cs k x n c d live order here is behind before o =
    elim (cases_lt o.chain (length cs)) [
      | inl there ↦
          let other = some_item cs o.chain there in
          let y = other.0 in
          let lives : IsLive m y = subst (IsLive m) (other.1 x) (live o.chain x there) in
          let edge = subst (λ (q : Chain). IsEdgeOf q.first q.rest c d) (live_at m cs o.chain y there other.1) o.edge in
          let ends = edge_of_live m y c d lives edge in (
            λ same. no_end y other.1 there c ends.0 same,
            λ same. no_end y other.1 there d ends.1 same,
          )
      | inr past ↦
          let none : chain_at (map (live_chain m) cs) o.chain ≡ no_chain =
          get_or_past (map (live_chain m) cs) o.chain no_chain (omega (arith, length-map cs (live_chain m))) in
          absurd (subst (λ (q : Chain). IsEdgeOf q.first q.rest c d) none o.edge)
    ]
  where
    no_end : (y : LiveChain) → ((e : LiveChain) → get_or cs o.chain e ≡ y) → o.chain < length cs → (v : Vertex)
        → IsFrom y.place.arc y.place.«from» y.place.to v → vertex_in m x.place.arc n ≢ v
    no_end y l_is there v ends same =
        apart cs k o.chain x y n v.at order here there o.other is l_is (ap (λ (u : Vertex). u.arc) same ∙ ends.arc_is) behind before
        ends.from_low ends.to_high (ap (λ (u : Vertex). u.at) same)

within_live : (m : Map) (cs : List LiveChain) (k : ℕ) (x : LiveChain) → All (IsLive m) cs → AreInOrder (map (λ c. c.place) cs)
    → k < length cs → ((e : LiveChain) → get_or cs k e ≡ x) → IsLive m x
    → EachButLast (IsWithinChain (IsOtherEdge (map (live_chain m) cs) k)) (live_chain m x).rest
within_live m cs k x live order here is lives =
    inner m x (IsWithinChain (IsOtherEdge (map (live_chain m) cs) k)) lives (λ n behind before.
    record {
      no_end = let within = lives.lies.within in no_arc_end m x.place.arc n (omega arith) (omega arith);
      no_start_of = λ c d o. (other_ends m cs k x n c d live order here is behind before o).0;
      no_end_of = λ c d o. (other_ends m cs k x n c d live order here is behind before o).1;
    })

-- ---- all chains

-- what holds of each chain in memory and of the empty one holds of the chain with any number
any_chain : (m : Map) (cs : List LiveChain) (P : ℕ → Chain → Type 0)
    → ((k : ℕ) (x : LiveChain) → k < length cs → ((d : LiveChain) → get_or cs k d ≡ x) → P k (live_chain m x)) → ((k : ℕ) → P k no_chain)
    → (k : ℕ) → P k (chain_at (map (live_chain m) cs) k)
any_chain m cs P each none k =
    elim (cases_lt k (length cs)) [
      | inl here ↦
          let item = some_item cs k here in
          subst (P k) (sym (live_at m cs k item.0 here item.1)) (each k item.0 here item.1)
      | inr past ↦
          let empty : chain_at (map (live_chain m) cs) k ≡ no_chain =
          get_or_past (map (live_chain m) cs) k no_chain (omega (arith, length-map cs (live_chain m))) in
          subst (P k) (sym empty) (none k)
    ]

pub are_chains : (w : Inside) → AreLive w → AreChains (work_in w).chains
are_chains w live =
    let m = w.base in
    let cs = chains_in w in
    let chains = map (live_chain m) cs in
    let order : AreInOrder (map (λ (c : LiveChain). c.place) cs) = rw (places_of w.vertices.items w.chains.items) live.in_order in
    let lives : (k : ℕ) (x : LiveChain) → k < length cs → ((d : LiveChain) → get_or cs k d ≡ x)
    → IsLive m x = λ k x here is. subst (IsLive m) (is x) (live.chains k x here) in
    record {
      monotone = any_chain m cs (λ k q. IsMonotone q.frame q.first.place (places q.rest)) (λ k x here is. (lives k x here is).one_way) (λ k.
          Increasing tt);
      one_arc = any_chain m cs (λ k q. EachEdge (λ a b. a.arc ≡ q.first.arc) q.first q.rest) (λ k x here is.
          arcs_alike m x.place.arc x.place.«from» (drop 1 (numbers_of m x))) (λ k. tt);
      within = any_chain m cs (λ k q. EachButLast (IsWithinChain (IsOtherEdge chains k)) q.rest) (λ k x here is.
          within_live m cs k x live.chains order here is (lives k x here is)) (λ k. tt);
    }
