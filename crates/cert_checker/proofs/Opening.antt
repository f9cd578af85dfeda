-- What the chain ends and the items in a box say of the rest of the map.
use Rattle.std.proofs.Common.{◌≡◌, ◌∙◌, ◌↔◌, ◌+◌, ◌<◌, ◌≤◌, ℕ, zero, suc, true, List, [], ◌∷◌, ◌++◌, ◌<ℤ◌, length, get_or, sym, ap, subst}
use Rattle.std.proofs.Common.{refl, arith, inl, inr}
use Rattle.std.specs.Prelude.{◌≢◌, ◌⊎◌, All, Contains, int_le}
use Rattle.std.specs.List.{between}
use Rattle.std.proofs.lemmas.Bool.{and_from}
use Rattle.std.proofs.lemmas.List.{get_or_default}
use Rattle.std.proofs.lemmas.List.Elements.{All-append, All-contains, All-contains_itself, All-cons, All-head, All-nil, All-tail}
use Rattle.std.proofs.lemmas.List.Elements.{All-weaker, recursion_from_All}
use Rattle.grid_exact.specs.Geometry.{Place}
use Rattle.grid_exact.specs.Runs.{IsEdgeOf}
use Rattle.grid_exact.specs.Segments.{SameEnds}
use Rattle.grid_exact.specs.Walks.{end_of}
use Rattle.grid_exact.proofs.Orders.{le_yes}
use Rattle.grid_exact.proofs.Signs.{at_most_or_above}
use Rattle.grid_exact.proofs.WholeLaws.{sums}
use Rattle.arc_map.specs.Allowed.{IsConsistent}
use Rattle.arc_map.specs.Allowed.IsConsistent.{SameSide}
use Rattle.arc_map.specs.Arranged.{nowhere}
use Rattle.arc_map.specs.Chains.{AreChains, Chain, IsClearIn, chain_at, chain_places, no_chain}
use Rattle.arc_map.specs.Paths.{vertex_at}
use Rattle.arc_map.specs.Vertices.{Vertex}
use Rattle.arc_map.specs.Work.{Work}
use Rattle.arc_map.proofs.Chained.{length-chain_places}
use Rattle.map_index.specs.IndexedMap.{AreItemsIn}
use Rattle.map_index.specs.Items.{IsOther, Owns}
use Rattle.map_index.specs.Listing.{item_of}
use Rattle.monotone_split.specs.Laws.{EndOfEdge}
use Rattle.monotone_split.specs.Laws.EndOfEdge.{StartsAt as EdgeStart, EndsAt as EdgeEnd}
use Rattle.monotone_split.proofs.Doubles.{double_edge_is_chain}
use Rattle.sweep_index.specs.Box.{is_from_to, is_in_box}
use Rattle.sweep_index.specs.declared.index.Item.{Item}
use Rattle.sweep_index.specs.declared.index.Owner.{Owner}
use Rattle.sweep_index.specs.declared.index.Owner.TheVariants.{Town, Chain as OfChain}
use Rattle.cert_checker.specs.Indexed.{IsDouble, ItemLets}
use Rattle.cert_checker.specs.Open.{IsOpenPair, Joins}
use Rattle.cert_checker.specs.Runs.{IsInBox, place_at, run_end, run_inner}
use Rattle.cert_checker.proofs.Beyond.{IsOn, Over, Side, ToTheLeft, ToTheRight, Under, beyond_even, beyond_off}
use Rattle.cert_checker.proofs.Pairs.{edge_by_number, joined_edge}
use Rattle.cert_checker.proofs.Parts.{RunParts, place_of_vertex, split_last}

-- ---- outside the box

-- a place outside the box is beyond it on one side
data Outside (low high p : Place) : Type 0 where
  West : p.x <ℤ low.x → Outside low high p
  East : high.x <ℤ p.x → Outside low high p
  South : p.y <ℤ low.y → Outside low high p
  North : high.y <ℤ p.y → Outside low high p

in_or_outside : (low high p : Place) → (is_in_box low high p ≡ true) ⊎ Outside low high p
in_or_outside low high p = elim (at_most_or_above low.x p.x) [
  | inr west ↦ inr (West west)
  | inl from_west ↦ elim (at_most_or_above p.x high.x) [
    | inr east ↦ inr (East east)
    | inl to_east ↦ elim (at_most_or_above low.y p.y) [
      | inr south ↦ inr (South south)
      | inl from_south ↦ elim (at_most_or_above p.y high.y) [
        | inr north ↦ inr (North north)
        | inl to_north ↦ inl (and_from (is_from_to low.x high.x p.x) (is_from_to low.y high.y p.y)
            (and_from (int_le low.x p.x) (int_le p.x high.x) (le_yes low.x p.x from_west) (le_yes p.x high.x to_east))
            (and_from (int_le low.y p.y) (int_le p.y high.y) (le_yes low.y p.y from_south) (le_yes p.y high.y to_north)))
      ]
    ]
  ]
]

abbrev side_of : (low high p : Place) → Outside low high p → Side
side_of low high p (West h) = ToTheLeft
side_of low high p (East h) = ToTheRight
side_of low high p (South h) = Under
side_of low high p (North h) = Over

on_side : (low high p : Place) (out : Outside low high p) (q : Place) → IsInBox low high q → IsOn (side_of low high p out) p q
on_side low high p (West h) q box = let k = box.from_low.across in omega (arith, sums)
on_side low high p (East h) q box = let k = box.to_high.across in omega (arith, sums)
on_side low high p (South h) q box = let k = box.from_low.up in omega (arith, sums)
on_side low high p (North h) q box = let k = box.to_high.up in omega (arith, sums)

-- a closed walk ends where it begins
closed_end : (u v w : Place) (ws : List Place) → end_of u (ws ++ w ∷ v ∷ []) ≡ v
closed_end u v w [] = refl
closed_end u v w (x ∷ xs) = closed_end x v w xs

last_of_all : (P : Place → Type 0) (xs : List Place) (x : Place) → All P (xs ++ x ∷ []) → P x
last_of_all P [] x h = All-head P x [] h
last_of_all P (y ∷ ys) x h = last_of_all P ys x (All-tail P y (ys ++ x ∷ []) h)

front_of_all : (P : Place → Type 0) (xs : List Place) (x : Place) → All P (xs ++ x ∷ []) → All P xs
front_of_all P [] x h = All-nil P
front_of_all P (y ∷ ys) x h = All-cons P y ys (All-head P y (ys ++ x ∷ []) h) (front_of_all P ys x (All-tail P y (ys ++ x ∷ []) h))

-- from outside the box round a run no place changes sides
outside_consistent : (low high first : Place) (rest : List Place) (p : Place) → 0 < length rest → All (IsInBox low high) (first ∷ rest)
    → Outside low high p → IsConsistent first (run_end first rest) (run_inner rest) p
outside_consistent low high first rest p some inside out =
    let side = side_of low high p out in
    let all : All (IsOn side p) (first ∷ rest) = All-weaker (IsInBox low high) (IsOn side p) (on_side low high p out) (first ∷ rest) inside
    in
    let here = All-head (IsOn side p) first rest all in
    let later : All (IsOn side p) (run_inner rest ++ run_end first rest ∷ []) =
    subst (All (IsOn side p)) (split_last first rest some) (All-tail (IsOn side p) first rest all) in
    let at_end : IsOn side p (run_end first rest) = last_of_all (IsOn side p) (run_inner rest) (run_end first rest) later in
    let closed : All (IsOn side p) (run_inner rest ++ run_end first rest ∷ first ∷ []) =
    All-append (IsOn side p) (run_inner rest) (run_end first rest ∷ first ∷ [])
    (front_of_all (IsOn side p) (run_inner rest) (run_end first rest) later)
    (All-cons (IsOn side p) (run_end first rest) (first ∷ []) at_end (All-cons (IsOn side p) first [] here (All-nil (IsOn side p)))) in
    SameSide (beyond_off side p first (run_end first rest) here at_end)
    (beyond_even side p first (run_inner rest ++ run_end first rest ∷ first ∷ [])
    (recursion_from_All (IsOn side p) (first ∷ run_inner rest ++ run_end first rest ∷ first ∷ [])
    (All-cons (IsOn side p) first (run_inner rest ++ run_end first rest ∷ first ∷ []) here closed))
    (closed_end first first (run_end first rest) (run_inner rest)))

-- ---- items

-- each owner's place does not change sides, where the items in the box do not
owned_consistent : (w : Work) (found : List (ℕ × Item)) (k : ℕ) (low high first : Place) (rest : List Place) → AreItemsIn w low high found
    → 0 < length rest → All (IsInBox low high) (first ∷ rest) → All (ItemLets k first (run_inner rest) (run_end first rest)) found
    → (owner : Owner) (p : Place) → Owns w.chains w.read.points owner p → IsOther k owner
    → IsConsistent first (run_end first rest) (run_inner rest) p
owned_consistent w found k low high first rest are some inside lets owner p owns other = elim (in_or_outside low high p) [
  | inr out ↦ outside_consistent low high first rest p some inside out
  | inl box ↦
      let there = are.all owner p owns box in
      All-contains (ItemLets k first (run_inner rest) (run_end first rest)) found (there.0, item_of owner p) lets there.1 other
]

-- ---- double edges

-- the vertices number i and j of a chain are ends of its edges
start_is_end : (c : Chain) (i : ℕ) → i < length c.rest → EndOfEdge c.first c.rest (vertex_at c i)
start_is_end c i within = EdgeStart (vertex_at c (suc i)) (edge_by_number c.first c.rest i c.first (omega (arith, within)))

later_is_end : (c : Chain) (j : ℕ) → 0 < j → j ≤ length c.rest → EndOfEdge c.first c.rest (vertex_at c j)
later_is_end c zero some within = absurd (omega (arith, some))
later_is_end c (suc j) some within = EdgeEnd (vertex_at c j) (edge_by_number c.first c.rest j c.first (omega (arith, within)))

-- an edge that is all of its walk starts it
only_edge_starts : {A : Type 0} (v : A) (ws : List A) (c d : A) → ws ≡ d ∷ [] → IsEdgeOf v ws c d → v ≡ c
only_edge_starts v [] c d e edge = absurd edge
only_edge_starts v (w ∷ []) c d e (inl h) = h.0
only_edge_starts v (w ∷ []) c d e (inr h) = absurd h
only_edge_starts v (w ∷ x ∷ xs) c d e edge = absurd (omega (arith, ap length e))

-- a chain of one edge that joins two vertices of the chain number k is a double
double_from : (chains : List Chain) (k l : ℕ) (v w : Place) (c d : Vertex) → l < length chains → l ≢ k → (chain_at chains l).rest ≡ d ∷ []
    → IsEdgeOf (chain_at chains l).first (chain_at chains l).rest c d → SameEnds v w c.place d.place
    → Joins v w (chain_places (chain_at chains l)) → IsDouble chains k v w
double_from chains k l v w c d known other whole edge ends joins =
    let one = chain_at chains l in
    let first : one.first ≡ c = only_edge_starts one.first one.rest c d whole edge in
    record {
      number = l;
      known = known;
      starts = elim ends [
        | inl e ↦ inl (ap (λ (x : Vertex). x.place) first ∙ sym e.0)
        | inr e ↦ inr (ap (λ ws. (end_of one.first ws).place) whole ∙ sym e.0)
      ];
      edge = record { other = other; whole = omega (arith, length-chain_places one, ap length whole); joins = joins };
    }

joins_is_double : (chains : List Chain) (points : List Place) (k i j l : ℕ) → AreChains chains → IsClearIn chains points k → i < j
    → j ≤ length (chain_at chains k).rest → l < length chains → l ≢ k
    → Joins (place_at (chain_places (chain_at chains k)) i) (place_at (chain_places (chain_at chains k)) j)
    (chain_places (chain_at chains l)) → IsDouble chains k (place_at (chain_places (chain_at chains k)) i)
    (place_at (chain_places (chain_at chains k)) j)
joins_is_double chains points k i j l are clear order within known other joins =
    let one = chain_at chains k in
    let v = place_at (chain_places one) i in
    let w = place_at (chain_places one) j in
    let e = joined_edge (chain_at chains l) v w joins in
    let start : (vertex_at one i).place ≡ v = place_of_vertex one i (omega (arith, order, within)) in
    let end : (vertex_at one j).place ≡ w = place_of_vertex one j within in
    let is_start = start_is_end one i (omega (arith, order, within)) in
    let is_end = later_is_end one j (omega (arith, order)) within in
    let whole : (chain_at chains l).rest ≡ e.1 ∷ [] = elim e.3 [
      | inl same ↦ double_edge_is_chain chains points k l e.0 e.1 (vertex_at one i) (vertex_at one j) are clear other e.2 is_start is_end
          (start ∙ same.0) (end ∙ same.1)
      | inr same ↦ double_edge_is_chain chains points k l e.0 e.1 (vertex_at one j) (vertex_at one i) are clear other e.2 is_end is_start
          (end ∙ same.1) (start ∙ same.0)
    ] in
    double_from chains k l v w e.0 e.1 known other whole e.2 e.3 joins

-- ---- what is open

-- no double, and the items in the box let the run become the segment
pub open_from_tests : (w : Work) (found : List (ℕ × Item)) (k i j : ℕ) (low high first : Place) (rest : List Place) → AreChains w.chains
    → IsClearIn w.chains w.read.points k → AreItemsIn w low high found → i < j → j ≤ length (chain_at w.chains k).rest
    → RunParts (chain_places (chain_at w.chains k)) i j first rest → All (IsInBox low high) (first ∷ rest)
    → ¬ (IsDouble w.chains k (place_at (chain_places (chain_at w.chains k)) i) (place_at (chain_places (chain_at w.chains k)) j))
    → All (ItemLets k first (run_inner rest) (run_end first rest)) found → IsOpenPair w.chains w.read.points k i j
open_from_tests w found k i j low high first rest are clear items order within parts inside single lets =
    let chains = w.chains in
    let points = w.read.points in
    let ps = chain_places (chain_at chains k) in
    let owned : (owner : Owner) (p : Place) → Owns chains points owner p → IsOther k owner
    → IsConsistent (place_at ps i) (place_at ps j) (between (i + 1) j ps) p = λ owner p owns other.
    subst (λ v. IsConsistent v (place_at ps j) (between (i + 1) j ps) p) parts.start
    (subst (λ x. IsConsistent first x (between (i + 1) j ps) p) parts.end
    (subst (λ us. IsConsistent first (run_end first rest) us p) parts.inner
    (owned_consistent w found k low high first rest items parts.some inside lets owner p owns other))) in
    record {
      towns = All-weaker (Contains points) (IsConsistent (place_at ps i) (place_at ps j) (between (i + 1) j ps)) (λ p has.
          owned Town p has tt) points (All-contains_itself points);
      others = λ l known other some. record {
        vertices = All-weaker (Contains (chain_places (chain_at chains l)))
            (IsConsistent (place_at ps i) (place_at ps j) (between (i + 1) j ps)) (λ p has. owned (OfChain l) p (known, has) other)
            (chain_places (chain_at chains l)) (All-contains_itself (chain_places (chain_at chains l)));
        single = λ joins. single (joins_is_double chains points k i j l are clear order within known other joins);
      };
    }

-- and the other way round
pub tests_from_open : (w : Work) (found : List (ℕ × Item)) (k i j : ℕ) (low high first : Place) (rest : List Place)
    → All (λ chain. 0 < length chain.rest) w.chains → AreItemsIn w low high found
    → RunParts (chain_places (chain_at w.chains k)) i j first rest → IsOpenPair w.chains w.read.points k i j
    → All (ItemLets k first (run_inner rest) (run_end first rest)) found
tests_from_open w found k i j low high first rest edges items parts is_open =
    All-weaker (Contains found) (ItemLets k first (run_inner rest) (run_end first rest)) (λ e has other.
    subst (λ v. IsConsistent v (run_end first rest) (run_inner rest) e.1.at) (sym parts.start)
    (subst (λ x. IsConsistent (place_at (chain_places (chain_at w.chains k)) i) x (run_inner rest) e.1.at) (sym parts.end)
    (subst (λ us. IsConsistent (place_at (chain_places (chain_at w.chains k)) i) (place_at (chain_places (chain_at w.chains k)) j) us
    e.1.at) (sym parts.inner)
    (owned e.1.owner e.1.at (items.only e.0 e.1 has) other)))) found (All-contains_itself found)
  where
    owned : (owner : Owner) (p : Place) → Owns w.chains w.read.points owner p → IsOther k owner
        → IsConsistent (place_at (chain_places (chain_at w.chains k)) i) (place_at (chain_places (chain_at w.chains k)) j)
        (between (i + 1) j (chain_places (chain_at w.chains k))) p
    owned Town p owns other = All-contains (IsConsistent (place_at (chain_places (chain_at w.chains k)) i)
        (place_at (chain_places (chain_at w.chains k)) j) (between (i + 1) j (chain_places (chain_at w.chains k)))) w.read.points p
        is_open.towns owns
    owned (OfChain l) p owns other = All-contains (IsConsistent (place_at (chain_places (chain_at w.chains k)) i)
        (place_at (chain_places (chain_at w.chains k)) j) (between (i + 1) j (chain_places (chain_at w.chains k))))
        (chain_places (chain_at w.chains l)) p (is_open.others l owns.0 other (edges l no_chain owns.0)).vertices owns.1

pub double_not_open : (chains : List Chain) (points : List Place) (k i j : ℕ)
    → IsDouble chains k (place_at (chain_places (chain_at chains k)) i) (place_at (chain_places (chain_at chains k)) j)
    → IsOpenPair chains points k i j → ⊥
double_not_open chains points k i j d is_open =
    let some : 0 < length (chain_at chains d.number).rest = omega (arith, d.edge.whole, length-chain_places (chain_at chains d.number)) in
    (is_open.others d.number d.known d.edge.other some).single d.edge.joins

-- ---- as it is read

pub read_place : (chains : List Chain) (k i : ℕ) (ps : List Place) (a : Place) → ps ≡ chain_places (chain_at chains k)
    → i ≤ length (chain_at chains k).rest → a ≡ get_or ps i a → a ≡ place_at (chain_places (chain_at chains k)) i
read_place chains k i ps a same within read =
    let known : i < length (chain_places (chain_at chains k)) = omega (arith, within, length-chain_places (chain_at chains k)) in
    read ∙ ap (λ qs. get_or qs i a) same ∙ get_or_default (chain_places (chain_at chains k)) i a nowhere known

pub double_read : (chains : List Chain) (k i j : ℕ) (a b : Place) → a ≡ place_at (chain_places (chain_at chains k)) i
    → b ≡ place_at (chain_places (chain_at chains k)) j → IsDouble chains k a b
    ↔ IsDouble chains k (place_at (chain_places (chain_at chains k)) i) (place_at (chain_places (chain_at chains k)) j)
double_read chains k i j a b start end = (
  λ d. subst (λ x. IsDouble chains k x (place_at (chain_places (chain_at chains k)) j)) start (subst (IsDouble chains k a) end d),
  λ d. subst (λ x. IsDouble chains k x b) (sym start) (subst (IsDouble chains k (place_at (chain_places (chain_at chains k)) i)) (sym end)
      d),
)
