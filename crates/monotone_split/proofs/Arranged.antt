-- The edges of a map are arranged exactly where each chain of an arc that is not held is clear.
use Rattle.std.proofs.Common.{◌≡◌, ◌≢◌, ◌⊎◌, inl, inr, ℕ, zero, suc, ◌<◌, List, [], ◌∷◌, ◌++◌, length, get_or, refl, sym, ap, subst, arith}
use Rattle.std.specs.Prelude.{Contains}
use Rattle.std.proofs.lemmas.Bool.{cases_eq}
use Rattle.grid_exact.specs.Geometry.{Place, IsOnSegment}
use Rattle.grid_exact.specs.Walks.{EachEdge}
use Rattle.arc_map.specs.Vertices.{Vertex, MeetLawfully}
use Rattle.grid_exact.specs.Runs.{IsEdgeOf, EachTwoEdges}
use Rattle.arc_map.specs.Chains.{Chain, chain_at, AreChains, IsArrangedBeside}
use Rattle.arc_map.specs.Edges.{Edge, edges_of, edges_of_all, EachOf, EachTwo, ClashOnlyIfHeld, EdgesAreArranged}
use Rattle.monotone_split.specs.Laws.{ArrangedByChains}
use Rattle.monotone_split.proofs.WalkParts.{edge_has}
use Rattle.monotone_split.proofs.Maps.{each_edge_from, lawful_swapped}

-- ---- lists

pub of_first : {A : Type 0} (P : A → Type 0) (xs ys : List A) → EachOf P (xs ++ ys) → EachOf P xs
of_first P [] ys h = tt
of_first P (x ∷ xs) ys h = (h.0, of_first P xs ys h.1)

pub of_second : {A : Type 0} (P : A → Type 0) (xs ys : List A) → EachOf P (xs ++ ys) → EachOf P ys
of_second P [] ys h = h
of_second P (x ∷ xs) ys h = of_second P xs ys h.1

pub of_both : {A : Type 0} (P : A → Type 0) (xs ys : List A) → EachOf P xs → EachOf P ys → EachOf P (xs ++ ys)
of_both P [] ys h k = k
of_both P (x ∷ xs) ys h k = (h.0, of_both P xs ys h.1 k)

pub two_first : {A : Type 0} (R : A → A → Type 0) (xs ys : List A) → EachTwo R (xs ++ ys) → EachTwo R xs
two_first R [] ys h = tt
two_first R (x ∷ xs) ys h = (of_first (R x) xs ys h.0, two_first R xs ys h.1)

pub two_second : {A : Type 0} (R : A → A → Type 0) (xs ys : List A) → EachTwo R (xs ++ ys) → EachTwo R ys
two_second R [] ys h = h
two_second R (x ∷ xs) ys h = two_second R xs ys h.1

pub two_across : {A : Type 0} (R : A → A → Type 0) (xs ys : List A) → EachTwo R (xs ++ ys) → EachOf (λ x. EachOf (R x) ys) xs
two_across R [] ys h = tt
two_across R (x ∷ xs) ys h = (of_second (R x) xs ys h.0, two_across R xs ys h.1)

pub two_joined : {A : Type 0} (R : A → A → Type 0) (xs ys : List A) → EachTwo R xs → EachTwo R ys → EachOf (λ x. EachOf (R x) ys) xs
    → EachTwo R (xs ++ ys)
two_joined R [] ys h k l = k
two_joined R (x ∷ xs) ys h k l = (of_both (R x) xs ys h.0 l.0, two_joined R xs ys h.1 k l.1)

abbrev edge_at : Vertex → Vertex → Edge
edge_at a b = record { start = a; end = b }

-- ---- edges of walks

of_edges : (P : Edge → Type 0) (v : Vertex) (ws : List Vertex) (a b : Vertex) → EachOf P (edges_of v ws) → IsEdgeOf v ws a b
    → P (edge_at a b)
of_edges P v [] a b h e = absurd e
of_edges P v (w ∷ ws) a b h (inl e) = subst (λ (x : Vertex). P (edge_at x b)) e.0 (subst (λ (y : Vertex). P (edge_at v y)) e.1 h.0)
of_edges P v (w ∷ ws) a b h (inr e) = of_edges P w ws a b h.1 e

edges_each : (P : Edge → Type 0) (v : Vertex) (ws : List Vertex) → ((a b : Vertex) → IsEdgeOf v ws a b → P (edge_at a b))
    → EachOf P (edges_of v ws)
edges_each P v [] f = tt
edges_each P v (w ∷ ws) f = (f v w (inl (refl, refl)), edges_each P w ws (λ a b e. f a b (inr e)))

-- a property of the edges of all chains is one of the edges of each
all_each : (P : Edge → Type 0) (chains : List Chain) → ((k : ℕ) (a b : Vertex)
    → IsEdgeOf (chain_at chains k).first (chain_at chains k).rest a b → P (edge_at a b)) → EachOf P (edges_of_all chains)
all_each P [] f = tt
all_each P (x ∷ xs) f = of_both P (edges_of x.first x.rest) (edges_of_all xs) (edges_each P x.first x.rest (λ a b e. f zero a b e))
    (all_each P xs (λ k a b e. f (suc k) a b e))

pub of_all : (P : Edge → Type 0) (chains : List Chain) (k : ℕ) (a b : Vertex) → EachOf P (edges_of_all chains)
    → IsEdgeOf (chain_at chains k).first (chain_at chains k).rest a b → P (edge_at a b)
of_all P [] k a b h e = absurd e
of_all P (x ∷ xs) zero a b h e = of_edges P x.first x.rest a b (of_first P (edges_of x.first x.rest) (edges_of_all xs) h) e
of_all P (x ∷ xs) (suc k) a b h e = of_all P xs k a b (of_second P (edges_of x.first x.rest) (edges_of_all xs) h) e

-- two edges of different chains
of_two : (R : Edge → Edge → Type 0) → ((e f : Edge) → R e f → R f e) → (chains : List Chain) (k l : ℕ) (a b c d : Vertex) → k ≢ l
    → EachTwo R (edges_of_all chains) → IsEdgeOf (chain_at chains k).first (chain_at chains k).rest a b
    → IsEdgeOf (chain_at chains l).first (chain_at chains l).rest c d → R (edge_at a b) (edge_at c d)
of_two R swap [] k l a b c d other h e f = absurd e
of_two R swap (x ∷ xs) zero zero a b c d other h e f = absurd (other refl)
of_two R swap (x ∷ xs) zero (suc l) a b c d other h e f = of_all (R (edge_at a b)) xs l c d
    (of_edges (λ g. EachOf (R g) (edges_of_all xs)) x.first x.rest a b (two_across R (edges_of x.first x.rest) (edges_of_all xs) h) e) f
of_two R swap (x ∷ xs) (suc k) zero a b c d other h e f = swap (edge_at c d) (edge_at a b)
    (of_all (R (edge_at c d)) xs k a b (of_edges (λ g. EachOf (R g) (edges_of_all xs)) x.first x.rest c d
    (two_across R (edges_of x.first x.rest) (edges_of_all xs) h) f) e)
of_two R swap (x ∷ xs) (suc k) (suc l) a b c d other h e f = of_two R swap xs k l a b c d (λ g. other (ap suc g))
    (two_second R (edges_of x.first x.rest) (edges_of_all xs) h) e f

-- the edges of one chain
of_own : (R : Edge → Edge → Type 0) (chains : List Chain) (k : ℕ) → EachTwo R (edges_of_all chains)
    → EachTwo R (edges_of (chain_at chains k).first (chain_at chains k).rest)
of_own R [] k h = tt
of_own R (x ∷ xs) zero h = two_first R (edges_of x.first x.rest) (edges_of_all xs) h
of_own R (x ∷ xs) (suc k) h = of_own R xs k (two_second R (edges_of x.first x.rest) (edges_of_all xs) h)

-- ---- held arcs

pub held_or_not : (held : List ℕ) (arc : ℕ) → Contains held arc ⊎ ¬ (Contains held arc)
held_or_not [] arc = inr (λ h. let k = h.1 in omega arith)
held_or_not (x ∷ xs) arc =
    elim (cases_eq x arc) [
      | inl e ↦ inl (zero, omega arith, e)
      | inr other ↦
          elim (held_or_not xs arc) [
            | inl h ↦ inl (suc h.0, let k = h.1 in omega arith, h.2)
            | inr free ↦ inr (λ h. not_later x xs arc other free h.0 h.1 h.2)
          ]
    ]
  where
    not_later : (x : ℕ) (xs : List ℕ) (arc : ℕ) → (x ≡ arc → ⊥) → ¬ (Contains xs arc) → (k : ℕ) → k < length (x ∷ xs)
        → get_or (x ∷ xs) k arc ≡ arc → ⊥
    not_later x xs arc other free zero h e = other e
    not_later x xs arc other free (suc k) h e = free (k, omega arith, e)

held_swapped : (held : List ℕ) (e f : Edge) → ClashOnlyIfHeld held e f → ClashOnlyIfHeld held f e
held_swapped held e f (inl h) = inl (h.1, h.0)
held_swapped held e f (inr h) = inr (lawful_swapped e.start e.end f.start f.end h)

arc_of : (chains : List Chain) (k : ℕ) (a b : Vertex) → AreChains chains → IsEdgeOf (chain_at chains k).first (chain_at chains k).rest a b
    → a.arc ≡ (chain_at chains k).first.arc
arc_of chains k a b are e = edge_has (λ x y. x.arc ≡ (chain_at chains k).first.arc) (chain_at chains k).first (chain_at chains k).rest a b
    (are.one_arc k) e

-- an edge of an arc that is not held does not clash
lawful_by : (held : List ℕ) (e f : Edge) → ¬ (Contains held e.start.arc) → ClashOnlyIfHeld held e f
    → MeetLawfully e.start e.end f.start f.end
lawful_by held e f free (inl h) = absurd (free h.0)
lawful_by held e f free (inr h) = h

own_from : (held : List ℕ) (arc : ℕ) → ¬ (Contains held arc) → (v : Vertex) (ws : List Vertex) → EachEdge (λ a b. a.arc ≡ arc) v ws
    → EachTwo (ClashOnlyIfHeld held) (edges_of v ws) → EachTwoEdges MeetLawfully v ws
own_from held arc free v [] one h = tt
own_from held arc free v (w ∷ ws) one h = (
  each_edge_from (MeetLawfully v w) w ws (λ c d e. lawful_by held (edge_at v w) (edge_at c d)
      (subst (λ (n : ℕ). ¬ (Contains held n)) (sym one.0) free) (of_edges (ClashOnlyIfHeld held (edge_at v w)) w ws c d h.0 e)),
  own_from held arc free w ws one.1 h.1,
)

clear_from : (held : List ℕ) (chains : List Chain) (points : List Place) → AreChains chains
    → EdgesAreArranged held (edges_of_all chains) points → IsArrangedBeside held chains points
clear_from held chains points are h k free =
    record {
      others = λ c d o.
          each_edge_from (λ a b. MeetLawfully a b c d) (chain_at chains k).first (chain_at chains k).rest
          (λ a b e.
          lawful_by held (edge_at a b) (edge_at c d) (subst (λ (n : ℕ). ¬ (Contains held n)) (sym (arc_of chains k a b are e)) free)
          (of_two (ClashOnlyIfHeld held) (held_swapped held) chains k o.chain a b c d (λ g. o.other (sym g)) h.pairs e o.edge));
      own = own_from held (chain_at chains k).first.arc free (chain_at chains k).first (chain_at chains k).rest (are.one_arc k)
          (of_own (ClashOnlyIfHeld held) chains k h.pairs);
      points = λ p point.
          each_edge_from (λ a b. ¬ (IsOnSegment a.place b.place p)) (chain_at chains k).first (chain_at chains k).rest
          (λ a b e on. free (subst (λ (n : ℕ). Contains held n) (arc_of chains k a b are e)
          (of_all (λ g. IsOnSegment g.start.place g.end.place p → Contains held g.start.arc) chains k a b (h.off p point) e on)));
    }

-- ---- back

pairs_back : (held : List ℕ) (chains : List Chain)
    → ((k : ℕ) → EachTwo (ClashOnlyIfHeld held) (edges_of (chain_at chains k).first (chain_at chains k).rest))
    → ((k l : ℕ) (a b c d : Vertex) → k ≢ l → IsEdgeOf (chain_at chains k).first (chain_at chains k).rest a b
    → IsEdgeOf (chain_at chains l).first (chain_at chains l).rest c d → ClashOnlyIfHeld held (edge_at a b) (edge_at c d))
    → EachTwo (ClashOnlyIfHeld held) (edges_of_all chains)
pairs_back held [] own two = tt
pairs_back held (x ∷ xs) own two =
    two_joined (ClashOnlyIfHeld held) (edges_of x.first x.rest) (edges_of_all xs) (own zero)
    (pairs_back held xs (λ k. own (suc k)) (λ k l a b c d other e f. two (suc k) (suc l) a b c d (λ g. other (suc_same k l g)) e f))
    (edges_each (λ g. EachOf (ClashOnlyIfHeld held g) (edges_of_all xs)) x.first x.rest (λ a b e.
    all_each (ClashOnlyIfHeld held (edge_at a b)) xs (λ l c d f. two zero (suc l) a b c d (zero_suc l) e f)))
  where
    suc_same : (k l : ℕ) → suc k ≡ suc l → k ≡ l
    suc_same k l e = cc

    zero_suc : (l : ℕ) → zero ≡ suc l → ⊥
    zero_suc l e = cc

own_back_free : (held : List ℕ) (v : Vertex) (ws : List Vertex) → EachTwoEdges MeetLawfully v ws
    → EachTwo (ClashOnlyIfHeld held) (edges_of v ws)
own_back_free held v [] h = tt
own_back_free held v (w ∷ ws) h = (
  edges_each (ClashOnlyIfHeld held (edge_at v w)) w ws (λ c d e.
      inr (edge_has (MeetLawfully v w) w ws c d h.0 e)),
  own_back_free held w ws h.1,
)

own_back_held : (held : List ℕ) (arc : ℕ) → Contains held arc → (v : Vertex) (ws : List Vertex) → EachEdge (λ a b. a.arc ≡ arc) v ws
    → EachTwo (ClashOnlyIfHeld held) (edges_of v ws)
own_back_held held arc has v [] one = tt
own_back_held held arc has v (w ∷ ws) one = (
  edges_each (ClashOnlyIfHeld held (edge_at v w)) w ws (λ c d e.
      inl (
        subst (λ (n : ℕ). Contains held n) (sym one.0) has,
        subst (λ (n : ℕ). Contains held n)
            (sym (edge_has (λ x y. x.arc ≡ arc) w ws c d one.1 e)) has,
      )),
  own_back_held held arc has w ws one.1,
)

arranged_from : (held : List ℕ) (chains : List Chain) (points : List Place) → AreChains chains → IsArrangedBeside held chains points
    → EdgesAreArranged held (edges_of_all chains) points
arranged_from held chains points are h =
    record {
      pairs =
          pairs_back held chains
          (λ k.
          elim (held_or_not held (chain_at chains k).first.arc) [
            | inl has ↦ own_back_held held (chain_at chains k).first.arc has (chain_at chains k).first (chain_at chains k).rest
                (are.one_arc k)
            | inr free ↦ own_back_free held (chain_at chains k).first (chain_at chains k).rest (h k free).own
          ])
          (λ k l a b c d other e f.
          elim (held_or_not held (chain_at chains k).first.arc) [
            | inr free ↦ inr (edge_has (λ x y. MeetLawfully x y c d) (chain_at chains k).first (chain_at chains k).rest a b
                ((h k free).others c d (record { chain = l; other = λ g. other (sym g); edge = f })) e)
            | inl has ↦
                elim (held_or_not held (chain_at chains l).first.arc) [
                  | inr free ↦ inr (lawful_swapped c d a b (edge_has (λ x y. MeetLawfully x y a b) (chain_at chains l).first
                      (chain_at chains l).rest c d ((h l free).others a b (record { chain = k; other = other; edge = e })) f))
                  | inl too ↦ inl (
                    subst (λ (n : ℕ). Contains held n) (sym (arc_of chains k a b are e)) has,
                    subst (λ (n : ℕ).
                        Contains held n) (sym (arc_of chains l c d are f)) too,
                  )
                ]
          ]);
      off = λ p point.
          all_each (λ g. IsOnSegment g.start.place g.end.place p → Contains held g.start.arc) chains
          (λ k a b e on.
          elim (held_or_not held (chain_at chains k).first.arc) [
            | inl has ↦ subst (λ (n : ℕ). Contains held n) (sym (arc_of chains k a b are e)) has
            | inr free ↦ absurd (edge_has (λ x y. ¬ (IsOnSegment x.place y.place p)) (chain_at chains k).first (chain_at chains k).rest a b
                ((h k free).points p point) e on)
          ]);
    }

pub arranged_by_chains : ArrangedByChains
arranged_by_chains held chains points are = (clear_from held chains points are, arranged_from held chains points are)
