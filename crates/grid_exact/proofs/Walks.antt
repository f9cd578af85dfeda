-- How many edges of a walk pass a test, odd or even, and that closed walks are crossed and crossed sideways alike.
use Rattle.std.proofs.Common.{◌≡◌, ◌-◌, ◌<◌, suc, Bool, true, false, List, [], ◌∷◌, ◌++◌, length, get_or, inl, inr, refl, sym, ap, subst}
use Rattle.std.proofs.Common.{◌∙◌, arith}
use Rattle.grid_exact.specs.Geometry.{Place, IsBefore}
use Rattle.grid_exact.specs.Crossing.{is_crossed, is_crossed_sideways, is_ahead}
use Rattle.grid_exact.specs.Walks.{EachEdge, end_of, count_edges, is_odd, differ, IsOff}
use Rattle.grid_exact.specs.Runs.{IsEdgeOf}
use Rattle.grid_exact.proofs.Orders.{then_before}
use Rattle.grid_exact.proofs.Crossings.{differ_false}
use Rattle.grid_exact.proofs.Quadrants.{edge_parity}

-- ---- bits

pub regrouped : (c d s t : Bool) → differ (differ c d) (differ s t) ≡ differ (differ c s) (differ d t)
regrouped true true true true = refl
regrouped true true true false = refl
regrouped true true false true = refl
regrouped true true false false = refl
regrouped true false true true = refl
regrouped true false true false = refl
regrouped true false false true = refl
regrouped true false false false = refl
regrouped false true true true = refl
regrouped false true true false = refl
regrouped false true false true = refl
regrouped false true false false = refl
regrouped false false true true = refl
regrouped false false true false = refl
regrouped false false false true = refl
regrouped false false false false = refl

pub telescoped : (k m e : Bool) → differ (differ (differ k m) (differ m e)) (differ k e) ≡ false
telescoped true true true = refl
telescoped true true false = refl
telescoped true false true = refl
telescoped true false false = refl
telescoped false true true = refl
telescoped false true false = refl
telescoped false false true = refl
telescoped false false false = refl

pub differ_itself : (t : Bool) → differ t t ≡ false
differ_itself true = refl
differ_itself false = refl

pub same_from : (s t : Bool) → differ s t ≡ false → s ≡ t
same_from true true e = refl
same_from true false e = cc
same_from false true e = cc
same_from false false e = refl

-- one edge and the rest of a walk, whose bits are each even
pub joined : (c s k m e d t : Bool) → differ (differ c s) (differ k m) ≡ false → differ (differ d t) (differ m e) ≡ false
    → differ (differ (differ c d) (differ s t)) (differ k e) ≡ false
joined c s k m e d t p q =
    ap (λ x. differ x (differ k e)) (regrouped c d s t ∙ ap (λ x. differ x (differ d t)) (same_from (differ c s) (differ k m) p)
    ∙ ap (λ x. differ (differ k m) x) (same_from (differ d t) (differ m e) q)) ∙ telescoped k m e

pub differ_assoc : (r s t : Bool) → differ r (differ s t) ≡ differ (differ r s) t
differ_assoc true true true = refl
differ_assoc true true false = refl
differ_assoc true false true = refl
differ_assoc true false false = refl
differ_assoc false true true = refl
differ_assoc false true false = refl
differ_assoc false false true = refl
differ_assoc false false false = refl

-- ---- walks

pub is_odd-counted : {A : Type 0} (test : A → A → Bool) (v w : A) (ws : List A)
    → is_odd (count_edges test v (w ∷ ws)) ≡ differ (test v w) (is_odd (count_edges test w ws))
is_odd-counted test v w ws =
    elim (test v w) as (λ t. is_odd (elim t [ true ↦ suc (count_edges test w ws) | false ↦ count_edges test w ws ])
    ≡ differ t (is_odd (count_edges test w ws))) [ true ↦ refl | false ↦ refl ]

-- one more edge at the end of a walk
pub is_odd-pushed : {A : Type 0} (test : A → A → Bool) (v : A) (ws : List A) (x : A)
    → is_odd (count_edges test v (ws ++ x ∷ [])) ≡ differ (is_odd (count_edges test v ws)) (test (end_of v ws) x)
is_odd-pushed test v [] x = is_odd-counted test v x [] ∙ differ_false (test v x)
is_odd-pushed test v (w ∷ ws) x =
    is_odd-counted test v w (ws ++ x ∷ [])
    ∙ ap (λ (t : Bool). differ (test v w) t) (is_odd-pushed test w ws x)
    ∙ differ_assoc (test v w) (is_odd (count_edges test w ws)) (test (end_of w ws) x)
    ∙ ap (λ (t : Bool). differ t (test (end_of w ws) x)) (sym (is_odd-counted test v w ws))

pub end_of-pushed : {A : Type 0} (v : A) (ws : List A) (x : A) → end_of v (ws ++ x ∷ []) ≡ x
end_of-pushed v [] x = refl
end_of-pushed v (w ∷ ws) x = end_of-pushed w ws x

pub end_is_last : {A : Type 0} (v : A) (ws : List A) (d : A) → 0 < length ws → end_of v ws ≡ get_or ws (length ws - 1) d
end_is_last v [] d some = absurd (omega arith)
end_is_last v (w ∷ []) d some = refl
end_is_last v (w ∷ x ∷ xs) d some =
    let place : length (w ∷ x ∷ xs) - 1 ≡ suc (length (x ∷ xs) - 1) = omega arith in
    rw place (end_is_last w (x ∷ xs) d (omega arith))

-- a property of each edge is one of this edge
pub edge_has : {A : Type 0} (P : A → A → Type 0) (v : A) (ws : List A) (a b : A) → EachEdge P v ws → IsEdgeOf v ws a b → P a b
edge_has P v [] a b h e = absurd e
edge_has P v (w ∷ ws) a b h (inl e) = subst (λ x. P x b) e.0 (subst (λ y. P v y) e.1 h.0)
edge_has P v (w ∷ ws) a b h (inr e) = edge_has P w ws a b h.1 e

pub each_edge_mapped : {A : Type 0} (P Q : A → A → Type 0) → ((a b : A) → P a b → Q a b) → (v : A) (ws : List A) → EachEdge P v ws
    → EachEdge Q v ws
each_edge_mapped P Q f v [] h = tt
each_edge_mapped P Q f v (w ∷ ws) h = (f v w h.0, each_edge_mapped P Q f w ws h.1)

-- the end of a walk that comes after its start, edge by edge
pub before_end : (v w : Place) (ws : List Place) → IsBefore v w → EachEdge IsBefore w ws → IsBefore v (end_of w ws)
before_end v w [] h rising = h
before_end v w (x ∷ xs) h rising = before_end v x xs (then_before v w x h rising.0) rising.1

-- ---- two ways to count the edges of a closed walk

-- each edge is counted by both ways together as often, up to an even number, as its ends differ in a mark
pub bits_of_walk : {A : Type 0} (f g : A → A → Bool) (mark : A → Bool) (v : A) (ws : List A)
    → EachEdge (λ a b. differ (differ (f a b) (g a b)) (differ (mark a) (mark b)) ≡ false) v ws
    → differ (differ (is_odd (count_edges f v ws)) (is_odd (count_edges g v ws))) (differ (mark v) (mark (end_of v ws))) ≡ false
bits_of_walk f g mark v [] h = differ_itself (mark v)
bits_of_walk f g mark v (w ∷ ws) h =
    rw (is_odd-counted f v w ws, is_odd-counted g v w ws)
    (joined (f v w) (g v w) (mark v) (mark w) (mark (end_of w ws)) (is_odd (count_edges f w ws)) (is_odd (count_edges g w ws)) h.0
    (bits_of_walk f g mark w ws h.1))

pub counted_alike : {A : Type 0} (f g : A → A → Bool) (mark : A → Bool) (v : A) (ws : List A)
    → EachEdge (λ a b. differ (differ (f a b) (g a b)) (differ (mark a) (mark b)) ≡ false) v ws → end_of v ws ≡ v
    → is_odd (count_edges f v ws) ≡ is_odd (count_edges g v ws)
counted_alike f g mark v ws h closed =
    same_from (is_odd (count_edges f v ws)) (is_odd (count_edges g v ws))
    (even (is_odd (count_edges f v ws)) (is_odd (count_edges g v ws)) (mark v) (mark (end_of v ws)) (bits_of_walk f g mark v ws h)
    (ap mark closed))
  where
    even : (c s k e : Bool) → differ (differ c s) (differ k e) ≡ false → e ≡ k → differ c s ≡ false
    even c s k e h f = same_from (differ c s) (differ k e) h ∙ ap (differ k) f ∙ differ_itself k

-- A closed walk that p is not on is crossed and crossed sideways with the same parity.
pub closed_walk : (p v : Place) (ws : List Place) → IsOff p v ws → end_of v ws ≡ v
    → is_odd (count_edges (is_crossed p) v ws) ≡ is_odd (count_edges (is_crossed_sideways p) v ws)
closed_walk p v ws off closed = counted_alike (is_crossed p) (is_crossed_sideways p) (is_ahead p) v ws
    (each_edge_mapped _ _ (edge_parity p) v ws off) closed
