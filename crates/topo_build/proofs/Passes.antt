-- The turns of rings, one more at a time.
use Rattle.std.proofs.Common.{◌≡◌, ◌∙◌, ◌+◌, ◌-◌, ◌<◌, ◌≤◌, ℕ, zero, suc, List, [], ◌∷◌, ◌++◌, All, get_or, length, map, take, append_assoc}
use Rattle.std.proofs.Common.{append-nil, ap, ap₂, refl, subst, sym, arith}
use Rattle.std.proofs.lemmas.List.{take_all, take_more}
use Rattle.std.proofs.lemmas.List.Elements.{All-append, All-cons, All-nil, All-weaker}
use Rattle.grid_exact.specs.Geometry.{Place}
use Rattle.topo_build.specs.Junctions.{Turn, turns_along, turns_of, turns_round}
use Rattle.topo_build.specs.Passages.{AreTold, turn}
use Rattle.topo_build.specs.declared.junctions.Junctions.{Junctions}

-- ---- along a walk

turns-push : (n : ℕ) (xs : List Place) (a p b : Place) → turns_along n (xs ++ a ∷ p ∷ b ∷ []) ≡ turns_along n (xs ++ a ∷ p ∷ [])
    ++ turn n a p b ∷ []
turns-push n [] a p b = refl
turns-push n (x ∷ []) a p b = refl
turns-push n (x ∷ y ∷ []) a p b = ap (λ ts. turn n x y a ∷ ts) (turns-push n (y ∷ []) a p b)
turns-push n (x ∷ y ∷ z ∷ xs) a p b = ap (λ ts. turn n x y z ∷ ts) (turns-push n (y ∷ z ∷ xs) a p b)

along-more : (n : ℕ) (walk : List Place) (k : ℕ) (a p b : Place) → 2 ≤ k → k < length walk → a ≡ get_or walk (k - 2) a
    → p ≡ get_or walk (k - 1) p → b ≡ get_or walk k b → turns_along n (take (k + 1) walk) ≡ turns_along n (take k walk) ++ turn n a p b ∷ []
along-more n walk k a p b some inside is_a is_p is_b =
    let first : k - 2 + 1 ≡ k - 1 = omega arith in
    let second : k - 1 + 1 ≡ k = omega arith in
    let xs = take (k - 2) walk in
    let one : take (k - 1) walk ≡ xs ++ a ∷ [] = ap (λ m. take m walk) (sym first) ∙ take_more walk (k - 2) a (omega arith)
    ∙ ap (λ z. xs ++ z ∷ []) (sym is_a) in
    let two : take k walk ≡ xs ++ a ∷ p ∷ [] = ap (λ m. take m walk) (sym second) ∙ take_more walk (k - 1) p (omega arith)
    ∙ ap₂ (λ ys z. ys ++ z ∷ []) one (sym is_p) ∙ append_assoc xs (a ∷ []) (p ∷ []) in
    let three : take (k + 1) walk ≡ xs ++ a ∷ p ∷ b ∷ [] = take_more walk k b inside ∙ ap₂ (λ ys z. ys ++ z ∷ []) two (sym is_b)
    ∙ append_assoc xs (a ∷ p ∷ []) (b ∷ []) in
    ap (turns_along n) three ∙ turns-push n xs a p b ∙ ap (λ ys. turns_along n ys ++ turn n a p b ∷ []) (sym two)

along-rings : (n : ℕ) (ps : List Place) → All (λ t. t.ring ≤ n) (turns_along n ps)
along-rings n [] = All-nil (λ t. t.ring ≤ n)
along-rings n (a ∷ []) = All-nil (λ t. t.ring ≤ n)
along-rings n (a ∷ p ∷ []) = All-nil (λ t. t.ring ≤ n)
along-rings n (a ∷ p ∷ b ∷ ps) = All-cons (λ t. t.ring ≤ n) (turn n a p b) (turns_along n (p ∷ b ∷ ps)) (omega arith)
    (along-rings n (p ∷ b ∷ ps))

pub rings-upto : (n : ℕ) (turns : List Turn) (ps : List Place) → All (λ t. t.ring < n) turns
    → All (λ t. t.ring ≤ n) (turns ++ turns_along n ps)
rings-upto n turns ps below = All-append (λ t. t.ring ≤ n) turns (turns_along n ps)
    (All-weaker (λ t. t.ring < n) (λ t. t.ring ≤ n) (λ t less. omega arith) turns below) (along-rings n ps)

pub passed-none : (n : ℕ) (turns : List Turn) (walk : List Place) (j : Junctions) → AreTold turns j
    → AreTold (turns ++ turns_along n (take 2 walk)) j
passed-none n turns walk j told = subst (λ ts. AreTold (turns ++ ts) j) (sym (none walk))
    (subst (λ ts. AreTold ts j) (sym (append-nil turns)) told)
  where
    none : (walk : List Place) → turns_along n (take 2 walk) ≡ []
    none [] = refl
    none (a ∷ []) = refl
    none (a ∷ p ∷ ps) = refl

pub passed-more : (n : ℕ) (turns : List Turn) (walk : List Place) (k : ℕ) (a p b : Place) (j : Junctions) → 2 ≤ k → k < length walk
    → a ≡ get_or walk (k - 2) a → p ≡ get_or walk (k - 1) p → b ≡ get_or walk k b
    → AreTold ((turns ++ turns_along n (take k walk)) ++ turn n a p b ∷ []) j → AreTold (turns ++ turns_along n (take (k + 1) walk)) j
passed-more n turns walk k a p b j some inside is_a is_p is_b told =
    subst (λ ts. AreTold ts j) (append_assoc turns (turns_along n (take k walk)) (turn n a p b ∷ [])
    ∙ ap (λ ts. turns ++ ts) (sym (along-more n walk k a p b some inside is_a is_p is_b))) told

pub passed-all : (n : ℕ) (turns : List Turn) (walk ring : List Place) (k : ℕ) (j : Junctions) → length walk ≤ k → walk ≡ ring ++ take 2 ring
    → AreTold (turns ++ turns_along n (take k walk)) j → AreTold (turns ++ turns_round n ring) j
passed-all n turns walk ring k j past is told = subst (λ ps. AreTold (turns ++ turns_along n ps) j) (take_all k walk past ∙ is) told

-- ---- ring after ring

turns-ring : (n : ℕ) (cs : List (List Place)) (c : List Place) → turns_of n (cs ++ c ∷ []) ≡ turns_of n cs ++ turns_round (n + length cs) c
turns-ring n [] c = let same : n ≡ n + 0 = omega arith in append-nil (turns_round n c) ∙ ap (λ m. turns_round m c) same
turns-ring n (d ∷ cs) c =
    let same : suc n + length cs ≡ n + suc (length cs) = omega arith in
    ap (λ ts. turns_round n d ++ ts) (turns-ring (suc n) cs c ∙ ap (λ m. turns_of (suc n) cs ++ turns_round m c) same)
    ∙ sym (append_assoc (turns_round n d) (turns_of (suc n) cs) (turns_round (n + suc (length cs)) c))

turns-below : (n : ℕ) (cs : List (List Place)) → All (λ t. t.ring < n + length cs) (turns_of n cs)
turns-below n [] = All-nil (λ t. t.ring < n + 0)
turns-below n (c ∷ cs) =
    All-append (λ t. t.ring < n + suc (length cs)) (turns_round n c) (turns_of (suc n) cs)
    (All-weaker (λ t. t.ring ≤ n) (λ t. t.ring < n + suc (length cs)) (λ t upto. omega arith) (turns_round n c)
    (along-rings n (c ++ take 2 c)))
    (All-weaker (λ t. t.ring < suc n + length cs) (λ t. t.ring < n + suc (length cs)) (λ t less. omega arith) (turns_of (suc n) cs)
    (turns-below (suc n) cs))

pub ring-passed : (cs : List (List Place)) (c : List Place) (k : ℕ) (j i : Junctions) → length cs ≡ k
    → ((turns : List Turn) → All (λ t. t.ring < k) turns → AreTold turns j → AreTold (turns ++ turns_round k c) i)
    → AreTold (turns_of 0 cs) j → AreTold (turns_of 0 (cs ++ c ∷ [])) i
ring-passed cs c k j i count pass told =
    let same : 0 + length cs ≡ k = omega arith in
    let below : All (λ t. t.ring < k) (turns_of 0 cs) = subst (λ m. All (λ t. t.ring < m) (turns_of 0 cs)) same (turns-below 0 cs) in
    subst (λ ts. AreTold ts i) (sym (turns-ring 0 cs c ∙ ap (λ m. turns_of 0 cs ++ turns_round m c) same)) (pass (turns_of 0 cs) below told)
