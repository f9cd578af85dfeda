-- Three positions in a row, everywhere in a list.
use Rattle.std.proofs.Common.{◌≡◌, ◌∙◌, ◌+◌, ◌<◌, ℕ, List, [], ◌∷◌, ◌++◌, drop, get_or, length, take, append_assoc, ap, pos, refl, subst}
use Rattle.std.proofs.Common.{sym, take-append-drop}
use Rattle.std.proofs.lemmas.List.{drop_more, take_more}
use Rattle.grid_exact.specs.Geometry.{Place}
use Rattle.topo_build.specs.Cyclic.{closed_from}

-- each three positions in a row have the relation
abbrev pub EachTriple : (Place → Place → Place → Type 0) → List Place → Type 0
EachTriple P [] = Unit {0}
EachTriple P (a ∷ []) = Unit {0}
EachTriple P (a ∷ p ∷ []) = Unit {0}
EachTriple P (a ∷ p ∷ b ∷ ps) = P a p b × EachTriple P (p ∷ b ∷ ps)

pub triples-tail : (P : Place → Place → Place → Type 0) (u : Place) (ps : List Place) → EachTriple P (u ∷ ps) → EachTriple P ps
triples-tail P u [] h = tt
triples-tail P u (a ∷ []) h = tt
triples-tail P u (a ∷ b ∷ ps) h = h.1

pub triples-suffix : (P : Place → Place → Place → Type 0) (us ps : List Place) → EachTriple P (us ++ ps) → EachTriple P ps
triples-suffix P [] ps h = h
triples-suffix P (u ∷ us) ps h = triples-suffix P us ps (triples-tail P u (us ++ ps) h)

pub triples-prefix : (P : Place → Place → Place → Type 0) (ps us : List Place) → EachTriple P (ps ++ us) → EachTriple P ps
triples-prefix P [] us h = tt
triples-prefix P (a ∷ []) us h = tt
triples-prefix P (a ∷ p ∷ []) us h = tt
triples-prefix P (a ∷ p ∷ b ∷ ps) us h = (h.0, triples-prefix P (p ∷ b ∷ ps) us h.1)

-- two lists that have two positions in common
pub triples-joined : (P : Place → Place → Place → Type 0) (us : List Place) (a b : Place) (ps : List Place)
    → EachTriple P (us ++ a ∷ b ∷ []) → EachTriple P (a ∷ b ∷ ps) → EachTriple P (us ++ a ∷ b ∷ ps)
triples-joined P [] a b ps h k = k
triples-joined P (u ∷ []) a b ps h k = (h.0, k)
triples-joined P (u ∷ w ∷ []) a b ps h k = (h.0, triples-joined P (w ∷ []) a b ps h.1 k)
triples-joined P (u ∷ w ∷ z ∷ us) a b ps h k = (h.0, triples-joined P (w ∷ z ∷ us) a b ps h.1 k)

-- ---- once round

-- a cyclic list, begun at v
pub triples-round : (P : Place → Place → Place → Type 0) (xs : List Place) (v : Place) (ys : List Place)
    → EachTriple P ((xs ++ v ∷ ys) ++ take 2 (xs ++ v ∷ ys)) → EachTriple P (v ∷ (ys ++ (xs ++ v ∷ [])))
triples-round P [] v ys h =
    let split : v ∷ (ys ++ v ∷ take 1 ys) ≡ (v ∷ (ys ++ v ∷ [])) ++ take 1 ys =
    ap (λ ps. v ∷ ps) (sym (append_assoc ys (v ∷ []) (take 1 ys))) in
    triples-prefix P (v ∷ (ys ++ v ∷ [])) (take 1 ys) (subst (EachTriple P) split h)
triples-round P (x ∷ []) v ys h = triples-tail P x (v ∷ (ys ++ x ∷ v ∷ [])) h
triples-round P (x ∷ y ∷ xs) v ys h =
    let behind : (xs ++ v ∷ ys) ++ x ∷ y ∷ [] ≡ xs ++ v ∷ (ys ++ x ∷ y ∷ []) = append_assoc xs (v ∷ ys) (x ∷ y ∷ []) in
    let before : xs ++ v ∷ (ys ++ x ∷ y ∷ []) ≡ (xs ++ v ∷ []) ++ (ys ++ x ∷ y ∷ []) = sym (append_assoc xs (v ∷ []) (ys ++ x ∷ y ∷ [])) in
    let second = triples-suffix P (x ∷ y ∷ xs) (v ∷ (ys ++ x ∷ y ∷ [])) (subst (λ ps. EachTriple P (x ∷ y ∷ ps)) behind h) in
    let first = triples-prefix P (x ∷ y ∷ (xs ++ v ∷ [])) (ys ++ x ∷ y ∷ []) (subst (λ ps. EachTriple P (x ∷ y ∷ ps)) (behind ∙ before) h)
    in
    triples-joined P (v ∷ ys) x y (xs ++ v ∷ []) second first

-- the list and the list once round from the place
pub split_at : (c : List Place) (at : ℕ) (d : Place) → at < length c → c ≡ take at c ++ get_or c at d ∷ drop (at + 1) c
split_at c at d inside = sym (take-append-drop at c) ∙ ap (λ ps. take at c ++ ps) (drop_more c at d inside)

pub closed_is : (c : List Place) (at : ℕ) (d : Place) → at < length c
    → closed_from c at ≡ get_or c at d ∷ (drop (at + 1) c ++ (take at c ++ get_or c at d ∷ []))
closed_is c at d inside =
    let front = drop_more c at d inside in
    let back = take_more c at d inside in
    rw (front, back) refl

pub triples-closed : (P : Place → Place → Place → Type 0) (c : List Place) (at : ℕ) → at < length c → EachTriple P (c ++ take 2 c)
    → EachTriple P (closed_from c at)
triples-closed P c at inside h =
    let d : Place = record { x = pos 0; y = pos 0 } in
    let split = split_at c at d inside in
    subst (EachTriple P) (sym (closed_is c at d inside))
    (triples-round P (take at c) (get_or c at d) (drop (at + 1) c) (subst (λ ps. EachTriple P (ps ++ take 2 ps)) split h))
