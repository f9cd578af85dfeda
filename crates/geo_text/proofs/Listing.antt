-- The entries of a list, one after another, in its text; and what is left of a list behind its next element.
use Rattle.std.specs.Prelude.{codes, slice_get}
use Rattle.std.proofs.Common.{◌≡◌, ◌∙◌, ℕ, zero, suc, ◌+◌, ◌<◌, ◌≤◌, List, [], ◌∷◌, ◌++◌, drop, length, get_or, map, append_assoc, add-one}
use Rattle.std.proofs.Common.{refl, sym, ap, arith, Some, ℤ, pos}
use Rattle.std.specs.Fmt.{signed_decimal}
use Rattle.std.proofs.lemmas.List.{drop_more, drop_all, append-nil, get_or-map}
use Rattle.topo_writer.specs.Texts.{behind_commas, list_text}
use Rattle.grid_exact.specs.Geometry.{Place}
use Rattle.geo_text.specs.Drafts.{ring_text, with_ring}
use Rattle.geo_text.specs.Written.{comma}

-- the text of the entries that are left, the first of which has this number
abbrev pub entries_left : ℕ → List (List ℕ) → List ℕ
entries_left zero [] = []
entries_left zero (text ∷ texts) = text ++ behind_commas texts
entries_left (suc k) texts = behind_commas texts

next-entry : (k : ℕ) (text : List ℕ) (texts : List (List ℕ)) → entries_left k (text ∷ texts) ≡ comma k ++ (text ++ behind_commas texts)
next-entry zero text texts = refl
next-entry (suc k) text texts = append_assoc (codes ",") text (behind_commas texts)

later-entries : (k : ℕ) (texts : List (List ℕ)) → entries_left (k + 1) texts ≡ behind_commas texts
later-entries k texts = let e : k + 1 ≡ suc k = omega arith in ap (λ n. entries_left n texts) e

none-left : (k : ℕ) → entries_left k [] ≡ []
none-left zero = refl
none-left (suc k) = refl

pub entry-more : (texts : List (List ℕ)) (k : ℕ) (before comma_after after text whole : List ℕ) → k < length texts
    → get_or texts k [] ≡ text → comma_after ≡ before ++ comma k → after ≡ comma_after ++ text
    → before ++ entries_left k (drop k texts) ≡ whole → after ++ entries_left (k + 1) (drop (k + 1) texts) ≡ whole
entry-more texts k before comma_after after text whole within here separated written all =
    let rest = drop (k + 1) texts in
    let split : entries_left k (drop k texts) ≡ comma k ++ (text ++ behind_commas rest) = ap (entries_left k)
    (drop_more texts k [] within ∙ ap (λ t. t ∷ rest) here) ∙ next-entry k text rest in
    ap (λ t. after ++ t) (later-entries k rest)
    ∙ ap (λ t. t ++ behind_commas rest) (written ∙ ap (λ t. t ++ text) separated)
    ∙ append_assoc (before ++ comma k) text (behind_commas rest)
    ∙ append_assoc before (comma k) (text ++ behind_commas rest)
    ∙ ap (λ t. before ++ t) (sym split)
    ∙ all

list-parts : (texts : List (List ℕ)) → list_text texts ≡ codes "[" ++ (entries_left 0 texts ++ codes "]")
list-parts [] = refl
list-parts (text ∷ texts) = append_assoc (codes "[" ++ text) (behind_commas texts) (codes "]")
    ∙ append_assoc (codes "[") text (behind_commas texts ++ codes "]")
    ∙ ap (λ t. codes "[" ++ t) (sym (append_assoc text (behind_commas texts) (codes "]")))

pub list-done : (texts : List (List ℕ)) (k : ℕ) (start now closed : List ℕ) → length texts ≤ k
    → now ++ entries_left k (drop k texts) ≡ (start ++ codes "[") ++ entries_left 0 texts → closed ≡ now ++ codes "]"
    → closed ≡ start ++ list_text texts
list-done texts k start now closed past all ended =
    let none : entries_left k (drop k texts) ≡ [] = ap (entries_left k) (drop_all k texts past) ∙ none-left k in
    let written : now ≡ (start ++ codes "[") ++ entries_left 0 texts = sym (append-nil now) ∙ ap (λ t. now ++ t) (sym none) ∙ all in
    ended ∙ ap (λ t. t ++ codes "]") written
    ∙ append_assoc (start ++ codes "[") (entries_left 0 texts) (codes "]")
    ∙ append_assoc start (codes "[") (entries_left 0 texts ++ codes "]")
    ∙ ap (λ t. start ++ t) (sym (list-parts texts))

pub number-entry : (ring : List ℤ) (k : ℕ) → k < length ring
    → get_or (map signed_decimal ring) k [] ≡ signed_decimal (get_or ring k (pos 0))
number-entry ring k within = get_or-map signed_decimal ring k (pos 0) [] within

drop-at_suc : {A : Type 0} (xs : List A) (i : ℕ) (x : A) → slice_get xs i ≡ Some x → drop i xs ≡ x ∷ drop (suc i) xs
drop-at_suc [] i x e = cc
drop-at_suc (a ∷ xs) zero x e = let same : a ≡ x = cc in rw same refl
drop-at_suc (a ∷ xs) (suc i) x e = drop-at_suc xs i x e

-- the element with a number, and those behind it
pub drop-at : {A : Type 0} (xs : List A) (i : ℕ) (x : A) → slice_get xs i ≡ Some x → drop i xs ≡ x ∷ drop (i + 1) xs
drop-at xs i x e = rw add-one (drop-at_suc xs i x e)

-- the next ring is written
pub ring-step : (rings : List (List ℤ)) (i : ℕ) (r : List ℤ) (text after : List ℕ) (points : List Place) → slice_get rings i ≡ Some r
    → after ≡ text ++ ring_text r
    → record { text = after; rings = drop (i + 1) rings; points = points } ≡ with_ring
    (record { text = text; rings = drop i rings; points = points })
ring-step rings i r text after points e same = rw (drop-at rings i r e, same) refl
