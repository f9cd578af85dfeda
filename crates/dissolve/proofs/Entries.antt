-- The entries of a list, one after another, in its text.
use Rattle.std.proofs.Common.{◌≡◌, ◌∙◌, ℕ, zero, suc, ◌+◌, ◌<◌, ◌≤◌, List, [], ◌∷◌, ◌++◌, drop, length, get_or, map, append_assoc, refl}
use Rattle.std.proofs.Common.{sym, ap, arith}
use Rattle.std.specs.Prelude.{codes}
use Rattle.std.specs.Fmt.{signed_decimal}
use Rattle.std.specs.Global.{Vec}
use Rattle.std.proofs.lemmas.List.{drop_more, drop_all, append-nil, get_or-map, length-map}
use Rattle.topo_writer.specs.Texts.{behind_commas, list_text}
use Rattle.dissolve.specs.Texts.{ring_text}
use Rattle.dissolve.specs.Walk.{reference, references, rings_of}
use Rattle.dissolve.specs.Written.{comma}
use Rattle.dissolve.specs.declared.step.Step.{Step}

-- the text of the entries that are left, the first of which has this number
abbrev pub entries_left : ℕ → List (List ℕ) → List ℕ
entries_left zero [] = []
entries_left zero (text ∷ texts) = text ++ behind_commas texts
entries_left (suc k) texts = behind_commas texts

next-entry : (k : ℕ) (text : List ℕ) (texts : List (List ℕ)) → entries_left k (text ∷ texts) ≡ comma k ++ (text ++ behind_commas texts)
next-entry zero text texts = refl
next-entry (suc k) text texts = append_assoc (codes ",") text (behind_commas texts)

later-entries : (k : ℕ) (texts : List (List ℕ)) → entries_left (k + 1) texts ≡ behind_commas texts
later-entries k texts = let e : k + 1 ≡ suc k = omega arith in ap (λ n. entries_left n texts) e

none-left : (k : ℕ) → entries_left k [] ≡ []
none-left zero = refl
none-left (suc k) = refl

pub entry-more : (texts : List (List ℕ)) (k : ℕ) (before comma_after after text whole : List ℕ) → k < length texts
    → get_or texts k [] ≡ text → comma_after ≡ before ++ comma k → after ≡ comma_after ++ text
    → before ++ entries_left k (drop k texts) ≡ whole → after ++ entries_left (k + 1) (drop (k + 1) texts) ≡ whole
entry-more texts k before comma_after after text whole within here separated written all =
    let rest = drop (k + 1) texts in
    let split : entries_left k (drop k texts) ≡ comma k ++ (text ++ behind_commas rest) =
    ap (entries_left k) (drop_more texts k [] within ∙ ap (λ t. t ∷ rest) here) ∙ next-entry k text rest in
    ap (λ t. after ++ t) (later-entries k rest)
    ∙ ap (λ t. t ++ behind_commas rest) (written ∙ ap (λ t. t ++ text) separated)
    ∙ append_assoc (before ++ comma k) text (behind_commas rest)
    ∙ append_assoc before (comma k) (text ++ behind_commas rest)
    ∙ ap (λ t. before ++ t) (sym split)
    ∙ all

list-parts : (texts : List (List ℕ)) → list_text texts ≡ codes "[" ++ (entries_left 0 texts ++ codes "]")
list-parts [] = refl
list-parts (text ∷ texts) = append_assoc (codes "[" ++ text) (behind_commas texts) (codes "]")
    ∙ append_assoc (codes "[") text (behind_commas texts ++ codes "]")
    ∙ ap (λ t. codes "[" ++ t) (sym (append_assoc text (behind_commas texts) (codes "]")))

pub list-done : (texts : List (List ℕ)) (k : ℕ) (start now closed : List ℕ) → length texts ≤ k
    → now ++ entries_left k (drop k texts) ≡ (start ++ codes "[") ++ entries_left 0 texts → closed ≡ now ++ codes "]"
    → closed ≡ start ++ list_text texts
list-done texts k start now closed past all ended =
    let none : entries_left k (drop k texts) ≡ [] = ap (entries_left k) (drop_all k texts past) ∙ none-left k in
    let written : now ≡ (start ++ codes "[") ++ entries_left 0 texts = sym (append-nil now) ∙ ap (λ t. now ++ t) (sym none) ∙ all in
    ended ∙ ap (λ t. t ++ codes "]") written
    ∙ append_assoc (start ++ codes "[") (entries_left 0 texts) (codes "]")
    ∙ append_assoc start (codes "[") (entries_left 0 texts ++ codes "]")
    ∙ ap (λ t. start ++ t) (sym (list-parts texts))

-- ---- the entries of rings

pub step-entry : (ring : List Step) (k : ℕ) (d : Step) → k < length ring
    → get_or (map signed_decimal (references ring)) k [] ≡ signed_decimal (reference (get_or ring k d))
step-entry ring k d within =
    let long = length-map ring reference in
    get_or-map signed_decimal (references ring) k (reference d) [] (omega (arith, long, within))
    ∙ ap signed_decimal (get_or-map reference ring k d (reference d) within)

pub ring-entry : (rings : List (Vec Step)) (k : ℕ) (ring : Vec Step) (steps : List Step) → k < length rings → ring ≡ get_or rings k ring
    → steps ≡ ring.items → get_or (map ring_text (rings_of rings)) k [] ≡ ring_text (references steps)
ring-entry rings k ring steps within here same =
    let long = length-map rings (λ (v : Vec Step). references v.items) in
    get_or-map ring_text (rings_of rings) k (references ring.items) [] (omega (arith, long, within))
    ∙ ap ring_text (get_or-map (λ (v : Vec Step). references v.items) rings k ring (references ring.items) within
    ∙ ap (λ (v : Vec Step). references v.items) (sym here))
    ∙ ap (λ xs. ring_text (references xs)) (sym same)

pub step-within : (ring : List Step) (k : ℕ) → k < length ring → k < length (map signed_decimal (references ring))
step-within ring k within = let long = length-map ring reference in let longer = length-map (references ring) signed_decimal in
    omega (arith, long, longer, within)

pub ring-within : (rings : List (Vec Step)) (k : ℕ) → k < length rings → k < length (map ring_text (rings_of rings))
ring-within rings k within = let long = length-map rings (λ (v : Vec Step). references v.items) in let longer =
    length-map (rings_of rings) ring_text in omega (arith, long, longer, within)

pub few-steps : (ring : List Step) (k : ℕ) → length ring ≤ k → length (map signed_decimal (references ring)) ≤ k
few-steps ring k past = let long = length-map ring reference in let longer = length-map (references ring) signed_decimal in
    omega (arith, long, longer, past)

pub few-rings : (rings : List (Vec Step)) (k : ℕ) → length rings ≤ k → length (map ring_text (rings_of rings)) ≤ k
few-rings rings k past = let long = length-map rings (λ (v : Vec Step). references v.items) in let longer =
    length-map (rings_of rings) ring_text in omega (arith, long, longer, past)
