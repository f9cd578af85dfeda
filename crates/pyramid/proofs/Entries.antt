-- The entries of a list, one after another, in its text.
use Rattle.std.proofs.Common.{◌≡◌, ◌∙◌, ℕ, zero, suc, ℤ, pos, ◌+◌, ◌<◌, ◌≤◌, List, [], ◌∷◌, ◌++◌, drop, length, get_or, map, append_assoc}
use Rattle.std.proofs.Common.{refl, sym, ap, arith}
use Rattle.std.specs.Prelude.{codes}
use Rattle.std.specs.Fmt.{signed_decimal}
use Rattle.std.specs.Global.{Vec}
use Rattle.std.proofs.lemmas.List.{drop_more, drop_all, append-nil, get_or-map, length-map}
use Rattle.topo_writer.specs.Texts.{behind_commas, list_text}
use Rattle.pyramid.specs.Places.{lists_of}
use Rattle.pyramid.specs.Texts.{numbers_text}
use Rattle.pyramid.specs.Written.{comma}

-- the text of the entries that are left, the first of which has this number
abbrev pub entries_left : ℕ → List (List ℕ) → List ℕ
entries_left zero [] = []
entries_left zero (text ∷ texts) = text ++ behind_commas texts
entries_left (suc k) texts = behind_commas texts

next-entry : (k : ℕ) (text : List ℕ) (texts : List (List ℕ)) → entries_left k (text ∷ texts) ≡ comma k ++ (text ++ behind_commas texts)
next-entry zero text texts = refl
next-entry (suc k) text texts = append_assoc (codes ",") text (behind_commas texts)

later-entries : (k : ℕ) (texts : List (List ℕ)) → entries_left (k + 1) texts ≡ behind_commas texts
later-entries k texts = let e : k + 1 ≡ suc k = omega arith in ap (λ n. entries_left n texts) e

none-left : (k : ℕ) → entries_left k [] ≡ []
none-left zero = refl
none-left (suc k) = refl

pub entry-more : (texts : List (List ℕ)) (k : ℕ) (before comma_after after text whole : List ℕ) → k < length texts
    → get_or texts k [] ≡ text → comma_after ≡ before ++ comma k → after ≡ comma_after ++ text
    → before ++ entries_left k (drop k texts) ≡ whole → after ++ entries_left (k + 1) (drop (k + 1) texts) ≡ whole
entry-more texts k before comma_after after text whole within here separated written all =
    let rest = drop (k + 1) texts in
    let split : entries_left k (drop k texts) ≡ comma k ++ (text ++ behind_commas rest) =
    ap (entries_left k) (drop_more texts k [] within ∙ ap (λ t. t ∷ rest) here) ∙ next-entry k text rest in
    ap (λ t. after ++ t) (later-entries k rest)
    ∙ ap (λ t. t ++ behind_commas rest) (written ∙ ap (λ t. t ++ text) separated)
    ∙ append_assoc (before ++ comma k) text (behind_commas rest)
    ∙ append_assoc before (comma k) (text ++ behind_commas rest)
    ∙ ap (λ t. before ++ t) (sym split)
    ∙ all

list-parts : (texts : List (List ℕ)) → list_text texts ≡ codes "[" ++ (entries_left 0 texts ++ codes "]")
list-parts [] = refl
list-parts (text ∷ texts) = append_assoc (codes "[" ++ text) (behind_commas texts) (codes "]")
    ∙ append_assoc (codes "[") text (behind_commas texts ++ codes "]")
    ∙ ap (λ t. codes "[" ++ t) (sym (append_assoc text (behind_commas texts) (codes "]")))

pub list-done : (texts : List (List ℕ)) (k : ℕ) (start now closed : List ℕ) → length texts ≤ k
    → now ++ entries_left k (drop k texts) ≡ (start ++ codes "[") ++ entries_left 0 texts → closed ≡ now ++ codes "]"
    → closed ≡ start ++ list_text texts
list-done texts k start now closed past all ended =
    let none : entries_left k (drop k texts) ≡ [] = ap (entries_left k) (drop_all k texts past) ∙ none-left k in
    let written : now ≡ (start ++ codes "[") ++ entries_left 0 texts = sym (append-nil now) ∙ ap (λ t. now ++ t) (sym none) ∙ all in
    ended ∙ ap (λ t. t ++ codes "]") written
    ∙ append_assoc (start ++ codes "[") (entries_left 0 texts) (codes "]")
    ∙ append_assoc start (codes "[") (entries_left 0 texts ++ codes "]")
    ∙ ap (λ t. start ++ t) (sym (list-parts texts))

-- ---- the entries of bounds, of numbers and of lists of numbers

pub bound-entry : (bounds : List ℤ) (k : ℕ) (d : ℤ) → k < length bounds
    → get_or (map signed_decimal bounds) k [] ≡ signed_decimal (get_or bounds k d)
bound-entry bounds k d within = get_or-map signed_decimal bounds k d [] within

pub number-entry : (numbers : List ℕ) (k d : ℕ) → k < length numbers
    → get_or (map (λ n. signed_decimal (pos n)) numbers) k [] ≡ signed_decimal (pos (get_or numbers k d))
number-entry numbers k d within = get_or-map (λ n. signed_decimal (pos n)) numbers k d [] within

pub list-entry : (lists : List (Vec ℕ)) (k : ℕ) (list : Vec ℕ) (numbers : List ℕ) → k < length lists → list ≡ get_or lists k list
    → numbers ≡ list.items → get_or (map numbers_text (lists_of lists)) k [] ≡ numbers_text numbers
list-entry lists k list numbers within here same =
    let long = length-map lists (λ (v : Vec ℕ). v.items) in
    get_or-map numbers_text (lists_of lists) k list.items [] (omega (arith, long, within))
    ∙ ap numbers_text (get_or-map (λ (v : Vec ℕ). v.items) lists k list list.items within ∙ ap (λ (v : Vec ℕ). v.items) (sym here))
    ∙ ap numbers_text (sym same)

pub bound-within : (bounds : List ℤ) (k : ℕ) → k < length bounds → k < length (map signed_decimal bounds)
bound-within bounds k within = let long = length-map bounds signed_decimal in omega (arith, long, within)

pub number-within : (numbers : List ℕ) (k : ℕ) → k < length numbers → k < length (map (λ n. signed_decimal (pos n)) numbers)
number-within numbers k within = let long = length-map numbers (λ n. signed_decimal (pos n)) in omega (arith, long, within)

pub list-within : (lists : List (Vec ℕ)) (k : ℕ) → k < length lists → k < length (map numbers_text (lists_of lists))
list-within lists k within = let long = length-map lists (λ (v : Vec ℕ). v.items) in let longer =
    length-map (lists_of lists) numbers_text in omega (arith, long, longer, within)

pub few-bounds : (bounds : List ℤ) (k : ℕ) → length bounds ≤ k → length (map signed_decimal bounds) ≤ k
few-bounds bounds k past = let long = length-map bounds signed_decimal in omega (arith, long, past)

pub few-numbers : (numbers : List ℕ) (k : ℕ) → length numbers ≤ k → length (map (λ n. signed_decimal (pos n)) numbers) ≤ k
few-numbers numbers k past = let long = length-map numbers (λ n. signed_decimal (pos n)) in omega (arith, long, past)

pub few-lists : (lists : List (Vec ℕ)) (k : ℕ) → length lists ≤ k → length (map numbers_text (lists_of lists)) ≤ k
few-lists lists k past = let long = length-map lists (λ (v : Vec ℕ). v.items) in let longer = length-map (lists_of lists) numbers_text in
    omega (arith, long, longer, past)
