-- What a part of the text adds, whatever stands before it.
use Rattle.std.specs.Prelude.{codes}
use Rattle.std.proofs.Common.{◌≡◌, ℕ, ◌+◌, max, Bool, true, false, List, [], ◌∷◌, ◌++◌, ℤ, refl, sym, ap, subst, ◌∙◌, append_assoc}
use Rattle.std.proofs.Common.{append-nil}
use Rattle.grid_exact.specs.Geometry.{Place}
use Rattle.json_scan.specs.Tree.{Extent, Tree, ListAt, Trees, NoTrees, NextTree}
use Rattle.topo_writer.specs.Texts.{behind_commas, list_text}
use Rattle.topo_writer.proofs.TreeShapes.{IsListTree}
use Rattle.geo_text.specs.Drafts.{Draft, written, with_comma, each_added, list_added}
use Rattle.geo_text.proofs.Told.{Told, ToldTexts, texts-next, list-told}
use Rattle.geo_text.proofs.Depths.{trees_depth}

abbrev pub draft : List ℕ → List (List ℤ) → List Place → Draft
draft text rings points = record { text = text; rings = rings; points = points }

-- with these rings and points still to be written the part adds a word, and leaves those
abbrev pub Adds : (Draft → Draft) → List (List ℤ) → List Place → List ℕ → List (List ℤ) → List Place → Type 0
Adds part rings points word rest left = (text : List ℕ) → part (draft text rings points) ≡ draft (text ++ word) rest left

pub same-draft : (rings : List (List ℤ)) (points : List Place) (a b : List ℕ) → a ≡ b → draft a rings points ≡ draft b rings points
same-draft rings points a b e = ap (λ (l : List ℕ). draft l rings points) e

pub nothing-adds : (rings : List (List ℤ)) (points : List Place) → Adds (λ d. d) rings points [] rings points
nothing-adds rings points text = same-draft rings points text (text ++ []) (sym (append-nil text))

pub written-adds : (word : List ℕ) (rings : List (List ℤ)) (points : List Place) → Adds (written word) rings points word rings points
written-adds word rings points text = refl

pub then-adds : (f g : Draft → Draft) (r : List (List ℤ)) (p : List Place) (v : List ℕ) (s : List (List ℤ)) (q : List Place) (w : List ℕ)
    (t : List (List ℤ)) (o : List Place) → Adds f r p v s q → Adds g s q w t o
    → Adds (λ d. g (f d)) r p (v ++ w) t o
then-adds f g r p v s q w t o a b text = ap g (a text) ∙ b (text ++ v)
    ∙ same-draft t o ((text ++ v) ++ w) (text ++ (v ++ w)) (append_assoc text v w)

-- a part adds a JSON value no deeper than this, with such a tree
pub record Done (part : Draft → Draft) (rings : List (List ℤ)) (points : List Place) (P : Tree → Type 0) (depth : ℕ) (rest : List (List ℤ))
    (left : List Place) : Type 0 where
  pub word : List ℕ
  pub adds : Adds part rings points word rest left
  pub told : Told P depth word

-- ---- lists

abbrev pub joined : Bool → List (List ℕ) → List ℕ
joined true [] = []
joined true (text ∷ texts) = text ++ behind_commas texts
joined false texts = behind_commas texts

-- each value adds a JSON value, and their trees are such
pub record DoneEach (one : Tree → Draft → Draft) (trees : Trees) (rings : List (List ℤ)) (points : List Place) (Q : Trees → Type 0)
    (depth : ℕ) (rest : List (List ℤ)) (left : List Place) : Type 0 where
  pub words : List (List ℕ)
  pub adds : (first : Bool) → Adds (each_added one first trees) rings points (joined first words) rest left
  pub told : ToldTexts Q depth words

pub none-done : (one : Tree → Draft → Draft) (rings : List (List ℤ)) (points : List Place) (Q : Trees → Type 0) (depth : ℕ) → Q NoTrees
    → DoneEach one NoTrees rings points Q depth rings points
none-done one rings points Q depth holds = record { words = []; adds = at_first; told = holds }
  where
    at_first : (first : Bool) → Adds (each_added one first NoTrees) rings points (joined first []) rings points
    at_first true = nothing-adds rings points
    at_first false = nothing-adds rings points

pub next-done : (one : Tree → Draft → Draft) (t : Tree) (others : Trees) (r : List (List ℤ)) (p : List Place) (P : Tree → Type 0)
    (R Q : Trees → Type 0) (a b : ℕ) (s : List (List ℤ)) (q : List Place) (rest : List (List ℤ)) (left : List Place)
    → ((u : Tree) (us : Trees) → P u → R us → Q (NextTree u us)) → Done (one t) r p P a s q → DoneEach one others s q R b rest left
    → DoneEach one (NextTree t others) r p Q (max a b) rest left
next-done one t others r p P R Q a b s q rest left holds item more = record {
  words = item.word ∷ more.words;
  adds = at_first;
  told = texts-next P R Q a b item.word more.words holds item.told more.told;
}
  where
    behind : Adds (λ d. each_added one false others (one t d)) r p (item.word ++ behind_commas more.words) rest left
    behind = then-adds (one t) (each_added one false others) r p item.word s q (behind_commas more.words) rest left item.adds
        (more.adds false)

    at_first : (first : Bool) → Adds (each_added one first (NextTree t others)) r p (joined first (item.word ∷ more.words)) rest left
    at_first true = behind
    at_first false = then-adds (written (codes ",")) (λ d. each_added one false others (one t d)) r p (codes ",") r p
        (item.word ++ behind_commas more.words) rest left (written-adds (codes ",") r p) behind

-- the bracketed list of what the values add
abbrev bracketed : (Tree → Draft → Draft) → Trees → Draft → Draft
bracketed one trees d = written (codes "]") (each_added one true trees (written (codes "[") d))

list-joined : (words : List (List ℕ)) → (codes "[" ++ joined true words) ++ codes "]" ≡ list_text words
list-joined [] = refl
list-joined (word ∷ words) = refl

brackets-add : (one : Tree → Draft → Draft) (trees : Trees) (r : List (List ℤ)) (p : List Place) (words : List (List ℕ))
    (rest : List (List ℤ)) (left : List Place) → Adds (each_added one true trees) r p (joined true words) rest left
    → Adds (bracketed one trees) r p (list_text words) rest left
brackets-add one trees r p words rest left inner text =
    let opened = then-adds (written (codes "[")) (each_added one true trees) r p (codes "[") r p (joined true words) rest left
    (written-adds (codes "[") r p) inner in
    then-adds (λ d. each_added one true trees (written (codes "[") d)) (written (codes "]")) r p (codes "[" ++ joined true words) rest left
    (codes "]") rest left opened (written-adds (codes "]") rest left) text
    ∙ same-draft rest left (text ++ ((codes "[" ++ joined true words) ++ codes "]")) (text ++ list_text words)
    (ap (λ (l : List ℕ). text ++ l) (list-joined words))

pub list-done : (one : Tree → Draft → Draft) (e : Extent) (trees : Trees) (r : List (List ℤ)) (p : List Place) (Q : Trees → Type 0)
    (depth : ℕ) (rest : List (List ℤ)) (left : List Place) → DoneEach one trees r p Q depth rest left
    → Done (list_added one (ListAt e trees)) r p (IsListTree Q) (depth + 1) rest left
list-done one e trees r p Q depth rest left each = record {
  word = list_text each.words;
  adds = brackets-add one trees r p each.words rest left (each.adds true);
  told = list-told Q depth each.words each.told;
}
