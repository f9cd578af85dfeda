-- Texts that are JSON values without white space: numbers, positions and lists.
use Rattle.std.specs.Prelude.{codes}
use Rattle.std.proofs.Common.{◌≡◌, ℕ, suc, ◌+◌, ◌^◌, ◌<◌, ◌≤◌, List, [], ◌∷◌, ◌++◌, map, ℤ, refl, sym, ap, subst, ◌∙◌, arith, append_assoc}
use Rattle.std.proofs.Common.{append-nil}
use Rattle.std.specs.Str.{IsAscii}
use Rattle.std.specs.List.{AllByRecursion}
use Rattle.std.specs.Fmt.{signed_decimal}
use Rattle.std.proofs.lemmas.Fmt.{IsAscii-signed}
use Rattle.std.proofs.lemmas.Str.{IsAscii-append}
use Rattle.std.proofs.lemmas.Str.Ascii.{IsAscii-nil, IsAscii-cons}
use lib.Signed.{mag}
use Rattle.grid_exact.specs.Geometry.{Place}
use Rattle.json_scan.specs.Grammar.{Value, Number, EmptyList, FullList, Items, LastItem, NextItem, value_then, items_then, IsValue}
use Rattle.json_scan.specs.Grammar.{AreItems, value_depth, items_depth}
use Rattle.json_scan.specs.Tree.{Tree, Trees, NoTrees, NextTree, value_tree, items_trees}
use Rattle.topo_writer.specs.Texts.{behind_commas, list_text, position_text}
use Rattle.topo_writer.proofs.TextNumbers.{number_form, form-is_number, form-spelled, form-whole}
use Rattle.topo_writer.proofs.TreeShapes.{IsNumberTree, IsListTree, AreTrees, IsPairTree}

-- a JSON value no deeper than this, with this text, and such a tree wherever it stands
pub record Spelled (P : Tree → Type 0) (depth : ℕ) (text : List ℕ) : Type 0 where
  pub form : Value
  pub valid : IsValue form
  pub deep : value_depth form ≤ depth
  pub spelled : (rest : List ℕ) → value_then form rest ≡ text ++ rest
  pub ascii : IsAscii text
  pub tree : (place : ℕ) → P (value_tree form place)

pub record SpelledItems (Q : Trees → Type 0) (depth : ℕ) (text : List ℕ) : Type 0 where
  pub form : Items
  pub valid : AreItems form
  pub deep : items_depth form ≤ depth
  pub spelled : (rest : List ℕ) → items_then form rest ≡ text ++ rest
  pub ascii : IsAscii text
  pub trees : (place : ℕ) → Q (items_trees form place)

-- ---- weaker words

pub read-so : (P Q : Tree → Type 0) (depth : ℕ) (text : List ℕ) → ((t : Tree) → P t → Q t) → Spelled P depth text → Spelled Q depth text
read-so P Q depth text weaker s = record {
  form = s.form;
  valid = s.valid;
  deep = s.deep;
  spelled = s.spelled;
  ascii = s.ascii;
  tree = λ place. weaker (value_tree s.form place) (s.tree place);
}

pub deeper : (P : Tree → Type 0) (depth limit : ℕ) (text : List ℕ) → depth ≤ limit → Spelled P depth text → Spelled P limit text
deeper P depth limit text within s =
    let deep = s.deep in
    record { form = s.form; valid = s.valid; deep = omega (arith, deep); spelled = s.spelled; ascii = s.ascii; tree = s.tree }

-- ---- numbers

pub number-spelled : (z : ℤ) → mag z ≤ 2 ^ 30 → Spelled (IsNumberTree z) 0 (signed_decimal z)
number-spelled z small =
    let fits : mag z < 2 ^ 63 = omega arith in
    record {
      form = Number (number_form z);
      valid = form-is_number z small;
      deep = omega arith;
      spelled = form-spelled z;
      ascii = IsAscii-signed z fits;
      tree = λ place. form-whole z small;
    }

-- ---- lists

last-item : (P : Tree → Type 0) (depth : ℕ) (text : List ℕ) → Spelled P depth text → (Q : Trees → Type 0)
    → ((t : Tree) → P t → Q (NextTree t NoTrees)) → SpelledItems Q depth (text ++ [])
last-item P depth text s Q holds = record {
  form = LastItem [] s.form [];
  valid = (tt, s.valid, tt);
  deep = s.deep;
  spelled = λ rest. s.spelled rest ∙ ap (λ (l : List ℕ). l ++ rest) (sym (append-nil text));
  ascii = subst IsAscii (sym (append-nil text)) s.ascii;
  trees = λ place. holds (value_tree s.form (place + 0)) (s.tree (place + 0));
}

next-item : (P : Tree → Type 0) (depth : ℕ) (text more : List ℕ) (R Q : Trees → Type 0) → Spelled P depth text → SpelledItems R depth more
    → ((t : Tree) (others : Trees) → P t → R others → Q (NextTree t others))
    → SpelledItems Q depth (text ++ 44 ∷ more)
next-item P depth text more R Q s others holds =
    let first : value_depth s.form ≤ depth = s.deep in
    let rest_deep : items_depth others.form ≤ depth = others.deep in
    record {
      form = NextItem [] s.form [] others.form;
      valid = (tt, s.valid, tt, others.valid);
      deep = omega (arith, first, rest_deep);
      spelled = λ rest. s.spelled (44 ∷ items_then others.form rest) ∙ ap (λ (l : List ℕ). text ++ 44 ∷ l) (others.spelled rest)
          ∙ sym (append_assoc text (44 ∷ more) rest);
      ascii = IsAscii-append text (44 ∷ more) s.ascii (IsAscii-cons 44 more (omega arith) others.ascii);
      trees = λ place. holds (value_tree s.form (place + 0)) _ (s.tree (place + 0)) (others.trees _);
    }

pub items-spelled : {A : Type 0} (P : A → Tree → Type 0) (text : A → List ℕ) (depth : ℕ) (x : A) (xs : List A)
    → Spelled (P x) depth (text x) → AllByRecursion (λ y. Spelled (P y) depth (text y)) xs
    → SpelledItems (AreTrees P (x ∷ xs)) depth (text x ++ behind_commas (map text xs))
items-spelled P text depth x [] s all = last-item (P x) depth (text x) s (AreTrees P (x ∷ [])) (λ t is. (is, tt))
items-spelled P text depth x (y ∷ ys) s all =
    next-item (P x) depth (text x) (text y ++ behind_commas (map text ys)) (AreTrees P (y ∷ ys)) (AreTrees P (x ∷ y ∷ ys)) s
    (items-spelled P text depth y ys all.0 all.1) (λ t others is are. (is, are))

bracketed : (Q : Trees → Type 0) (depth : ℕ) (text : List ℕ) → SpelledItems Q depth text
    → Spelled (IsListTree Q) (suc depth) (91 ∷ (text ++ 93 ∷ []))
bracketed Q depth text s =
    let deep = s.deep in
    record {
      form = FullList s.form;
      valid = s.valid;
      deep = omega (arith, deep);
      spelled = λ rest. ap (λ (l : List ℕ). 91 ∷ l) (s.spelled (93 ∷ rest) ∙ sym (append_assoc text (93 ∷ []) rest));
      ascii = IsAscii-cons 91 (text ++ 93 ∷ []) (omega arith) (IsAscii-append text (93 ∷ []) s.ascii
          (IsAscii-cons 93 [] (omega arith) IsAscii-nil));
      tree = λ place. s.trees (place + 1);
    }

-- the list of some values that are spelled
pub list-spelled : {A : Type 0} (P : A → Tree → Type 0) (text : A → List ℕ) (depth : ℕ) (x : A) (xs : List A) → Spelled (P x) depth (text x)
    → AllByRecursion (λ y. Spelled (P y) depth (text y)) xs
    → Spelled (IsListTree (AreTrees P (x ∷ xs))) (suc depth) (list_text (map text (x ∷ xs)))
list-spelled P text depth x xs s all = bracketed (AreTrees P (x ∷ xs)) depth (text x ++ behind_commas (map text xs))
    (items-spelled P text depth x xs s all)

empty-spelled : (Q : Trees → Type 0) (depth : ℕ) → Q NoTrees → Spelled (IsListTree Q) (suc depth) (list_text [])
empty-spelled Q depth holds = record {
  form = EmptyList [];
  valid = tt;
  deep = omega arith;
  spelled = λ rest. refl;
  ascii = IsAscii-cons 91 (93 ∷ []) (omega arith) (IsAscii-cons 93 [] (omega arith) IsAscii-nil);
  tree = λ place. holds;
}

-- the list of any values that are spelled
pub any_list-spelled : {A : Type 0} (P : A → Tree → Type 0) (text : A → List ℕ) (depth : ℕ) (xs : List A)
    → AllByRecursion (λ y. Spelled (P y) depth (text y)) xs → Spelled (IsListTree (AreTrees P xs)) (suc depth) (list_text (map text xs))
any_list-spelled P text depth [] all = empty-spelled (AreTrees P []) depth tt
any_list-spelled P text depth (x ∷ xs) all = list-spelled P text depth x xs all.0 all.1

-- ---- positions

two-joined : (a b : List ℕ) → list_text (a ∷ b ∷ []) ≡ codes "[" ++ a ++ codes "," ++ b ++ codes "]"
two-joined a b =
    ap (λ (l : List ℕ). 91 ∷ l) (ap (λ (l : List ℕ). (a ++ 44 ∷ l) ++ 93 ∷ []) (append-nil b)
    ∙ ap (λ (l : List ℕ). l ++ 93 ∷ []) (sym (append_assoc a (44 ∷ []) b)))

pub pair-spelled : (p : Place) → mag p.x ≤ 2 ^ 30 → mag p.y ≤ 2 ^ 30 → Spelled (IsPairTree p) 1 (position_text p)
pair-spelled p across up =
    subst (Spelled (IsPairTree p) 1) (two-joined (signed_decimal p.x) (signed_decimal p.y))
    (list-spelled IsNumberTree signed_decimal 0 p.x (p.y ∷ []) (number-spelled p.x across) (number-spelled p.y up, tt))
