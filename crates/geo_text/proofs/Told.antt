-- Texts in UTF-8 that are JSON values: copied values, lists and objects.
use Rattle.std.specs.Prelude.{codes}
use Rattle.std.proofs.Common.{◌≡◌, ℕ, suc, ◌+◌, ◌<◌, ◌≤◌, max, Bool, true, List, [], ◌∷◌, ◌++◌, IsUtf8, refl, sym, ap, subst, ◌∙◌, arith}
use Rattle.std.proofs.Common.{append_assoc, append-nil}
use Rattle.std.specs.Str.{IsAscii}
use Rattle.std.proofs.lemmas.Str.{IsUtf8-append, IsUtf8-from_ascii}
use Rattle.std.proofs.lemmas.Str.Ascii.{IsAscii-nil, IsAscii-cons}
use Rattle.json_scan.specs.Grammar.{Value, EmptyList, FullList, Items, LastItem, NextItem, FullObject, Members, LastMember, NextMember}
use Rattle.json_scan.specs.Grammar.{value_then, items_then, members_then, IsValue, AreItems, AreMembers, value_depth, items_depth}
use Rattle.json_scan.specs.Grammar.{members_depth}
use Rattle.json_scan.specs.Tree.{Tree, Trees, NoTrees, NextTree, Entries, NoEntries, NextEntry, value_tree, items_trees, members_entries}
use Rattle.topo_writer.specs.Texts.{behind_commas, list_text}
use Rattle.topo_writer.proofs.TreeShapes.{IsListTree}
use Rattle.topo_writer.proofs.TextForms.{Spelled}
use Rattle.geo_text.proofs.Words.{IsObjectTree, StartsWith, IsEnd, are_letters, quoted, pieces, pieces-valid, pieces-mean, quoted-ascii}
use Rattle.geo_text.proofs.Words.{quoted-spelled}

-- a JSON value no deeper than this, in UTF-8, with this text, and such a tree wherever it stands
pub record Told (P : Tree → Type 0) (depth : ℕ) (text : List ℕ) : Type 0 where
  pub form : Value
  pub valid : IsValue form
  pub deep : value_depth form ≤ depth
  pub spelled : (rest : List ℕ) → value_then form rest ≡ text ++ rest
  pub utf8 : IsUtf8 text
  pub tree : (place : ℕ) → P (value_tree form place)

pub record ToldItems (Q : Trees → Type 0) (depth : ℕ) (text : List ℕ) : Type 0 where
  pub form : Items
  pub valid : AreItems form
  pub deep : items_depth form ≤ depth
  pub spelled : (rest : List ℕ) → items_then form rest ≡ text ++ rest
  pub utf8 : IsUtf8 text
  pub trees : (place : ℕ) → Q (items_trees form place)

pub record ToldMembers (Q : Entries → Type 0) (depth : ℕ) (text : List ℕ) : Type 0 where
  pub form : Members
  pub valid : AreMembers form
  pub deep : members_depth form ≤ depth
  pub spelled : (rest : List ℕ) → members_then form rest ≡ text ++ rest
  pub utf8 : IsUtf8 text
  pub entries : (place : ℕ) → Q (members_entries form place)

pub told-from : (P : Tree → Type 0) (depth : ℕ) (text : List ℕ) → Spelled P depth text → Told P depth text
told-from P depth text s = record {
  form = s.form;
  valid = s.valid;
  deep = s.deep;
  spelled = s.spelled;
  utf8 = IsUtf8-from_ascii text s.ascii;
  tree = s.tree;
}

pub told-so : (P Q : Tree → Type 0) (depth limit : ℕ) (text : List ℕ) → ((t : Tree) → P t → Q t) → depth ≤ limit → Told P depth text
    → Told Q limit text
told-so P Q depth limit text weaker within s =
    let deep = s.deep in
    record {
      form = s.form;
      valid = s.valid;
      deep = omega (arith, deep, within);
      spelled = s.spelled;
      utf8 = s.utf8;
      tree = λ place. weaker (value_tree s.form place) (s.tree place);
    }

-- ---- lists

abbrev utf8-byte : (b : ℕ) → b < 128 → IsUtf8 (b ∷ [])
utf8-byte b small = IsUtf8-from_ascii (b ∷ []) (IsAscii-cons b [] small IsAscii-nil)

pub utf8-behind : (b : ℕ) (text : List ℕ) → b < 128 → IsUtf8 text → IsUtf8 (b ∷ text)
utf8-behind b text small utf8 = IsUtf8-append (b ∷ []) text (utf8-byte b small) utf8

pub utf8-before : (text : List ℕ) (b : ℕ) → b < 128 → IsUtf8 text → IsUtf8 (text ++ b ∷ [])
utf8-before text b small utf8 = IsUtf8-append text (b ∷ []) utf8 (utf8-byte b small)

-- the texts of the values of a list
abbrev pub ToldTexts : (Trees → Type 0) → ℕ → List (List ℕ) → Type 0
ToldTexts Q depth [] = Q NoTrees
ToldTexts Q depth (text ∷ texts) = ToldItems Q depth (text ++ behind_commas texts)

pub texts-next : (P : Tree → Type 0) (R Q : Trees → Type 0) (a b : ℕ) (text : List ℕ) (texts : List (List ℕ))
    → ((t : Tree) (others : Trees) → P t → R others → Q (NextTree t others)) → Told P a text → ToldTexts R b texts
    → ToldTexts Q (max a b) (text ∷ texts)
texts-next P R Q a b text [] holds s none =
    let deep = s.deep in
    record {
      form = LastItem [] s.form [];
      valid = (tt, s.valid, tt);
      deep = omega (arith, deep);
      spelled = λ rest. s.spelled rest ∙ ap (λ (l : List ℕ). l ++ rest) (sym (append-nil text));
      utf8 = subst IsUtf8 (sym (append-nil text)) s.utf8;
      trees = λ place. holds (value_tree s.form (place + 0)) NoTrees (s.tree (place + 0)) none;
    }
texts-next P R Q a b text (other ∷ texts) holds s others =
    let more = other ++ behind_commas texts in
    let first : value_depth s.form ≤ a = s.deep in
    let rest_deep : items_depth others.form ≤ b = others.deep in
    record {
      form = NextItem [] s.form [] others.form;
      valid = (tt, s.valid, tt, others.valid);
      deep = omega (arith, first, rest_deep);
      spelled = λ rest. s.spelled (44 ∷ items_then others.form rest) ∙ ap (λ (l : List ℕ). text ++ 44 ∷ l) (others.spelled rest)
          ∙ sym (append_assoc text (44 ∷ more) rest);
      utf8 = IsUtf8-append text (44 ∷ more) s.utf8 (utf8-behind 44 more (omega arith) others.utf8);
      trees = λ place. holds (value_tree s.form (place + 0)) _ (s.tree (place + 0)) (others.trees _);
    }

pub list-told : (Q : Trees → Type 0) (depth : ℕ) (texts : List (List ℕ)) → ToldTexts Q depth texts
    → Told (IsListTree Q) (depth + 1) (list_text texts)
list-told Q depth [] holds = record {
  form = EmptyList [];
  valid = tt;
  deep = omega arith;
  spelled = λ rest. refl;
  utf8 = IsUtf8-from_ascii (91 ∷ 93 ∷ []) (IsAscii-cons 91 (93 ∷ []) (omega arith) (IsAscii-cons 93 [] (omega arith) IsAscii-nil));
  tree = λ place. holds;
}
list-told Q depth (first ∷ texts) s =
    let text = first ++ behind_commas texts in
    let deep = s.deep in
    record {
      form = FullList s.form;
      valid = s.valid;
      deep = omega (arith, deep);
      spelled = λ rest. ap (λ (l : List ℕ). 91 ∷ l) (s.spelled (93 ∷ rest) ∙ sym (append_assoc text (93 ∷ []) rest));
      utf8 = utf8-behind 91 (text ++ 93 ∷ []) (omega arith) (utf8-before text 93 (omega arith) s.utf8);
      tree = λ place. s.trees (place + 1);
    }

-- ---- objects

-- the members behind a first one, each behind a comma
pub data ToldMore (Q : Entries → Type 0) (depth : ℕ) : Type 0 where
  NoMore : Q NoEntries → ToldMore Q depth
  More : (text : List ℕ) → ToldMembers Q depth text → ToldMore Q depth

abbrev pub more_text : {Q : Entries → Type 0} {depth : ℕ} → ToldMore Q depth → List ℕ
more_text (NoMore holds) = []
more_text (More text s) = 44 ∷ text

-- the text of a member
abbrev pub member_text : List ℕ → List ℕ → List ℕ
member_text name text = quoted name ++ 58 ∷ text

regrouped : (name text more rest : List ℕ) → name ++ 58 ∷ (text ++ 44 ∷ (more ++ rest)) ≡ ((name ++ 58 ∷ text) ++ 44 ∷ more) ++ rest
regrouped name text more rest = sym (append_assoc (name ++ 58 ∷ text) (44 ∷ more) rest
    ∙ append_assoc name (58 ∷ text) (44 ∷ (more ++ rest)))

member-utf8 : (name text : List ℕ) → are_letters name ≡ true → IsUtf8 text → IsUtf8 (member_text name text)
member-utf8 name text letters utf8 = IsUtf8-append (quoted name) (58 ∷ text) (IsUtf8-from_ascii (quoted name) (quoted-ascii name letters))
    (utf8-behind 58 text (omega arith) utf8)

pub member-told : (P : Tree → Type 0) (Q : Entries → Type 0) (depth : ℕ) (name text : List ℕ) → are_letters name ≡ true → Told P depth text
    → (m : ToldMore Q depth)
    → ToldMembers (StartsWith name P Q) depth (member_text name text ++ more_text m)
member-told P Q depth name text letters s (NoMore holds) = record {
  form = LastMember [] (pieces name) [] [] s.form [];
  valid = (tt, pieces-valid name letters, tt, tt, s.valid, tt);
  deep = s.deep;
  spelled = λ rest.
      quoted-spelled name (58 ∷ value_then s.form rest)
      ∙ ap (λ (l : List ℕ). quoted name ++ 58 ∷ l) (s.spelled rest)
      ∙ sym (append_assoc (quoted name) (58 ∷ text) rest)
      ∙ ap (λ (l : List ℕ). l ++ rest) (sym (append-nil (member_text name text)));
  utf8 = subst IsUtf8 (sym (append-nil (member_text name text))) (member-utf8 name text letters s.utf8);
  entries = λ place. (pieces-mean name, s.tree _, holds);
}
member-told P Q depth name text letters s (More more others) =
    let first : value_depth s.form ≤ depth = s.deep in
    let rest_deep : members_depth others.form ≤ depth = others.deep in
    record {
      form = NextMember [] (pieces name) [] [] s.form [] others.form;
      valid = (tt, pieces-valid name letters, tt, tt, s.valid, tt, others.valid);
      deep = omega (arith, first, rest_deep);
      spelled = λ rest.
          quoted-spelled name (58 ∷ value_then s.form (44 ∷ members_then others.form rest))
          ∙ ap (λ (l : List ℕ). quoted name ++ 58 ∷ l)
          (s.spelled (44 ∷ members_then others.form rest) ∙ ap (λ (l : List ℕ). text ++ 44 ∷ l) (others.spelled rest))
          ∙ regrouped (quoted name) text more rest;
      utf8 = IsUtf8-append (member_text name text) (44 ∷ more) (member-utf8 name text letters s.utf8)
          (utf8-behind 44 more (omega arith) others.utf8);
      entries = λ place. (pieces-mean name, s.tree _, others.entries _);
    }

pub braced-told : (Q : Entries → Type 0) (depth : ℕ) (text : List ℕ) → ToldMembers Q depth text
    → Told (IsObjectTree Q) (depth + 1) (123 ∷ (text ++ 125 ∷ []))
braced-told Q depth text s =
    let deep = s.deep in
    record {
      form = FullObject s.form;
      valid = s.valid;
      deep = omega (arith, deep);
      spelled = λ rest. ap (λ (l : List ℕ). 123 ∷ l) (s.spelled (125 ∷ rest) ∙ sym (append_assoc text (125 ∷ []) rest));
      utf8 = utf8-behind 123 (text ++ 125 ∷ []) (omega arith) (utf8-before text 125 (omega arith) s.utf8);
      tree = λ place. s.entries (place + 1);
    }

members-so : (Q R : Entries → Type 0) (depth : ℕ) (text : List ℕ) → ((members : Entries) → Q members → R members) → ToldMembers Q depth text
    → ToldMembers R depth text
members-so Q R depth text weaker s = record {
  form = s.form;
  valid = s.valid;
  deep = s.deep;
  spelled = s.spelled;
  utf8 = s.utf8;
  entries = λ place. weaker (members_entries s.form place) (s.entries place);
}

-- the members behind a first one have this text
pub record ToldRest (Q : Entries → Type 0) (depth : ℕ) (text : List ℕ) : Type 0 where
  pub more : ToldMore Q depth
  pub same : more_text more ≡ text

pub rest-none : (Q : Entries → Type 0) (depth : ℕ) → Q NoEntries → ToldRest Q depth []
rest-none Q depth holds = record { more = NoMore holds; same = refl }

pub rest-member : (P : Tree → Type 0) (R Q : Entries → Type 0) (depth : ℕ) (name text more : List ℕ) → are_letters name ≡ true
    → ((members : Entries) → StartsWith name P R members → Q members) → Told P depth text → ToldRest R depth more
    → ToldRest Q depth ((44 ∷ member_text name text) ++ more)
rest-member P R Q depth name text more letters holds s rest = record {
  more = More (member_text name text ++ more_text rest.more)
      (members-so (StartsWith name P R) Q depth (member_text name text ++ more_text rest.more) holds
      (member-told P R depth name text letters s rest.more));
  same = ap (λ (l : List ℕ). 44 ∷ (member_text name text ++ l)) rest.same;
}

pub rest-last : (P : Tree → Type 0) (Q : Entries → Type 0) (depth : ℕ) (name text : List ℕ) → are_letters name ≡ true
    → ((members : Entries) → StartsWith name P IsEnd members → Q members) → Told P depth text
    → ToldRest Q depth (44 ∷ member_text name text)
rest-last P Q depth name text letters holds s =
    subst (ToldRest Q depth) (append-nil (44 ∷ member_text name text))
    (rest-member P IsEnd Q depth name text [] letters holds s (rest-none IsEnd depth tt))

-- an entry by its type and the members behind it
pub entry-told : (P : Tree → Type 0) (Q : Entries → Type 0) (depth : ℕ) (text more : List ℕ) → Told P depth text → ToldRest Q depth more
    → Told (IsObjectTree (StartsWith (codes "type") P Q)) (depth + 1) (123 ∷ ((member_text (codes "type") text ++ more) ++ 125 ∷ []))
entry-told P Q depth text more s rest =
    subst (λ (l : List ℕ). Told (IsObjectTree (StartsWith (codes "type") P Q)) (depth + 1)
    (123 ∷ ((member_text (codes "type") text ++ l) ++ 125 ∷ []))) rest.same
    (braced-told (StartsWith (codes "type") P Q) depth (member_text (codes "type") text ++ more_text rest.more)
    (member-told P Q depth (codes "type") text refl s rest.more))
