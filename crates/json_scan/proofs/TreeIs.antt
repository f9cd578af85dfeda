-- A node stands for one tree only: the one that its number gives.
use Rattle.std.proofs.Common.{◌<◌, ◌≡◌, ℕ, zero, suc, ◌+◌, ◌*◌, ◌≤◌, List, [], ◌∷◌, length, drop, Option, Some, refl, sym, ap, subst, ◌∙◌}
use Rattle.std.proofs.Common.{arith}
use Rattle.std.specs.List.{AllByRecursion}
use Rattle.std.proofs.Common.{inl, inr, true, false, nat_eq, bytes_eq}
use Rattle.std.proofs.lemmas.Bool.{cond-true, cond-false, cases_Bool, eqb-true, ne_eqb, eq-eqb}
use Rattle.json_scan.specs.declared.node.Kind.{Kind}
use Rattle.json_scan.specs.declared.node.Kind.TheVariants as kind
use Rattle.json_scan.specs.declared.whole.Whole.{Whole}
use Rattle.json_scan.specs.Grammar.{Piece, IsPiece, piece_then, pieces_then, quoted_then}
use Rattle.json_scan.specs.Whole.{read_whole}
use Rattle.json_scan.specs.View.{ScanView, symbol, symbols}
use Rattle.json_scan.specs.Tree.{Extent, Tree, NullAt, FalseAt, TrueAt, NumberAt, TextAt, ListAt, ObjectAt, Trees, NoTrees, NextTree}
use Rattle.json_scan.specs.Tree.{Entries, NoEntries, NextEntry}
use Rattle.json_scan.specs.Tree.{kind_of, extent_of, node_at, after_at, IsNode, SpellsText, NodeIs, NodesAre, EntriesAre, HasTree}
use Rattle.json_scan.specs.Tree.{named, at_first, at_second, lookup, NowhereIn, OnceIn, TwiceIn}
use Rattle.json_scan.specs.Left.{HasItems, HasEntries}
use Rattle.json_scan.specs.Parts.{is_text, members_in, items_in, number_in, are_few}
use Rattle.json_scan.specs.TreeAt.{place_at, bytes_at, read_word, word_from, word_of, word_at, shaped, tree_by, trees_by, entries_by}
use Rattle.json_scan.specs.TreeAt.{tree_of, trees_of, entries_of}
use Rattle.json_scan.proofs.Nodes.{tree-node, number-spelled, text-spelled}
use Rattle.json_scan.proofs.Items.{nodes-rise, item-here, no_item, has-next}
use Rattle.json_scan.proofs.Members.{entries-rise, entry-here, no_entry, below}
use Rattle.json_scan.proofs.Means.{piece-reads, piece-drop, piece-long, piece-wide}
use Rattle.json_scan.proofs.Wholes.{whole-law}

-- ---- texts

pieces-read : (n : ℕ) (ps : List Piece) → AllByRecursion IsPiece ps → length (pieces_then ps (34 ∷ [])) ≤ n
    → read_word n (pieces_then ps (34 ∷ [])) ≡ symbols ps
unfolding read_word
pieces-read zero [] fits le = refl
pieces-read (suc n) [] fits le = refl
pieces-read zero (p ∷ ps) fits le = absurd (omega (arith, le, piece-long p (pieces_then ps (34 ∷ [])), piece-wide p))
pieces-read (suc n) (p ∷ ps) fits le =
    let rest = pieces_then ps (34 ∷ []) in
    ap (λ (o : Option (ℕ × ℕ)). word_from o (λ (w : ℕ). read_word n (drop w (piece_then p rest)))) (piece-reads p rest fits.0)
    ∙ ap (λ (l : List ℕ). symbol p ∷ read_word n l) (piece-drop p rest)
    ∙ ap (λ (l : List ℕ). symbol p ∷ l) (pieces-read n ps fits.1 (omega (arith, le, piece-long p rest, piece-wide p)))

word-is : (s : ScanView) (k : ℕ) (e : Extent) (word : List ℕ) → IsNode s k kind.Text e → SpellsText s e word → word_of (bytes_at s k) ≡ word
word-is s k e word node spells =
    let h = text-spelled s k e word (bytes_at s k) refl node spells in
    let long : length (bytes_at s k) ≡ length (quoted_then h.0 []) = ap length h.2 in
    ap (λ (l : List ℕ). read_word (length (bytes_at s k)) (drop 1 l)) h.2
    ∙ pieces-read (length (bytes_at s k)) h.0 h.1 (omega (arith, long)) ∙ h.3

place-is : (s : ScanView) (k : ℕ) (a : Kind) (e : Extent) → IsNode s k a e → place_at s k ≡ e
place-is s k a e node = ap (λ (i : ℕ). record { start = i; end = (node_at s k).end }) node.its_start
    ∙ ap (λ (i : ℕ). record { start = e.start; end = i }) node.its_end

-- ---- trees

shape : (s : ScanView) (k : ℕ) (a : Kind) (e : Extent) (n : ℕ) → IsNode s k a e
    → tree_by (suc n) s k ≡ shaped a (place_at s k) (read_whole (bytes_at s k)) (word_of (bytes_at s k))
    (trees_by n s (k + 1) (after_at s k)) (entries_by n s (k + 1) (after_at s k))
unfolding tree_by
shape s k a e n node =
    ap (λ (b : Kind). shaped b (place_at s k) (read_whole (bytes_at s k)) (word_of (bytes_at s k)) (trees_by n s (k + 1) (after_at s k))
    (entries_by n s (k + 1) (after_at s k))) node.its_kind

mutual
  unfolding tree_by

  tree-by : (n : ℕ) (s : ScanView) (k : ℕ) (t : Tree) → NodeIs s k t → 2 * length s.nodes ≤ n + 2 * k → tree_by n s k ≡ t
  tree-by zero s k t is fuel = absurd (omega (arith, (tree-node s k t is).within, fuel))
  tree-by (suc n) s k (NullAt e) is fuel = shape s k kind.Null e n is ∙ ap (λ (p : Extent). NullAt p) (place-is s k kind.Null e is)
  tree-by (suc n) s k (FalseAt e) is fuel = shape s k kind.False e n is ∙ ap (λ (p : Extent). FalseAt p) (place-is s k kind.False e is)
  tree-by (suc n) s k (TrueAt e) is fuel = shape s k kind.True e n is ∙ ap (λ (p : Extent). TrueAt p) (place-is s k kind.True e is)
  tree-by (suc n) s k (NumberAt e whole) is fuel =
      let h = number-spelled s k e whole (bytes_at s k) refl is in
      shape s k kind.Number e n is.0 ∙ ap (λ (p : Extent). NumberAt p (read_whole (bytes_at s k))) (place-is s k kind.Number e is.0)
      ∙ ap (λ (w : Whole). NumberAt e w) (ap read_whole h.2 ∙ whole-law h.0 h.1 ∙ h.3)
  tree-by (suc n) s k (TextAt e word) is fuel =
      shape s k kind.Text e n is.0 ∙ ap (λ (p : Extent). TextAt p (word_of (bytes_at s k))) (place-is s k kind.Text e is.0)
      ∙ ap (λ (w : List ℕ). TextAt e w) (word-is s k e word is.0 is.1)
  tree-by (suc n) s k (ListAt e trees) is fuel =
      shape s k kind.List e n is.0 ∙ ap (λ (p : Extent). ListAt p (trees_by n s (k + 1) (after_at s k))) (place-is s k kind.List e is.0)
      ∙ ap (λ (ts : Trees). ListAt e ts) (trees-by n s (k + 1) (after_at s k) trees is.1 (omega (arith, fuel)))
  tree-by (suc n) s k (ObjectAt e members) is fuel =
      shape s k kind.Object e n is.0 ∙ ap (λ (p : Extent). ObjectAt p (entries_by n s (k + 1) (after_at s k)))
      (place-is s k kind.Object e is.0)
      ∙ ap (λ (ms : Entries). ObjectAt e ms) (entries-by n s (k + 1) (after_at s k) members is.1 (omega (arith, fuel)))

  trees-by : (n : ℕ) (s : ScanView) (k end : ℕ) (trees : Trees) → NodesAre s k end trees → 2 * length s.nodes + 1 ≤ n + 2 * k
      → trees_by n s k end ≡ trees
  trees-by zero s k end NoTrees are fuel = refl
  trees-by (suc n) s k end NoTrees are fuel = cond-true _ _ _ (eq-eqb k end are)
  trees-by zero s k end (NextTree t others) are fuel = absurd (omega (arith, (tree-node s k t are.0).within, fuel))
  trees-by (suc n) s k end (NextTree t others) are fuel =
      let node = tree-node s k t are.0 in
      let rise = nodes-rise s (after_at s k) end others are.1 in
      cond-false _ _ _ (ne_eqb k end (λ e. omega (arith, e, node.further, rise)))
      ∙ ap (λ (u : Tree). NextTree u (trees_by n s (after_at s k) end)) (tree-by n s k t are.0 (omega (arith, fuel)))
      ∙ ap (λ (ts : Trees). NextTree t ts) (trees-by n s (after_at s k) end others are.1 (omega (arith, fuel, node.further)))

  entries-by : (n : ℕ) (s : ScanView) (k end : ℕ) (members : Entries) → EntriesAre s k end members → 2 * length s.nodes + 1 ≤ n + 2 * k
      → entries_by n s k end ≡ members
  entries-by zero s k end NoEntries are fuel = refl
  entries-by (suc n) s k end NoEntries are fuel = cond-true _ _ _ (eq-eqb k end are)
  entries-by zero s k end (NextEntry e word t others) are fuel = absurd (omega (arith, are.0.within, fuel))
  entries-by (suc n) s k end (NextEntry e word t others) are fuel =
      let node = tree-node s (k + 1) t are.2 in
      let rise = entries-rise s (after_at s (k + 1)) end others are.3 in
      cond-false _ _ _ (ne_eqb k end (λ same. omega (arith, same, node.further, rise)))
      ∙ ap (λ (p : Extent). NextEntry p (word_of (bytes_at s k)) (tree_by n s (k + 1)) (entries_by n s (after_at s (k + 1)) end))
      (place-is s k kind.Text e are.0)
      ∙ ap (λ (w : List ℕ). NextEntry e w (tree_by n s (k + 1)) (entries_by n s (after_at s (k + 1)) end)) (word-is s k e word are.0 are.1)
      ∙ ap (λ (u : Tree). NextEntry e word u (entries_by n s (after_at s (k + 1)) end)) (tree-by n s (k + 1) t are.2 (omega (arith, fuel)))
      ∙ ap (λ (ms : Entries). NextEntry e word t ms)
      (entries-by n s (after_at s (k + 1)) end others are.3 (omega (arith, fuel, node.further)))

pub tree-is : (s : ScanView) (k : ℕ) (t : Tree) → NodeIs s k t → tree_of s k ≡ t
unfolding tree_of
tree-is s k t is = tree-by (2 * length s.nodes) s k t is (omega arith)

pub trees-are : (s : ScanView) (k end : ℕ) (trees : Trees) → NodesAre s k end trees → trees_of s k end ≡ trees
unfolding trees_of
trees-are s k end trees are = trees-by (2 * length s.nodes + 1) s k end trees are (omega arith)

pub entries-are : (s : ScanView) (k end : ℕ) (members : Entries) → EntriesAre s k end members → entries_of s k end ≡ members
unfolding entries_of
entries-are s k end members are = entries-by (2 * length s.nodes + 1) s k end members are (omega arith)

pub tree-here : (s : ScanView) (k : ℕ) → HasTree s k → NodeIs s k (tree_of s k)
tree-here s k has = subst (NodeIs s k) (sym (tree-is s k has.0 has.1)) has.1

pub trees-here : (s : ScanView) (k end : ℕ) → HasItems s k end → NodesAre s k end (trees_of s k end)
trees-here s k end has = subst (NodesAre s k end) (sym (trees-are s k end has.0 has.1)) has.1

-- ---- a tree by the kind of its node

pub record HasShape (s : ScanView) (k : ℕ) (a : Kind) : Type 0 where
  pub trees : Trees
  pub members : Entries
  pub is : tree_of s k ≡ shaped a (place_at s k) (read_whole (bytes_at s k)) (word_at s k) trees members

shape-by : (n : ℕ) (s : ScanView) (k : ℕ) (a : Kind) → 0 < n → (node_at s k).kind ≡ a
    → (trees : Trees) × (members : Entries)
    × (tree_by n s k ≡ shaped a (place_at s k) (read_whole (bytes_at s k)) (word_at s k) trees members)
unfolding tree_by
shape-by zero s k a some e = absurd (omega (arith, some))
shape-by (suc n) s k a some e =
    let trees = trees_by n s (k + 1) (after_at s k) in
    let members = entries_by n s (k + 1) (after_at s k) in
    (trees, members, ap (λ (b : Kind). shaped b (place_at s k) (read_whole (bytes_at s k)) (word_at s k) trees members) e)

pub shape-of : (s : ScanView) (k : ℕ) (a : Kind) → k < length s.nodes → (node_at s k).kind ≡ a → HasShape s k a
unfolding tree_of
shape-of s k a within e =
    let h = shape-by (2 * length s.nodes) s k a (omega (arith, within)) e in
    record { trees = h.0; members = h.1; is = h.2 }

shape-place : (a : Kind) (e : Extent) (whole : Whole) (word : List ℕ) (trees : Trees) (members : Entries)
    → extent_of (shaped a e whole word trees members) ≡ e
shape-place kind.Null e whole word trees members = refl
shape-place kind.False e whole word trees members = refl
shape-place kind.True e whole word trees members = refl
shape-place kind.Number e whole word trees members = refl
shape-place kind.Text e whole word trees members = refl
shape-place kind.List e whole word trees members = refl
shape-place kind.Object e whole word trees members = refl

shape-kind : (a : Kind) (e : Extent) (whole : Whole) (word : List ℕ) (trees : Trees) (members : Entries)
    → kind_of (shaped a e whole word trees members) ≡ a
shape-kind kind.Null e whole word trees members = refl
shape-kind kind.False e whole word trees members = refl
shape-kind kind.True e whole word trees members = refl
shape-kind kind.Number e whole word trees members = refl
shape-kind kind.Text e whole word trees members = refl
shape-kind kind.List e whole word trees members = refl
shape-kind kind.Object e whole word trees members = refl

pub extent-is : (s : ScanView) (k : ℕ) → k < length s.nodes → place_at s k ≡ extent_of (tree_of s k)
extent-is s k within =
    let h = shape-of s k (node_at s k).kind within refl in
    sym (ap extent_of h.is ∙ shape-place (node_at s k).kind (place_at s k) (read_whole (bytes_at s k)) (word_at s k) h.trees h.members)

pub kind-is : (s : ScanView) (k : ℕ) → k < length s.nodes → (node_at s k).kind ≡ kind_of (tree_of s k)
kind-is s k within =
    let h = shape-of s k (node_at s k).kind within refl in
    sym (ap kind_of h.is ∙ shape-kind (node_at s k).kind (place_at s k) (read_whole (bytes_at s k)) (word_at s k) h.trees h.members)

pub number-some : (s : ScanView) (k : ℕ) → k < length s.nodes → (node_at s k).kind ≡ kind.Number
    → Some (read_whole (bytes_at s k)) ≡ number_in (tree_of s k)
number-some s k within a = sym (ap number_in (shape-of s k kind.Number within a).is)

pub text-same : (s : ScanView) (k : ℕ) (word : List ℕ) → k < length s.nodes → (node_at s k).kind ≡ kind.Text
    → bytes_eq (word_at s k) word ≡ is_text word (tree_of s k)
text-same s k word within a = sym (ap (is_text word) (shape-of s k kind.Text within a).is)

-- the bytes of a Text are those of pieces, which mean its word
pub text-pieces : (s : ScanView) (k : ℕ) → HasTree s k → k < length s.nodes → (node_at s k).kind ≡ kind.Text
    → (ps : List Piece) × AllByRecursion IsPiece ps × (bytes_at s k ≡ quoted_then ps []) × (symbols ps ≡ word_at s k)
text-pieces s k has within a =
    let is : NodeIs s k (TextAt (place_at s k) (word_at s k)) =
    subst (NodeIs s k) (shape-of s k kind.Text within a).is (tree-here s k has) in
    text-spelled s k (place_at s k) (word_at s k) (bytes_at s k) refl is.0 is.1

-- ---- from one value of a List to the next

pub record IsListHere (s : ScanView) (k : ℕ) : Type 0 where
  pub has : HasItems s (k + 1) (after_at s k)
  pub some : Some (trees_of s (k + 1) (after_at s k)) ≡ items_in (tree_of s k)

pub list-here : (s : ScanView) (k : ℕ) → HasTree s k → k < length s.nodes → (node_at s k).kind ≡ kind.List → IsListHere s k
list-here s k has within a =
    let h = shape-of s k kind.List within a in
    let is : NodeIs s k (ListAt (place_at s k) h.trees) = subst (NodeIs s k) h.is (tree-here s k has) in
    record {
      has = (h.trees, is.1);
      some = ap (λ (ts : Trees). Some ts) (trees-are s (k + 1) (after_at s k) h.trees is.1) ∙ sym (ap items_in h.is);
    }

pub rest-none : (s : ScanView) (at end : ℕ) → HasItems s at end → at ≡ end → trees_of s at end ≡ NoTrees
rest-none s at end has e = no_item s at end _ (trees-here s at end has) e

pub rest-next : (s : ScanView) (at end next : ℕ) → HasItems s at end → (at ≡ end → ⊥) → next ≡ after_at s at
    → trees_of s at end ≡ NextTree (tree_of s at) (trees_of s next end)
rest-next s at end next has other e =
    let item = item-here s at end _ (trees-here s at end has) other in
    item.parts
    ∙ ap (λ (t : Tree). NextTree t item.others) (sym (tree-is s at item.value item.value_is))
    ∙ ap (λ (ts : Trees). NextTree (tree_of s at) ts) (sym (trees-are s (after_at s at) end item.others item.others_are))
    ∙ ap (λ (k : ℕ). NextTree (tree_of s at) (trees_of s k end)) (sym e)

few-behind : (s : ScanView) (at end : ℕ) (t : Tree) → HasItems s at end → nat_eq at end ≡ are_few (NextTree t (trees_of s at end))
few-behind s at end t has = elim (cases_Bool (nat_eq at end)) [
  | inl same ↦ same ∙ sym (ap (λ (ts : Trees). are_few (NextTree t ts)) (rest-none s at end has (eqb-true at end same)))
  | inr other ↦
      other ∙ sym
      (ap (λ (ts : Trees). are_few (NextTree t ts))
      (rest-next s at end (after_at s at) has (λ e. let w : true ≡ false = sym (eq-eqb at end e) ∙ other in absurd cc) refl))
]

pub few-next : (s : ScanView) (at end next : ℕ) → HasItems s at end → (at ≡ end → ⊥) → next ≡ after_at s at
    → nat_eq next end ≡ are_few (trees_of s at end)
few-next s at end next has other e =
    few-behind s next end (tree_of s at) (has-next s at end next has other e) ∙ sym (ap are_few (rest-next s at end next has other e))

-- ---- from one member of an Object to the next

pub record IsObjectHere (s : ScanView) (k : ℕ) : Type 0 where
  pub has : HasEntries s (k + 1) (after_at s k)
  pub some : Some (tree_of s k, entries_of s (k + 1) (after_at s k)) ≡ members_in (tree_of s k)

pub object-here : (s : ScanView) (k : ℕ) → HasTree s k → k < length s.nodes → (node_at s k).kind ≡ kind.Object → IsObjectHere s k
object-here s k has within a =
    let h = shape-of s k kind.Object within a in
    let is : NodeIs s k (ObjectAt (place_at s k) h.members) = subst (NodeIs s k) h.is (tree-here s k has) in
    record {
      has = (h.members, is.1);
      some = ap (λ (t : Tree). Some (t, entries_of s (k + 1) (after_at s k))) h.is
          ∙ ap (λ (ms : Entries). Some (ObjectAt (place_at s k) h.members, ms)) (entries-are s (k + 1) (after_at s k) h.members is.1)
          ∙ sym (ap members_in h.is);
    }

entries-here : (s : ScanView) (k end : ℕ) → HasEntries s k end → EntriesAre s k end (entries_of s k end)
entries-here s k end has = subst (EntriesAre s k end) (sym (entries-are s k end has.0 has.1)) has.1

pub entries-none : (s : ScanView) (at end : ℕ) → HasEntries s at end → at ≡ end → entries_of s at end ≡ NoEntries
entries-none s at end has e = no_entry s end _ (subst (λ (k : ℕ). EntriesAre s k end (entries_of s at end)) e (entries-here s at end has))

pub record IsNextEntry (s : ScanView) (at end next : ℕ) : Type 0 where
  pub parts : entries_of s at end ≡ NextEntry (place_at s at) (word_at s at) (tree_of s (at + 1)) (entries_of s next end)
  pub has : HasEntries s next end
  pub name_within : at < length s.nodes
  pub name_kind : (node_at s at).kind ≡ kind.Text
  pub within : at + 1 < length s.nodes
  pub further : at + 1 < next
  pub before_end : next ≤ end

pub entries-next : (s : ScanView) (at end next : ℕ) → HasEntries s at end → (at ≡ end → ⊥) → next ≡ after_at s (at + 1)
    → IsNextEntry s at end next
entries-next s at end next has other e =
    let are = entries-here s at end has in
    let h = entry-here s at end _ are (below at end (entries-rise s at end _ are) other) in
    record {
      parts = h.parts
          ∙ ap (λ (p : Extent). NextEntry p h.word h.value h.others) (sym (place-is s at kind.Text h.place h.name_node))
          ∙ ap (λ (w : List ℕ). NextEntry (place_at s at) w h.value h.others) (sym (word-is s at h.place h.word h.name_node h.spells))
          ∙ ap (λ (t : Tree). NextEntry (place_at s at) (word_at s at) t h.others) (sym (tree-is s (at + 1) h.value h.value_is))
          ∙ ap (λ (ms : Entries). NextEntry (place_at s at) (word_at s at) (tree_of s (at + 1)) ms)
          (sym (entries-are s (after_at s (at + 1)) end h.others h.others_are))
          ∙ ap (λ (k : ℕ). NextEntry (place_at s at) (word_at s at) (tree_of s (at + 1)) (entries_of s k end)) (sym e);
      has = (h.others, subst (λ (k : ℕ). EntriesAre s k end h.others) (sym e) h.others_are);
      name_within = h.name_node.within;
      name_kind = h.name_node.its_kind;
      within = h.within;
      further = omega (arith, e, h.further);
      before_end = omega (arith, e, h.before_end);
    }

-- ---- looking for a member

pub named-here : (s : ScanView) (name : List ℕ) (at end : ℕ) → HasEntries s at end → (at ≡ end → ⊥) → bytes_eq (word_at s at) name ≡ true
    → entries_of s at end ≡ named name (entries_of s at end)
named-here s name at end has other same =
    let here = (entries-next s at end _ has other refl).parts in
    here ∙ sym (ap (named name) here ∙ cond-true (bytes_eq (word_at s at) name) _ _ same)

pub named-later : (s : ScanView) (name : List ℕ) (at end next : ℕ) → HasEntries s at end → (at ≡ end → ⊥) → next ≡ after_at s (at + 1)
    → bytes_eq (word_at s at) name ≡ false → named name (entries_of s at end) ≡ named name (entries_of s next end)
named-later s name at end next has other e differs = ap (named name) (entries-next s at end next has other e).parts
    ∙ cond-false (bytes_eq (word_at s at) name) _ _ differs

pub named-end : (s : ScanView) (name : List ℕ) (at end : ℕ) → HasEntries s at end → at ≡ end
    → entries_of s at end ≡ named name (entries_of s at end)
named-end s name at end has e = entries-none s at end has e ∙ sym (ap (named name) (entries-none s at end has e))

pub lookup-none : (s : ScanView) (name : List ℕ) (from first end : ℕ) → HasEntries s first end
    → entries_of s first end ≡ named name (entries_of s from end) → first ≡ end → NowhereIn ≡ lookup name (entries_of s from end)
lookup-none s name from first end has found e = ap (at_first name) (sym (entries-none s first end has e) ∙ found)

-- the name stands at `first`, and from `next` on it is looked for again
lookup-again : (s : ScanView) (name : List ℕ) (from first next second end : ℕ) → HasEntries s first end → (first ≡ end → ⊥)
    → next ≡ after_at s (first + 1)
    → entries_of s first end ≡ named name (entries_of s from end) → entries_of s second end ≡ named name (entries_of s next end)
    → at_second (tree_of s (first + 1)) (entries_of s second end) ≡ lookup name (entries_of s from end)
lookup-again s name from first next second end has other e found again =
    ap (at_second (tree_of s (first + 1))) again ∙ ap (at_first name) (sym (entries-next s first end next has other e).parts ∙ found)

pub lookup-once : (s : ScanView) (name : List ℕ) (from first next second end : ℕ) → HasEntries s first end → (first ≡ end → ⊥)
    → next ≡ after_at s (first + 1)
    → entries_of s first end ≡ named name (entries_of s from end) → entries_of s second end ≡ named name (entries_of s next end)
    → HasEntries s second end → second ≡ end
    → OnceIn (tree_of s (first + 1)) ≡ lookup name (entries_of s from end)
lookup-once s name from first next second end has other e found again more gone =
    ap (at_second (tree_of s (first + 1))) (sym (entries-none s second end more gone))
    ∙ lookup-again s name from first next second end has other e found again

pub lookup-twice : (s : ScanView) (name : List ℕ) (from first next second end : ℕ) → HasEntries s first end → (first ≡ end → ⊥)
    → next ≡ after_at s (first + 1)
    → entries_of s first end ≡ named name (entries_of s from end) → entries_of s second end ≡ named name (entries_of s next end)
    → HasEntries s second end → (second ≡ end → ⊥)
    → TwiceIn (place_at s second) ≡ lookup name (entries_of s from end)
lookup-twice s name from first next second end has other e found again more stays =
    ap (at_second (tree_of s (first + 1))) (sym (entries-next s second end _ more stays refl).parts)
    ∙ lookup-again s name from first next second end has other e found again
