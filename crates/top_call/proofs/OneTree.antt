-- A text has one tree of values, and so one topology.
use Rattle.std.proofs.Common.{◌≡◌, ◌∙◌, ℕ, ◌+◌, true, List, [], ◌∷◌, drop, refl, sym, ap, subst, arith}
use Rattle.std.specs.List.{AllByRecursion}
use Rattle.json_scan.specs.declared.node.Kind.{Kind}
use Rattle.json_scan.specs.declared.node.Kind.TheVariants as kind
use Rattle.json_scan.specs.declared.node.Node.{Node}
use Rattle.json_scan.specs.declared.whole.Whole.{Whole}
use Rattle.json_scan.specs.Bytes.{is_plain, is_escape}
use Rattle.json_scan.specs.Grammar.{Piece, Plain, Escaped, Unicode, IsPiece, piece_then, pieces_then, Document, IsJson}
use Rattle.json_scan.specs.Machine.{Whole as WholeOf}
use Rattle.json_scan.specs.Stops.{outcome_of}
use Rattle.json_scan.specs.View.{ScanView, symbols}
use Rattle.json_scan.specs.Whole.{read_whole}
use Rattle.json_scan.specs.Tree.{Extent, Tree, NullAt, FalseAt, TrueAt, NumberAt, TextAt, ListAt, ObjectAt, Trees, NoTrees, NextTree}
use Rattle.json_scan.specs.Tree.{Entries, NoEntries, NextEntry, kind_of, after_at, IsNode, SpellsNumber, SpellsText, NodeIs, NodesAre}
use Rattle.json_scan.specs.Tree.{EntriesAre, document_tree}
use Rattle.json_scan.proofs.Documents.{document-read}
use Rattle.json_scan.proofs.Items.{no_item}
use Rattle.json_scan.proofs.Members.{no_entry}
use Rattle.json_scan.proofs.Nodes.{tree-node}
use Rattle.json_scan.proofs.Trees.{document-is}
use Rattle.json_scan.proofs.Wholes.{whole-law}
use Rattle.topo_reader.specs.Reads.{TopologyRead, topology_of}
use Rattle.topo_reader.proofs.ArcLaws.{same-ok}
use Rattle.top_call.specs.Maps.{HasTree, HasTopology}

-- ---- the pieces of a Text

-- one piece, and what follows it
record SamePiece (p q : Piece) (rest more : List ℕ) : Type 0 where
  piece : p ≡ q
  behind : rest ≡ more

piece_is_one : (p q : Piece) (rest more : List ℕ) → IsPiece p → IsPiece q → piece_then p rest ≡ piece_then q more → SamePiece p q rest more
piece_is_one (Plain b) (Plain c) rest more fits others e =
    let byte : b ≡ c = cc in
    let behind : rest ≡ more = cc in
    record { piece = ap (λ (n : ℕ). Plain n) byte; behind = behind }
piece_is_one (Plain b) (Escaped c) rest more fits others e =
    let byte : b ≡ 92 = cc in
    let never : is_plain 92 ≡ true = subst (λ (n : ℕ). is_plain n ≡ true) byte fits in
    absurd cc
piece_is_one (Plain b) (Unicode w x y z) rest more fits others e =
    let byte : b ≡ 92 = cc in
    let never : is_plain 92 ≡ true = subst (λ (n : ℕ). is_plain n ≡ true) byte fits in
    absurd cc
piece_is_one (Escaped b) (Plain c) rest more fits others e =
    let byte : c ≡ 92 = cc in
    let never : is_plain 92 ≡ true = subst (λ (n : ℕ). is_plain n ≡ true) byte others in
    absurd cc
piece_is_one (Escaped b) (Escaped c) rest more fits others e =
    let byte : b ≡ c = cc in
    let behind : rest ≡ more = cc in
    record { piece = ap (λ (n : ℕ). Escaped n) byte; behind = behind }
piece_is_one (Escaped b) (Unicode w x y z) rest more fits others e =
    let byte : b ≡ 117 = cc in
    let never : is_escape 117 ≡ true = subst (λ (n : ℕ). is_escape n ≡ true) byte fits in
    absurd cc
piece_is_one (Unicode w x y z) (Plain c) rest more fits others e =
    let byte : c ≡ 92 = cc in
    let never : is_plain 92 ≡ true = subst (λ (n : ℕ). is_plain n ≡ true) byte others in
    absurd cc
piece_is_one (Unicode w x y z) (Escaped c) rest more fits others e =
    let byte : c ≡ 117 = cc in
    let never : is_escape 117 ≡ true = subst (λ (n : ℕ). is_escape n ≡ true) byte others in
    absurd cc
piece_is_one (Unicode w x y z) (Unicode w' x' y' z') rest more fits others e =
    let first : w ≡ w' = cc in
    let second : x ≡ x' = cc in
    let third : y ≡ y' = cc in
    let fourth : z ≡ z' = cc in
    let behind : rest ≡ more = cc in
    record { piece = cc; behind = behind }

-- a piece is no quote
no_quote : (p : Piece) (rest more : List ℕ) → IsPiece p → piece_then p rest ≡ 34 ∷ more → ⊥
no_quote (Plain b) rest more fits e =
    let byte : b ≡ 34 = cc in
    let never : is_plain 34 ≡ true = subst (λ (n : ℕ). is_plain n ≡ true) byte fits in
    absurd cc
no_quote (Escaped b) rest more fits e = let byte : ◌≡◌ {A = ℕ} 92 34 = cc in absurd (omega (arith, byte))
no_quote (Unicode w x y z) rest more fits e = let byte : ◌≡◌ {A = ℕ} 92 34 = cc in absurd (omega (arith, byte))

pieces_are_one : (ps qs : List Piece) → AllByRecursion IsPiece ps → AllByRecursion IsPiece qs
    → pieces_then ps (34 ∷ []) ≡ pieces_then qs (34 ∷ []) → ps ≡ qs
pieces_are_one [] [] fits others e = refl
pieces_are_one [] (q ∷ qs) fits others e = absurd (no_quote q (pieces_then qs (34 ∷ [])) [] others.0 (sym e))
pieces_are_one (p ∷ ps) [] fits others e = absurd (no_quote p (pieces_then ps (34 ∷ [])) [] fits.0 e)
pieces_are_one (p ∷ ps) (q ∷ qs) fits others e =
    let parts = piece_is_one p q (pieces_then ps (34 ∷ [])) (pieces_then qs (34 ∷ [])) fits.0 others.0 e in
    let first = parts.piece in
    let rest = pieces_are_one ps qs fits.1 others.1 parts.behind in
    cc

-- ---- what a node stands for

extent_is_one : (s : ScanView) (k : ℕ) (a b : Kind) (e f : Extent) → IsNode s k a e → IsNode s k b f → e ≡ f
extent_is_one s k a b e f first second =
    ap (λ (n : ℕ). record { start = n; end = e.end }) (sym first.its_start ∙ second.its_start)
    ∙ ap (λ (n : ℕ). record { start = f.start; end = n }) (sym first.its_end ∙ second.its_end)

word_is_one : (s : ScanView) (e f : Extent) (word other : List ℕ) → e ≡ f → SpellsText s e word → SpellsText s f other → word ≡ other
word_is_one s e f word other same first second =
    let here = subst (λ (x : Extent). SpellsText s x other) (sym same) second in
    let pieces =
    pieces_are_one first.pieces here.pieces first.are_pieces here.are_pieces (ap (drop 1) (sym first.spelled ∙ here.spelled)) in
    sym first.value ∙ ap symbols pieces ∙ here.value

whole_is_one : (s : ScanView) (e f : Extent) (whole other : Whole) → e ≡ f → SpellsNumber s e whole → SpellsNumber s f other → whole ≡ other
whole_is_one s e f whole other same first second =
    let here = subst (λ (x : Extent). SpellsNumber s x other) (sym same) second in
    sym first.value ∙ sym (whole-law first.form first.is_number) ∙ ap read_whole (sym first.spelled ∙ here.spelled)
    ∙ whole-law here.form here.is_number ∙ here.value

mutual
  pub tree_is_one : (s : ScanView) (k : ℕ) (t u : Tree) → NodeIs s k t → NodeIs s k u → t ≡ u
  tree_is_one s k (NullAt e) (NullAt f) is too = ap (λ (x : Extent). NullAt x) (extent_is_one s k kind.Null kind.Null e f is too)
  tree_is_one s k (FalseAt e) (FalseAt f) is too = ap (λ (x : Extent). FalseAt x) (extent_is_one s k kind.False kind.False e f is too)
  tree_is_one s k (TrueAt e) (TrueAt f) is too = ap (λ (x : Extent). TrueAt x) (extent_is_one s k kind.True kind.True e f is too)
  tree_is_one s k (NumberAt e whole) (NumberAt f other) is too =
      let place = extent_is_one s k kind.Number kind.Number e f is.0 too.0 in
      let value = whole_is_one s e f whole other place is.1 too.1 in
      cc
  tree_is_one s k (TextAt e word) (TextAt f other) is too =
      let place = extent_is_one s k kind.Text kind.Text e f is.0 too.0 in
      let value = word_is_one s e f word other place is.1 too.1 in
      cc
  tree_is_one s k (ListAt e trees) (ListAt f others) is too =
      let place = extent_is_one s k kind.List kind.List e f is.0 too.0 in
      let value = trees_are_one s (k + 1) (after_at s k) trees others is.1 too.1 in
      cc
  tree_is_one s k (ObjectAt e members) (ObjectAt f others) is too =
      let place = extent_is_one s k kind.Object kind.Object e f is.0 too.0 in
      let value = entries_are_one s (k + 1) (after_at s k) members others is.1 too.1 in
      cc
  tree_is_one s k t u is too =
      let same : kind_of t ≡ kind_of u = sym (tree-node s k t is).its_kind ∙ (tree-node s k u too).its_kind in
      absurd cc

  trees_are_one : (s : ScanView) (k end : ℕ) (ts us : Trees) → NodesAre s k end ts → NodesAre s k end us → ts ≡ us
  trees_are_one s k end NoTrees us are others = sym (no_item s k end us others are)
  trees_are_one s k end (NextTree t ts) NoTrees are others = no_item s k end (NextTree t ts) are others
  trees_are_one s k end (NextTree t ts) (NextTree u us) are others =
      let first = tree_is_one s k t u are.0 others.0 in
      let rest = trees_are_one s (after_at s k) end ts us are.1 others.1 in
      cc

  entries_are_one : (s : ScanView) (k end : ℕ) (es fs : Entries) → EntriesAre s k end es → EntriesAre s k end fs → es ≡ fs
  entries_are_one s k end NoEntries fs are others = sym (no_entry s end fs (subst (λ (n : ℕ). EntriesAre s n end fs) are others))
  entries_are_one s k end (NextEntry e name t es) NoEntries are others =
      no_entry s end (NextEntry e name t es) (subst (λ (n : ℕ). EntriesAre s n end (NextEntry e name t es)) others are)
  entries_are_one s k end (NextEntry e name t es) (NextEntry f other u fs) are others =
      let place = extent_is_one s k kind.Text kind.Text e f are.0 others.0 in
      let word = word_is_one s e f name other place are.1 others.1 in
      let value = tree_is_one s (k + 1) t u are.2 others.2 in
      let rest = entries_are_one s (after_at s (k + 1)) end es fs are.3 others.3 in
      cc

-- ---- the tree of a text

nodes_left : (text : List ℕ) (nodes : List Node) (d : Document) → IsJson 64 text nodes d → outcome_of 64 text ≡ WholeOf nodes
nodes_left text nodes d is =
    ap (outcome_of 64) is.spelled ∙ document-read 64 d is.document is.depth ∙ ap (λ (ns : List Node). WholeOf ns) (sym is.its_nodes)

pub text_has_one_tree : (text : List ℕ) (a b : Tree) → HasTree text a → HasTree text b → a ≡ b
text_has_one_tree text a b first second =
    let left = nodes_left text first.nodes first.document first.json in
    let right = nodes_left text second.nodes second.document second.json in
    let nodes : first.nodes ≡ second.nodes = cc in
    let s : ScanView = record { bytes = text; nodes = first.nodes } in
    let here = document-is s first.document first.json in
    let there = document-is s second.document (subst (λ (ns : List Node). IsJson 64 text ns second.document) (sym nodes) second.json) in
    first.is ∙ tree_is_one s 0 (document_tree first.document) (document_tree second.document) here there ∙ sym second.is

pub text_has_one_topology : (text : List ℕ) (t u : TopologyRead) → HasTopology text t → HasTopology text u → t ≡ u
text_has_one_topology text t u first second =
    let tree = text_has_one_tree text first.tree second.tree first.has_tree second.has_tree in
    same-ok t u (sym first.reads ∙ ap topology_of tree ∙ second.reads)
