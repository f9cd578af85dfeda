-- Each node of a scan stands for a value, or for the Text that a member name is.
use Rattle.std.proofs.Common.{◌≡◌, ℕ, suc, ◌+◌, ◌<◌, ◌≤◌, inl, inr, ◌∙◌, [], ◌∷◌, length, sym, ap, subst, arith}
use Rattle.std.proofs.lemmas.Bool.{cases_lt}
use Rattle.std.proofs.lemmas.List.{length-append}
use Rattle.json_scan.specs.declared.node.Kind.TheVariants as kind
use Rattle.json_scan.specs.Grammar.{quoted_width, Value, Null, False, True, Number, Text, EmptyList, FullList, EmptyObject, FullObject}
use Rattle.json_scan.specs.Grammar.{Items, LastItem, NextItem, Members, LastMember, NextMember, value_width, value_nodes, items_nodes}
use Rattle.json_scan.specs.Grammar.{members_nodes, node, document_nodes}
use Rattle.json_scan.specs.Scans.{HasNodes}
use Rattle.json_scan.specs.View.{ScanView, symbols}
use Rattle.json_scan.specs.Tree.{extent, TextAt, value_tree, items_trees, members_entries, after_at, NodeIs, NodesAre, EntriesAre, HasTree}
use Rattle.json_scan.proofs.Trees.{Holds, holds-front, holds-back, holds-all, after-is, document-is}

-- each of so many nodes from k on
abbrev AllStand : ScanView → ℕ → ℕ → Type 0
AllStand s k count = (m : ℕ) → k ≤ m → m < k + count → HasTree s m

stand-one : (s : ScanView) (k : ℕ) → HasTree s k → AllStand s k 1
stand-one s k has m from below = subst (λ (i : ℕ). HasTree s i) (omega arith) has

stand-join : (s : ScanView) (k a b : ℕ) → AllStand s k a → AllStand s (k + a) b → AllStand s k (a + b)
stand-join s k a b first others m from below = elim (cases_lt m (k + a)) [ inl lt ↦ first m from lt | inr le ↦ others m le (omega arith) ]

-- a node, and those that it holds
stand-over : (s : ScanView) (k count : ℕ) → HasTree s k → AllStand s (k + 1) count → AllStand s k (suc count)
stand-over s k count has inner m from below = stand-join s k 1 count (stand-one s k has) inner m from (omega arith)

mutual
  value-stands : (s : ScanView) (v : Value) (place k : ℕ) → NodeIs s k (value_tree v place) → Holds s k (value_nodes v place k)
      → AllStand s k (length (value_nodes v place k))
  value-stands s Null place k is h = stand-one s k (value_tree Null place, is)
  value-stands s False place k is h = stand-one s k (value_tree False place, is)
  value-stands s True place k is h = stand-one s k (value_tree True place, is)
  value-stands s (Number n) place k is h = stand-one s k (value_tree (Number n) place, is)
  value-stands s (Text ps) place k is h = stand-one s k (value_tree (Text ps) place, is)
  value-stands s (EmptyList gap) place k is h = stand-one s k (value_tree (EmptyList gap) place, is)
  value-stands s (FullList items) place k is h =
      stand-over s k (length (items_nodes items (place + 1) (k + 1))) (value_tree (FullList items) place, is)
      (items-stand s items (place + 1) (k + 1) (after_at s k) is.1 h.2)
  value-stands s (EmptyObject gap) place k is h = stand-one s k (value_tree (EmptyObject gap) place, is)
  value-stands s (FullObject members) place k is h =
      stand-over s k (length (members_nodes members (place + 1) (k + 1))) (value_tree (FullObject members) place, is)
      (members-stand s members (place + 1) (k + 1) (after_at s k) is.1 h.2)

  items-stand : (s : ScanView) (items : Items) (place k end : ℕ) → NodesAre s k end (items_trees items place)
      → Holds s k (items_nodes items place k) → AllStand s k (length (items_nodes items place k))
  items-stand s (LastItem before v after) place k end is h = value-stands s v (place + length before) k is.0 h
  items-stand s (NextItem before v after items) place k end is h =
      let at = place + length before in
      let first = value_nodes v at k in
      let next_place = at + value_width v + length after + 1 in
      let others = items_nodes items next_place (k + length first) in
      let here = holds-front s k first others h in
      let behind = subst (λ (n : ℕ). NodesAre s n end (items_trees items next_place)) (after-is s v at k here) is.1 in
      subst (AllStand s k) (sym (length-append first others))
      (stand-join s k (length first) (length others) (value-stands s v at k is.0 here)
      (items-stand s items next_place (k + length first) end behind (holds-back s k first others h)))

  members-stand : (s : ScanView) (members : Members) (place k end : ℕ) → EntriesAre s k end (members_entries members place)
      → Holds s k (members_nodes members place k) → AllStand s k (length (members_nodes members place k))
  members-stand s (LastMember before name behind ahead v after) place k end is h =
      let start = place + length before in
      let value_start = start + quoted_width name + length behind + 1 + length ahead in
      stand-over s k (length (value_nodes v value_start (k + 1))) (TextAt (extent start (quoted_width name)) (symbols name), (is.0, is.1))
      (value-stands s v value_start (k + 1) is.2 h.2)
  members-stand s (NextMember before name behind ahead v after members) place k end is h =
      let start = place + length before in
      let value_start = start + quoted_width name + length behind + 1 + length ahead in
      let inner = value_nodes v value_start (k + 1) in
      let first = node kind.Text start (quoted_width name) (k + 1) ∷ inner in
      let next_place = value_start + value_width v + length after + 1 in
      let others = members_nodes members next_place (k + length first) in
      let here = holds-front s (k + 1) inner others h.2 in
      let last : after_at s (k + 1) ≡ k + length first = after-is s v value_start (k + 1) here ∙ omega arith in
      let more = subst (λ (n : ℕ). EntriesAre s n end (members_entries members next_place)) last is.3 in
      let pair = stand-over s k (length inner) (TextAt (extent start (quoted_width name)) (symbols name), (is.0, is.1))
      (value-stands s v value_start (k + 1) is.2 here) in
      subst (AllStand s k) (sym (length-append first others))
      (stand-join s k (length first) (length others) pair
      (members-stand s members next_place (k + length first) end more (holds-back s k first others h)))

pub node-stands : (s : ScanView) → HasNodes s.bytes s.nodes → (k : ℕ) → k < length s.nodes → HasTree s k
node-stands s (utf8, (d, json)) k below =
    let count : length s.nodes ≡ length (document_nodes d) = ap length json.its_nodes in
    value-stands s d.value _ 0 (document-is s d json) (holds-all s [] (document_nodes d) json.its_nodes) k (omega arith)
    (omega (arith, count, below))
