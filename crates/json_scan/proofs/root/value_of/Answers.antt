use Rattle.std.proofs.Common.{ap, sym, subst, ◌∙◌}
use Rattle.json_scan.specs.View.{ScanView}
use Rattle.json_scan.specs.Tree.{NodeIs, Tree, document_tree}
use Rattle.json_scan.proofs.Nodes.{node-lies}
use Rattle.json_scan.specs.TreeAt.{tree_of}
use Rattle.json_scan.proofs.TreeIs.{tree-is, tree-here}
use Rattle.json_scan.proofs.root.value_of.Goals as goal

pub value_at-requires : goal.value_at-requires
value_at-requires c = (node-lies c.args.scan.now 0 c.count.ensures.has_tree).within

pub returns-clause-tree : goal.returns-clause-tree
returns-clause-tree c = λ d json.
    ap (λ (s : ScanView). tree_of s c.value_at.result.node) c.value_at.ensures.scan ∙ ap (tree_of c.args.scan.now) c.value_at.ensures.node
    ∙ tree-is c.args.scan.now 0 (document_tree d) (c.count.ensures.tree d json)

pub returns-clause-stands : goal.returns-clause-stands
returns-clause-stands c =
    subst (λ (t : Tree). NodeIs c.args.scan.now 0 t)
    (sym (ap (λ (s : ScanView). tree_of s c.value_at.result.node) c.value_at.ensures.scan
    ∙ ap (tree_of c.args.scan.now) c.value_at.ensures.node)) (tree-here c.args.scan.now 0 c.count.ensures.has_tree)
