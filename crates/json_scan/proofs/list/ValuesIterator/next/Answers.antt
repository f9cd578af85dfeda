use Rattle.std.proofs.Common.{◌≡◌, ap, subst, sym, ◌∙◌, arith}
use Rattle.json_scan.specs.declared.node.Node.{Node}
use Rattle.json_scan.proofs.Nodes.{node-lies}
use Rattle.json_scan.proofs.Items.{item-tree, item-here, has-next}
use Rattle.json_scan.specs.View.{ScanView}
use Rattle.json_scan.specs.Tree.{Tree, NoTrees, NextTree}
use Rattle.json_scan.specs.TreeAt.{tree_of, trees_of}
use Rattle.json_scan.specs.Shown.{tree}
use Rattle.json_scan.specs.Left.{Left, trees}
use Rattle.json_scan.proofs.TreeIs.{rest-none, rest-next}
use Rattle.json_scan.proofs.list.ValuesIterator.next.Goals as goal

pub returns-then-self-clause-steps : goal.returns-then-self-clause-steps
returns-then-self-clause-steps c =
    let e = subst (λ (l : Left). trees l ≡ NoTrees) c.self.view_is
    (rest-none c.self.inside.scan.now c.self.inside.at c.self.inside.end c.self.invariant c.if-self.true) in
    (e, e)

pub node-requires : goal.node-requires
node-requires c =
    (node-lies c.self.inside.scan.now c.self.inside.at
    (item-tree c.self.inside.scan.now c.self.inside.at c.self.inside.end c.self.invariant c.if-self.false)).within

pub value_at-requires : goal.value_at-requires
value_at-requires c =
    (node-lies c.self.inside.scan.now c.self.inside.at
    (item-tree c.self.inside.scan.now c.self.inside.at c.self.inside.end c.self.invariant c.if-self.false)).within

pub invariant_of-self : goal.invariant_of-self
invariant_of-self c = has-next c.self.inside.scan.now c.self.inside.at c.self.inside.end c.node.result.after c.self.invariant
    c.if-self.false (ap (λ (n : Node). n.after) c.node.ensures.value)

pub returns-clause-steps : goal.returns-clause-steps
returns-clause-steps c =
    let inside = c.self.inside in
    let next = ap (λ (n : Node). n.after) c.node.ensures.value in
    let same : tree c.value_at.result ≡ tree_of inside.scan.now inside.at =
    ap (λ (s : ScanView). tree_of s c.value_at.result.node) c.value_at.ensures.scan
    ∙ ap (tree_of inside.scan.now) c.value_at.ensures.node in
    let others = trees_of inside.scan.now c.node.result.after inside.end in
    subst (λ (l : Left). trees l ≡ NextTree (tree c.value_at.result) others) c.self.view_is
    (rest-next inside.scan.now inside.at inside.end c.node.result.after c.self.invariant c.if-self.false next
    ∙ ap (λ (t : Tree). NextTree t others) (sym same))

pub returns-clause-goes : goal.returns-clause-goes
returns-clause-goes c =
    let inside = c.self.inside in
    let item = item-here inside.scan.now inside.at inside.end c.self.invariant.0 c.self.invariant.1 c.if-self.false in
    let next = ap (λ (n : Node). n.after) c.node.ensures.value in
    let at = ap (λ (l : Left). l.at) c.self.view_is in
    let end = ap (λ (l : Left). l.end) c.self.view_is in
    record { on = λ _. (tt, tt, omega (arith, at, end, next, item.further, item.before_end)); keeps = tt; rests = λ _. tt }
