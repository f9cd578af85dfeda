use Rattle.std.proofs.Common.{◌≡◌, true, nat_eq, ap, subst, sym}
use Rattle.json_scan.specs.declared.node.Node.{Node}
use Rattle.json_scan.proofs.Nodes.{node-lies}
use Rattle.json_scan.proofs.Items.{item-tree}
use Rattle.json_scan.specs.Left.{Left, trees}
use Rattle.json_scan.specs.Parts.{are_few}
use Rattle.json_scan.proofs.TreeIs.{rest-none, few-next}
use Rattle.json_scan.proofs.list.Values.are_few.Goals as goal

pub returns-then-self : goal.returns-then-self
returns-then-self c = subst (λ (l : Left). true ≡ are_few (trees l)) c.self.view_is
    (ap are_few (sym (rest-none c.self.inside.scan.now c.self.inside.at c.self.inside.end c.self.invariant c.if-self.true)))

pub node-requires : goal.node-requires
node-requires c =
    (node-lies c.self.inside.scan.now c.self.inside.at
    (item-tree c.self.inside.scan.now c.self.inside.at c.self.inside.end c.self.invariant c.if-self.false)).within

pub returns : goal.returns
returns c =
    subst (λ (l : Left). nat_eq c.node.result.after c.self.inside.end ≡ are_few (trees l)) c.self.view_is
    (few-next c.self.inside.scan.now c.self.inside.at c.self.inside.end c.node.result.after c.self.invariant c.if-self.false
    (ap (λ (n : Node). n.after) c.node.ensures.value))
