use Rattle.std.proofs.Common.{ap, ◌∙◌}
use Rattle.json_scan.specs.declared.node.Node.{Node}
use Rattle.json_scan.specs.Tree.{Extent}
use Rattle.json_scan.proofs.TreeIs.{extent-is, kind-is}
use Rattle.json_scan.proofs.value.Value.node.Goals as goal

pub returns-clause-start : goal.returns-clause-start
returns-clause-start c = ap (λ (n : Node). n.start) c.node.ensures.value
    ∙ ap (λ (e : Extent). e.start) (extent-is c.args.self.scan.now c.args.self.node c.args.self.within)

pub returns-clause-end : goal.returns-clause-end
returns-clause-end c = ap (λ (n : Node). n.end) c.node.ensures.value
    ∙ ap (λ (e : Extent). e.end) (extent-is c.args.self.scan.now c.args.self.node c.args.self.within)

pub returns-clause-kind : goal.returns-clause-kind
returns-clause-kind c = ap (λ (n : Node). n.kind) c.node.ensures.value ∙ kind-is c.args.self.scan.now c.args.self.node c.args.self.within
