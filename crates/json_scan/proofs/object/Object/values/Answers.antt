use Rattle.std.proofs.Common.{◌+◌, ap, subst, sym}
use Rattle.json_scan.specs.declared.node.Node.{Node}
use Rattle.json_scan.specs.Left.{HasEntries}
use Rattle.json_scan.proofs.TreeIs.{object-here}
use Rattle.json_scan.proofs.object.Object.values.Goals as goal

pub new-requires : goal.new-requires
new-requires c =
    let value = c.args.self.value in
    let has = (object-here value.scan.now value.node c.node-found.ensures.stands value.within c.args.self.object).has in
    subst (HasEntries value.scan.now (value.node + 1)) (sym (ap (λ (n : Node). n.after) c.node-found.ensures.value)) has
