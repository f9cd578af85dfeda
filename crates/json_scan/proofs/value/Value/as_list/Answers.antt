use Rattle.std.proofs.Common.{◌≡◌, ◌+◌, Some, ℕ, ap, subst, sym, ◌∙◌, rules}
use Rattle.json_scan.specs.declared.node.Kind.TheVariants as kind
use Rattle.json_scan.specs.declared.node.Node.{Node}
use Rattle.json_scan.specs.TreeAt.{trees_of}
use Rattle.json_scan.specs.Left.{Left, trees, HasItems}
use Rattle.json_scan.proofs.TreeIs.{list-here}
use Rattle.json_scan.proofs.value.Value.as_list.Goals as goal

pub new-requires : goal.new-requires
new-requires c =
    let value = c.args.self in
    let list : c.node-found.result.kind ≡ kind.List = search rules in
    let here = list-here value.scan.now value.node c.node-found.ensures.stands value.within
    (sym (ap (λ (n : Node). n.kind) c.node-found.ensures.value) ∙ list) in
    subst (HasItems value.scan.now (value.node + 1)) (sym (ap (λ (n : Node). n.after) c.node-found.ensures.value)) here.has

pub returns : goal.returns
returns c =
    let value = c.args.self in
    let list : c.node-found.result.kind ≡ kind.List = search rules in
    let here = list-here value.scan.now value.node c.node-found.ensures.stands value.within
    (sym (ap (λ (n : Node). n.kind) c.node-found.ensures.value) ∙ list) in
    ap (λ (l : Left). Some (trees l)) c.new.ensures
    ∙ ap (λ (end : ℕ). Some (trees_of value.scan.now (value.node + 1) end)) (ap (λ (n : Node). n.after) c.node-found.ensures.value)
    ∙ here.some
