use Rattle.std.proofs.Common.{◌≡◌, ◌+◌, refl, ap, subst, sym, ◌∙◌, arith}
use Rattle.json_scan.specs.declared.node.Node.{Node}
use Rattle.json_scan.specs.View.{ScanView}
use Rattle.json_scan.specs.Tree.{Tree, NoEntries, NextEntry}
use Rattle.json_scan.specs.TreeAt.{tree_of, entries_of, place_at, word_at}
use Rattle.json_scan.specs.Shown.{tree}
use Rattle.json_scan.specs.Left.{Left, entries}
use Rattle.json_scan.proofs.TreeIs.{entries-none, entries-next}
use Rattle.json_scan.proofs.member_values.MemberValuesIterator.next.Goals as goal

pub returns-then-self-clause-steps : goal.returns-then-self-clause-steps
returns-then-self-clause-steps c =
    let e = subst (λ (l : Left). entries l ≡ NoEntries) c.self.view_is
    (entries-none c.self.inside.scan.now c.self.inside.at c.self.inside.end c.self.invariant c.if-self.true) in
    (e, e)

pub overflow_add-at : goal.overflow_add-at
overflow_add-at c = let next = entries-next c.self.inside.scan.now c.self.inside.at c.self.inside.end _ c.self.invariant c.if-self.false
    refl in omega (arith, next.further, next.before_end)

pub node-requires : goal.node-requires
node-requires c = (entries-next c.self.inside.scan.now c.self.inside.at c.self.inside.end _ c.self.invariant c.if-self.false refl).within

pub value_at-requires : goal.value_at-requires
value_at-requires c =
    (entries-next c.self.inside.scan.now c.self.inside.at c.self.inside.end _ c.self.invariant c.if-self.false refl).within

pub invariant_of-self : goal.invariant_of-self
invariant_of-self c =
    (entries-next c.self.inside.scan.now c.self.inside.at c.self.inside.end c.node.result.after c.self.invariant c.if-self.false
    (ap (λ (n : Node). n.after) c.node.ensures.value)).has

pub returns-clause-steps : goal.returns-clause-steps
returns-clause-steps c =
    let inside = c.self.inside in
    let next = entries-next inside.scan.now inside.at inside.end c.node.result.after c.self.invariant c.if-self.false
    (ap (λ (n : Node). n.after) c.node.ensures.value) in
    let same : tree c.value_at.result ≡ tree_of inside.scan.now (inside.at + 1) =
    ap (λ (s : ScanView). tree_of s c.value_at.result.node) c.value_at.ensures.scan
    ∙ ap (tree_of inside.scan.now) c.value_at.ensures.node in
    let others = entries_of inside.scan.now c.node.result.after inside.end in
    subst (λ (l : Left). entries l ≡ NextEntry (place_at l.scan l.at) (word_at l.scan l.at) (tree c.value_at.result) others) c.self.view_is
    (next.parts ∙ ap (λ (t : Tree). NextEntry (place_at inside.scan.now inside.at) (word_at inside.scan.now inside.at) t others) (sym same))

pub returns-clause-goes : goal.returns-clause-goes
returns-clause-goes c =
    let inside = c.self.inside in
    let next = entries-next inside.scan.now inside.at inside.end c.node.result.after c.self.invariant c.if-self.false
    (ap (λ (n : Node). n.after) c.node.ensures.value) in
    let at = ap (λ (l : Left). l.at) c.self.view_is in
    let end = ap (λ (l : Left). l.end) c.self.view_is in
    record { on = λ _. (tt, tt, omega (arith, at, end, next.further, next.before_end)); keeps = tt; rests = λ _. tt }
