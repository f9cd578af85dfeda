use Rattle.std.proofs.Common.{◌≡◌, ◌∙◌, ◌↔◌, ℕ, subst, sym}
use Rattle.std.specs.Vec.{with_items}
use Rattle.std.proofs.lemmas.List.{with_items_is}
use Rattle.arc_map.specs.Arranged.{IsHeld}
use Rattle.arrangement_check.specs.Marks.{IsMarked, MarksClashes, MarksHeld}
use Rattle.arrangement_check.proofs.Marking.{arranged_beside, held_list}
use Rattle.arrangement_check.proofs.partly.hold_over.Goals as goal

pub mark_towns-requires-clause-only : goal.mark_towns-requires-clause-only
mark_towns-requires-clause-only c =
    let same : c.deref_mut-2.result.now ≡ c.mark_clashes.new.marks = c.deref_mut-2.ensures.value
    ∙ with_items_is c.in_ok-marks.marks c.mark_clashes.new.marks (c.mark_clashes.ensures.long ∙ c.deref_mut.ensures.len) in
    subst (MarksHeld c.args.map) (sym same) c.mark_clashes.ensures.only

pub mark_towns-requires-clause-clashes : goal.mark_towns-requires-clause-clashes
mark_towns-requires-clause-clashes c =
    let same : c.deref_mut-2.result.now ≡ c.mark_clashes.new.marks = c.deref_mut-2.ensures.value
    ∙ with_items_is c.in_ok-marks.marks c.mark_clashes.new.marks (c.mark_clashes.ensures.long ∙ c.deref_mut.ensures.len) in
    subst (MarksClashes c.args.map) (sym same) c.mark_clashes.ensures.clashes

pub invariant_of-result : goal.invariant_of-result
invariant_of-result c =
    let same : c.deref.result.now ≡ c.mark_towns.new.marks = c.deref.ensures.value
    ∙ with_items_is (with_items c.in_ok-marks.marks c.mark_clashes.new.marks) c.mark_towns.new.marks (c.mark_towns.ensures.long
    ∙ c.deref_mut-2.ensures.len) in
    let exact : (arc : ℕ) → IsMarked c.deref.result.now arc ↔ IsHeld c.args.map arc =
    subst (λ marks. (arc : ℕ) → IsMarked marks arc ↔ IsHeld c.args.map arc) (sym same) c.mark_towns.ensures.exact in
    rw c.new-held.ensures (arranged_beside c.args.map c.in_ok-marked.field-0.items
    (held_list c.args.map c.deref.result.now c.in_ok-marked.field-0.items c.in_ok-marked.ensures.list c.in_ok-marked.ensures.exact
    exact))

pub returns-clause-held : goal.returns-clause-held
returns-clause-held c =
    let same : c.deref.result.now ≡ c.mark_towns.new.marks = c.deref.ensures.value
    ∙ with_items_is (with_items c.in_ok-marks.marks c.mark_clashes.new.marks) c.mark_towns.new.marks (c.mark_towns.ensures.long
    ∙ c.deref_mut-2.ensures.len) in
    let exact : (arc : ℕ) → IsMarked c.deref.result.now arc ↔ IsHeld c.args.map arc =
    subst (λ marks. (arc : ℕ) → IsMarked marks arc ↔ IsHeld c.args.map arc) (sym same) c.mark_towns.ensures.exact in
    rw c.new-held.ensures (held_list c.args.map c.deref.result.now c.in_ok-marked.field-0.items c.in_ok-marked.ensures.list
    c.in_ok-marked.ensures.exact exact)
