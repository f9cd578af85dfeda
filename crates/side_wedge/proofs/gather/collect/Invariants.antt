-- The strays among the items so far.
use Rattle.std.proofs.Common.{◌≡◌, ◌+◌, ◌≤◌, ◌++◌, length, vec_len, vec_capacity}
use Rattle.sweep_index.specs.Walk.{items_left}
use Rattle.side_wedge.specs.Gathered.{AreStraysOf}
use Rattle.side_wedge.proofs.gather.collect.Given as goal

abbrev pub invariant-loop-item : goal.invariant-loop-item
invariant-loop-item l =
    (goal.iterator-loop-item).can_next l.item-iterator ×
    (goal.iterator-loop-item).is_finite l.item-iterator ×
    (items_left l.fn.walk ≡ l.yielded ++ items_left l.item-iterator) ×
    (length l.strays.items ≤ length l.fn.strays.items + length l.yielded) ×
    (vec_len l.strays ≤ l.room) ×
    (vec_capacity l.strays ≡ vec_capacity l.fn.strays) ×
    AreStraysOf l.subject.direction.frame l.subject.direction.rising l.subject.chain.now l.subject.number l.subject.steps l.part
    l.fn.strays.items l.yielded
    l.strays.items
