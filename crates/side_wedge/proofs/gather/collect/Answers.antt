-- One item more.
use Rattle.std.proofs.Common.{ℕ, ◌∙◌, ap, refl, sym, arith}
use Rattle.sweep_index.specs.Walk.{items_left}
use Rattle.sweep_index.specs.declared.index.Item.{Item}
use Rattle.side_wedge.proofs.Gathering.{strays_start, strays_more, one_behind, one_counted, no_room}
use Rattle.side_wedge.proofs.gather.collect.Goals as goal

pub loop-item-init : goal.loop-item-init
loop-item-init c =
    let s = c.args.subject.now in (
      tt,
      tt,
      ap items_left (sym c.into_iter-item-iterator.ensures.into_iter_gives),
      omega arith,
      c.requires.count,
      refl,
      strays_start s.direction.frame s.direction.rising s.chain.now s.number s.steps c.args.part.now c.args.strays.now.items,
    )

pub loop-item-preserved : goal.loop-item-preserved
loop-item-preserved c =
    let h = c.loop-item.invariant in
    let s = c.args.subject.now in
    let seen = c.loop-item.yielded in
    let e : ℕ × Item = (c.in-Some.field-0-0, c.in-Some.item) in
    let items = c.push_within.ensures.items c.if-not-push_within.false in (
      tt,
      tt,
      one_behind (items_left c.args.walk) seen (items_left c.loop-item.item-iterator) (items_left c.next.new.self) e h.2
          c.in-Some.ensures.steps,
      one_counted c.loop-item.strays.items c.push_within.new.strays.items c.near_stray.result seen e _ items h.3,
      c.push_within.ensures.count,
      c.push_within.ensures.capacity ∙ h.5,
      strays_more s.direction.frame s.direction.rising s.chain.now s.number s.steps c.args.part.now c.args.strays.now.items seen
          c.loop-item.strays.items
          c.push_within.new.strays.items c.in-Some.field-0-0 c.in-Some.item c.near_stray.result h.6
          (record { some = c.near_stray.ensures.some; all = c.near_stray.ensures.all }) items,
    )

pub returns-then-not-push_within-clause-all : goal.returns-then-not-push_within-clause-all
returns-then-not-push_within-clause-all c fits =
    let h = c.loop-item.invariant in
    let seen = c.loop-item.yielded in
    let e : ℕ × Item = (c.in-Some.field-0-0, c.in-Some.item) in
    absurd (no_room (items_left c.args.walk) seen (items_left c.loop-item.item-iterator) (items_left c.next.new.self) e _ _ c.args.room h.2
    c.in-Some.ensures.steps h.3 (c.push_within.ensures.full c.if-not-push_within.true) fits)
