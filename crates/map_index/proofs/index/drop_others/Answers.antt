-- An item at a kept place stays, and the walk passes the place; another is dropped.
use Rattle.std.proofs.Common.{◌≢◌, ◌∙◌, ◌<◌, ◌+◌, false, length, get_or, Contains, arith}
use Rattle.std.proofs.lemmas.List.{length-set, get_or_default}
use Rattle.map_index.proofs.Dropping.{walk_passes, walk_waits, not_kept, one_kept, one_dropped}
use Rattle.map_index.proofs.index.drop_others.Goals as goal
use Rattle.map_index.proofs.index.drop_others.Goals.{then-next-kept+then-kept-next, else-next-kept}
use Rattle.map_index.proofs.index.drop_others.Goals.{else-next-kept-via-then-next-kept+else-kept-next, else-next-kept-via-else-next-kept}

pub loop-at-preserved : goal.loop-at-preserved
loop-at-preserved c =
    let kept = c.args.kept.now in
    let next = c.loop-at.next in
    let at = c.loop-at.at in
    let first = c.args.first in
    let before = c.args.index.now.live in
    let now = c.loop-at.index.live in
    let so_far = c.loop-at.invariant in
    elim c.if-next-kept.branch [
      | then-next-kept+then-kept-next w ↦
          let inside = w.if-next-kept.true in
          let here = w.if-kept-next.true in
          let has : Contains kept at = (next, inside, get_or_default kept next at 0 inside ∙ here) in
          rw (w.index-is, w.next-is) (record {
            numbered = so_far.numbered;
            live_count = so_far.live_count;
            walked = walk_passes kept at next c.requires.rising so_far.walked inside here;
            dropped = one_kept kept first at before now has so_far.dropped;
          })
      | else-next-kept w ↦
          let other : next < length kept → get_or kept next 0 ≢ at =
          elim w.else-next-kept.branch [
            | else-next-kept-via-then-next-kept+else-kept-next w' ↦ λ inside. w'.if-kept-next.false
            | else-next-kept-via-else-next-kept w' ↦ λ inside. absurd (omega (arith, inside, w'.if-next-kept.false))
          ] in
          let room : first + at < length now = omega (arith, c.requires.within, c.loop-at-test.true, so_far.live_count) in
          rw (w.index-is, w.drop_item.ensures, w.next-is) (record {
            numbered = so_far.numbered;
            live_count = length-set now (first + at) false ∙ so_far.live_count;
            walked = walk_waits kept at next c.requires.rising so_far.walked other;
            dropped = one_dropped kept first at before now room (not_kept kept at next c.requires.rising so_far.walked other)
                so_far.dropped;
          })
    ]
