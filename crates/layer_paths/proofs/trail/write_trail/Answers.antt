-- One vertex more, and the whole trail.
use Rattle.std.proofs.Common.{ℕ, ◌+◌, List, drop, ap, sym, ◌∙◌, arith}
use Rattle.std.proofs.lemmas.Grind.{common_steps}
use Rattle.std.proofs.lemmas.List.{drop-drop, drop-set-lt, length-set}
use Rattle.layer_paths.proofs.Best.{front_start, front_more, front_end}
use Rattle.layer_paths.proofs.trail.write_trail.Goals as goal

pub loop-at-init : goal.loop-at-init
loop-at-init c = record {
  within = omega arith;
  room = omega arith;
  size = length-set c.args.out.now 0 0;
  front = front_start c.args.nexts.now c.args.last c.args.out.now (omega arith);
  rest = drop-set-lt 1 c.args.out.now 0 0 (omega arith);
}

pub loop-at-preserved : goal.loop-at-preserved
loop-at-preserved c =
    let count = c.loop-at.count in
    let on = c.requires.on c.loop-at.at c.loop-at-test.true in
    let a = on.0 in let b = on.1 in
    let h = c.loop-at.invariant in
    let room = h.room in let size = h.size in
    record {
      within = on.1;
      room = omega arith;
      size = length-set c.loop-at.out count _ ∙ h.size;
      front = front_more c.args.nexts.now c.args.last c.loop-at.at count c.loop-at.out c.loop-at-test.true (omega arith) h.front;
      rest = drop-set-lt (count + 1) c.loop-at.out count _ (omega arith)
          ∙ sym (drop-drop 1 count c.loop-at.out)
          ∙ ap (λ (xs : List ℕ). drop 1 xs) h.rest
          ∙ drop-drop 1 count c.args.out.now;
    }

pub returns-clause-trail : goal.returns-clause-trail
returns-clause-trail c = front_end c.args.nexts.now c.args.last c.loop-at.at c.loop-at.count c.loop-at.out (let w =
    c.loop-at.invariant.within in let t = c.loop-at-test.false in omega arith) c.loop-at.invariant.front
