-- The points that are passed over change nothing, and the next one is the new limit.
use Rattle.std.proofs.Common.{◌+◌, ◌<◌, length, drop, refl, arith}
use Rattle.std.proofs.Common.{length-drop}
use Rattle.lane_kernels.specs.Hands.{IsOnSide}
use Rattle.std.proofs.lemmas.List.{take_rest}
use Rattle.side_wedge.proofs.Tighter.{none_yet, next_limit, stays_tightest, each_dropped}
use Rattle.side_wedge.proofs.limits.tightest_from.Goals as goal

pub loop-ahead-preserved : goal.loop-ahead-preserved
loop-ahead-preserved c =
    let xs = c.args.xs.now in
    let at = c.loop-ahead.at in
    let ahead = c.in-Some.ahead in
    let found = rw (take_rest xs at, take_rest c.args.ys.now at) at c.in-Some.ensures.first in
    let inside : at + ahead < length xs = omega (arith, found.high, length-drop at xs) in
    record {
      in_lists = omega arith;
      reached = omega (arith, c.loop-ahead.invariant.reached);
      so_far = λ frame rising past each. next_limit frame rising c.args.hand c.args.start _ xs c.args.ys.now c.args.from at ahead
          c.loop-ahead.limit c.point_at-limit.result (c.loop-ahead.invariant.so_far frame rising past each) each
          c.loop-ahead.invariant.reached inside c.point_at-limit.ensures found;
    }

pub loop-ahead-init : goal.loop-ahead-init
loop-ahead-init c = record {
  in_lists = c.requires.within;
  reached = omega arith;
  so_far = λ frame rising past each. none_yet frame rising c.args.hand c.args.start c.args.first c.args.xs.now c.args.ys.now c.args.from
      past;
}

pub returns : goal.returns
returns c =
    let xs = c.args.xs.now in
    let at = c.loop-ahead.at in
    let on = each_dropped xs c.args.ys.now at (length (drop at xs)) (IsOnSide c.args.hand c.args.start c.loop-ahead.limit)
    (rw (take_rest xs at, take_rest c.args.ys.now at) at (c.in_default.ensures.none.0 refl)) in
    λ frame rising past each. stays_tightest frame rising c.args.hand c.args.start _ xs c.args.ys.now c.args.from at (length xs)
    c.loop-ahead.limit (c.loop-ahead.invariant.so_far frame rising past each) each c.loop-ahead.invariant.reached
    c.loop-ahead.invariant.in_lists (λ k low high. on k low (omega (arith, high, c.loop-ahead.invariant.in_lists, length-drop at xs)))
