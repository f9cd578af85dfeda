use Rattle.std.proofs.Common.{◌≡◌, ◌∙◌, ◌<◌, ℕ, Contains, ap, sym, subst, arith}
use Rattle.dissolve.specs.Odd.{odd_arcs}
use Rattle.dissolve.specs.Border.{IsBorder}
use Rattle.dissolve.specs.Unused.{marked, unused_in}
use Rattle.dissolve.specs.Walk.{IsEven, IsStage}
use Rattle.dissolve.proofs.Marks.{marked-below}
use Rattle.dissolve.proofs.Staging.{stage-all, stage-none}
use Rattle.dissolve.proofs.Touching.{even-at-start}
use Rattle.dissolve.proofs.Whole.{border-closed, border-crossed, border-once, border-used}
use Rattle.dissolve.proofs.walk.border.Goals as goal

pub loop-arc-init : goal.loop-arc-init
loop-arc-init c =
    let m = c.args.map.now in
    let chosen = c.args.chosen.now in
    let all : unused_in c.in_ok-unused.unused ≡ odd_arcs m chosen = ap marked c.in_ok-unused.ensures.marks ∙ c.in_ok-marks.ensures.value in
    record {
      unused = c.in_ok-unused.ensures.unused;
      even = subst (IsEven m) (sym all) (even-at-start m chosen c.arc_count-arc-end.ensures.is_map c.requires.known c.requires.even);
      stage = subst (λ xs. IsStage m (odd_arcs m chosen) c.new-rings.result.items xs 0) (sym all)
          (stage-none m (odd_arcs m chosen) c.new-rings.result.items c.new-rings.ensures.items);
    }

pub loop-arc-preserved : goal.loop-arc-preserved
loop-arc-preserved c = record {
  unused = c.in_ok-add_ring.ensures.unused;
  even = c.in_ok-add_ring.ensures.even;
  stage = c.in_ok-add_ring.ensures.stage (odd_arcs c.args.map.now c.args.chosen.now) c.loop-arc.invariant.stage;
}

pub returns : goal.returns
returns c =
    let m = c.args.map.now in
    let chosen = c.args.chosen.now in
    let below : (k : ℕ) → Contains (unused_in c.loop-arc.unused) k
    → k < c.loop-arc.arc = λ k held. let low = marked-below c.loop-arc.unused.marks.items k held in
    omega (arith, low, c.loop-arc.invariant.unused.count) in
    let is : IsBorder m chosen c.new.result = subst (IsBorder m chosen) (sym c.new.ensures)
    (stage-all m (odd_arcs m chosen) (unused_in c.loop-arc.unused) c.loop-arc.arc c.loop-arc.rings.items below
    c.loop-arc.invariant.stage) in
    record {
      border = is;
      closed = border-closed m chosen c.new.result is;
      used = border-used m chosen c.new.result is;
      once = border-once m chosen c.new.result is;
      crossed = border-crossed m chosen c.new.result c.arc_count-arc-end.ensures.is_map c.requires.known is;
    }
