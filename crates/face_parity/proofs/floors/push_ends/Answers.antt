use Rattle.std.proofs.Common.{◌<◌, ◌≤◌, All, length, subst, rules}
use Rattle.std.proofs.lemmas.List.{take_all}
use Rattle.face_parity.specs.Floors.{span_at}
use Rattle.face_parity.proofs.Lowest.{ends-more, low-more}
use Rattle.face_parity.proofs.floors.push_ends.Goals as goal

pub loop-arc-preserved : goal.loop-arc-preserved
loop-arc-preserved c =
    let within : c.loop-arc.arc-index < length c.args.refs.now = search rules in
    record {
      ends = ends-more c.args.spans.now c.args.refs.now c.loop-arc.arc-index c.loop-arc.ends.items c.push.new.self.items
          c.push-in-loop-arc.new.self.items _ within c.in_ok-push.ensures.items c.in_ok-push-2.ensures.items c.loop-arc.invariant.ends;
      low = low-more c.args.spans.now c.args.refs.now c.loop-arc.arc-index c.loop-arc.low c.min-low.result within c.min-low.ensures
          c.loop-arc.invariant.low;
    }

pub returns-clause-low : goal.returns-clause-low
returns-clause-low c =
    let all : length c.args.refs.now ≤ c.loop-arc.arc-index = search rules in
    subst (All (λ arc. c.loop-arc.low ≤ (span_at c.args.spans.now arc).low)) (take_all c.loop-arc.arc-index c.args.refs.now all)
    c.loop-arc.invariant.low
