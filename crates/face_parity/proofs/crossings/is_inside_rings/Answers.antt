use Rattle.std.proofs.Common.{◌<◌, [], length, get_or, ◌∙◌, rules}
use Rattle.std.proofs.lemmas.Option.{get_or_from_slice_get}
use Rattle.face_parity.proofs.Counting.{inside-at}
use Rattle.face_parity.proofs.crossings.is_inside_rings.Goals as goal

pub loop-arc-preserved : goal.loop-arc-preserved
loop-arc-preserved c =
    let refs = c.args.arcs.now in
    let arcs = c.args.topology.now.arcs in
    let at = c.loop-arc.arc-index in
    let within : at < length refs = search rules in
    let here = get_or_from_slice_get arcs (get_or refs at 0) c.arc.result.now [] c.arc.ensures.value in
    let step = inside-at c.args.p arcs c.loop-arc.is_in refs at within in
    rw (c.exactly_one-is_in.ensures, c.is_crossed_oddly.ensures, ← here) (step ∙ c.loop-arc.invariant)
