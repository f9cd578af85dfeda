use Rattle.std.proofs.Common.{inr, refl}
use Rattle.std.proofs.lemmas.Bool.{iff_false}
use Rattle.plane_sweep.proofs.Spanning.{same_corner, turned_rises}
use Rattle.plane_sweep.proofs.spans.span_at.Goals as goal

pub returns-else-precedes : goal.returns-else-precedes
returns-else-precedes c =
    let start = c.corner_at-start.ensures in
    let end = c.corner_at-end.ensures in
    record {
      named = refl;
      ends = inr (
        same_corner c.corner_at-end.result _ _ _ _ end.arc end.at end.end end.place,
        same_corner c.corner_at-start.result _ _ _ _
            start.arc start.at start.end start.place,
      );
      rising = turned_rises c.args.positions.now c.args.at c.corner_at-start.result.place c.corner_at-end.result.place c.requires.arc
          c.requires.within start.place end.place (iff_false c.precedes.ensures c.if-precedes.false);
    }
