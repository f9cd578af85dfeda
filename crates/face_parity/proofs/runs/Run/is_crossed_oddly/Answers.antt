use Rattle.std.proofs.Common.{◌≡◌, ◌∙◌, ◌<◌, false, sym, rules}
use Rattle.arc_map.specs.Arranged.{arc_at}
use Rattle.face_parity.specs.Runs.{run_part}
use Rattle.face_parity.proofs.Running.{part-some}
use Rattle.face_parity.proofs.Seen.{above-box, unreached-is-even}
use Rattle.face_parity.proofs.runs.Run.is_crossed_oddly.Goals as goal

pub returns-then-not-reaches : goal.returns-then-not-reaches
returns-then-not-reaches c =
    let r = c.args.self.now in
    let run = c.requires.run in
    let none : c.reaches.result ≡ false = search rules in
    sym (unreached-is-even c.args.p c.args.at c.requires.at (run_part (arc_at c.args.topology.now r.arc) r) r.bounds run.round
    (sym c.reaches.ensures ∙ none))

pub returns-then-at-self : goal.returns-then-at-self
returns-then-at-self c =
    let r = c.args.self.now in
    let run = c.requires.run in
    let below : c.args.at.y < r.bounds.south = c.if-at-self.true in
    let ps = arc_at c.args.topology.now r.arc in
    c.part.ensures ∙ sym (above-box c.args.p c.args.at c.requires.at (run_part ps r) r.bounds r.ends
    (part-some ps r.from r.to run.edge run.within) run.round below run.ends)
