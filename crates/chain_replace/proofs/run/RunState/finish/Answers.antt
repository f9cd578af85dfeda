-- At the end the run has come to its outcome.
use Rattle.std.proofs.Common.{◌≡◌, ◌∙◌, length, ap, sym, subst}
use Rattle.arc_map.specs.Map.{Map}
use Rattle.arc_map.specs.Arranged.{IsMapArranged}
use Rattle.arrangement_check.specs.Partly.{Holding}
use Rattle.chain_replace.specs.Laws.{KeepsFaces}
use Rattle.chain_replace.specs.Run.{Progress, map_so_far}
use Rattle.chain_replace.specs.UnderWay.{progress_of}
use Rattle.chain_replace.proofs.Replacing.{outcome_keeps_faces}
use Rattle.chain_replace.proofs.Sound.{arranged_now, outcome_at_end}
use Rattle.chain_replace.proofs.run.RunState.finish.Goals as goal

pub adopt-requires : goal.adopt-requires
adopt-requires c =
    subst (λ (m : Map). IsMapArranged c.self.inside.terms.held m) (sym c.finish.ensures)
    (arranged_now (progress_of c.self.inside) c.self.invariant.sound)

pub returns-clause-faces : goal.returns-clause-faces
returns-clause-faces c =
    let p = progress_of c.self.inside in
    let sound = c.self.invariant.sound in
    let done = subst (λ (q : Progress). q.next ≡ length q.work.chains) (sym c.self.view_is) c.requires in
    let made = ap (λ (h : Holding). h.map) c.adopt.ensures ∙ c.finish.ensures in
    subst (λ (q : Progress). KeepsFaces q.terms.held q.work.read c.adopt.result.map) c.self.view_is
    (subst (λ (m : Map). KeepsFaces p.terms.held p.work.read m) (sym made)
    (outcome_keeps_faces p.work.read p.terms (map_so_far p) p.records sound.was (outcome_at_end p sound done)))
