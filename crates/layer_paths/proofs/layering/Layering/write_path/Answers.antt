-- The trail over the next vertices.
use Rattle.std.proofs.Common.{◌≡◌, ℕ, ◌≤◌, List, take, sym, subst, arith}
use Rattle.layer_paths.specs.Lay.{Lay, GoesOn, IsTrail}
use Rattle.layer_paths.proofs.layering.Layering.write_path.Goals as goal

pub write_trail-requires-clause-on : goal.write_trail-requires-clause-on
write_trail-requires-clause-on c =
    let s = c.self.inside in
    let whole = subst (λ (l : Lay). l.front ≡ 0) (sym c.self.view_is) c.requires.whole in
    subst (λ (ns : List ℕ). GoesOn ns s.last) (sym c.deref.ensures.value) (λ k within. c.self.invariant.threads.next k (omega arith) within)

pub returns-clause-trail : goal.returns-clause-trail
returns-clause-trail c =
    let s = c.self.inside in
    let path = take c.write_trail.result c.write_trail.new.out in
    subst (λ (l : Lay). IsTrail l.nexts l.last path) c.self.view_is
    (subst (λ (ns : List ℕ). IsTrail ns s.last path) c.deref.ensures.value c.write_trail.ensures.trail)
