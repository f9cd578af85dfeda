-- The arc is as it was pushed.
use Rattle.std.proofs.Common.{◌≡◌, [], ◌∷◌, refl, rules}
use Rattle.worked_calls.proofs.OneBump.{arranged_of}
use Rattle.worked_calls.proofs.sides.bump.Goals as goal

pub returns : goal.returns
returns c =
    let arc = c.in_ok-to_vec.field-0 in
    let long : arc.items ≡ c.args.a ∷ c.args.b ∷ c.args.c ∷ [] = search rules in
    let one : c.push_reserved.new.self.items ≡ arc ∷ [] = rw (c.push_reserved.ensures.items, c.in_ok-arcs.ensures.items) refl in
    let arcs : c.new-2.result.arcs ≡ (c.args.a ∷ c.args.b ∷ c.args.c ∷ []) ∷ [] = rw (c.new-2.ensures.value, one, long) refl in
    let town : c.in_ok-points.points.items ≡ c.args.town ∷ [] = search rules in
    let points : c.new-2.result.points ≡ c.args.town ∷ [] = rw (c.new-2.ensures.value, town) refl in
    arranged_of c.new-2.result c.args.a c.args.b c.args.c c.args.town arcs points c.requires.rising.0 c.requires.rising.1 c.requires.off.0
    c.requires.off.1
