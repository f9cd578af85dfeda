-- The rings that were there stay, and the new one lies behind them.
use Rattle.std.proofs.Common.{◌≡◌, ◌∙◌, ◌+◌, ◌≤◌, ◌^◌, List, [], ◌∷◌, ◌++◌, length, sum_by, ap, subst, sym, rules}
use Rattle.grid_exact.specs.Geometry.{Place}
use Rattle.geo_reader.specs.declared.rings.Part.{Part}
use Rattle.geo_reader.proofs.Flats.{flat-pushed}
use Rattle.geo_reader.proofs.rings.RingList.push.Goals as goal

pub invariant_of-self-2 : goal.invariant_of-self-2
invariant_of-self-2 c =
    let a = c.self.inside in
    let part : Part = record { start = c.len-start.result; end = c.len-end.result } in
    let few = subst (λ (rings : List (List Place)). sum_by length rings + length c.args.ring.now ≤ 2 ^ 19)
    (sym c.self.view_is) c.requires.few in
    let parts : c.push_reserved.new.self.items ≡ a.parts.items ++ part ∷ [] =
    c.push_reserved.ensures.items ∙ ap (λ (ps : List Part). ps ++ part ∷ []) c.reserve.ensures.items in
    (flat-pushed a.positions.items c.args.ring.now c.extend_from_slice.new.self.items a.parts.items c.push_reserved.new.self.items part
    c.self.invariant c.requires.is_ring few c.in_ok-extend_from_slice.ensures.items (search rules) (search rules) parts).0

pub returns : goal.returns
returns c =
    let a = c.self.inside in
    let part : Part = record { start = c.len-start.result; end = c.len-end.result } in
    let few = subst (λ (rings : List (List Place)). sum_by length rings + length c.args.ring.now ≤ 2 ^ 19)
    (sym c.self.view_is) c.requires.few in
    let parts : c.push_reserved.new.self.items ≡ a.parts.items ++ part ∷ [] =
    c.push_reserved.ensures.items ∙ ap (λ (ps : List Part). ps ++ part ∷ []) c.reserve.ensures.items in
    (flat-pushed a.positions.items c.args.ring.now c.extend_from_slice.new.self.items a.parts.items c.push_reserved.new.self.items part
    c.self.invariant c.requires.is_ring few c.in_ok-extend_from_slice.ensures.items (search rules) (search rules) parts).1
    ∙ ap (λ (rings : List (List Place)). rings ++ c.args.ring.now ∷ []) c.self.view_is
