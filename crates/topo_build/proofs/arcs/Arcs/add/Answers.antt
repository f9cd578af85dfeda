use Rattle.std.proofs.Common.{◌≡◌, ◌∙◌, [], ◌∷◌, ◌++◌, ap, length, map, subst, rules, arith}
use Rattle.std.proofs.lemmas.List.{length-map, map_push}
use Rattle.indexmap.specs.IndexMap.{get}
use Rattle.topo_build.specs.Table.{ArePut, same_edge}
use Rattle.topo_build.proofs.Listing.{listed-more}
use Rattle.topo_build.proofs.arcs.Arcs.add.Goals as goal

pub returns-clause-table : goal.returns-clause-table
returns-clause-table c =
    let old = c.args.self.now.arcs.items in
    let arcs = map (λ arc. arc.items) old in
    let before = get same_edge c.args.self.now.edges in
    let found = get same_edge c.put.new.edges in
    let items : c.push.new.self.items ≡ old ++ c.args.arc ∷ [] = search rules in
    let after = ap (map (λ arc. arc.items)) items ∙ map_push (λ arc. arc.items) old c.args.arc in
    let same = length-map old (λ arc. arc.items) in
    let count : c.len-number.result ≡ length arcs = omega (arith, same, c.len-number.ensures) in
    listed-more arcs (map (λ arc. arc.items) c.push.new.self.items) c.args.arc.items before found c.requires.table
    (subst (λ n. ArePut c.args.arc.items n before found) count (subst (λ ps. ArePut ps c.len-number.result before found)
    c.as_slice.ensures.value c.in_ok-put.ensures)) after
