-- The list of one place gets an arc more.
use Rattle.std.proofs.Common.{◌≡◌, ◌∙◌, [], ◌∷◌, ◌++◌, map, set, cond, ap, arith, rules}
use Rattle.std.proofs.lemmas.List.{length-map, map-set}
use Rattle.arc_map.specs.Ends.{is_same, listed}
use Rattle.arc_map.proofs.Elements.{mapped-at}
use Rattle.arc_map.proofs.Listing.{stands-position, listed-added}
use Rattle.dissolve.proofs.unused.Unused.add.Goals as goal

pub returns-clause-lists : goal.returns-clause-lists
returns-clause-lists c = λ p.
    let table = c.index_of.new.self in
    let places = table.places.keys in
    let lists = map (λ list. list.items) table.lists.items in
    let at = c.in_ok-at.at in
    let stands = stands-position places c.args.place at c.in_ok-at.ensures.index in
    let count = length-map table.lists.items (λ list. list.items) in
    let here = mapped-at (λ list. list.items) table.lists.items at c.index_mut.result.now [] c.in_ok-at.ensures.within
    c.index_mut.ensures.value in
    let added = listed-added places lists c.args.place at c.index_mut.result.now.items c.args.arc
    (omega (arith, count, c.in_ok-at.ensures.count)) stands here p in
    let kept = c.in_ok-at.ensures.lists p in
    let pushed : c.push.new.self.items ≡ c.index_mut.result.now.items ++ c.args.arc ∷ [] = search rules in
    let made = map-set (λ list. list.items) table.lists.items at c.push.new.self ∙ ap (set lists at) pushed in
    ap (λ ls. listed places ls p) made ∙ added ∙ ap (λ ns. cond (is_same p c.args.place) (ns ++ c.args.arc ∷ []) ns) kept
