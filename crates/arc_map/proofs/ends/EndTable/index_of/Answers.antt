-- A new place has an empty list.
use Rattle.std.proofs.Common.{◌≡◌, ◌∙◌, [], ◌∷◌, ◌++◌, map, ap, arith, rules}
use Rattle.std.proofs.lemmas.List.{length-map, map-append}
use Rattle.arc_map.proofs.Listing.{listed-new_place}
use Rattle.arc_map.proofs.ends.EndTable.index_of.Goals as goal

pub returns-then-is_new-clause-lists : goal.returns-then-is_new-clause-lists
returns-then-is_new-clause-lists c = λ p.
    let places = c.self.inside.places.keys in
    let lists = map (λ list. list.items) c.self.inside.lists.items in
    let keys : c.insert_full.new.self.keys ≡ places ++ c.args.place ∷ [] = search rules in
    let items : c.push_reserved.new.self.items ≡ c.self.inside.lists.items ++ c.new.result ∷ [] = search rules in
    let made = map-append (λ list. list.items) c.self.inside.lists.items (c.new.result ∷ [])
    ∙ ap (λ ns. lists ++ ns ∷ []) c.new.ensures.items in
    rw (keys, items, made, ← c.self.view_is) (listed-new_place places lists c.args.place
    (omega (arith, length-map c.self.inside.lists.items (λ list. list.items), c.self.invariant)) p)
