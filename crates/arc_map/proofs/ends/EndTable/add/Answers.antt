-- The list of one place gets a number more.
use Rattle.std.proofs.Common.{◌≡◌, ◌∙◌, [], ◌∷◌, ◌++◌, Some, map, set, cond, position, sym, ap, subst, arith, rules}
use Rattle.std.proofs.lemmas.List.{length-map, map-set}
use Rattle.arc_map.specs.Ends.{EndLists, is_same, listed}
use Rattle.arc_map.proofs.Elements.{mapped-at}
use Rattle.arc_map.proofs.Listing.{stands-position, listed-added}
use Rattle.arc_map.proofs.ends.EndTable.add.Goals as goal

pub returns : goal.returns
returns c = λ p.
    let places = c.self.inside.places.keys in
    let lists = map (λ list. list.items) c.self.inside.lists.items in
    let at = c.in_ok-at.at in
    let is : position (is_same c.args.place) places ≡ Some at =
    subst (λ (t : EndLists). position (is_same c.args.place) t.places ≡ Some at) (sym c.self.view_is) c.in_ok-at.ensures.index in
    let stands = stands-position places c.args.place at is in
    let inside = stands.inside in
    let count = length-map c.self.inside.lists.items (λ list. list.items) in
    let here = mapped-at (λ list. list.items) c.self.inside.lists.items at c.index_mut.result.now []
    (omega (arith, inside, c.self.invariant)) c.index_mut.ensures.value in
    let added = listed-added places lists c.args.place at c.index_mut.result.now.items c.args.chain (omega (arith, count, c.self.invariant))
    stands here p in
    let before = listed c.args.self.now.places c.args.self.now.lists p in
    let kept = subst (λ (t : EndLists). listed t.places t.lists p ≡ before) (sym c.self.view_is) (c.in_ok-at.ensures.lists p) in
    let pushed : c.push.new.self.items ≡ c.index_mut.result.now.items ++ c.args.chain ∷ [] = search rules in
    let made = map-set (λ list. list.items) c.self.inside.lists.items at c.push.new.self ∙ ap (set lists at) pushed in
    ap (λ ls. listed places ls p) made ∙ added ∙ ap (λ ns. cond (is_same p c.args.place) (ns ++ c.args.chain ∷ []) ns) kept
