-- The list is found at the index of the place.
use Rattle.std.proofs.Common.{◌≡◌, ◌∙◌, false, [], Some, map, position, sym, arith}
use Rattle.std.specs.List.{list_any}
use Rattle.std.proofs.lemmas.List.{length-map}
use Rattle.arc_map.specs.Ends.{is_same}
use Rattle.arc_map.proofs.Elements.{mapped-at}
use Rattle.arc_map.proofs.Listing.{stands-position, listed-at, listed-absent}
use Rattle.arc_map.proofs.ends.EndTable.chains_at.Goals as goal

pub returns-in-Some : goal.returns-in-Some
returns-in-Some c =
    let places = c.self.inside.places.keys in
    let lists = map (λ list. list.items) c.self.inside.lists.items in
    let at : position (is_same c.args.p) places ≡ Some c.in-Some.at = sym c.in-Some.ensures.index in
    let stands = stands-position places c.args.p c.in-Some.at at in
    let inside = stands.inside in
    let count = length-map c.self.inside.lists.items (λ list. list.items) in
    let here = mapped-at (λ list. list.items) c.self.inside.lists.items c.in-Some.at c.index.result.now []
    (omega (arith, inside, c.self.invariant)) c.index.ensures in
    let found = listed-at places lists c.args.p c.in-Some.at (omega (arith, count, c.self.invariant)) stands ∙ here in
    rw (c.as_slice.ensures, ← c.self.view_is) (sym found)

pub returns-in-None : goal.returns-in-None
returns-in-None c =
    let places = c.self.inside.places.keys in
    let lists = map (λ list. list.items) c.self.inside.lists.items in
    let absent : list_any (is_same c.args.p) places ≡ false = sym c.in-None.ensures.found in
    rw (← c.self.view_is) (sym (listed-absent places lists c.args.p absent))
