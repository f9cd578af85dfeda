-- The list is found at the index of the place.
use Rattle.std.proofs.Common.{◌≡◌, ◌<◌, false, Some, All, get_or, length, position, refl, sym, subst}
use Rattle.std.specs.List.{list_any}
use Rattle.std.proofs.lemmas.List.Elements.{All-nil}
use Rattle.arc_map.specs.Ends.{is_same}
use Rattle.arc_map.proofs.Listing.{listed-absent}
use Rattle.dissolve.specs.Unused.{IsPopped}
use Rattle.dissolve.proofs.Taken.{at-list, popped-taken}
use Rattle.dissolve.proofs.unused.Unused.take_at.Goals as goal

pub pop_marked-requires : goal.pop_marked-requires
pop_marked-requires c =
    let u = c.args.self.now in
    let at : position (is_same c.args.place) u.places.keys ≡ Some c.in-Some.at = sym c.in-Some.ensures.index in
    let here = at-list u c.args.place c.in-Some.at c.index_mut.result.now at c.requires.lists c.index_mut.ensures.value in
    subst (λ marks. All (λ k. k < length marks) c.index_mut.result.now.items) (sym c.deref.ensures.value)
    (subst (All (λ k. k < length u.marks.items)) here (c.requires.known c.args.place))

pub returns-in-Some-pop_marked : goal.returns-in-Some-pop_marked
returns-in-Some-pop_marked c =
    let u = c.args.self.now in
    let at : position (is_same c.args.place) u.places.keys ≡ Some c.in-Some.at = sym c.in-Some.ensures.index in
    popped-taken u _ c.args.place c.in-Some.at c.in-Some-pop_marked.arc c.index_mut.result.now c.pop_marked.new.arcs at c.requires.lists
    c.index_mut.ensures.value refl refl refl
    (subst (λ marks. IsPopped marks c.index_mut.result.now.items c.pop_marked.new.arcs.items c.in-Some-pop_marked.arc) c.deref.ensures.value
    c.in-Some-pop_marked.ensures)

pub returns-in-None-pop_marked : goal.returns-in-None-pop_marked
returns-in-None-pop_marked c =
    let u = c.args.self.now in
    let at : position (is_same c.args.place) u.places.keys ≡ Some c.in-Some.at = sym c.in-Some.ensures.index in
    let here = at-list u c.args.place c.in-Some.at c.index_mut.result.now at c.requires.lists c.index_mut.ensures.value in
    subst (All (λ k. get_or u.marks.items k false ≡ false)) (sym here)
    (subst (λ marks. All (λ k. get_or marks k false ≡ false) c.index_mut.result.now.items) c.deref.ensures.value
    c.in-None-pop_marked.ensures)

pub returns-in-None : goal.returns-in-None
returns-in-None c =
    let u = c.args.self.now in
    let absent : list_any (is_same c.args.place) u.places.keys ≡ false = sym c.in-None.ensures.found in
    subst (All (λ k. get_or u.marks.items k false ≡ false)) (sym (listed-absent u.places.keys _ c.args.place absent))
    (All-nil (λ k. get_or u.marks.items k false ≡ false))
