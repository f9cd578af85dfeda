-- The head of the first layer that has one up to the reach.
use Rattle.std.proofs.Common.{◌≡◌, ◌∙◌, ℕ, ◌+◌, ◌<◌, ◌≤◌, List, length, ap, slice_index, sym, subst, arith}
use Rattle.std.proofs.lemmas.List.{get_or_read}
use Rattle.layer_paths.specs.Lay.{Lay}
use Rattle.layer_paths.specs.Order.{IsForemost}
use Rattle.layer_paths.proofs.Threads.{foremost, front_is_head}
use Rattle.layer_paths.proofs.layering.Layering.first_from.Goals as goal

pub first_layer-layer-requires-clause-reached : goal.first_layer-layer-requires-clause-reached
first_layer-layer-requires-clause-reached c =
    let s = c.self.inside in
    let inv = c.self.invariant in
    let top : c.layer-top.result ≡ slice_index s.layers.items s.front = c.layer-top.ensures
    ∙ ap (λ (l : Lay). slice_index l.layers s.front) (sym c.self.view_is) in
    let ahead = subst (λ (l : Lay). l.front ≤ c.args.reach) (sym c.self.view_is) c.requires.after in
    let head = front_is_head s.last s.front s.layers.items s.nexts.items s.heads.items s.links.items inv.threads inv.front in
    subst (λ (hs : List ℕ). slice_index hs c.layer-top.result ≤ c.args.reach) (sym c.deref.ensures.value)
    (subst (λ (n : ℕ). slice_index s.heads.items n ≤ c.args.reach) (sym top) (omega (arith, head, ahead)))

pub first_layer-layer-requires-clause-order : goal.first_layer-layer-requires-clause-order
first_layer-layer-requires-clause-order c =
    let s = c.self.inside in
    let top : c.layer-top.result ≡ slice_index s.layers.items s.front = c.layer-top.ensures
    ∙ ap (λ (l : Lay). slice_index l.layers s.front) (sym c.self.view_is) in
    let low = subst (λ (l : Lay). c.args.least ≤ slice_index l.layers l.front) (sym c.self.view_is) c.requires.low in
    omega (arith, top, low)

pub first_layer-layer-requires-clause-in_list : goal.first_layer-layer-requires-clause-in_list
first_layer-layer-requires-clause-in_list c =
    let s = c.self.inside in
    let inv = c.self.invariant in
    let top : c.layer-top.result ≡ slice_index s.layers.items s.front = c.layer-top.ensures
    ∙ ap (λ (l : Lay). slice_index l.layers s.front) (sym c.self.view_is) in
    let size = inv.threads.small s.front (omega arith) inv.front in
    let few = inv.last in
    let room = inv.heads_room in
    omega (arith, top, size, ap length c.deref.ensures.value, room, few)

pub returns : goal.returns
returns c =
    let s = c.self.inside in
    let inv = c.self.invariant in
    let layer = c.first_layer-layer.result in
    let top : c.layer-top.result ≡ slice_index s.layers.items s.front = c.layer-top.ensures
    ∙ ap (λ (l : Lay). slice_index l.layers s.front) (sym c.self.view_is) in
    let e = c.deref.ensures.value in
    let reached = subst (λ (hs : List ℕ). slice_index hs layer ≤ c.args.reach) e c.first_layer-layer.ensures.reached in
    let none = subst (λ (hs : List ℕ). (k : ℕ) → c.args.least ≤ k → k < layer
    → c.args.reach < slice_index hs k) e c.first_layer-layer.ensures.none in
    let within = subst (λ (l : Lay). c.args.reach ≤ l.last) (sym c.self.view_is) c.requires.within in
    let high : layer ≤ slice_index s.layers.items s.front = omega (arith, c.first_layer-layer.ensures.high, top) in
    let size = inv.threads.small s.front (omega arith) inv.front in
    let few = inv.last in
    let room = inv.heads_room in
    let at : c.index.result.now ≡ slice_index s.heads.items layer = get_or_read s.heads.items layer _ (omega arith) c.index.ensures 0 in
    subst (λ (l : Lay). IsForemost l.layers l.front c.args.reach c.args.least c.index.result.now) c.self.view_is
    (subst (λ (n : ℕ). IsForemost s.layers.items s.front c.args.reach c.args.least n) (sym at)
    (foremost s.last s.front c.args.reach c.args.least layer s.layers.items s.nexts.items s.heads.items s.links.items inv.threads
    inv.front within c.first_layer-layer.ensures.low high reached none))
