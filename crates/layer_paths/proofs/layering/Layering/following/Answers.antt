-- The next vertex of the same layer, or the first of a greater one.
use Rattle.std.proofs.Common.{◌≡◌, ◌∙◌, ℕ, max, ◌+◌, ◌-◌, ◌<◌, ◌≤◌, List, length, ap, slice_index, sym, subst, arith}
use Rattle.std.proofs.lemmas.List.{get_or_read}
use Rattle.layer_paths.specs.Lay.{Lay}
use Rattle.layer_paths.specs.Order.{IsFollowing, IsForemost}
use Rattle.layer_paths.proofs.Threads.{linked, lowest, risen}
use Rattle.layer_paths.proofs.layering.Layering.following.Goals as goal

pub returns-then-next-reach : goal.returns-then-next-reach
returns-then-next-reach c =
    let s = c.self.inside in
    let inv = c.self.invariant in
    let up = subst (λ (l : Lay). l.front ≤ c.args.vertex) (sym c.self.view_is) c.requires.after in
    let down = subst (λ (l : Lay). c.args.vertex ≤ l.last) (sym c.self.view_is) c.requires.within in
    let before = subst (λ (l : Lay). slice_index l.layers c.args.vertex < slice_index l.layers l.front) (sym c.self.view_is)
    c.requires.before in
    let within = subst (λ (l : Lay). c.args.reach ≤ l.last) (sym c.self.view_is) c.requires.last in
    let few = inv.last in
    let room = inv.links_room in
    let next : c.index-next.result.now ≡ slice_index s.links.items c.args.vertex =
    get_or_read s.links.items c.args.vertex _ (omega arith) c.index-next.ensures 0 in
    let reached = c.if-next-reach.true in
    subst (λ (l : Lay). IsFollowing l.layers l.front c.args.reach c.args.vertex c.index-next.result.now) c.self.view_is
    (subst (λ (n : ℕ). IsFollowing s.layers.items s.front c.args.reach c.args.vertex n) (sym next)
    (linked s.last s.front c.args.reach c.args.vertex s.layers.items s.nexts.items s.heads.items s.links.items inv.threads up down within
    before (omega (arith, next, reached))))

pub returns-then-index-reach : goal.returns-then-index-reach
returns-then-index-reach c =
    let s = c.self.inside in
    let inv = c.self.invariant in
    let up = subst (λ (l : Lay). l.front ≤ c.args.vertex) (sym c.self.view_is) c.requires.after in
    let down = subst (λ (l : Lay). c.args.vertex ≤ l.last) (sym c.self.view_is) c.requires.within in
    let within = subst (λ (l : Lay). c.args.reach ≤ l.last) (sym c.self.view_is) c.requires.last in
    let few = inv.last in
    let room = inv.links_room in
    let next : c.index-next.result.now ≡ slice_index s.links.items c.args.vertex =
    get_or_read s.links.items c.args.vertex _ (omega arith) c.index-next.ensures 0 in
    let past : c.args.reach < slice_index s.links.items c.args.vertex = omega (arith, next, c.if-next-reach.false) in
    let layer : c.layer-above.result ≡ slice_index s.layers.items c.args.vertex = c.layer-above.ensures
    ∙ ap (λ (l : Lay). slice_index l.layers c.args.vertex) (sym c.self.view_is) in
    let least = c.layer-above.result + 1 in
    let is_least : c.layer-above.result + 1 ≡ max 0 (slice_index s.layers.items c.args.vertex + 1) = omega (arith, layer) in
    let first = subst (λ (l : Lay). IsForemost l.layers l.front c.args.reach least c.first_from.result) (sym c.self.view_is)
    c.first_from.ensures in
    subst (λ (l : Lay). IsFollowing l.layers l.front c.args.reach c.args.vertex c.first_from.result) c.self.view_is
    (risen s.last s.front c.args.reach c.args.vertex 0 least c.first_from.result s.layers.items s.nexts.items s.heads.items s.links.items
    inv.threads up down within past (λ k above below. omega arith) is_least first)

pub returns : goal.returns
returns c =
    let s = c.self.inside in
    let inv = c.self.invariant in
    let low = c.lowest_layer-lowest.result in
    let up = subst (λ (l : Lay). l.front ≤ c.args.vertex) (sym c.self.view_is) c.requires.after in
    let down = subst (λ (l : Lay). c.args.vertex ≤ l.last) (sym c.self.view_is) c.requires.within in
    let within = subst (λ (l : Lay). c.args.reach ≤ l.last) (sym c.self.view_is) c.requires.last in
    let ahead = subst (λ (l : Lay). l.front ≤ c.args.reach) (sym c.self.view_is) c.requires.front in
    let few = inv.last in
    let room = inv.links_room in
    let next : c.index-next.result.now ≡ slice_index s.links.items c.args.vertex =
    get_or_read s.links.items c.args.vertex _ (omega arith) c.index-next.ensures 0 in
    let past : c.args.reach < slice_index s.links.items c.args.vertex = omega (arith, next, c.if-next-reach.false) in
    let layer : c.layer-above.result ≡ slice_index s.layers.items c.args.vertex = c.layer-above.ensures
    ∙ ap (λ (l : Lay). slice_index l.layers c.args.vertex) (sym c.self.view_is) in
    let top : c.layer.result ≡ slice_index s.layers.items s.front = c.layer.ensures
    ∙ ap (λ (l : Lay). slice_index l.layers s.front) (sym c.self.view_is) in
    let below = subst (λ (hs : List ℕ). 0 < low → c.args.reach < slice_index hs (low - 1)) c.deref.ensures.value
    c.lowest_layer-lowest.ensures.below in
    let high : low ≤ slice_index s.layers.items s.front = omega (arith, c.lowest_layer-lowest.ensures.high, top) in
    let lows = lowest s.last s.front c.args.reach low s.layers.items s.nexts.items s.heads.items s.links.items inv.threads ahead within high
    below in
    let least = c.max.result in
    let is_least : c.max.result ≡ max low (slice_index s.layers.items c.args.vertex + 1) = omega (arith, layer, c.max.ensures) in
    let first = subst (λ (l : Lay). IsForemost l.layers l.front c.args.reach least c.first_from-2.result) (sym c.self.view_is)
    c.first_from-2.ensures in
    subst (λ (l : Lay). IsFollowing l.layers l.front c.args.reach c.args.vertex c.first_from-2.result) c.self.view_is
    (risen s.last s.front c.args.reach c.args.vertex low least c.first_from-2.result s.layers.items s.nexts.items s.heads.items
    s.links.items inv.threads up down within past lows is_least first)
