-- The chain has the frame of its place.
use Rattle.std.proofs.Common.{◌≡◌, ◌<◌, ◌∙◌, length, ap, sym, subst}
use Rattle.std.proofs.lemmas.Option.{get_or_from_slice_get}
use Rattle.arc_map.specs.Chains.{chain_at}
use Rattle.arc_map.specs.Work.{Work}
use Rattle.arc_map.specs.declared.refs.ChainRef.{ChainRef}
use Rattle.map_index.specs.MapIndex.{no_ref}
use Rattle.map_index.proofs.indexed.IndexedMap.frame.Goals as goal

pub returns : goal.returns
returns c =
    let w = c.self.inside.work in
    let k = c.args.k in
    let r = c.chain_ref.result in
    let below = subst (λ (v : Work). c.args.k < length v.chains) (sym c.self.view_is) c.requires in
    subst (λ (v : Work). c.chain_ref.result.frame ≡ (chain_at v.chains c.args.k).frame) c.self.view_is
    (ap (λ (x : ChainRef). x.frame) (sym (get_or_from_slice_get w.refs k r no_ref c.chain_ref.ensures))
    ∙ sym (c.self.invariant.at_work.chains.frames k below))
