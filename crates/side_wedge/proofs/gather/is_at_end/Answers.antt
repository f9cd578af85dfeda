-- The ends are read from the list.
use Rattle.std.proofs.Common.{◌≡◌, ◌∙◌, ◌-◌, inl, inr, length, arith}
use Rattle.std.proofs.lemmas.List.{get_or_read}
use Rattle.chain_side.specs.Along.{vertex_at}
use Rattle.side_wedge.proofs.gather.is_at_end.Goals as goal

pub returns : goal.returns
returns c t =
    let chain = c.args.chain.now in
    let first : c.index-chain-0.result ≡ vertex_at chain 0 = get_or_read chain 0 _ (omega (arith, c.requires)) c.index-chain-0.is _ in
    let last : c.index-chain-chain.result ≡ vertex_at chain (length chain - 1) =
    get_or_read chain (length chain - 1) _ (omega (arith, c.requires)) c.index-chain-chain.is _ in
    elim (c.is_either.ensures t) [ inl e ↦ inl (e ∙ first) | inr e ↦ inr (e ∙ last) ]
