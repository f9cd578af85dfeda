use Rattle.std.proofs.Common.{◌∙◌, sym}
use Rattle.sweep_index.specs.Area.{lowest, highest}
use Rattle.sweep_index.specs.Items.{is_found}
use Rattle.sweep_index.specs.Search.{numbered_of}
use Rattle.sweep_index.proofs.Skipping.{none_more}
use Rattle.sweep_index.proofs.walk.Search.first_found.Goals as goal

pub loop-k-preserved : goal.loop-k-preserved
loop-k-preserved c =
    let s = c.args.self.now in
    none_more (λ e. is_found s.live.now (lowest s.area) (highest s.area) (numbered_of e)) s.entries.now c.args.at c.loop-k.k
    c.index-self-k.result (sym c.finds.ensures ∙ c.if-finds.false) c.loop-k.invariant
