use Rattle.std.proofs.Common.{◌≡◌, ◌∙◌, ap, rules}
use Rattle.std.specs.List.{dedup}
use Rattle.std.proofs.lemmas.List.Filters.{dedup_is}
use Rattle.arc_map.specs.Ends.{is_same}
use Rattle.topo_build.specs.Cyclic.{opened}
use Rattle.topo_build.proofs.cyclic.cyclic.Goals as goal

pub returns : goal.returns
returns c =
    let read : c.in_ok-walk.walk.items ≡ c.args.ring.now = search rules in
    c.drop_closing.ensures ∙ ap opened (dedup_is is_same c.in_ok-walk.walk.items c.dedup.new.self.items c.dedup.ensures.filtered
    ∙ ap (dedup is_same) read)
