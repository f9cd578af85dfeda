-- At first each chain is as read, and all vertices are live.
use Rattle.std.proofs.Common.{◌≡◌, length, sym, subst}
use Rattle.arc_map.specs.Work.{Work}
use Rattle.map_index.specs.IndexedMap.{items_in}
use Rattle.map_index.specs.Listing.{items_of}
use Rattle.map_index.proofs.AsRead.{all_as_read}
use Rattle.map_index.proofs.indexed.IndexedMap.build.Goals as goal

pub build-requires : goal.build-requires
build-requires c = all_as_read c.args.map c.args.chains.items c.in_ok-work.work c.in_ok-work.ensures

pub invariant_of-result : goal.invariant_of-result
invariant_of-result c =
    let index = c.in_ok-index.index in
    let is = c.in_ok-work.ensures in
    let listed = subst (λ (w : Work). length index.items.numbered ≡ length (items_of w.read.points w.chains)) is c.in_ok-index.ensures.count
    in
    record {
      at_work = c.in_ok-index.ensures.index;
      count = subst (λ (w : Work). length index.items.numbered ≡ items_in w) (sym is) listed;
      chain_ends = c.in_ok-ends.ensures;
    }
