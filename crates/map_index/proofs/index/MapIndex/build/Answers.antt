-- The list of the items is indexed.
use Rattle.std.proofs.Common.{◌∙◌, length, ap}
use Rattle.std.specs.List.{enumerate_from}
use Rattle.std.proofs.lemmas.List.FromFn.{length-enumerate_from}
use Rattle.std.proofs.lemmas.List.Sorted.{length_permutation}
use Rattle.map_index.specs.MapIndex.{Placed}
use Rattle.map_index.proofs.Indexing.{index_at_first}
use Rattle.map_index.proofs.index.MapIndex.build.Goals as goal

pub returns-clause-index : goal.returns-clause-index
returns-clause-index c =
    let index = c.in_ok-index.index in
    let v : Placed = record { items = index; firsts = c.in_ok-items.firsts.items } in
    index_at_first c.args.work.now c.in_ok-items.items.items v record {
      list = c.in_ok-items.ensures.items;
      few = c.in_ok-items.ensures.few;
      firsts = c.in_ok-items.ensures.firsts;
      firsts_count = c.in_ok-items.ensures.firsts_count;
      refs_count = c.in_ok-items.ensures.refs_count;
      numbered = c.in_ok-index.ensures.numbered;
      live = c.in_ok-index.ensures.live;
      read = c.requires;
      edges = c.in_ok-items.ensures.edges;
    }

pub returns-clause-count : goal.returns-clause-count
returns-clause-count c =
    let index = c.in_ok-index.index in
    let items = c.in_ok-items.items.items in
    length_permutation (enumerate_from 0 items) index.numbered c.in_ok-index.ensures.numbered ∙ length-enumerate_from 0 items
    ∙ ap length c.in_ok-items.ensures.items
