-- The items so far that are not kept are dropped, and the walk along `kept` stands at the first place that is not passed.
use Rattle.std.proofs.Common.{◌≡◌, length}
use Rattle.map_index.specs.Drops.{AreDropped}
use Rattle.map_index.proofs.Dropping.{IsWalkedTo}
use Rattle.map_index.proofs.index.drop_others.Given as goal

abbrev pub invariant-loop-at : goal.invariant-loop-at
invariant-loop-at l = record {
  numbered : l.index.numbered ≡ l.initial.index.numbered;
  live_count : length l.index.live ≡ length l.initial.index.live;
  walked : IsWalkedTo l.kept l.at l.next;
  dropped : AreDropped l.kept l.first l.at l.initial.index.live l.index.live;
}
