-- The items before those of the chain stand in the list, and the chains so far have their first numbers.
use Rattle.std.proofs.Common.{◌≡◌, ◌+◌, ◌*◌, ◌^◌, ◌<◌, ◌≤◌, ℕ, All, length, get_or, take, vec_len, vec_capacity}
use Rattle.map_index.specs.Listing.{items_before}
use Rattle.map_index.proofs.listing.listed.Given as goal

abbrev pub invariant-loop-k : goal.invariant-loop-k
invariant-loop-k l = record {
  items : l.items.items ≡ items_before l.work.read.points l.work.chains l.k;
  few : length l.items.items ≤ 2 ^ 20 + 1024 * l.k;
  firsts : (j : ℕ) → j < l.k → get_or l.firsts.items j 0 ≡ length (items_before l.work.read.points l.work.chains j);
  edges : All (λ chain. 0 < length chain.rest) (take l.k l.work.chains);
  count : vec_len l.firsts ≡ l.k;
  room : vec_capacity l.firsts ≡ length l.work.chains;
}
