use Rattle.std.proofs.Common.{◌^◌}
use Rattle.std.proofs.lemmas.Nat.{pow_pos}
use Rattle.sweep_index.proofs.Growing.{things_reordered}
use Rattle.sweep_index.proofs.Paired.{pairs_are, towns_are}
use Rattle.sweep_index.proofs.edges.EdgeIndex.build.Goals as goal

pub invariant_of-result : goal.invariant_of-result
invariant_of-result c = record {
  short = c.band_shift-shift.ensures;
  sorted = c.sorted-things.ensures.sorted;
}

pub returns : goal.returns
returns c =
    let m = c.args.map.now in
    let height = 2 ^ c.band_shift-shift.result in
    let things = c.sorted-things.result.items in
    let are = things_reordered m height c.in_ok-boxes.boxes.items things c.sorted-things.ensures.permutation c.in_ok-boxes.ensures in
    record {
      pairs = pairs_are m height things (pow_pos c.band_shift-shift.result) are;
      towns = towns_are m height things (pow_pos c.band_shift-shift.result) are;
    }
