-- The records that were there stay, and the new one lies behind them.
use Rattle.std.proofs.Common.{◌≡◌, ◌+◌, ◌++◌, length, rules}
use Rattle.arc_map.proofs.Flat.{records-pushed}
use Rattle.arc_map.proofs.records.RunRecords.push.Goals as goal

pub returns : goal.returns
returns c =
    let a = c.self.inside in
    let kept : c.extend_from_slice.new.self.items ≡ a.kept.items ++ c.args.kept.now = search rules in
    let layers : c.extend_from_slice-2.new.self.items ≡ a.layers.items ++ c.args.layers.now = search rules in
    let e = records-pushed a.kept.items a.layers.items c.args.kept.now c.args.layers.now a.entries.items
    (record {
      arc = c.args.arc;
      «from» = c.args.«from»;
      kept_start = c.len-kept_start.result;
      kept_end =
          c.len-kept_start.result + length c.args.kept.now;
      layers_start = c.len-layers_start.result;
      layers_end =
          c.len-layers_start.result + length c.args.layers.now;
    }) c.self.invariant.parts (search rules) (search rules) (search rules)
    (search rules) in
    rw (← c.self.view_is, c.push_reserved.ensures.items, kept, layers, e)
