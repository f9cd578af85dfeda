-- The strays are laid out in rows.
use Rattle.std.proofs.Common.{◌-◌, ◌*◌, length, refl, arith, rules}
use Rattle.side_wedge.specs.Flanks.{Flanks}
use Rattle.side_wedge.proofs.Loading.{starts_by, of_strays_by, starts_rise, starts_within, laid_by, laid_beside, laid_reach}
use Rattle.side_wedge.proofs.beside.Beside.load.Goals as goal

pub invariant_of-self : goal.invariant_of-self
invariant_of-self c =
    let strays = c.gather.new.strays.items in
    let rows = 2 * (length c.chain-chain.result.now - 1) in
    let starts = starts_by strays c.deref.result.now c.write_starts.new.starts.items rows c.deref.ensures.value c.write_starts.ensures.count
    c.write_starts.ensures.right in
    let of = of_strays_by strays c.deref-2.result.now c.write_places.new.xs.items c.write_places.new.ys.items c.deref-2.ensures.value
    c.write_places.ensures.across c.write_places.ensures.up in
    let count = starts.count in
    record {
      coordinates = c.write_places.ensures.coordinates;
      ordered = λ row within. starts_rise strays c.write_starts.new.starts.items rows row starts (omega arith);
      within = λ row within. starts_within strays c.write_starts.new.starts.items rows row c.write_places.new.xs.items
          c.write_places.new.ys.items starts of within;
      stray_room = search rules;
      x_room = search rules;
      y_room = search rules;
      start_room = search rules;
    }

pub returns-clause-beside : goal.returns-clause-beside
returns-clause-beside c =
    let w = c.args.map.now in
    let strays = c.gather.new.strays.items in
    let rows = 2 * (length c.chain-chain.result.now - 1) in
    let starts = starts_by strays c.deref.result.now c.write_starts.new.starts.items rows c.deref.ensures.value c.write_starts.ensures.count
    c.write_starts.ensures.right in
    let of = of_strays_by strays c.deref-2.result.now c.write_places.new.xs.items c.write_places.new.ys.items c.deref-2.ensures.value
    c.write_places.ensures.across c.write_places.ensures.up in
    let b : Flanks = record {
      room = c.self.inside.room;
      frame = c.frame-frame.result;
      xs = c.write_places.new.xs.items;
      ys =
          c.write_places.new.ys.items;
      starts = c.write_starts.new.starts.items;
    } in
    let steps = c.of.result in
    laid_beside w c.args.k c.rises-rising.result steps strays b
    (laid_by w c.args.k c.rises-rising.result steps strays b c.chain-chain.result.now rows c.frame-frame.ensures
    c.chain-chain.ensures.places refl
    c.rises-rising.ensures c.gather.ensures.strays starts of c.chain-chain.ensures.edges)

pub returns-clause-reach : goal.returns-clause-reach
returns-clause-reach c =
    let w = c.args.map.now in
    let strays = c.gather.new.strays.items in
    let rows = 2 * (length c.chain-chain.result.now - 1) in
    let starts = starts_by strays c.deref.result.now c.write_starts.new.starts.items rows c.deref.ensures.value c.write_starts.ensures.count
    c.write_starts.ensures.right in
    let of = of_strays_by strays c.deref-2.result.now c.write_places.new.xs.items c.write_places.new.ys.items c.deref-2.ensures.value
    c.write_places.ensures.across c.write_places.ensures.up in
    let b : Flanks = record {
      room = c.self.inside.room;
      frame = c.frame-frame.result;
      xs = c.write_places.new.xs.items;
      ys =
          c.write_places.new.ys.items;
      starts = c.write_starts.new.starts.items;
    } in
    let steps = c.of.result in
    let told = c.of.ensures in
    laid_reach w c.args.k c.rises-rising.result steps strays b c.args.weights c.args.bound
    (record {
      across = told.across;
      up = told.up;
      weight_across = told.in_range.0;
      weight_up = told.in_range.1;
      bound_low =
          told.in_range.2;
    })
    (laid_by w c.args.k c.rises-rising.result steps strays b c.chain-chain.result.now rows c.frame-frame.ensures
    c.chain-chain.ensures.places refl
    c.rises-rising.ensures c.gather.ensures.strays starts of c.chain-chain.ensures.edges)
