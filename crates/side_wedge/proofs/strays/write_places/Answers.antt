-- One stray more.
use Rattle.std.proofs.Common.{◌<◌, length, arith, rules}
use Rattle.side_wedge.proofs.Boxed.{passed}
use Rattle.side_wedge.proofs.Written.{coordinates_pushed, mapped_pushed}
use Rattle.side_wedge.proofs.strays.write_places.Goals as goal

pub loop-stray-preserved : goal.loop-stray-preserved
loop-stray-preserved c =
    let i = c.loop-stray.stray-index in
    let h = c.loop-stray.invariant in
    let strays = c.args.strays.now in
    let x = c.stray-item.result in
    let within : i < length strays = omega (arith, c.loop-stray-test.true) in
    let px = passed c.x.result c.x.ensures.on_grid in
    let py = passed c.y.result c.y.ensures.on_grid in
    record {
      across = mapped_pushed (λ y. y.at.x) c.loop-stray.xs.items c.push_reserved.new.self.items strays i x c.x.result _ within
          c.stray-item.is h.across c.push_reserved.ensures.items px c.x.ensures.value;
      up = mapped_pushed (λ y. y.at.y) c.loop-stray.ys.items c.push_reserved-in-loop-stray.new.self.items strays i x c.y.result _ within
          c.stray-item.is h.up c.push_reserved-in-loop-stray.ensures.items py c.y.ensures.value;
      coordinates = coordinates_pushed c.loop-stray.xs.items c.loop-stray.ys.items c.push_reserved.new.self.items
          c.push_reserved-in-loop-stray.new.self.items c.x.result c.y.result _ _ c.push_reserved.ensures.items
          c.push_reserved-in-loop-stray.ensures.items px py h.coordinates c.x.ensures.on_grid c.y.ensures.on_grid;
      x_count = search rules;
      y_count = search rules;
      x_room = search rules;
      y_room = search rules;
      x_capacity = search rules;
      y_capacity = search rules;
    }
