-- The corners move outwards alone.
use Rattle.cert_checker.proofs.Boxes.{then_lower_left}
use Rattle.cert_checker.proofs.extent.Extent.with.Goals as goal

pub returns-clause-new : goal.returns-clause-new
returns-clause-new c = record { from_low = c.low_corner.ensures.second; to_high = c.high_corner.ensures.second }

pub returns-clause-low : goal.returns-clause-low
returns-clause-low c = record {
  from_low = c.low_corner.ensures.first;
  to_high =
      then_lower_left c.args.self.low c.args.self.high c.high_corner.result c.args.self.ordered c.high_corner.ensures.first;
}

pub returns-clause-high : goal.returns-clause-high
returns-clause-high c = record {
  from_low = then_lower_left c.low_corner.result c.args.self.low c.args.self.high c.low_corner.ensures.first
      c.args.self.ordered;
  to_high = c.high_corner.ensures.first;
}
