-- Side by side.
use Rattle.chain_reach.proofs.extent.Extent.grown_within.Goals as goal

pub returns : goal.returns
returns c p =
    let low = c.lowered.ensures in
    let high = c.raised.ensures in (
      λ h.
          let west = (low.across p.x).0 h.from_low.across in
          let south = (low.up p.y).0 h.from_low.up in
          let east = (high.across p.x).0 h.to_high.across in
          let north = (high.up p.y).0 h.to_high.up in (
            record { from_low = record { across = west.0; up = south.0 }; to_high = record { across = east.0; up = north.0 } },
            record { left = west.1; right = east.1; bottom = south.1; top = north.1 },
          ),
      λ h. record {
        from_low = record {
          across = (low.across p.x).1 (h.0.from_low.across, h.1.left);
          up =
              (low.up p.y).1 (h.0.from_low.up, h.1.bottom);
        };
        to_high = record { across = (high.across p.x).1 (h.0.to_high.across, h.1.right); up = (high.up p.y).1 (h.0.to_high.up, h.1.top) };
      },
    )
