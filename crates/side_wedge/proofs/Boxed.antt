-- The box round places, and what is outside it.
use Rattle.std.proofs.Common.{◌≡◌, ◌⊎◌, inl, inr, true, List, ℤ, w64, to_z, of_z, sym, subst, arith}
use Rattle.std.specs.Prelude.{All}
use Rattle.std.proofs.lemmas.Int.{to_z-of_z}
use Rattle.grid_exact.specs.Geometry.{Place, IsGridNumber}
use Rattle.grid_exact.proofs.WholeLaws.{sums}
use Rattle.grid_exact.proofs.Signs.{at_most_or_above}
use Rattle.grid_exact.proofs.Orders.{le_yes}
use Rattle.lane_kernels.proofs.LaneSizes.{grid_fits}
use Rattle.sweep_index.specs.Box.{is_in_box}
use Rattle.chain_reach.specs.Extents.{IsInBox}
use Rattle.side_wedge.specs.Flanks.{IsBeyond}
use Rattle.side_wedge.specs.Flanks.IsBeyond.{West, East, South, North}

-- ---- numbers of the grid

pub passed : (z : ℤ) → IsGridNumber z → to_z w64 (of_z w64 z) ≡ z
passed z g = to_z-of_z w64 z (grid_fits z g)

pub passed_on_grid : (z : ℤ) → IsGridNumber z → IsGridNumber (to_z w64 (of_z w64 z))
passed_on_grid z g = subst IsGridNumber (sym (passed z g)) g

-- ---- outside

-- a place is in the box, or on one axis all that is in the box lies on one side of it
pub in_box_or_beyond : (low high p : Place) (chain : List Place) → All (IsInBox low high) chain → IsInBox low high p ⊎ IsBeyond chain p
in_box_or_beyond low high p chain all =
    elim (at_most_or_above low.x p.x) [
      | inr out ↦ inr (West (λ k d within. let west = (all k d within).from_low.across in omega (arith, sums)))
      | inl west ↦
          elim (at_most_or_above p.x high.x) [
            | inr out ↦ inr (East (λ k d within. let east = (all k d within).to_high.across in omega (arith, sums)))
            | inl east ↦
                elim (at_most_or_above low.y p.y) [
                  | inr out ↦ inr (South (λ k d within. let south = (all k d within).from_low.up in omega (arith, sums)))
                  | inl south ↦
                      elim (at_most_or_above p.y high.y) [
                        | inr out ↦ inr (North (λ k d within. let north = (all k d within).to_high.up in omega (arith, sums)))
                        | inl north ↦ inl (record {
                          from_low = record { across = west; up = south };
                          to_high =
                              record { across = east; up = north };
                        })
                      ]
                ]
          ]
    ]

-- as the index tests it
pub in_box_tested : (low high p : Place) → IsInBox low high p → is_in_box low high p ≡ true
in_box_tested low high p h =
    let west = h.from_low.across in let east = h.to_high.across in let south = h.from_low.up in let north = h.to_high.up in
    simp (le_yes low.x p.x west, le_yes p.x high.x east, le_yes low.y p.y south, le_yes p.y high.y north)
