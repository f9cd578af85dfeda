-- Equal parts of a segment, and the boxes in which what is near them is looked for.
use Rattle.std.specs.Prelude.{◌+◌, ℕ, ℤ, pos, ◌+ℤ◌, ◌-ℤ◌, ◌*ℤ◌, ◌≤ℤ◌, ◌<ℤ◌}
use Rattle.grid_exact.specs.Geometry.{Place}
use Rattle.chain_reach.specs.Steps.{IsNearSegment}
use Rattle.chain_reach.specs.Extents.{IsInBox}
use Rattle.chain_reach.specs.declared.steps.Steps.{Steps}
use Rattle.chain_reach.specs.declared.extent.Extent.{Extent}

-- the fraction `numerator / denominator` of a way is at most the end of the first `count` of `parts` equal parts of it
abbrev pub IsUpToPart : ℤ → ℤ → ℕ → ℕ → Type 0
IsUpToPart denominator numerator parts count = (pos parts *ℤ numerator) ≤ℤ (pos count *ℤ denominator)

-- it is in the part number `part`, or at an end of it
pub record IsInPart (denominator numerator : ℤ) (parts part : ℕ) : Type 0 where
  pub from_start : (pos part *ℤ denominator) ≤ℤ (pos parts *ℤ numerator)
  pub to_end : (pos parts *ℤ numerator) ≤ℤ (pos (part + 1) *ℤ denominator)

-- what is in the part of the way from a to b is not below l, on one axis
abbrev pub IsLowOfPart : ℤ → ℤ → ℕ → ℕ → ℤ → Type 0
IsLowOfPart a b parts part l = (n i : ℤ) → pos 0 <ℤ n → IsInPart n i parts part → (n *ℤ l) ≤ℤ (n *ℤ a +ℤ i *ℤ (b -ℤ a))

-- it is not above u
abbrev pub IsHighOfPart : ℤ → ℤ → ℕ → ℕ → ℤ → Type 0
IsHighOfPart a b parts part u = (n i : ℤ) → pos 0 <ℤ n → IsInPart n i parts part → (n *ℤ a +ℤ i *ℤ (b -ℤ a)) ≤ℤ (n *ℤ u)

-- what is near the segment ab at a place of the part, and in the box `whole`, is in the box `block`
abbrev pub AreFoundInPart : Place → Place → ℕ → ℕ → Steps → Extent → Extent → Type 0
AreFoundInPart a b parts part steps whole block = (p : Place) (near : IsNearSegment steps a b p)
    → IsInPart near.denominator near.numerator parts part → IsInBox whole.low whole.high p → IsInBox block.low block.high p
