-- Boxes that hold the edges of a walk between them, grown, find what is in reach.
use Rattle.std.proofs.Common.{◌⊎◌, inl, inr, ℤ, pos, ◌+ℤ◌, ◌≤ℤ◌, arith}
use Rattle.grid_exact.specs.Geometry.{Place}
use Rattle.grid_exact.proofs.WholeLaws.{sums}
use Rattle.chain_side.proofs.Passed.{edge_has}
use Rattle.chain_reach.specs.Reach.{Box, IsInGrownBox, IsHeldBy, AreTogether}
use Rattle.chain_reach.specs.Laws.{BoxesFindReach}

from_low : (l a b z r : ℤ) → l ≤ℤ (a +ℤ pos 0) → l ≤ℤ (b +ℤ pos 0) → (a ≤ℤ (z +ℤ r)) ⊎ (b ≤ℤ (z +ℤ r)) → l ≤ℤ (z +ℤ r)
from_low l a b z r h k (inl e) = omega (arith, sums)
from_low l a b z r h k (inr e) = omega (arith, sums)

to_high : (u a b z r : ℤ) → a ≤ℤ (u +ℤ pos 0) → b ≤ℤ (u +ℤ pos 0) → (z ≤ℤ (a +ℤ r)) ⊎ (z ≤ℤ (b +ℤ r)) → z ≤ℤ (u +ℤ r)
to_high u a b z r h k (inl e) = omega (arith, sums)
to_high u a b z r h k (inr e) = omega (arith, sums)

held_near : (r s : ℤ) (box : Box) (p a b : Place) → IsHeldBy (pos 0) (pos 0) box a → IsHeldBy (pos 0) (pos 0) box b → IsInGrownBox r s p a b
    → IsHeldBy r s box p
held_near r s box p a b h k near =
    record {
      left = from_low box.low.x a.x b.x p.x r h.left k.left near.left;
      right = to_high box.high.x a.x b.x p.x r h.right k.right near.right;
      bottom = from_low box.low.y a.y b.y p.y s h.bottom k.bottom near.bottom;
      top = to_high box.high.y a.y b.y p.y s h.top k.top near.top;
    }

pub boxes_find_reach : BoxesFindReach
boxes_find_reach boxes r s p v ws cover h =
    let t = edge_has (AreTogether boxes) v ws h.start h.end cover h.edge in
    record { box = t.box; among = t.among; held = held_near r s t.box p h.start h.end t.start t.end h.box }
