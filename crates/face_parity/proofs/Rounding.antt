-- Boxes round more and more positions.
use Rattle.std.proofs.Common.{◌≡◌, ◌+◌, ◌^◌, ◌<◌, ◌≤◌, ℕ, List, All, length, get_or, take, min, max, sym, subst, arith}
use Rattle.std.proofs.lemmas.List.Elements.{All-more, All-weaker}
use Rattle.grid_exact.specs.Geometry.{Place}
use Rattle.face_parity.specs.Bounds.{IsIn, IsOffsetOf}
use Rattle.face_parity.specs.declared.bounds.Bounds.{Bounds}
use Rattle.face_parity.specs.declared.bounds.Offset.{Offset}

-- the box with one more place in it
abbrev pub widened : Bounds → Offset → Bounds
widened b at = record { west = min b.west at.x; east = max b.east at.x; south = min b.south at.y; north = max b.north at.y }

widened-holds : (b : Bounds) (at : Offset) (q : Place) → IsIn b q → IsIn (widened b at) q
widened-holds b at q is = let west = is.west in let east = is.east in let south = is.south in let north = is.north in record {
  on_grid = is.on_grid;
  west = omega (arith, west);
  east = omega (arith, east);
  south = omega (arith, south);
  north = omega (arith, north);
}

widened-has : (b : Bounds) (at : Offset) (q : Place) → IsOffsetOf q at → IsIn (widened b at) q
widened-has b at q is = let x = is.x in let y = is.y in record {
  on_grid = is.on_grid;
  west = omega (arith, x);
  east = omega (arith, x);
  south = omega (arith, y);
  north = omega (arith, y);
}

pub round-more : (ps : List Place) (i : ℕ) (q : Place) (b new : Bounds) (at : Offset) → i < length ps → q ≡ get_or ps i q
    → new ≡ widened b at → IsOffsetOf q at → All (IsIn b) (take i ps) → All (IsIn new) (take (i + 1) ps)
round-more ps i q b new at within read is here so_far =
    subst (λ n. All (IsIn n) (take (i + 1) ps)) (sym is)
    (All-more (IsIn (widened b at)) ps i q within (All-weaker (IsIn b) (IsIn (widened b at)) (λ r has. widened-holds b at r has) (take i ps)
    so_far)
    (subst (IsIn (widened b at)) read (widened-has b at q here)))

pub small-more : (b new : Bounds) (q : Place) (at : Offset) → new ≡ widened b at → IsOffsetOf q at → (b.east ≤ 2 ^ 30) × (b.north ≤ 2 ^ 30)
    → (new.east ≤ 2 ^ 30) × (new.north ≤ 2 ^ 30)
small-more b new q at is here small =
    subst (λ (n : Bounds). (n.east ≤ 2 ^ 30) × (n.north ≤ 2 ^ 30)) (sym is)
    (let x = here.small.0 in let y = here.small.1 in let east = small.0 in let north = small.1 in
    (omega (arith, x, east), omega (arith, y, north)))
