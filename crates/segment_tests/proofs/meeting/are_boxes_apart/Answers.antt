-- The ranges that are compared are those of the coordinates.
use Rattle.std.proofs.Common.{◌↔◌, inl, inr, IsTrue, w64, FitsSigned, arith}
use Rattle.std.proofs.lemmas.Int.{to_z-of_z}
use Rattle.grid_exact.proofs.WholeLaws.{fits}
use Rattle.segment_tests.specs.Meeting.{AreRangesApart}
use Rattle.segment_tests.proofs.meeting.are_boxes_apart.Goals as goal

pub returns-then-are_ranges_apart : goal.returns-then-are_ranges_apart
returns-then-are_ranges_apart c =
    let a : FitsSigned w64 c.y.result = omega (arith, fits) in
    let b : FitsSigned w64 c.y-2.result = omega (arith, fits) in
    let p : FitsSigned w64 c.y-3.result = omega (arith, fits) in
    let q : FitsSigned w64 c.y-4.result = omega (arith, fits) in
    let told : IsTrue c.are_ranges_apart.result ↔ AreRangesApart c.args.a.y c.args.b.y c.args.c.y c.args.d.y =
    rw (← c.y.ensures.value, ← c.y-2.ensures.value, ← c.y-3.ensures.value, ← c.y-4.ensures.value)
    (simp to_z-of_z at c.are_ranges_apart.ensures) in
    (λ t. inl (told.0 t), λ h. c.if-are_ranges_apart.true)

pub returns-else-are_ranges_apart : goal.returns-else-are_ranges_apart
returns-else-are_ranges_apart c =
    let a : FitsSigned w64 c.y.result = omega (arith, fits) in
    let b : FitsSigned w64 c.y-2.result = omega (arith, fits) in
    let p : FitsSigned w64 c.y-3.result = omega (arith, fits) in
    let q : FitsSigned w64 c.y-4.result = omega (arith, fits) in
    let first : IsTrue c.are_ranges_apart.result ↔ AreRangesApart c.args.a.y c.args.b.y c.args.c.y c.args.d.y =
    rw (← c.y.ensures.value, ← c.y-2.ensures.value, ← c.y-3.ensures.value, ← c.y-4.ensures.value)
    (simp to_z-of_z at c.are_ranges_apart.ensures) in
    let i : FitsSigned w64 c.x.result = omega (arith, fits) in
    let j : FitsSigned w64 c.x-else-are_ranges_apart.result = omega (arith, fits) in
    let k : FitsSigned w64 c.x-else-are_ranges_apart-2.result = omega (arith, fits) in
    let l : FitsSigned w64 c.x-else-are_ranges_apart-3.result = omega (arith, fits) in
    let second : IsTrue c.are_ranges_apart-else-are_ranges_apart.result
    ↔ AreRangesApart c.args.a.x c.args.b.x c.args.c.x c.args.d.x =
    rw (
      ← c.x.ensures.value,
      ← c.x-else-are_ranges_apart.ensures.value,
      ← c.x-else-are_ranges_apart-2.ensures.value,
      ←
          c.x-else-are_ranges_apart-3.ensures.value,
    ) (simp to_z-of_z at c.are_ranges_apart-else-are_ranges_apart.ensures) in
    (λ t. inr (second.0 t), λ h. elim h [ inl y ↦ let yes : IsTrue c.are_ranges_apart.result = first.1 y in cc | inr x ↦ second.1 x ])
