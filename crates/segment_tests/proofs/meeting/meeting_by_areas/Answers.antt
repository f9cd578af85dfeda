-- What the signs of the areas say of common points.
use Rattle.std.proofs.Common.{◌≡◌, ◌↔◌, IsTrue, w64, FitsSigned, arith, sym, ◌∙◌}
use Rattle.std.proofs.lemmas.Int.{to_z-of_z}
use Rattle.grid_exact.specs.Geometry.{area_of}
use Rattle.grid_exact.specs.Spans.{SameSign}
use Rattle.grid_exact.proofs.WholeLaws.{fits}
use Rattle.segment_tests.proofs.Points.{one_side_apart, other_side_apart, meet_at_point, both_none}
use Rattle.segment_tests.proofs.meeting.meeting_by_areas.Goals as goal

pub meeting_on_line-requires-clause-c_on_line : goal.meeting_on_line-requires-clause-c_on_line
meeting_on_line-requires-clause-c_on_line c =
    let first : FitsSigned w64 c.area-to_c.result = omega (arith, fits) in
    let second : FitsSigned w64 c.area-to_d.result = omega (arith, fits) in
    let side : IsTrue c.are_on_one_side.result ↔ SameSign (area_of c.args.a c.args.b c.args.c) (area_of c.args.a c.args.b c.args.d) =
    rw (← c.area-to_c.ensures.value, ← c.area-to_d.ensures.value) (simp to_z-of_z at c.are_on_one_side.ensures) in
    let same : c.area-to_c.result ≡ c.area-to_d.result = omega (arith, fits, c.if-to_c-to_d.true) in
    both_none (area_of c.args.a c.args.b c.args.c) (area_of c.args.a c.args.b c.args.d) (λ s. let yes : IsTrue c.are_on_one_side.result =
    side.1 s in cc) (rw (← c.area-to_c.ensures.value, ← c.area-to_d.ensures.value) same)

pub meeting_on_line-requires-clause-d_on_line : goal.meeting_on_line-requires-clause-d_on_line
meeting_on_line-requires-clause-d_on_line c =
    let first : FitsSigned w64 c.area-to_c.result = omega (arith, fits) in
    let second : FitsSigned w64 c.area-to_d.result = omega (arith, fits) in
    let side : IsTrue c.are_on_one_side.result ↔ SameSign (area_of c.args.a c.args.b c.args.c) (area_of c.args.a c.args.b c.args.d) =
    rw (← c.area-to_c.ensures.value, ← c.area-to_d.ensures.value) (simp to_z-of_z at c.are_on_one_side.ensures) in
    let same : c.area-to_c.result ≡ c.area-to_d.result = omega (arith, fits, c.if-to_c-to_d.true) in
    let equal : area_of c.args.a c.args.b c.args.c ≡ area_of c.args.a c.args.b c.args.d =
    rw (← c.area-to_c.ensures.value, ← c.area-to_d.ensures.value) same in
    sym equal ∙ both_none (area_of c.args.a c.args.b c.args.c) (area_of c.args.a c.args.b c.args.d) (λ s. let yes :
    IsTrue c.are_on_one_side.result = side.1 s in cc) equal

pub returns-then-are_on_one_side : goal.returns-then-are_on_one_side
returns-then-are_on_one_side c =
    let first : FitsSigned w64 c.area-to_c.result = omega (arith, fits) in
    let second : FitsSigned w64 c.area-to_d.result = omega (arith, fits) in
    let side : IsTrue c.are_on_one_side.result ↔ SameSign (area_of c.args.a c.args.b c.args.c) (area_of c.args.a c.args.b c.args.d) =
    rw (← c.area-to_c.ensures.value, ← c.area-to_d.ensures.value) (simp to_z-of_z at c.are_on_one_side.ensures) in
    one_side_apart c.args.a c.args.b c.args.c c.args.d (side.0 c.if-are_on_one_side.true)

pub returns-then-are_on_one_side-2 : goal.returns-then-are_on_one_side-2
returns-then-are_on_one_side-2 c =
    let first : FitsSigned w64 c.area.result = omega (arith, fits) in
    let second : FitsSigned w64 c.area-else-to_c-to_d.result = omega (arith, fits) in
    let side : IsTrue c.are_on_one_side-else-to_c-to_d.result
    ↔ SameSign (area_of c.args.c c.args.d c.args.a) (area_of c.args.c c.args.d c.args.b) =
    rw (← c.area.ensures.value, ← c.area-else-to_c-to_d.ensures.value) (simp to_z-of_z at c.are_on_one_side-else-to_c-to_d.ensures) in
    other_side_apart c.args.a c.args.b c.args.c c.args.d (side.0 c.if-are_on_one_side-2.true)

pub returns-else-are_on_one_side-2 : goal.returns-else-are_on_one_side-2
returns-else-are_on_one_side-2 c =
    let f : FitsSigned w64 c.area-to_c.result = omega (arith, fits) in
    let g : FitsSigned w64 c.area-to_d.result = omega (arith, fits) in
    let k : FitsSigned w64 c.area.result = omega (arith, fits) in
    let m : FitsSigned w64 c.area-else-to_c-to_d.result = omega (arith, fits) in
    let first : IsTrue c.are_on_one_side.result ↔ SameSign (area_of c.args.a c.args.b c.args.c) (area_of c.args.a c.args.b c.args.d) =
    rw (← c.area-to_c.ensures.value, ← c.area-to_d.ensures.value) (simp to_z-of_z at c.are_on_one_side.ensures) in
    let second : IsTrue c.are_on_one_side-else-to_c-to_d.result
    ↔ SameSign (area_of c.args.c c.args.d c.args.a) (area_of c.args.c c.args.d c.args.b) =
    rw (← c.area.ensures.value, ← c.area-else-to_c-to_d.ensures.value) (simp to_z-of_z at c.are_on_one_side-else-to_c-to_d.ensures) in
    meet_at_point c.args.a c.args.b c.args.c c.args.d
    (λ s. let yes : IsTrue c.are_on_one_side.result = first.1 s in cc)
    (λ s. let yes : IsTrue c.are_on_one_side-else-to_c-to_d.result = second.1 s in cc)
    (λ e. let same : c.area-to_c.result ≡ c.area-to_d.result = rw (c.area-to_c.ensures.value, c.area-to_d.ensures.value) e in
    omega (arith, fits, c.if-to_c-to_d.false))
