-- To the left of the edge read backwards is to the right of the edge.
use Rattle.std.proofs.Common.{w64, arith, ◌≡◌, ℤ, to_z, of_z}
use Rattle.grid_exact.specs.Geometry.{Place, area_of}
use Rattle.grid_exact.specs.declared.frame.Frame.TheVariants.{Turned}
use Rattle.grid_exact.proofs.WholeLaws.{sums, fits}
use Rattle.grid_exact.proofs.Areas.{area_turned}
use Rattle.chain_side.specs.declared.sides.Side.{Side}
use Rattle.chain_side.specs.declared.sides.Side.TheVariants.{Above, On, Below, Outside}
use Rattle.chain_side.specs.Sides.{IsSideOfEdge, IsSideBySign}
use Rattle.chain_side.proofs.decide.side_of_edge.Goals as goal

read_back : (a b p : Place) (left : ℤ) (side : Side) → left ≡ area_of b a p → IsSideBySign left side → IsSideOfEdge Turned a b p side
read_back a b p left Above e h = let turn = area_turned p a b in omega (arith, sums)
read_back a b p left On e h = let turn = area_turned p a b in omega (arith, sums)
read_back a b p left Below e h = let turn = area_turned p a b in omega (arith, sums)
read_back a b p left Outside e h = h

pub returns-in-Turned : goal.returns-in-Turned
returns-in-Turned c =
    let same : to_z w64 (of_z w64 c.area-in-Turned.result) ≡ area_of c.args.b c.args.a c.args.p = omega (arith, fits) in
    rw c.in-Turned.is (read_back c.args.a c.args.b c.args.p _ c.side_by_sign-in-Turned.result same c.side_by_sign-in-Turned.ensures)
