-- The differences of the coordinates fit.
use Rattle.std.proofs.Common.{arith}
use Rattle.grid_exact.proofs.WholeLaws.{fits}
use Rattle.error_cone.proofs.Slopes.{same_way}
use Rattle.error_cone.proofs.ways.step.Goals as goal

pub returns-in-Plain-clause-way : goal.returns-in-Plain-clause-way
returns-in-Plain-clause-way c = rw c.in-Plain.is (same_way _ _ (omega (arith, fits)) (omega (arith, fits)))

pub returns-in-Turned-clause-way : goal.returns-in-Turned-clause-way
returns-in-Turned-clause-way c = rw c.in-Turned.is (same_way _ _ (omega (arith, fits)) (omega (arith, fits)))
