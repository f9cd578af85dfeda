use Rattle.std.proofs.Common.{◌<◌, arith}
use Rattle.plane_sweep.proofs.towns.least_town.Goals as goal

pub returns-clause-none : goal.returns-clause-none
returns-clause-none c k e within edge on =
    let passed : k < c.loop-town.town = omega (arith, within) in
    c.loop-town.invariant k passed e edge on
