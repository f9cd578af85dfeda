use Rattle.std.proofs.Common.{arith}
use Rattle.geo_reader.proofs.Flats.{count-few}
use Rattle.geo_reader.proofs.rings.RingList.count.Goals as goal

pub overflow_cast-result : goal.overflow_cast-result
overflow_cast-result c =
    let a = c.self.inside in
    omega (arith, count-few a.positions.items a.parts.items c.self.invariant)

pub returns-clause-few : goal.returns-clause-few
returns-clause-few c =
    let a = c.self.inside in
    omega (arith, count-few a.positions.items a.parts.items c.self.invariant)
