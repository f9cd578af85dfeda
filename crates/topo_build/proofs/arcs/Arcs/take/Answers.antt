use Rattle.std.proofs.Common.{refl}
use Rattle.topo_build.specs.Found.IsFound.{Found, New}
use Rattle.topo_build.proofs.Building.{starts-made}
use Rattle.topo_build.proofs.arcs.Arcs.take.Goals as goal

pub returns-in-Some-clause-found : goal.returns-in-Some-clause-found
returns-in-Some-clause-found c = Found c.index.result.now c.index-2.result.now
    (starts-made c.index.result.now c.index-2.result.now c.args.piece.items c.requires.several c.index.ensures c.index-2.ensures)
    c.in-Some.ensures refl

pub returns-in_ok-step-in-None-clause-found : goal.returns-in_ok-step-in-None-clause-found
returns-in_ok-step-in-None-clause-found c = New c.index.result.now c.index-2.result.now
    (starts-made c.index.result.now c.index-2.result.now c.args.piece.items c.requires.several c.index.ensures c.index-2.ensures)
    c.in-None.ensures c.in_ok-step-in-None.ensures.step c.in_ok-step-in-None.ensures.arcs
