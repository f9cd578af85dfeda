-- The tighter limits stand for those of both corridors.
use Rattle.std.proofs.Common.{refl, arith}
use Rattle.grid_exact.proofs.WholeLaws.{fits}
use Rattle.shortcut_graph.proofs.Corridors.{both_keep}
use Rattle.shortcut_graph.proofs.corridor.Corridor.narrowed.Goals as goal

pub returns-clause-near : goal.returns-clause-near
returns-clause-near c v keeps =
    let a = c.max.ensures.self_bound in let b = c.max.ensures.other_bound in
    both_keep c.args.self c.args.other _ c.requires.origin refl c.requires.passable c.requires.other_passable c.requires.past
    c.lower_of-ceiling.ensures c.upper_of-floor.ensures (omega (arith, fits)) (omega (arith, fits)) v keeps

pub returns-clause-past : goal.returns-clause-past
returns-clause-past c =
    let past = c.requires.past.reach in let reach = c.max.ensures.self_bound in
    record { reach = omega (arith, fits); ceiling = c.lower_of-ceiling.ensures.past; floor = c.upper_of-floor.ensures.past }
