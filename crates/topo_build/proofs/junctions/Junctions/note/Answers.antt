use Rattle.topo_build.proofs.Telling.{told-more}
use Rattle.topo_build.proofs.junctions.Junctions.note.Goals as goal

pub returns : goal.returns
returns c = λ turns rings told. told-more turns c.args.ring c.args.before c.args.at c.args.after c.next-passage.result c.args.self.now
    (record { passages = c.insert.new.self }) rings told c.next-passage.ensures c.in_ok-insert.ensures.updates.0
