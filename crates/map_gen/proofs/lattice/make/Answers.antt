use Rattle.std.proofs.Common.{◌≡◌, rules}
use Rattle.map_gen.specs.Make.{made}
use Rattle.map_gen.proofs.ReadsWhole.{text-reads}
use Rattle.map_gen.proofs.lattice.make.Goals as goal

pub returns-clause-reads : goal.returns-clause-reads
returns-clause-reads c =
    let text : c.write.new.out.items ≡ made c.args.rows c.args.cols c.args.seed = search rules in
    text-reads c.args.rows c.args.cols c.args.seed c.write.new.out.items c.requires.rows c.requires.cols text
