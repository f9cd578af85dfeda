use Rattle.json_scan.specs.Shown.{tree}
use Rattle.topo_reader.proofs.Spans.{reading-lies}
use Rattle.topo_reader.proofs.reader.read.Goals as goal

pub returns-clause-span : goal.returns-clause-span
returns-clause-span c = reading-lies c.args.scan.now 0
    (tree c.value_of.result) c.read_value.result c.value_of.ensures.stands c.read_value.ensures.gives
