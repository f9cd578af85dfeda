-- Each of the polygons is there, and has even ends.
use Rattle.std.proofs.Common.{length}
use Rattle.top_call.proofs.Borders.{none_missing, even_chosen}
use Rattle.top_call.proofs.dissolving.border_text.Goals as goal

pub border-requires-clause-known : goal.border-requires-clause-known
border-requires-clause-known c = none_missing (length c.args.map.now.polygons) c.args.polygons.now c.requires.known

pub border-requires-clause-even : goal.border-requires-clause-even
border-requires-clause-even c =
    even_chosen c.args.map.now c.args.polygons.now c.requires.even
    (none_missing (length c.args.map.now.polygons) c.args.polygons.now c.requires.known)
