-- What the check leaves to show of `node`.
use Rattle.std.proofs.Common.{rules}
use Rattle.json_scan.specs.Scans.{HasNodes}
use Rattle.json_scan.proofs.Stands.{node-stands}
use Rattle.json_scan.proofs.view.Scan.node.Goals as goal

pub returns-clause-stands : goal.returns-clause-stands
returns-clause-stands c =
    let h : HasNodes c.args.self.now.bytes c.args.self.now.nodes = search rules in
    node-stands c.args.self.now h c.args.k c.requires
