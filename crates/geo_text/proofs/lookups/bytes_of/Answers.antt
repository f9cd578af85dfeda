use Rattle.std.proofs.Common.{◌≡◌, min, length, arith}
use Rattle.json_scan.specs.Tree.{extent_of}
use Rattle.json_scan.specs.Shown.{tree}
use Rattle.geo_text.proofs.Between.{bytes-between}
use Rattle.geo_text.proofs.lookups.bytes_of.Goals as goal

pub returns : goal.returns
returns c =
    let e = extent_of (tree c.args.value) in
    let end : c.end.result ≡ e.end = c.end.ensures in
    let start : c.start.result ≡ e.start = c.start.ensures in
    let upto : c.min-end.result ≡ min e.end (length c.args.text.now) = omega (arith, c.min-end.ensures, end) in
    let from : c.min-start.result ≡ min e.start c.min-end.result = omega (arith, c.min-start.ensures, start) in
    bytes-between c.args.text.now e.start e.end c.min-start.result c.min-end.result upto from
