use Rattle.std.specs.Prelude.{codes, OnOk}
use Rattle.std.proofs.Common.{◌≡◌, ◌∙◌, ◌*◌, ◌<◌, Option, Some, ap, sym, subst, arith}
use Rattle.json_scan.specs.Shown.{tree}
use Rattle.json_scan.specs.Members.{members}
use Rattle.json_scan.specs.Tree.{Tree}
use Rattle.topo_reader.proofs.Sizes.{size}
use Rattle.geo_text.specs.Shapes.{value_in}
use Rattle.geo_text.specs.Drafts.{Draft, where_some, written}
use Rattle.geo_text.specs.BuiltText.{member, collected, geometry_list}
use Rattle.geo_text.specs.Written.{draft_of}
use Rattle.geo_text.proofs.Cycle.{value-size, collected-is}
use Rattle.geo_text.proofs.geometries.+geometry.Goals as goal

pub collection-geometries-requires : goal.collection-geometries-requires
collection-geometries-requires t c =
    let found : value_in (codes "geometries") (members c.args.object) ≡ Some (tree c.in-Some.list) = sym c.in-Some.ensures in
    let small = value-size (codes "geometries") (members c.args.object) (tree c.in-Some.list) found in
    let now = c.decreases in
    let falls : 5 * size (tree c.in-Some.list) < t = omega (arith, small, now) in
    (falls, tt)

pub collection-returns : goal.collection-returns
collection-returns t c =
    let ms = members c.args.object in
    let list = tree c.in-Some.list in
    let label = codes ",\"geometries\":" in
    let before = draft_of c.args.writer.now in
    let found : value_in (codes "geometries") ms ≡ Some list = sym c.in-Some.ensures in
    let same : where_some (value_in (codes "geometries") ms) (member label (λ u. collected ms)) before ≡ geometry_list list
    (draft_of c.write.new.self) =
    ap (λ (o : Option Tree). where_some o (member label (λ u. collected ms)) before) found
    ∙ collected-is ms list (written label before) found
    ∙ ap (geometry_list list) (sym c.in_ok-write.ensures) in
    subst (λ (d : Draft). OnOk c.geometries.result (draft_of c.geometries.new.writer ≡ d)) (sym same) c.geometries.ensures
