use Rattle.std.proofs.Common.{true, false}
use Rattle.json_scan.specs.Shown.{tree}
use Rattle.geo_reader.specs.Rings.{polygon_added, polygons_added}
use Rattle.geo_reader.proofs.RingLaws.{gives-ok, parts-more}
use Rattle.geo_reader.proofs.ring.add_parts.Goals as goal

pub returns-then-several-clause-more : goal.returns-then-several-clause-more
returns-then-several-clause-more c =
    gives-ok _ c.add_polygons.new.rings c.add_polygons.result (polygons_added (tree c.args.value) c.args.rings.now) c.add_polygons.ensures
    (parts-more true (tree c.args.value) c.args.rings.now c.add_polygons.new.rings)

pub returns-else-several-clause-more : goal.returns-else-several-clause-more
returns-else-several-clause-more c =
    gives-ok _ c.add_polygon.new.rings c.add_polygon.result (polygon_added (tree c.args.value) c.args.rings.now) c.add_polygon.ensures
    (parts-more false (tree c.args.value) c.args.rings.now c.add_polygon.new.rings)
