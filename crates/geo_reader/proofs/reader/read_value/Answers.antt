use Rattle.std.proofs.Common.{◌≡◌, Ok, subst}
use Rattle.json_scan.specs.Members.{members, holder}
use Rattle.geo_reader.specs.Geo.{Geo}
use Rattle.geo_reader.specs.GeoJson.{geojson_in}
use Rattle.geo_reader.specs.SoFar.{geo_so_far}
use Rattle.geo_reader.proofs.GeoLaws.{geojson-is}
use Rattle.geo_reader.proofs.reader.read_value.Goals as goal

pub new-requires : goal.new-requires
new-requires c =
    let object = c.in-Some.object in
    let read = geo_so_far c.read_object.new.so_far in
    geojson-is (holder object) (members object) read
    (subst (λ (geo : Geo). geojson_in (holder object) (members object) geo ≡ Ok read) c.new-so_far.ensures c.in_ok-read_object.ensures)
