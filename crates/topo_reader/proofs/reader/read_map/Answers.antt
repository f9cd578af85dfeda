use Rattle.std.proofs.Common.{◌≡◌, All, Ok, arith, subst, sym}
use Rattle.arc_map.specs.Map.{Map}
use Rattle.json_scan.specs.Shown.{tree}
use Rattle.topo_reader.specs.Ends.{HasEvenEnds}
use Rattle.topo_reader.specs.Arcs.{places_of}
use Rattle.topo_reader.specs.Geometries.{Seen, nothing_seen, objects_of}
use Rattle.topo_reader.specs.SeenSoFar.{seen_of}
use Rattle.topo_reader.proofs.GeometryLaws.{nothing-seen, objects-keep}
use Rattle.topo_reader.proofs.reader.read_map.Goals as goal

pub new-requires : goal.new-requires
new-requires c =
    let t = tree c.in_ok-value.value in
    let from = subst (λ (s : Seen). objects_of (places_of c.deref.result.now) t s ≡ Ok (seen_of c.objects.new.seen)) c.new-seen.ensures
    c.in_ok-objects.ensures in
    let is = objects-keep (places_of c.args.arcs.items) c.requires.are_arcs.each t nothing_seen (seen_of c.objects.new.seen)
    (nothing-seen _) (rw c.deref.ensures.value at from) in
    record {
      arcs = c.requires.are_arcs.each;
      names = is.names;
      few_arcs = c.requires.are_arcs.few;
      few_positions = c.requires.are_arcs.few_positions;
      few_points = is.few_points;
      few_polygons = is.few_polygons;
      few_references = omega (arith, is.long, is.few);
    }

pub returns-clause-even_ends : goal.returns-clause-even_ends
returns-clause-even_ends c =
    let t = tree c.in_ok-value.value in
    let from = subst (λ (s : Seen). objects_of (places_of c.deref.result.now) t s ≡ Ok (seen_of c.objects.new.seen)) c.new-seen.ensures
    c.in_ok-objects.ensures in
    let is = objects-keep (places_of c.args.arcs.items) c.requires.are_arcs.each t nothing_seen (seen_of c.objects.new.seen)
    (nothing-seen _) (rw c.deref.ensures.value at from) in
    subst (λ (m : Map). All (HasEvenEnds m.arcs) m.polygons) (sym c.new.ensures.value) is.even
