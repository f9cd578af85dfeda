use Rattle.std.proofs.Common.{◌≡◌, inr, Result, Ok, ap, sym, subst, ◌∙◌, arith}
use Rattle.std.proofs.lemmas.Result.{err_from_is_err_and}
use Rattle.json_scan.specs.Shown.{tree}
use Rattle.json_scan.specs.Left.{Left, trees}
use Rattle.json_scan.specs.Members.{holder, members}
use Rattle.json_scan.specs.Tree.{Trees}
use Rattle.topo_reader.specs.Sequence.{and_then}
use Rattle.geo_reader.specs.declared.fault.GeoFault.{GeoFault}
use Rattle.geo_reader.specs.Steps.{list_of}
use Rattle.geo_reader.specs.Geometries.{geometries_of}
use Rattle.geo_reader.specs.SoFar.{geo_so_far}
use Rattle.geo_reader.proofs.Collected.{collection-is}
use Rattle.geo_reader.proofs.Holding.{listed-size, required-size}
use Rattle.geo_reader.proofs.collection.+geometry.Goals as goal

pub collection-returns-in_err-value-items : goal.collection-returns-in_err-value-items
collection-returns-in_err-value-items t c =
    let object = c.args.object in
    let p = err_from_is_err_and c.from_residual-in_err-value-items.result c.from_residual-in_err-value-items.ensures.1 in
    let walk = λ (ts : Trees). geometries_of ts (geo_so_far c.args.so_far.now) in
    rw (p.1, p.2) (
    inr (collection-is (holder object) (members object) (tree c.in_ok-list.list) (geo_so_far c.args.so_far.now) c.in_ok-list.ensures
    ∙ ap (λ (r : Result Trees GeoFault). and_then r walk) (sym c.in_err-value-items.ensures)))

pub collection-loop-value-init : goal.collection-loop-value-init
collection-loop-value-init t c =
    let object = c.args.object in
    let list = tree c.in_ok-list.list in
    let listed : Ok (trees c.into_iter-value-iterator.result) ≡ list_of list =
    subst (λ (l : Left). Ok (trees l) ≡ list_of list)
    (sym c.into_iter-value-iterator.ensures.into_iter_gives) c.in_ok-value-items.ensures in
    record {
      same = collection-is (holder object) (members object) list (geo_so_far c.args.so_far.now) c.in_ok-list.ensures
          ∙ ap (λ (r : Result Trees GeoFault). and_then r (λ ts. geometries_of ts (geo_so_far c.args.so_far.now))) (sym listed);
      small = omega (
        arith,
        listed-size list (trees c.into_iter-value-iterator.result) listed,
        required-size _ (holder object) (members object) list c.in_ok-list.ensures,
      );
      can = tt;
      ends = tt;
    }
