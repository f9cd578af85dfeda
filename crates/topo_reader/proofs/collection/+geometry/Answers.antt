use Rattle.std.proofs.Common.{◌≡◌, inr, Result, Ok, ap, sym, subst, ◌∙◌, arith}
use Rattle.std.proofs.lemmas.Result.{err_from_is_err_and}
use Rattle.json_scan.specs.Shown.{tree}
use Rattle.json_scan.specs.Left.{Left, trees}
use Rattle.json_scan.specs.Members.{holder, members}
use Rattle.json_scan.specs.Tree.{Trees}
use Rattle.topo_reader.specs.declared.fault.ReadFault.{ReadFault}
use Rattle.topo_reader.specs.Sequence.{and_then, list_of}
use Rattle.topo_reader.specs.Arcs.{places_of}
use Rattle.topo_reader.specs.Geometries.{geometries_of}
use Rattle.topo_reader.specs.SeenSoFar.{seen_of}
use Rattle.topo_reader.proofs.Collections.{collection-is}
use Rattle.topo_reader.proofs.Sizes.{listed-size, required-size}
use Rattle.topo_reader.proofs.collection.+geometry.Goals as goal

pub collection-returns-in_err-value-items : goal.collection-returns-in_err-value-items
collection-returns-in_err-value-items t c =
    let object = c.args.object in
    let p = err_from_is_err_and c.from_residual-in_err-value-items.result c.from_residual-in_err-value-items.ensures.1 in
    let walk = λ (ts : Trees). geometries_of (places_of c.args.arcs.now) ts (seen_of c.args.seen.now) in
    rw (p.1, p.2) (
    inr (collection-is (places_of c.args.arcs.now) (holder object) (members object) (tree c.in_ok-list.list)
    (seen_of c.args.seen.now) c.in_ok-list.ensures
    ∙ ap (λ (r : Result Trees ReadFault). and_then r walk) (sym c.in_err-value-items.ensures)))

pub collection-loop-value-init : goal.collection-loop-value-init
collection-loop-value-init t c =
    let object = c.args.object in
    let list = tree c.in_ok-list.list in
    let listed : Ok (trees c.into_iter-value-iterator.result) ≡ list_of list =
    subst (λ (l : Left). Ok (trees l) ≡ list_of list)
    (sym c.into_iter-value-iterator.ensures.into_iter_gives) c.in_ok-value-items.ensures in
    record {
      same = collection-is (places_of c.args.arcs.now) (holder object) (members object) list (seen_of c.args.seen.now) c.in_ok-list.ensures
          ∙ ap (λ (r : Result Trees ReadFault). and_then r (λ ts. geometries_of (places_of c.args.arcs.now) ts (seen_of c.args.seen.now)))
          (sym listed);
      small = omega (
        arith,
        listed-size list (trees c.into_iter-value-iterator.result) listed,
        required-size _ (holder object) (members object) list c.in_ok-list.ensures,
      );
      can = tt;
      ends = tt;
    }
