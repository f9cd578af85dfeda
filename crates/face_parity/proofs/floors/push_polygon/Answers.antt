use Rattle.std.proofs.Common.{◌≡◌, ◌∙◌, ◌<◌, [], ◌++◌, All, length, get_or, sym, rules}
use Rattle.std.proofs.lemmas.List.{take-append-drop}
use Rattle.std.proofs.lemmas.List.Elements.{All-take, All-drop}
use Rattle.std.proofs.lemmas.Option.{get_or_from_slice_get}
use Rattle.face_parity.proofs.Lowest.{part-even}
use Rattle.face_parity.proofs.Telling.{telling-first, telling-last, telling-more, under-more, without_any}
use Rattle.face_parity.proofs.floors.push_polygon.Goals as goal

pub loop-rest-init : goal.loop-rest-init
loop-rest-init c =
    let m = c.args.topology.now in
    let k = c.args.polygon in
    let rest = c.polygon-rest.result.now in
    record {
      known = c.polygon-rest.ensures.names;
      count = c.requires.count;
      telling = telling-first m k c.args.namings.now.items rest (get_or m.polygons k [])
          (get_or_from_slice_get m.polygons k rest [] c.polygon-rest.ensures.value) c.requires.so_far;
      under = c.requires.under;
    }

pub loop-rest-preserved : goal.loop-rest-preserved
loop-rest-preserved c =
    let m = c.args.topology.now in
    let k = c.args.polygon in
    let rest = c.loop-rest.rest.now in
    let part = c.split_at.result.0.now in
    let others = c.split_at.result.1.now in
    let floor = c.in_ok-floor.floor in
    let ns = c.loop-rest.namings.items in
    let known = c.loop-rest.invariant.known in
    let count = c.part_length-count.result in
    let whole : rest ≡ part ++ others = rw (c.split_at.ensures.front, c.split_at.ensures.back) (sym (take-append-drop count rest)) in
    let named : All (λ arc. arc < length m.arcs) part = rw c.split_at.ensures.front (All-take (λ arc. arc < length m.arcs) count rest known)
    in
    let even = part-even m c.args.spans.now floor part c.requires.spans c.requires.arcs named c.in_ok-floor.ensures in
    record {
      known = rw c.split_at.ensures.back (All-drop (λ arc. arc < length m.arcs) count rest known);
      count = c.lower.ensures.count ∙ c.loop-rest.invariant.count;
      telling = rw c.in_ok-push_part.ensures (telling-more m k floor ns part others rest (get_or m.polygons k []) whole even
          c.loop-rest.invariant.telling);
      under = rw c.in_ok-push_part.ensures (under-more c.loop-rest.floors.items c.lower.new.arcs.items ns part k floor c.lower.ensures.lower
          c.lower.ensures.under c.loop-rest.invariant.under);
    }

pub returns-clause-namings : goal.returns-clause-namings
returns-clause-namings c =
    let rest = c.loop-rest.rest.now in
    let none : length rest ≡ 0 = search rules in
    telling-last c.args.topology.now c.args.polygon c.loop-rest.namings.items rest (without_any rest none) c.loop-rest.invariant.telling
