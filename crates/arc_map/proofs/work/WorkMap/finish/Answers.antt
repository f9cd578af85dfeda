-- One arc more is settled, and the arcs that come out are those of a map.
use Rattle.std.proofs.Common.{◌≡◌, ◌∙◌, ◌+◌, ◌<◌, List, [], map, length, get_or, set, drop, sum_by, ap, sym, refl, subst, arith, length-set}
use Rattle.std.specs.List.{AllByRecursion}
use Rattle.std.proofs.lemmas.List.{length-map, map-set}
use Rattle.std.proofs.lemmas.List.Elements.{recursion_from_All}
use Rattle.arc_map.specs.Map.{Map, IsMap}
use Rattle.arc_map.specs.Arcs.{arcs_now}
use Rattle.arc_map.specs.Work.{Work}
use Rattle.arc_map.specs.Live.{LiveChain, chain_of, chains_in, work_in, live_chain, IsLive, AreLive}
use Rattle.arc_map.specs.Rejoin.{run_of, run_from, rejoined}
use Rattle.arc_map.specs.declared.work.WorkMap.TheInside.{Inside}
use Rattle.arc_map.proofs.Parts.{places_of}
use Rattle.arc_map.proofs.Elements.{mapped-at}
use Rattle.arc_map.proofs.Finishing.{IsWalk, AreEndToEnd, walks_of, end_to_end, IsSettled, next_arc, settle_more}
use Rattle.arc_map.proofs.work.WorkMap.finish.Goals as goal

-- what is known of the chains
record IsKnown (now : Work) (cs : List LiveChain) : Type 0 where
  walks : AllByRecursion (IsWalk now.read) cs
  linked : AreEndToEnd cs
  chains : map (live_chain now.read) cs ≡ now.chains

known : (w : Inside) (now : Work) → work_in w ≡ now → AreLive w → IsKnown now (chains_in w)
known w now view live =
    subst (λ (v : Work). IsKnown v (chains_in w)) view (record {
      walks = walks_of w.base (chains_in w) (recursion_from_All (IsLive w.base) (chains_in w) live.chains);
      linked = end_to_end (chains_in w) (rw (places_of w.vertices.items w.chains.items) live.joined);
      chains = refl;
    })

pub rejoin-next-requires-clause-room : goal.rejoin-next-requires-clause-room
rejoin-next-requires-clause-room c =
    let m = c.args.self.read in
    let cs = chains_in c.self.inside in
    let vecs = c.loop-number.arcs.items in
    let arcs = map (λ arc. arc.items) vecs in
    let n = c.loop-number.number in
    let k = known c.self.inside c.args.self c.self.view_is c.self.invariant in
    let first = c.into_parts-arcs.result.0 in
    let size = sym (ap (λ (w : Work). length w.read.arcs) c.self.view_is) ∙ ap (λ (v : Map). length v.arcs) c.into_parts-arcs.ensures.value
    ∙ length-map first.items (λ arc. arc.items) in
    let below : n < length m.arcs = omega (arith, size, first.ok.0, c.len-number-end.ensures, c.loop-number-test.true) in
    let coming = next_arc m cs arcs n c.loop-number.next k.walks k.linked c.loop-number.invariant.left c.loop-number.invariant.proper below
    in
    let inside = coming.inside in
    let here = mapped-at (λ arc. arc.items) vecs n c.index_mut.result.now [] (omega (arith, inside, length-map vecs (λ arc. arc.items)))
    c.index_mut.ensures.value in
    let size = ap length (sym here ∙ coming.arc) in
    rw (c.deref.ensures.value, c.deref-in-loop-number.ensures.value) (omega (arith, size, coming.joined.room))

pub loop-number-preserved : goal.loop-number-preserved
loop-number-preserved c =
    let m = c.args.self.read in
    let cs = chains_in c.self.inside in
    let vecs = c.loop-number.arcs.items in
    let arcs = map (λ arc. arc.items) vecs in
    let n = c.loop-number.number in
    let next = c.loop-number.next in
    let k = known c.self.inside c.args.self c.self.view_is c.self.invariant in
    let first = c.into_parts-arcs.result.0 in
    let size = sym (ap (λ (w : Work). length w.read.arcs) c.self.view_is) ∙ ap (λ (v : Map). length v.arcs) c.into_parts-arcs.ensures.value
    ∙ length-map first.items (λ arc. arc.items) in
    let below : n < length m.arcs = omega (arith, size, first.ok.0, c.len-number-end.ensures, c.loop-number-test.true) in
    let spans = length-map c.self.inside.chains.items (chain_of c.self.inside.vertices.items) in
    let old : IsSettled m cs arcs n next = record {
      known = omega (arith, c.loop-number.invariant.known, spans);
      settled = c.loop-number.invariant.settled ∙ sym (ap (arcs_now 0 m.arcs) k.chains);
      left = c.loop-number.invariant.left;
      proper = c.loop-number.invariant.proper;
      fewer = c.loop-number.invariant.fewer;
    } in
    let more = settle_more m cs arcs n next k.walks k.linked below old in
    let coming = next_arc m cs arcs n next k.walks k.linked old.left old.proper below in
    let inside = coming.inside in
    let here = mapped-at (λ arc. arc.items) vecs n c.index_mut.result.now [] (omega (arith, inside, length-map vecs (λ arc. arc.items)))
    c.index_mut.ensures.value in
    let run : run_from n next c.deref.result.now c.deref-in-loop-number.result.now ≡ run_of n (drop next cs) =
    ap (λ vs. run_from n next vs c.deref-in-loop-number.result.now) c.deref.ensures.value
    ∙ ap (run_from n next c.self.inside.vertices.items) c.deref-in-loop-number.ensures.value in
    let arc = c.rejoin-next.ensures.arc ∙ ap (rejoined c.index_mut.result.now.items) run
    ∙ ap (λ ps. rejoined ps (run_of n (drop next cs))) (sym here) in
    let made = map-set (λ arc. arc.items) vecs n c.rejoin-next.new.arc ∙ ap (set arcs n) arc in
    let result = c.rejoin-next.ensures.next ∙ ap (λ r. next + length r) run in
    let whole = subst (λ ps. IsSettled m cs ps (n + 1) c.rejoin-next.result) (sym made)
    (subst (λ r. IsSettled m cs (set arcs n (rejoined (get_or arcs n []) (run_of n (drop next cs)))) (n + 1) r) (sym result) more) in
    record {
      known = let all = whole.known in omega (arith, all, spans);
      count = length-set vecs n c.rejoin-next.new.arc ∙ c.loop-number.invariant.count;
      settled = whole.settled ∙ ap (arcs_now 0 m.arcs) k.chains;
      left = whole.left;
      proper = whole.proper;
      fewer = whole.fewer;
    }

pub new-requires : goal.new-requires
new-requires c =
    let before = subst IsMap c.into_parts-arcs.ensures.value c.into_parts-arcs.ensures.is_map in
    let read = ap (λ (w : Work). w.read) c.self.view_is in
    let vecs = c.loop-number.arcs.items in
    let first = map (λ arc. arc.items) c.into_parts-arcs.result.0.items in
    let same : length (map (λ arc. arc.items) vecs) ≡ length first =
    length-map vecs (λ arc. arc.items) ∙ c.loop-number.invariant.count ∙ sym (ap (λ (m : Map). length m.arcs) read)
    ∙ ap (λ (m : Map). length m.arcs) c.into_parts-arcs.ensures.value in
    let sum : sum_by length c.args.self.read.arcs ≡ sum_by length first =
    sym (ap (λ (m : Map). sum_by length m.arcs) read) ∙ ap (λ (m : Map). sum_by length m.arcs) c.into_parts-arcs.ensures.value in
    record {
      arcs = c.loop-number.invariant.proper;
      names = rw same before.names;
      few_arcs = omega (arith, same, before.few_arcs);
      few_positions = omega (arith, sum, c.loop-number.invariant.fewer, before.few_positions);
      few_points = before.few_points;
      few_polygons = before.few_polygons;
      few_references = before.few_references;
    }
