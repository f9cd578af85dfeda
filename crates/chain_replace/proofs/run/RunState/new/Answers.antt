-- A run begins with the chains of the map, and with room for all of them.
use Rattle.std.proofs.Common.{◌∙◌, ◌≤◌, ◌^◌, ℕ, List, [], length, refl, ap, sym, subst, arith}
use Rattle.arc_map.specs.Map.{Map}
use Rattle.arc_map.specs.Arranged.{IsMapArranged}
use Rattle.arc_map.specs.Records.{Records}
use Rattle.arc_map.specs.Work.{Work, work_of, AreChainsIn}
use Rattle.chain_replace.specs.Rooms.{vertices_in}
use Rattle.chain_replace.proofs.Advancing.{under_way_start}
use Rattle.chain_replace.proofs.run.RunState.new.Goals as goal

-- no records yet, and room for these numbers
abbrev records_for : ℕ → ℕ → Records
records_for chains places = record { entries = []; room = chains; kept_room = places; layers_room = places }

pub invariant_of-result : goal.invariant_of-result
invariant_of-result c =
    let m = c.args.partly.map in
    let refs = c.in_ok-chains.chains.items in
    let same = c.into_parts-map.ensures.map in
    let chains = subst (λ (n : Map). AreChainsIn n refs) same c.in_ok-chains.ensures.chains in
    let was = subst (λ (n : Map). IsMapArranged c.into_parts-map.result.1 n) same c.into_parts-map.ensures.arranged in
    let room = c.chain_count.ensures.value in
    let vertices = c.vertex_count-vertices.ensures in
    under_way_start _ m refs
    (record {
      work = c.in_ok-map.ensures ∙ ap (λ (n : Map). work_of n refs) same;
      next = refl;
      items = omega (arith, c.in_ok-finder.ensures, c.item_count.ensures);
      records = c.in_ok-records.ensures
          ∙ ap (λ (n : ℕ). records_for n c.vertex_count-vertices.result) room
          ∙ ap (λ (n : ℕ). records_for (length c.work-work.result.now.chains) n) vertices
          ∙ ap (λ (w : Work). records_for (length w.chains) (vertices_in w.chains)) c.work-work.ensures;
    })
    chains was c.requires (subst (λ (w : Work). length w.chains ≤ 2 ^ 20) c.work-work.ensures
    (omega (arith, room, c.chain_count.ensures.few)))
