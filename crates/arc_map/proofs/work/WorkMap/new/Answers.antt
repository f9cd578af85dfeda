-- One chain more is read, and all of them are chains as they are kept in memory.
use Rattle.std.proofs.Common.{◌≡◌, ◌∙◌, ◌+◌, ◌++◌, ◌<◌, ◌≤◌, ◌^◌, ℕ, List, [], ◌∷◌, map, length, get_or, take, sum_by, ap, sym, subst}
use Rattle.std.proofs.Common.{arith, rules}
use Rattle.std.specs.List.{AllZip}
use Rattle.std.proofs.lemmas.List.{take_more, take_all, length-map}
use Rattle.std.proofs.lemmas.List.Elements.{All-from_recursion}
use Rattle.arc_map.specs.Map.{Map}
use Rattle.grid_exact.specs.declared.frame.Frame.TheVariants.{Plain}
use Rattle.arc_map.specs.Work.{chain_in, LiesInArc, AreChainsIn}
use Rattle.arc_map.specs.declared.refs.ChainRef.{ChainRef}
use Rattle.arc_map.specs.declared.work.Span.{Span}
use Rattle.arc_map.specs.Live.{LiveChain, chain_of, IsRead, IsLive}
use Rattle.arc_map.proofs.Cutting.{runs_of_arcs, count_of_arcs, linked_of_arcs, by_arc_of_arcs}
use Rattle.arc_map.proofs.Parts.{places_of}
use Rattle.arc_map.proofs.Reading.{all_live, refs_read, chains_read, joined_refs, refs_in_order, IsSoFar, so_far_more}
use Rattle.arc_map.proofs.work.WorkMap.new.Goals as goal

abbrev no_ref : ChainRef
no_ref = record { arc = 0; «from» = 0; to = 0; frame = Plain }

pub loop-place-preserved : goal.loop-place-preserved
loop-place-preserved c =
    let m = c.args.map in
    let refs = c.deref-place-items.result.now in
    let i = c.loop-place.place-index in
    let here : i < length refs = search rules in
    let r = get_or refs i no_ref in
    let vs = c.loop-place.vertices.items in
    let ss = c.loop-place.live.items in
    let slice = c.as_read.result.now in
    let lies : LiesInArc m r = search rules in
    let old : IsSoFar m (take i refs) vs ss = record {
      read = c.loop-place.invariant.read;
      apart = c.loop-place.invariant.apart;
      within = c.loop-place.invariant.within;
    } in
    let new = so_far_more m (take i refs) vs slice ss r lies c.as_read.ensures old in
    let grown : c.extend_from_slice.new.self.items ≡ vs ++ slice = c.in_ok-extend_from_slice.ensures.items in
    let start : c.len-start.result ≡ length vs = search rules in
    let end : c.len-in-loop-place.result ≡ length (vs ++ slice) = search rules in
    let pushed : c.push_reserved.new.self.items ≡ ss ++ record { place = r; start = length vs; end = length (vs ++ slice) } ∷ [] =
    c.push_reserved.ensures.items ∙ ap (λ n. ss ++ record { place = r; start = n; end = c.len-in-loop-place.result } ∷ []) start
    ∙ ap (λ n. ss ++ record { place = r; start = length vs; end = n } ∷ []) end in
    let whole : IsSoFar m (take (i + 1) refs) c.extend_from_slice.new.self.items c.push_reserved.new.self.items =
    rw (take_more refs i no_ref here, grown, pushed) new in
    record {
      read = whole.read;
      apart = whole.apart;
      within = whole.within;
      count = search rules;
      room = search rules;
    }

all_read : (m : Map) (refs refs' : List ChainRef) (i : ℕ) (cs : List LiveChain) → refs ≡ refs' → length refs ≤ i
    → AllZip (IsRead m) (take i refs) cs → AllZip (IsRead m) refs' cs
all_read m refs refs' i cs same whole read = subst (λ rs. AllZip (IsRead m) rs cs) (take_all i refs whole ∙ same) read

few_chains : (m : Map) (refs : List ChainRef) (ss : List Span) → sum_by length m.arcs ≤ 2 ^ 20 → AreChainsIn m refs
    → map (λ s. s.place) ss ≡ refs → length ss ≤ 2 ^ 20
few_chains m refs ss few are places =
    let count = count_of_arcs 0 m.arcs (map (chain_in m) refs) are.cut in
    omega (arith, count, length-map refs (chain_in m), length-map ss (λ s. s.place), ap length places)

pub invariant_of-result : goal.invariant_of-result
invariant_of-result c =
    let m = c.args.map in
    let refs = c.args.chains.items in
    let ss = c.loop-place.live.items in
    let cs = map (chain_of c.loop-place.vertices.items) ss in
    let read = all_read m c.deref-place-items.result.now refs c.loop-place.place-index cs c.deref-place-items.ensures.value
    c.loop-place-test.false c.loop-place.invariant.read in
    let places = sym (places_of c.loop-place.vertices.items ss) ∙ refs_read m refs cs read in
    let few = subst (λ (v : Map). sum_by length v.arcs ≤ 2 ^ 20) c.map.view_is c.map.invariant.few_positions in
    let are : AreChainsIn m refs = record { lie = c.requires.lie; cut = c.requires.cut } in
    record {
      few = few_chains m refs ss few are places;
      joined = rw places (joined_refs m refs c.requires.lie (linked_of_arcs 0 m.arcs (map (chain_in m) refs) c.requires.cut));
      in_order = rw places (refs_in_order m refs c.requires.lie (linked_of_arcs 0 m.arcs (map (chain_in m) refs) c.requires.cut)
          (by_arc_of_arcs 0 m.arcs (map (chain_in m) refs) c.requires.cut));
      chains = All-from_recursion (IsLive m) cs (all_live m refs cs read c.requires.lie
          (runs_of_arcs 0 m.arcs (map (chain_in m) refs) c.requires.cut));
      apart = c.loop-place.invariant.apart;
      within = c.loop-place.invariant.within;
    }

pub returns : goal.returns
returns c =
    let m = c.args.map in
    let refs = c.args.chains.items in
    let ss = c.loop-place.live.items in
    let cs = map (chain_of c.loop-place.vertices.items) ss in
    let read = all_read m c.deref-place-items.result.now refs c.loop-place.place-index cs c.deref-place-items.ensures.value
    c.loop-place-test.false c.loop-place.invariant.read in
    let places = sym (places_of c.loop-place.vertices.items ss) ∙ refs_read m refs cs read in
    let chains = chains_read m refs cs read c.requires.lie (runs_of_arcs 0 m.arcs (map (chain_in m) refs) c.requires.cut) in
    cc
