-- What holds of a run under way, at its start and from chain to chain.
use Rattle.std.proofs.Common.{◌≡◌, ◌≢◌, ◌∙◌, ℕ, suc, ◌+◌, ◌-◌, ◌<◌, ◌≤◌, ◌^◌, Bool, List, [], ◌∷◌, ◌++◌, All, inl, inr, map, length, get_or}
use Rattle.std.proofs.Common.{drop, refl, sym, ap, subst, arith}
use Rattle.std.specs.Prelude.{Contains}
use Rattle.std.specs.List.{range_with_len}
use Rattle.std.proofs.lemmas.List.{length-set, length-map, get_or-map, get_or-set_other}
use Rattle.std.proofs.lemmas.List.Elements.{All-cons, All-map}
use Rattle.std.proofs.lemmas.List.FromFn.{length-range_with_len, get_or-range_with_len}
use Rattle.grid_exact.specs.Geometry.{Place}
use Rattle.grid_exact.specs.Walks.{differ}
use Rattle.grid_exact.specs.Weights.{Scales, StaysOnGrid}
use Rattle.arc_map.specs.Map.{Map}
use Rattle.arc_map.specs.Vertices.{Vertex}
use Rattle.arc_map.specs.Arcs.{AreKept, map_now, is_list_crossed_oddly, is_inside_of}
use Rattle.arc_map.specs.Arranged.{IsMapArranged, arc_at, position_at, nowhere}
use Rattle.arc_map.specs.Chains.{Chain, chain_at, chain_places, no_chain}
use Rattle.arc_map.specs.Edges.{is_arc_crossed_oddly}
use Rattle.arc_map.specs.Paths.{vertices_at}
use Rattle.arc_map.specs.Records.{Record}
use Rattle.arc_map.specs.Work.{Work, work_of, vertex_in, chain_in, thinned_work, LiesInArc, AreChainsIn}
use Rattle.arc_map.specs.declared.refs.ChainRef.{ChainRef}
use Rattle.map_index.specs.MapIndex.{no_ref}
use Rattle.monotone_split.proofs.Cuts.{chains_cut_map}
use Rattle.monotone_split.proofs.Finish.{joined_arcs_are_arranged}
use Rattle.monotone_split.proofs.Kept.{thinned_are_kept}
use Rattle.monotone_split.proofs.Named.{arranged_by_names}
use Rattle.monotone_split.proofs.Numbers.{path_in, path_by_numbers_keeps_map}
use Rattle.monotone_split.proofs.Parity.{parity_of_arcs}
use Rattle.monotone_split.proofs.Outcome.{inside_alike}
use Rattle.chain_replace.specs.Run.{Terms, IsAllowedIn, last_of, IsRecordOf, IsChainHeld, AreReplaced, IsOutcome, Progress, map_so_far}
use Rattle.chain_replace.specs.Laws.{KeepsFaces}
use Rattle.chain_replace.specs.UnderWay.{IsSound}
use Rattle.chain_replace.proofs.BestPaths.{path_leads}
use Rattle.chain_replace.proofs.Replacing.{replaced_more}

-- ---- the start

abbrev pub start_of : Map → List ChainRef → Terms → Progress
start_of m refs t = record { work = work_of m refs; terms = t; next = 0; records = [] }

pub sound_start : (m : Map) (refs : List ChainRef) (t : Terms) → AreChainsIn m refs → IsMapArranged t.held m
    → All (All (StaysOnGrid t.weights)) m.arcs → length (work_of m refs).chains ≤ 2 ^ 20 → IsSound (start_of m refs t)
sound_start m refs t chains was on_grid few =
    let cuts = chains_cut_map m (map (chain_in m) refs) chains.cut in
    record {
      chains = chains;
      was = was;
      on_grid = on_grid;
      replaced = (refl, refl);
      come = omega arith;
      count = length-map refs (chain_in m);
      few = few;
      as_read = λ k above below. get_or-map (chain_in m) refs k no_ref no_chain (omega (arith, length-map refs (chain_in m)));
      kept = thinned_are_kept.0 (map (chain_in m) refs);
      are_chains = cuts.are_chains;
      arranged = (cuts.arranged t.held).0 ((arranged_by_names t.held m).0 was);
    }

-- ---- one chain more

next_replaced : (p : Progress) (added : List Record) (after : Work) → IsSound p → AreReplaced p.terms p.work p.next 1 added after
    → AreReplaced p.terms (work_of p.work.read p.work.refs) 0 (p.next + 1) (p.records ++ added) after
next_replaced p added after sound step =
    let more : suc p.next ≡ p.next + 1 = omega arith in
    subst (λ (n : ℕ). AreReplaced p.terms (work_of p.work.read p.work.refs) 0 n (p.records ++ added) after) more
    (replaced_more p.terms (work_of p.work.read p.work.refs) 0 p.next p.next p.records added p.work after (omega arith) sound.replaced step)

abbrev pub advanced : Progress → List Record → Work → Progress
advanced p added after = record { work = after; terms = p.terms; next = p.next + 1; records = p.records ++ added }

staying : (p : Progress) (added : List Record) → IsSound p → p.next < length p.work.chains → IsChainHeld p.terms p.work p.next → added ≡ []
    → IsSound (advanced p added p.work)
staying p added sound below held none = record {
  chains = sound.chains;
  was = sound.was;
  on_grid = sound.on_grid;
  replaced = next_replaced p added p.work sound (inl (held, (none, refl)));
  come = omega arith;
  count = sound.count;
  few = sound.few;
  as_read = λ k above within. sound.as_read k (omega arith) within;
  kept = sound.kept;
  are_chains = sound.are_chains;
  arranged = sound.arranged;
}

-- the vertices that are kept after the first
abbrev kept_vertices : Progress → Record → List Vertex
kept_vertices p r = vertices_at (chain_at p.work.chains p.next) (drop 1 r.kept)

replacing : (p : Progress) (added : List Record) (r : Record) → IsSound p → p.next < length p.work.chains
    → ¬ (IsChainHeld p.terms p.work p.next) → added ≡ r ∷ [] → IsRecordOf p.terms p.work p.next r
    → IsSound (advanced p added (thinned_work p.work p.next r.kept))
replacing p added r sound below free one is =
    let t = p.terms in
    let chains = p.work.chains in
    let k = p.next in
    let one_left : List Record = [] in
    let leads = (path_leads (IsAllowedIn t p.work k) (last_of p.work k) r.kept is.best.leads).0 in
    let keeps = path_by_numbers_keeps_map t.weights.x t.weights.y t.bound chains p.work.read.points k (drop 1 r.kept) below sound.are_chains
    (sound.arranged k free) leads in
    let path = path_in t.weights.x t.weights.y t.bound chains p.work.read.points k (drop 1 r.kept) leads in
    let count = length-set chains k (record (chain_at chains k) { rest = kept_vertices p r }) in
    record {
      chains = sound.chains;
      was = sound.was;
      on_grid = sound.on_grid;
      replaced = next_replaced p added (thinned_work p.work k r.kept) sound (inr (free, r, one_left, one, is, (refl, refl)));
      come = omega arith;
      count = count ∙ sound.count;
      few = omega (arith, sound.few);
      as_read = λ j above within.
          let other : j ≢ k = omega arith in
          get_or-set_other chains k j (record (chain_at chains k) { rest = kept_vertices p r }) no_chain other
          ∙ sound.as_read j (omega arith) (omega arith);
      kept = thinned_are_kept.1 t.weights.x t.weights.y t.bound (work_of p.work.read p.work.refs).chains chains p.work.read.points k
          (kept_vertices p r) sound.kept path;
      are_chains = keeps.chains_stay;
      arranged = keeps.arranged t.held sound.arranged;
    }

pub sound_more : (p : Progress) (added : List Record) (after : Work) → IsSound p → p.next < length p.work.chains
    → AreReplaced p.terms p.work p.next 1 added after → IsSound (advanced p added after)
sound_more p added after sound below (inl stays) =
    subst (λ (w : Work). IsSound (advanced p added w)) stays.1.1 (staying p added sound below stays.0 stays.1.0)
sound_more p added after sound below (inr goes) =
    let one : added ≡ goes.1 ∷ [] = goes.3 ∙ ap (λ (rs : List Record). goes.1 ∷ rs) goes.5.0 in
    subst (λ (w : Work). IsSound (advanced p added w)) goes.5.1 (replacing p added goes.1 sound below goes.0 one goes.4)

-- ---- what one chain more leaves as it was

pub record KeepsRun (p : Progress) (after : Work) : Type 0 where
  pub read : after.read ≡ p.work.read
  pub refs : after.refs ≡ p.work.refs
  pub count : length after.chains ≡ length p.work.chains
  pub parity : (pt : Place) (arc : ℕ) → Contains p.work.read.points pt
      → is_arc_crossed_oddly pt arc after.chains ≡ is_arc_crossed_oddly pt arc p.work.chains

pub keeps_run : (p : Progress) (added : List Record) (after : Work) → IsSound p → p.next < length p.work.chains
    → AreReplaced p.terms p.work p.next 1 added after → KeepsRun p after
keeps_run p added after sound below (inl stays) =
    subst (λ (w : Work). KeepsRun p w) stays.1.1 (record { read = refl; refs = refl; count = refl; parity = λ pt arc point. refl })
keeps_run p added after sound below (inr goes) =
    let t = p.terms in
    let r = goes.1 in
    let leads = (path_leads (IsAllowedIn t p.work p.next) (last_of p.work p.next) r.kept goes.4.best.leads).0 in
    let keeps = path_by_numbers_keeps_map t.weights.x t.weights.y t.bound p.work.chains p.work.read.points p.next (drop 1 r.kept) below
    sound.are_chains (sound.arranged p.next goes.0) leads in
    subst (λ (w : Work). KeepsRun p w) goes.5.1
    (record {
      read = refl;
      refs = refl;
      count = length-set p.work.chains p.next
          (record (chain_at p.work.chains p.next) { rest = kept_vertices p r });
      parity = keeps.arc_parity;
    })

-- the faces of two maps that chains of one map make up
faces_between : (held : List ℕ) (m : Map) (start before after : List Chain) → (refs : List ChainRef) → AreChainsIn m refs
    → start ≡ map (chain_in m) refs → AreKept start before → AreKept start after → IsMapArranged held (map_now m after)
    → ((p : Place) (arc : ℕ) → Contains m.points p → is_arc_crossed_oddly p arc after ≡ is_arc_crossed_oddly p arc before)
    → KeepsFaces held (map_now m before) (map_now m after)
faces_between held m start before after refs chains is kept_before kept_after arranged parity =
    let cut = subst (λ (ks : List Chain). AreKept ks before) is kept_before in
    let cut' = subst (λ (ks : List Chain). AreKept ks after) is kept_after in
    let same : (p : Place) (arc : ℕ) → Contains m.points p → is_list_crossed_oddly p (get_or (map_now m after).arcs arc [])
    ≡ is_list_crossed_oddly p (get_or (map_now m before).arcs arc []) = (λ p arc point.
    parity_of_arcs m (map (chain_in m) refs) after chains.cut cut' p arc
    ∙ parity p arc point
    ∙ sym (parity_of_arcs m (map (chain_in m) refs) before chains.cut cut p arc)) in
    record {
      arranged = arranged;
      parity = same;
      inside = λ p polygon point. inside_alike p (map_now m after).arcs (map_now m before).arcs (λ arc. same p arc point)
          (get_or m.polygons polygon []);
    }

pub arranged_now : (p : Progress) → IsSound p → IsMapArranged p.terms.held (map_so_far p)
arranged_now p sound =
    (arranged_by_names p.terms.held (map_so_far p)).1
    (joined_arcs_are_arranged p.work.read (map (chain_in p.work.read) p.work.refs) p.work.chains sound.chains.cut sound.kept
    sound.are_chains p.terms.held sound.arranged)

pub faces_kept : (p : Progress) (added : List Record) (after : Work) → IsSound p → p.next < length p.work.chains
    → AreReplaced p.terms p.work p.next 1 added after → KeepsFaces p.terms.held (map_so_far p) (map_so_far (advanced p added after))
faces_kept p added after sound below step =
    let later = sound_more p added after sound below step in
    let keeps = keeps_run p added after sound below step in
    let m = p.work.read in
    let kept = subst (λ (n : Map). AreKept (map (chain_in n) p.work.refs) after.chains) keeps.read
    (subst (λ (rs : List ChainRef). AreKept (map (chain_in after.read) rs) after.chains) keeps.refs later.kept) in
    let arranged = subst (λ (n : Map). IsMapArranged p.terms.held (map_now n after.chains)) keeps.read
    (arranged_now (advanced p added after) later) in
    subst (λ (n : Map). KeepsFaces p.terms.held (map_so_far p) (map_now n after.chains)) (sym keeps.read)
    (faces_between p.terms.held m (map (chain_in m) p.work.refs) p.work.chains after.chains p.work.refs sound.chains refl sound.kept kept
    arranged keeps.parity)

-- ---- the end

pub outcome_at_end : (p : Progress) → IsSound p → p.next ≡ length p.work.chains → IsOutcome p.work.read p.terms (map_so_far p) p.records
outcome_at_end p sound done = record {
  refs = p.work.refs;
  chains = sound.chains;
  last = p.work;
  replaced = subst (λ (n : ℕ). AreReplaced p.terms (work_of p.work.read p.work.refs) 0 n p.records p.work) (done ∙ sound.count)
      sound.replaced;
  made = refl;
}

-- ---- the places of a chain that is as read

chain_on_grid : (weights : Scales) (m : Map) (r : ChainRef) → LiesInArc m r → All (All (StaysOnGrid weights)) m.arcs
    → All (StaysOnGrid weights) (chain_places (chain_in m r))
chain_on_grid weights m r lies all =
    let edge = lies.edge in
    let within = lies.within in
    let at_position : (at : ℕ) → at < length (arc_at m r.arc) → StaysOnGrid weights (position_at m r.arc at) =
    (λ at inside. all r.arc [] lies.arc at nowhere inside) in
    let n = r.to - r.«from» in
    let numbers = range_with_len (r.«from» + 1) n in
    let behind : All (λ at. StaysOnGrid weights (position_at m r.arc at)) numbers = (λ j d below.
    let inside : j < n = omega (arith, length-range_with_len (r.«from» + 1) n) in
    rw (get_or-range_with_len (r.«from» + 1) n j d inside) (at_position (r.«from» + 1 + j) (omega arith))) in
    All-cons (StaysOnGrid weights) (position_at m r.arc r.«from») (map (λ v. v.place) (map (vertex_in m r.arc) numbers))
    (at_position r.«from» (omega arith))
    (All-map (StaysOnGrid weights) (λ (v : Vertex). v.place) (map (vertex_in m r.arc) numbers)
    (All-map (λ (v : Vertex). StaysOnGrid weights v.place) (vertex_in m r.arc) numbers behind))

pub next_on_grid : (p : Progress) → IsSound p → p.next < length p.work.chains
    → All (StaysOnGrid p.terms.weights) (chain_places (chain_at p.work.chains p.next))
next_on_grid p sound below =
    subst (λ (k : Chain). All (StaysOnGrid p.terms.weights) (chain_places k)) (sym (sound.as_read p.next (omega arith) below))
    (chain_on_grid p.terms.weights p.work.read (get_or p.work.refs p.next no_ref)
    (sound.chains.lie p.next no_ref (omega (arith, sound.count))) sound.on_grid)
