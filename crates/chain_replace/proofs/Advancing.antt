-- A run under way with its memory: at its start, and where the next chain stays or is replaced.
use Rattle.std.proofs.Common.{◌≡◌, ◌∙◌, ℕ, ◌+◌, ◌<◌, ◌≤◌, ◌^◌, List, [], ◌∷◌, All, inl, inr, Some, length, slice_get, drop, refl, sym, ap}
use Rattle.std.proofs.Common.{subst, arith}
use Rattle.std.proofs.lemmas.List.{append-nil, length-set, drop-set-lt}
use Rattle.std.proofs.lemmas.List.Sums.{sum_by-drop_more}
use Rattle.std.proofs.lemmas.Option.{get_or_from_slice_get}
use Rattle.grid_exact.specs.Weights.{StaysOnGrid}
use Rattle.arc_map.specs.Map.{Map}
use Rattle.arc_map.specs.Arranged.{IsMapArranged}
use Rattle.arc_map.specs.Chains.{Chain, chain_at, no_chain}
use Rattle.arc_map.specs.Paths.{vertices_at}
use Rattle.arc_map.specs.Records.{Record, Records, Fits, pushed}
use Rattle.arc_map.specs.Work.{Work, work_of, chain_in, thinned_work, AreChainsIn, AreKeptIn}
use Rattle.arc_map.specs.declared.refs.ChainRef.{ChainRef}
use Rattle.map_index.specs.IndexedMap.{items_in}
use Rattle.map_index.specs.MapIndex.{no_ref}
use Rattle.chain_replace.specs.Finder.{Found}
use Rattle.chain_replace.specs.Laws.{KeepsFaces}
use Rattle.chain_replace.specs.Rooms.{vertices_in}
use Rattle.chain_replace.specs.Run.{Terms, IsAllowedIn, last_of, IsRecordOf, IsChainHeld, AreReplaced, Progress, IsStep, map_so_far}
use Rattle.chain_replace.specs.UnderWay.{progress_of, IsSound, IsUnderWay}
use Rattle.chain_replace.specs.declared.run.RunState.TheInside.{Inside}
use Rattle.chain_replace.proofs.BestPaths.{path_short, path_is_kept}
use Rattle.chain_replace.proofs.Sound.{start_of, sound_start, sound_more, arranged_now, faces_kept}

-- ---- the start

-- the memory of a run over the map with these chains, before the first
pub record IsFresh (s : Inside) (m : Map) (refs : List ChainRef) : Type 0 where
  pub work : s.map ≡ work_of m refs
  pub next : s.next ≡ 0
  pub items : items_in s.map ≤ s.finder.room
  pub records : s.records ≡ record {
    entries = [];
    room = length s.map.chains;
    kept_room = vertices_in s.map.chains;
    layers_room =
        vertices_in s.map.chains;
  }

pub under_way_start : (s : Inside) (m : Map) (refs : List ChainRef) → IsFresh s m refs → AreChainsIn m refs → IsMapArranged s.terms.held m
    → All (All (StaysOnGrid s.terms.weights)) m.arcs → length s.map.chains ≤ 2 ^ 20 → IsUnderWay s
under_way_start s m refs fresh chains was on_grid few =
    let t : Terms = s.terms in
    let few_read = subst (λ (w : Work). length w.chains ≤ 2 ^ 20) fresh.work few in
    let same : progress_of s ≡ start_of m refs t =
    ap (λ (w : Work). record { work = w; terms = t; next = s.next; records = s.records.entries }) fresh.work
    ∙ ap (λ (n : ℕ). record { work = work_of m refs; terms = t; next = n; records = s.records.entries }) fresh.next
    ∙ ap (λ (rs : Records). record { work = work_of m refs; terms = t; next = 0; records = rs.entries }) fresh.records in
    let left : vertices_in (drop s.next s.map.chains) ≡ vertices_in s.map.chains =
    ap (λ (n : ℕ). vertices_in (drop n s.map.chains)) fresh.next in
    record {
      sound = subst IsSound (sym same) (sound_start m refs t chains was on_grid few_read);
      room = record {
        items = fresh.items;
        records = omega (arith, ap (λ (rs : Records). rs.room) fresh.records);
        places = omega (arith, left, ap (λ (rs : Records). rs.kept_room) fresh.records);
        layers = omega (arith, left, ap (λ (rs : Records). rs.layers_room) fresh.records);
      };
    }

-- ---- where the next chain lies

pub record NextIs (p : Progress) (r : ChainRef) : Type 0 where
  pub arc : r.arc ≡ (chain_at p.work.chains p.next).first.arc
  pub start : r.«from» ≡ (chain_at p.work.chains p.next).first.at

pub next_is : (p : Progress) (r : ChainRef) → IsSound p → p.next < length p.work.chains → slice_get p.work.refs p.next ≡ Some r → NextIs p r
next_is p r sound below there =
    let place = get_or_from_slice_get p.work.refs p.next r no_ref there in
    let read : chain_at p.work.chains p.next ≡ chain_in p.work.read r = sound.as_read p.next (omega arith) below
    ∙ ap (chain_in p.work.read) place in
    record { arc = sym (ap (λ (k : Chain). k.first.arc) read); start = sym (ap (λ (k : Chain). k.first.at) read) }

-- ---- the next chain stays

-- what is left of the chains behind the next one
chains_left : (chains : List Chain) (k : ℕ) → k < length chains
    → vertices_in (drop k chains) ≡ length (chain_at chains k).rest + 1 + vertices_in (drop (k + 1) chains)
chains_left chains k below = sum_by-drop_more (λ (c : Chain). length c.rest + 1) chains k no_chain below

abbrev pub with_next : Inside → ℕ → Inside
with_next s n = record s { next = n }

pub step_stays : (s : Inside) → IsChainHeld (progress_of s).terms s.map s.next
    → IsStep (progress_of s) (progress_of (with_next s (s.next + 1)))
step_stays s held = record {
  terms = refl;
  next = refl;
  added = [];
  records = sym (append-nil s.records.entries);
  replaced =
      inl (held, (refl, refl));
}

pub under_way_stays : (s : Inside) → IsUnderWay s → s.next < length s.map.chains → IsChainHeld (progress_of s).terms s.map s.next
    → IsUnderWay (with_next s (s.next + 1))
under_way_stays s under below held =
    let p = progress_of s in
    let room = under.room in
    let left = chains_left s.map.chains s.next below in
    record {
      sound = subst (λ (rs : List Record). IsSound (record { work = s.map; terms = p.terms; next = s.next + 1; records = rs }))
          (append-nil s.records.entries) (sound_more p [] s.map under.sound below (inl (held, (refl, refl))));
      room = record {
        items = room.items;
        records = omega (arith, room.records);
        places = omega (arith, room.places, left);
        layers = omega (arith, room.layers, left);
      };
    }

pub faces_stay : (p : Progress) → IsSound p → KeepsFaces p.terms.held (map_so_far p) (map_so_far p)
faces_stay p sound = record { arranged = arranged_now p sound; parity = λ pt arc point. refl; inside = λ pt polygon point. refl }

-- ---- the next chain is replaced

pub record_fits : (s : Inside) (r : Record) → IsUnderWay s → s.next < length s.map.chains → IsRecordOf (progress_of s).terms s.map s.next r
    → Fits s.records r
record_fits s r under below is =
    let t = (progress_of s).terms in
    let left = chains_left s.map.chains s.next below in
    let room = under.room in
    record {
      entry = omega (arith, room.records);
      kept = omega (arith, room.places, left, path_short (IsAllowedIn t s.map s.next) (last_of s.map s.next) r.kept is.best.leads);
      layers = omega (arith, room.layers, left, is.layers.count);
    }

-- the memory with the next chain replaced
abbrev pub with_record : Inside → Record → Found → Inside
with_record s r finder = record {
  map = thinned_work s.map s.next r.kept;
  terms = s.terms;
  finder = finder;
  records = pushed s.records r;
  next = s.next + 1;
}

pub replaced_by : (s : Inside) (r : Record) → ¬ (IsChainHeld (progress_of s).terms s.map s.next)
    → IsRecordOf (progress_of s).terms s.map s.next r
    → AreReplaced (progress_of s).terms s.map s.next 1 (r ∷ []) (thinned_work s.map s.next r.kept)
replaced_by s r free is = let none : List Record = [] in inr (free, r, none, refl, is, (refl, refl))

pub step_goes : (s : Inside) (r : Record) (finder : Found) → ¬ (IsChainHeld (progress_of s).terms s.map s.next)
    → IsRecordOf (progress_of s).terms s.map s.next r → IsStep (progress_of s) (progress_of (with_record s r finder))
step_goes s r finder free is = record { terms = refl; next = refl; added = r ∷ []; records = refl; replaced = replaced_by s r free is }

pub under_way_goes : (s : Inside) (r : Record) (finder : Found) → IsUnderWay s → s.next < length s.map.chains
    → ¬ (IsChainHeld (progress_of s).terms s.map s.next) → IsRecordOf (progress_of s).terms s.map s.next r → finder.room ≡ s.finder.room
    → IsUnderWay (with_record s r finder)
under_way_goes s r finder under below free is same_room =
    let p = progress_of s in
    let room = under.room in
    let fits = record_fits s r under below is in
    let left = chains_left s.map.chains s.next below in
    let chain : Chain = record (chain_at s.map.chains s.next) { rest = vertices_at (chain_at s.map.chains s.next) (drop 1 r.kept) } in
    let chains = length-set s.map.chains s.next chain in
    let behind : vertices_in (drop (s.next + 1) (thinned_work s.map s.next r.kept).chains) ≡ vertices_in (drop (s.next + 1) s.map.chains) =
    ap vertices_in (drop-set-lt (s.next + 1) s.map.chains s.next chain (omega arith)) in
    let short = path_short (IsAllowedIn p.terms s.map s.next) (last_of s.map s.next) r.kept is.best.leads in
    record {
      sound = sound_more p (r ∷ []) (thinned_work s.map s.next r.kept) under.sound below (replaced_by s r free is);
      room = record {
        items = rw same_room room.items;
        records = omega (arith, room.records, fits.entry);
        places = omega (arith, room.places, fits.kept, left, behind, short);
        layers = omega (arith, room.layers, fits.layers, left, behind, is.layers.count);
      };
    }

pub faces_go : (s : Inside) (r : Record) (finder : Found) → IsUnderWay s → s.next < length s.map.chains
    → ¬ (IsChainHeld (progress_of s).terms s.map s.next) → IsRecordOf (progress_of s).terms s.map s.next r
    → KeepsFaces s.terms.held (map_so_far (progress_of s)) (map_so_far (progress_of (with_record s r finder)))
faces_go s r finder under below free is = faces_kept (progress_of s) (r ∷ []) (thinned_work s.map s.next r.kept) under.sound below
    (replaced_by s r free is)

-- the path that was found rises from the first vertex to the last
pub kept_rises : (t : Terms) (w : Work) (k : ℕ) (r : Record) → IsRecordOf t w k r → AreKeptIn (chain_at w.chains k) r.kept
kept_rises t w k r is = path_is_kept (IsAllowedIn t w k) (chain_at w.chains k) r.kept is.best.leads
