-- The chain of a held arc stays. Another one is replaced by the path that was found, in the map, the index and the records.
use Rattle.std.proofs.Common.{◌≡◌, ◌∙◌, ◌+◌, ◌<◌, ◌↔◌, ℕ, Bool, true, false, IsTrue, List, Some, length, slice_get, sym, subst}
use Rattle.std.specs.Prelude.{Contains}
use Rattle.std.proofs.lemmas.Bool.{false≢true}
use Rattle.grid_exact.specs.Paths.{AreLayers, IsBestPath}
use Rattle.arc_map.specs.Chains.{chain_at}
use Rattle.arc_map.specs.Records.{Record, Records, pushed}
use Rattle.arc_map.specs.Work.{Work, thinned_work}
use Rattle.arc_map.specs.declared.refs.ChainRef.{ChainRef}
use Rattle.chain_replace.specs.Finder.{Found, layers_in}
use Rattle.chain_replace.specs.Laws.{KeepsFaces}
use Rattle.chain_replace.specs.Run.{IsAllowedIn, last_of, IsRecordOf, IsChainHeld, Progress, IsStep, map_so_far}
use Rattle.chain_replace.specs.UnderWay.{progress_of, IsUnderWay}
use Rattle.chain_replace.specs.declared.run.RunState.TheInside.{Inside}
use Rattle.chain_replace.proofs.BestPaths.{path_is_kept}
use Rattle.chain_replace.proofs.Sound.{next_on_grid}
use Rattle.chain_replace.proofs.Advancing.{NextIs, next_is, with_next, with_record, step_stays, under_way_stays, faces_stay, record_fits}
use Rattle.chain_replace.proofs.Advancing.{step_goes, under_way_goes, faces_go}
use Rattle.chain_replace.proofs.run.RunState.replace_chain.Goals as goal

-- the next chain, whose place is r, and its arc
record IsNext (s : Inside) (r : ChainRef) : Type 0 where
  below : s.next < length s.map.chains
  place : NextIs (progress_of s) r

next_here : (s : Inside) (now : Progress) (r : ChainRef) (w : Work) → progress_of s ≡ now → IsUnderWay s → now.next < length now.work.chains
    → w ≡ s.map → slice_get w.refs s.next ≡ Some r → IsNext s r
next_here s now r w view under within same found =
    let there = subst (λ (v : Work). slice_get v.refs s.next ≡ Some r) same found in
    let below = subst (λ (q : Progress). q.next < length q.work.chains) (sym view) within in
    record { below = below; place = next_is (progress_of s) r under.sound below there }

held_here : (s : Inside) (r : ChainRef) (b : Bool) → NextIs (progress_of s) r → (IsTrue b ↔ Contains s.terms.held r.arc) → b ≡ true
    → IsChainHeld (progress_of s).terms s.map s.next
held_here s r b place told sure = subst (λ (arc : ℕ). Contains s.terms.held arc) place.arc (told.0 sure)

free_here : (s : Inside) (r : ChainRef) (b : Bool) → NextIs (progress_of s) r → (IsTrue b ↔ Contains s.terms.held r.arc) → b ≡ false
    → ¬ (IsChainHeld (progress_of s).terms s.map s.next)
free_here s r b place told no_one held = false≢true (sym no_one
    ∙ told.1 (subst (λ (arc : ℕ). Contains s.terms.held arc) (sym place.arc) held))

-- what was found is the record of the next chain
found_here : (s : Inside) (r : ChainRef) (found : Found) (kept layers : List ℕ) → NextIs (progress_of s) r
    → IsBestPath (IsAllowedIn s.terms s.map s.next) (last_of s.map s.next) found.path
    → AreLayers (IsAllowedIn s.terms s.map s.next) (last_of s.map s.next) (layers_in found) → kept ≡ found.path → layers ≡ (layers_in found)
    → IsRecordOf (progress_of s).terms s.map s.next (record { arc = r.arc; «from» = r.«from»; kept = kept; layers = layers })
found_here s r found kept layers place best known is_path are_layers = record {
  arc = place.arc;
  «from» = place.start;
  best = subst (λ (path : List ℕ). IsBestPath (IsAllowedIn s.terms s.map s.next) (last_of s.map s.next) path) (sym is_path) best;
  layers = subst (λ (ns : List ℕ). AreLayers (IsAllowedIn s.terms s.map s.next) (last_of s.map s.next) ns) (sym are_layers) known;
}

-- the memory afterwards, with the map and the records as they were written
abbrev memory : Inside → Work → Records → Found → Inside
memory s work records finder = record { map = work; terms = s.terms; finder = finder; records = records; next = s.next + 1 }

-- what holds of the memory with the record holds of the memory as it was written
as_written : (P : Inside → Type 0) (s : Inside) (r : Record) (finder : Found) (work : Work) (records : Records)
    → work ≡ thinned_work s.map s.next r.kept → records ≡ pushed s.records r → P (with_record s r finder) → P (memory s work records finder)
as_written P s r finder work records thinned added holds =
    subst (λ (w : Work). P (memory s w records finder)) (sym thinned)
    (subst (λ (rs : Records). P (memory s (thinned_work s.map s.next r.kept) rs finder)) (sym added) holds)

pub invariant_of-self : goal.invariant_of-self
invariant_of-self c =
    let s = c.self.inside in
    let r = c.chain_ref-place.result in
    let here = next_here s c.args.self.now r c.work.result.now c.self.view_is c.self.invariant c.requires c.work.ensures
    c.chain_ref-place.ensures in
    under_way_stays s c.self.invariant here.below (held_here s r c.has.result here.place c.has.ensures c.if-has.true)

pub returns-then-has-clause-step : goal.returns-then-has-clause-step
returns-then-has-clause-step c =
    let s = c.self.inside in
    let r = c.chain_ref-place.result in
    let here = next_here s c.args.self.now r c.work.result.now c.self.view_is c.self.invariant c.requires c.work.ensures
    c.chain_ref-place.ensures in
    subst (λ (p : Progress). IsStep p (progress_of (with_next s (s.next + 1)))) c.self.view_is
    (step_stays s (held_here s r c.has.result here.place c.has.ensures c.if-has.true))

pub returns-then-has-clause-faces : goal.returns-then-has-clause-faces
returns-then-has-clause-faces c =
    let s = c.self.inside in
    subst (λ (p : Progress). KeepsFaces p.terms.held (map_so_far p) (map_so_far (progress_of (with_next s (s.next + 1))))) c.self.view_is
    (faces_stay (progress_of s) c.self.invariant.sound)

pub find-requires-clause-clear : goal.find-requires-clause-clear
find-requires-clause-clear c =
    let s = c.self.inside in
    let r = c.chain_ref-place.result in
    let here = next_here s c.args.self.now r c.work.result.now c.self.view_is c.self.invariant c.requires c.work.ensures
    c.chain_ref-place.ensures in
    c.self.invariant.sound.arranged s.next (free_here s r c.has.result here.place c.has.ensures c.if-has.false)

pub find-requires-clause-on_grid : goal.find-requires-clause-on_grid
find-requires-clause-on_grid c =
    let s = c.self.inside in
    let here = next_here s c.args.self.now c.chain_ref-place.result c.work.result.now c.self.view_is c.self.invariant c.requires
    c.work.ensures c.chain_ref-place.ensures in
    next_on_grid (progress_of s) c.self.invariant.sound here.below

pub thin-requires-clause-kept : goal.thin-requires-clause-kept
thin-requires-clause-kept c =
    let s = c.self.inside in
    let Allowed : ℕ → ℕ → Type 0 = IsAllowedIn s.terms s.map s.next in
    path_is_kept Allowed (chain_at s.map.chains s.next) c.path-kept.result.now
    (subst (λ (path : List ℕ). IsBestPath Allowed (last_of s.map s.next) path) (sym c.path-kept.ensures) c.find.ensures.path).leads

pub push-requires : goal.push-requires
push-requires c =
    let s = c.self.inside in
    let r = c.chain_ref-place.result in
    let here = next_here s c.args.self.now r c.work.result.now c.self.view_is c.self.invariant c.requires c.work.ensures
    c.chain_ref-place.ensures in
    record_fits s (record { arc = r.arc; «from» = r.«from»; kept = c.path-kept.result.now; layers = c.layers.result.now }) c.self.invariant
    here.below
    (found_here s r c.find.new.self c.path-kept.result.now c.layers.result.now here.place c.find.ensures.path c.find.ensures.layers
    c.path-kept.ensures c.layers.ensures)

pub invariant_of-self-2 : goal.invariant_of-self-2
invariant_of-self-2 c =
    let s = c.self.inside in
    let r = c.chain_ref-place.result in
    let here = next_here s c.args.self.now r c.work.result.now c.self.view_is c.self.invariant c.requires c.work.ensures
    c.chain_ref-place.ensures in
    let free = free_here s r c.has.result here.place c.has.ensures c.if-has.false in
    let kept = c.path-kept.result.now in
    let entry : Record = record { arc = r.arc; «from» = r.«from»; kept = kept; layers = c.layers.result.now } in
    let is = found_here s r c.find.new.self kept c.layers.result.now here.place c.find.ensures.path c.find.ensures.layers
    c.path-kept.ensures c.layers.ensures in
    as_written IsUnderWay s entry c.find.new.self c.thin.new.self c.push.new.self c.thin.ensures c.push.ensures
    (under_way_goes s entry c.find.new.self c.self.invariant here.below free is c.find.ensures.room)

pub returns-clause-step : goal.returns-clause-step
returns-clause-step c =
    let s = c.self.inside in
    let r = c.chain_ref-place.result in
    let here = next_here s c.args.self.now r c.work.result.now c.self.view_is c.self.invariant c.requires c.work.ensures
    c.chain_ref-place.ensures in
    let free = free_here s r c.has.result here.place c.has.ensures c.if-has.false in
    let kept = c.path-kept.result.now in
    let entry : Record = record { arc = r.arc; «from» = r.«from»; kept = kept; layers = c.layers.result.now } in
    let is = found_here s r c.find.new.self kept c.layers.result.now here.place c.find.ensures.path c.find.ensures.layers
    c.path-kept.ensures c.layers.ensures in
    as_written (λ a. IsStep c.args.self.now (progress_of a)) s entry c.find.new.self c.thin.new.self c.push.new.self c.thin.ensures
    c.push.ensures
    (subst (λ (p : Progress). IsStep p (progress_of (with_record s entry c.find.new.self))) c.self.view_is
    (step_goes s entry c.find.new.self free is))

pub returns-clause-faces : goal.returns-clause-faces
returns-clause-faces c =
    let s = c.self.inside in
    let r = c.chain_ref-place.result in
    let here = next_here s c.args.self.now r c.work.result.now c.self.view_is c.self.invariant c.requires c.work.ensures
    c.chain_ref-place.ensures in
    let free = free_here s r c.has.result here.place c.has.ensures c.if-has.false in
    let kept = c.path-kept.result.now in
    let entry : Record = record { arc = r.arc; «from» = r.«from»; kept = kept; layers = c.layers.result.now } in
    let is = found_here s r c.find.new.self kept c.layers.result.now here.place c.find.ensures.path c.find.ensures.layers
    c.path-kept.ensures c.layers.ensures in
    as_written (λ a. KeepsFaces c.args.self.now.terms.held (map_so_far c.args.self.now) (map_so_far (progress_of a))) s entry
    c.find.new.self c.thin.new.self c.push.new.self c.thin.ensures c.push.ensures
    (subst (λ (p : Progress). KeepsFaces p.terms.held (map_so_far p) (map_so_far (progress_of (with_record s entry c.find.new.self))))
    c.self.view_is (faces_go s entry c.find.new.self c.self.invariant here.below free is))
