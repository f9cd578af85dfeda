-- The chain that is thinned is a chain again, with its kept vertices and its old ends.
use Rattle.std.proofs.Common.{◌≡◌, ◌∙◌, ◌+◌, ◌≤◌, List, map, length, get_or, set, take, slice_range, sym, ap, subst, arith}
use Rattle.std.specs.Vec.{with_items}
use Rattle.std.proofs.lemmas.List.{get_or_default, with_items_is}
use Rattle.grid_exact.specs.Geometry.{Place}
use Rattle.arc_map.specs.Chains.{Chain}
use Rattle.arc_map.specs.Arranged.{nowhere}
use Rattle.arc_map.specs.Map.{Map}
use Rattle.arc_map.specs.Work.{Work, thinned_work}
use Rattle.arc_map.specs.Live.{chain_of}
use Rattle.arc_map.specs.Ends.{IsEndTable}
use Rattle.arc_map.specs.declared.refs.ChainRef.{ChainRef}
use Rattle.arc_map.specs.declared.work.Span.{Span}
use Rattle.arc_map.proofs.Alive.{places_below, count_alike}
use Rattle.arc_map.proofs.Ending.{ends_stay}
use Rattle.arc_map.proofs.Finding.{found}
use Rattle.arc_map.proofs.Parts.{with_part, length-with_part}
use Rattle.arc_map.proofs.Shortening.{kept_found, length_of_part, shorter, IsShortened, shortened}
use Rattle.arc_map.proofs.work.WorkMap.thin.Goals as goal

pub keep-requires-clause-within : goal.keep-requires-clause-within
keep-requires-clause-within c =
    let w = c.self.inside in
    let x = c.index.result.now in
    let f = found w c.args.self.now c.args.k x c.self.view_is c.self.invariant c.requires.chain c.index.ensures in
    let keep = kept_found w c.args.self.now c.args.k x c.args.kept.now c.self.view_is f c.requires.kept in
    let chain = chain_of w.vertices.items x in
    λ k d below. rw (c.deref_mut.ensures.value, count_alike w.base chain f.live)
    (places_below w.base chain c.args.kept.now f.live keep k d below)

-- the lists as they are now
made : (c : goal.After-self-2-1) → IsShortened c.self.inside c.args.k c.args.kept.now
    (with_items c.self.inside.vertices
    (with_part c.deref_mut.result.now c.index.result.now.start c.index.result.now.end c.keep.new.positions)).items
    (set c.self.inside.chains.items c.args.k (record {
      place = c.index_mut.result.now.place;
      start = c.index_mut.result.now.start;
      end = c.index.result.now.start + length c.args.kept.now;
    }))
made c =
    let w = c.self.inside in
    let x = c.index.result.now in
    let kept = c.args.kept.now in
    let new = c.keep.new.positions in
    let f = found w c.args.self.now c.args.k x c.self.view_is c.self.invariant c.requires.chain c.index.ensures in
    let keep = kept_found w c.args.self.now c.args.k x kept c.self.view_is f c.requires.kept in
    let vertices = c.deref_mut.ensures.value in
    let slice : slice_range c.deref_mut.result.now x.start x.end ≡ slice_range w.vertices.items x.start x.end =
    ap (λ vs. slice_range vs x.start x.end) vertices in
    let front : take (length kept) new ≡ map (λ at. get_or (slice_range w.vertices.items x.start x.end) at nowhere) kept =
    c.keep.ensures.front ∙ ap (λ (ps : List Place). map (λ at. get_or ps at nowhere) kept) slice in
    let count : length new ≡ length (slice_range w.vertices.items x.start x.end) = c.keep.ensures.count ∙ ap length slice in
    let fewer : length kept ≤ length (slice_range w.vertices.items x.start x.end) =
    subst (λ (ps : List Place). length kept ≤ length ps) slice c.keep.ensures.fewer in
    let same : x ≡ c.index_mut.result.now = c.index.ensures
    ∙ get_or_default w.chains.items c.args.k x c.index_mut.result.now f.here ∙ sym c.index_mut.ensures.value in
    let some = f.part.some in
    let size : length (with_part c.deref_mut.result.now x.start x.end new) ≡ w.vertices.len =
    ap (λ vs. length (with_part vs x.start x.end new)) vertices
    ∙ length-with_part w.vertices.items x.start x.end new (omega arith) f.part.within (count ∙ length_of_part w.vertices.items x f.part)
    ∙ sym (ap length vertices) ∙ c.deref_mut.ensures.len in
    let written = with_items_is w.vertices (with_part c.deref_mut.result.now x.start x.end new) size in
    subst (λ (s : Span). IsShortened w c.args.k kept (with_items w.vertices (with_part c.deref_mut.result.now x.start x.end new)).items
    (set w.chains.items c.args.k (record { place = s.place; start = s.start; end = x.start + length kept }))) same
    (subst (λ vs. IsShortened w c.args.k kept vs (set w.chains.items c.args.k (shorter x (length kept))))
    (sym (written ∙ ap (λ vs. with_part vs x.start x.end new) vertices))
    (shortened w c.args.k x kept new c.self.invariant f c.index.ensures keep front count fewer))

pub invariant_of-self : goal.invariant_of-self
invariant_of-self c =
    let now = made c in
    record {
      few = now.few;
      joined = rw now.places c.self.invariant.joined;
      in_order = rw now.places c.self.invariant.in_order;
      chains = now.chains;
      apart = now.apart;
      within = now.within;
    }

abbrev work : Map → List ChainRef → List Chain → Work
work m refs chains = record { read = m; refs = refs; chains = chains }

same_work : (m : Map) {refs refs' : List ChainRef} {chains chains' : List Chain} → refs ≡ refs' → chains ≡ chains'
    → work m refs chains ≡ work m refs' chains'
same_work m p q = cc

pub returns-clause-thinned : goal.returns-clause-thinned
returns-clause-thinned c =
    let now = made c in
    same_work c.self.inside.base now.places now.thinned
    ∙ ap (λ (v : Work). thinned_work v c.args.k c.args.kept.now) c.self.view_is

pub returns-clause-ends : goal.returns-clause-ends
returns-clause-ends c = λ table is.
    subst (λ (v : Work). IsEndTable v.chains table) (sym (returns-clause-thinned c))
    (ends_stay c.args.self.now.chains c.args.k c.args.kept.now table c.requires.chain c.requires.kept is)
