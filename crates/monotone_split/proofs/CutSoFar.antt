-- What has been cut so far: whatever the rest is cut into completes it.
use Rattle.std.proofs.Common.{◌≡◌, ◌∙◌, ℕ, suc, ◌+◌, ◌-◌, ◌<◌, ◌≤◌, List, [], ◌∷◌, ◌++◌, All, length, map, drop, refl, sym, ap, subst}
use Rattle.std.proofs.Common.{arith, add-one, drop-cons, append_assoc}
use Rattle.std.specs.List.{range_with_len}
use Rattle.std.proofs.lemmas.List.{append-nil, map-append, drop_all, length-map}
use Rattle.std.proofs.lemmas.List.Elements.{All-append, All-push, All-from_recursion}
use Rattle.grid_exact.specs.Geometry.{Place}
use Rattle.arc_map.specs.Map.{Map, IsMap}
use Rattle.arc_map.specs.Vertices.{Vertex}
use Rattle.arc_map.specs.Chains.{Chain}
use Rattle.arc_map.specs.Arcs.{vertices_from, most_edges, IsCutInto, IsListCutInto, AreChainsOf}
use Rattle.arc_map.specs.Arranged.{arc_at}
use Rattle.arc_map.specs.Work.{vertex_in, chain_in, LiesInArc, AreChainsIn}
use Rattle.arc_map.specs.declared.refs.ChainRef.{ChainRef}
use Rattle.arc_map.proofs.Cutting.{count_of_arcs}
use Rattle.monotone_split.specs.Cut.{IsNextRun, IsNextChainRef, IsShort, AddsChainsOf, AreChainRefs}
use Rattle.monotone_split.proofs.ArcVertices.{all_after, vertices_numbered, ref_made, reach_of, cut_before}

-- ---- one arc

-- the arc is cut up to the position number `start`, into chains that stand behind those that were there
pub record CutSoFar (m : Map) (arc start : ℕ) (before now : List ChainRef) : Type 0 where
  pub inside : start < length (arc_at m arc)
  pub added : List ChainRef
  pub behind : now ≡ before ++ added
  pub lie : All (LiesInArc m) added
  pub short : All IsShort added
  pub onward : (ks : List Chain) → IsCutInto (vertex_in m arc start) (all_after m arc start) ks
      → IsListCutInto (vertices_from arc 0 (arc_at m arc)) (map (chain_in m) added ++ ks)

pub cut_begins : (m : Map) (arc : ℕ) (before : List ChainRef) → 0 < length (arc_at m arc) → CutSoFar m arc 0 before before
cut_begins m arc before some =
    record {
      inside = some;
      added = [];
      behind = sym (append-nil before);
      lie = All-from_recursion (LiesInArc m) [] tt;
      short = All-from_recursion IsShort [] tt;
      onward = λ ks cut. subst (λ (vs : List Vertex). IsListCutInto vs ks)
          (sym (vertices_numbered m arc 0 (arc_at m arc) refl ∙ ap (λ (n : ℕ). map (vertex_in m arc) (range_with_len 0 n))
          (one_more (length (arc_at m arc)) some))) cut;
    }
  where
    one_more : (n : ℕ) → 0 < n → n ≡ suc (n - 1)
    one_more n h = omega arith

made_goes_on : (m : Map) (arc start n : ℕ) (before now : List ChainRef) (r : ChainRef) → arc < length m.arcs
    → start + 1 < length (arc_at m arc) → r ≡ record { arc = arc; «from» = start; to = start + n; frame = r.frame }
    → IsNextRun (drop start (arc_at m arc)) r.frame n → CutSoFar m arc start before now → CutSoFar m arc (start + n) before (now ++ r ∷ [])
made_goes_on m arc start n before now r known edge made run h =
    let reach = reach_of (arc_at m arc) start n r.frame edge run in
    let some = reach.some in
    record {
      inside = reach.inside;
      added = h.added ++ r ∷ [];
      behind = ap (λ (rs : List ChainRef). rs ++ r ∷ []) h.behind ∙ append_assoc before h.added (r ∷ []);
      lie = All-push (LiesInArc m) h.added r h.lie (subst (LiesInArc m) (sym made)
          (record { arc = known; edge = omega arith; within = reach.inside }));
      short = All-push IsShort h.added r h.short (subst IsShort (sym made) (shorter start n reach.short));
      onward = λ ks cut.
          subst (λ (ls : List Chain). IsListCutInto (vertices_from arc 0 (arc_at m arc)) ls)
          (sym (ap (λ (ls : List Chain). ls ++ ks) (map-append (chain_in m) h.added (r ∷ []))
          ∙ append_assoc (map (chain_in m) h.added) (chain_in m r ∷ []) ks))
          (h.onward (chain_in m r ∷ ks) (subst (λ (q : ChainRef).
          IsCutInto (vertex_in m arc start) (all_after m arc start) (chain_in m q ∷ ks)) (sym made)
          (cut_before m arc start n r.frame ks edge run cut)));
    }
  where
    shorter : (start n : ℕ) → n ≤ most_edges → start + n ≤ start + most_edges
    shorter start n few = omega arith

pub cut_goes_on : (m : Map) (arc start : ℕ) (before now later : List ChainRef) (r : ChainRef) → arc < length m.arcs
    → start + 1 < length (arc_at m arc) → IsNextChainRef arc (arc_at m arc) start r → later ≡ now ++ r ∷ []
    → CutSoFar m arc start before now → CutSoFar m arc r.to before later
cut_goes_on m arc start before now later r known edge next pushed h =
    subst (λ (rs : List ChainRef). CutSoFar m arc r.to before rs) (sym pushed)
    (subst (λ (to : ℕ). CutSoFar m arc to before (now ++ r ∷ [])) (sym next.ends)
    (made_goes_on m arc start (r.to - start) before now r known edge (ref_made arc (arc_at m arc) start r next) next.run h))

pub cut_ends : (m : Map) (arc start : ℕ) (before now : List ChainRef) → length (arc_at m arc) ≤ start + 1 → CutSoFar m arc start before now
    → AddsChainsOf m arc before now
cut_ends m arc start before now all h =
    record {
      added = h.added;
      behind = h.behind;
      lie = h.lie;
      short = h.short;
      cut = subst (λ (ls : List Chain). IsListCutInto (vertices_from arc 0 (arc_at m arc)) ls) (append-nil (map (chain_in m) h.added))
          (h.onward [] (none_left m arc start all));
    }
  where
    none_left : (m : Map) (arc start : ℕ) → length (arc_at m arc) ≤ start + 1 → all_after m arc start ≡ []
    none_left m arc start all = let none : length (arc_at m arc) - (start + 1) ≡ 0 = omega arith in
        ap (λ (n : ℕ). map (vertex_in m arc) (range_with_len (start + 1) n)) none

-- ---- all arcs

-- the arcs before the arc number k are cut into these chains
pub record SplitSoFar (m : Map) (k : ℕ) (refs : List ChainRef) : Type 0 where
  pub lie : All (LiesInArc m) refs
  pub short : All IsShort refs
  pub onward : (ks : List Chain) → AreChainsOf k (drop k m.arcs) ks → AreChainsOf 0 m.arcs (map (chain_in m) refs ++ ks)

pub split_goes_on : (m : Map) (k : ℕ) (refs later : List ChainRef) → k < length m.arcs → SplitSoFar m k refs → AddsChainsOf m k refs later
    → SplitSoFar m (k + 1) later
split_goes_on m k refs later known h adds =
    subst (λ (rs : List ChainRef). SplitSoFar m (k + 1) rs) (sym adds.behind)
    (record {
      lie = All-append (LiesInArc m) refs adds.added h.lie adds.lie;
      short = All-append IsShort refs adds.added h.short adds.short;
      onward = λ ks are.
          subst (λ (ls : List Chain). AreChainsOf 0 m.arcs ls)
          (sym (ap (λ (ls : List Chain). ls ++ ks) (map-append (chain_in m) refs adds.added)
          ∙ append_assoc (map (chain_in m) refs) (map (chain_in m) adds.added) ks))
          (h.onward (map (chain_in m) adds.added ++ ks)
          (subst (λ (pss : List (List Place)). AreChainsOf k pss (map (chain_in m) adds.added ++ ks)) (sym (drop-cons m.arcs k [] known))
          (map (chain_in m) adds.added, ks, refl, adds.cut, subst (λ (n : ℕ). AreChainsOf n (drop n m.arcs) ks) (add-one k) are)));
    })

pub split_ends : (m : Map) (k : ℕ) (refs : List ChainRef) → length m.arcs ≤ k → SplitSoFar m k refs → AreChainsIn m refs
split_ends m k refs all h =
    record {
      lie = h.lie;
      cut = subst (λ (ls : List Chain). AreChainsOf 0 m.arcs ls) (append-nil (map (chain_in m) refs))
          (h.onward [] (subst (λ (pss : List (List Place)). AreChainsOf k pss []) (sym (drop_all k m.arcs all)) refl));
    }

pub refs_bounded : (m : Map) (k : ℕ) (refs : List ChainRef) → IsMap m → length m.arcs ≤ k → SplitSoFar m k refs → AreChainRefs m refs
refs_bounded m k refs is_map all h =
    let are = split_ends m k refs all h in
    let count = count_of_arcs 0 m.arcs (map (chain_in m) refs) are.cut in
    let size = length-map refs (chain_in m) in
    let few = is_map.few_positions in
    record { lie = h.lie; short = h.short; few = omega arith }
