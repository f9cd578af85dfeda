-- The map at work after one of its chains is thinned: its part of the list is shorter, and all else is as it was.
use Rattle.std.proofs.Common.{◌≡◌, ◌∙◌, ℕ, ◌+◌, ◌-◌, ◌≤◌, ◌^◌, List, All, AllPairs, map, length, get_or, set, take, drop, slice_range, refl}
use Rattle.std.proofs.Common.{sym, ap, subst, arith, length-set, length-drop}
use Rattle.std.proofs.lemmas.List.{get_or_default, length-take-le, map-set}
use Rattle.std.proofs.lemmas.List.Elements.{All-set}
use Rattle.std.proofs.Math.Seq.{map-set_same}
use Rattle.grid_exact.specs.Geometry.{Place}
use Rattle.arc_map.specs.Chains.{Chain, chain_at, thinned}
use Rattle.arc_map.specs.Paths.{vertices_at}
use Rattle.arc_map.specs.Arranged.{nowhere}
use Rattle.arc_map.specs.Work.{Work, AreKeptIn}
use Rattle.arc_map.specs.Live.{LiveChain, chain_of, chains_in, live_chain, work_in, IsLive, IsPartOf, AreLive}
use Rattle.arc_map.specs.declared.work.Span.{Span}
use Rattle.arc_map.specs.declared.work.WorkMap.TheInside.{Inside}
use Rattle.arc_map.proofs.Alive.{IsThinned, live_after, chain_after}
use Rattle.arc_map.proofs.Finding.{IsFound}
use Rattle.arc_map.proofs.Parts.{with_part, length-with_part, part_written, parts_after, apart_after, parts_of_alike}

-- the kept places are places of the chain that was found
pub kept_found : (w : Inside) (now : Work) (k : ℕ) (s : Span) (kept : List ℕ) → work_in w ≡ now → IsFound w k s
    → AreKeptIn (chain_at now.chains k) kept → AreKeptIn (live_chain w.base (chain_of w.vertices.items s)) kept
kept_found w now k s kept view f keep =
    subst (λ (c : Chain). AreKeptIn c kept) f.chain (subst (λ (v : Work). AreKeptIn (chain_at v.chains k) kept) (sym view) keep)

-- these lists are those of the map in which just these vertices of the chain number k are left
pub record IsShortened (w : Inside) (k : ℕ) (kept : List ℕ) (vs : List Place) (ss : List Span) : Type 0 where
  pub few : length ss ≤ 2 ^ 20
  pub places : map (λ s. s.place) ss ≡ map (λ s. s.place) w.chains.items
  pub chains : All (IsLive w.base) (map (chain_of vs) ss)
  pub apart : AllPairs (λ s t. s.end ≤ t.start) ss
  pub within : All (IsPartOf vs) ss
  pub thinned : map (live_chain w.base) (map (chain_of vs) ss)
      ≡ thinned (work_in w).chains k (vertices_at (chain_at (work_in w).chains k) (drop 1 kept))

-- the part as it is now
abbrev pub shorter : Span → ℕ → Span
shorter s n = record { place = s.place; start = s.start; end = s.start + n }

pub length_of_part : (vs : List Place) (s : Span) → IsPartOf vs s → length (slice_range vs s.start s.end) ≡ s.end - s.start
length_of_part vs s part =
    let some = part.some in
    let within = part.within in
    length-take-le (s.end - s.start) (drop s.start vs) (omega (arith, length-drop s.start vs))

pub shortened : (w : Inside) (k : ℕ) (x : Span) (kept : List ℕ) (new : List Place) → AreLive w → IsFound w k x
    → x ≡ get_or w.chains.items k x → AreKeptIn (live_chain w.base (chain_of w.vertices.items x)) kept
    → take (length kept) new ≡ map (λ at. get_or (slice_range w.vertices.items x.start x.end) at nowhere) kept
    → length new ≡ length (slice_range w.vertices.items x.start x.end)
    → length kept ≤ length (slice_range w.vertices.items x.start x.end)
    → IsShortened w k kept (with_part w.vertices.items x.start x.end new) (set w.chains.items k (shorter x (length kept)))
shortened w k x kept new lives f is keep front count fewer =
    let vs = w.vertices.items in
    let ss = w.chains.items in
    let now = with_part vs x.start x.end new in
    let y = shorter x (length kept) in
    let some = f.part.some in
    let within = f.part.within in
    let part = length_of_part vs x f.part in
    let size : length new ≡ x.end - x.start = count ∙ part in
    let stands : (d : Span) → get_or ss k d ≡ x = λ d. get_or_default ss k d x f.here ∙ sym is in
    let before : LiveChain = chain_of vs x in
    let after : LiveChain = chain_of now y in
    let left : IsThinned before after kept = record {
      place = refl;
      vertices = part_written vs x.start x.end (length kept) new (omega arith) (omega (arith, count, fewer)) ∙ front;
    } in
    let chain = chain_after w.base before after kept f.live keep left in
    let lists : map (chain_of now) (set ss k y) ≡ set (chains_in w) k after =
    parts_after vs ss k x y new f.here stands f.part size lives.within lives.apart in
    let kept_some = keep.some in
    record {
      few = omega (arith, lives.few, length-set ss k y);
      places = map-set_same (λ (s : Span). s.place) ss k y x (ap (λ (s : Span). s.place) is);
      chains = subst (All (IsLive w.base)) (sym lists)
          (All-set (IsLive w.base) (chains_in w) k after (live_after w.base before after kept f.live keep left) lives.chains);
      apart = apart_after ss k x y f.here stands refl (omega (arith, fewer, part)) lives.apart;
      within = All-set (IsPartOf now) ss k y (record {
        some = omega arith;
        within = omega (arith, fewer, part, length-with_part vs x.start x.end new (omega arith) within size);
      })
          (parts_of_alike vs now ss (length-with_part vs x.start x.end new (omega arith) within size) lives.within);
      thinned = ap (map (live_chain w.base)) lists ∙ map-set (live_chain w.base) (chains_in w) k after
          ∙ ap (set (map (live_chain w.base) (chains_in w)) k) (chain
          ∙ sym (ap (λ (c : Chain). record c { rest = vertices_at c (drop 1 kept) }) f.chain));
    }
