-- What holds of the rings that are read.
use Rattle.std.proofs.Common.{◌≡◌, ℕ, ◌+◌, ◌<◌, ◌≤◌, ◌^◌, Bool, true, false, nat_lt, Option, Some, None, List, [], ◌∷◌, ◌++◌, length}
use Rattle.std.proofs.Common.{sum_by, All, Result, Ok, Err, IfOk, cond, refl, ap, subst, arith}
use Rattle.std.specs.Prelude.{slice_get}
use Rattle.std.specs.Ordering.{int_eq}
use Rattle.std.proofs.lemmas.Bool.{ltb-true, ltb-false}
use Rattle.std.proofs.lemmas.Bool.Decides.{Decides-int_eq}
use Rattle.std.proofs.lemmas.List.{length-append}
use Rattle.std.proofs.lemmas.List.Elements.{All-push}
use Rattle.std.proofs.lemmas.List.Sums.{sum_by_push}
use Rattle.grid_exact.specs.Geometry.{Place}
use Rattle.grid_exact.proofs.Commons.{same_place}
use Rattle.arc_map.proofs.Listing.{both_true}
use Rattle.json_scan.specs.Tree.{Tree, Trees, NoTrees, NextTree}
use Rattle.topo_reader.specs.Sequence.{each}
use Rattle.topo_reader.specs.Arcs.{last_of, is_at}
use Rattle.topo_reader.proofs.ArcLaws.{not-ok, same-ok, then-ok}
use Rattle.topo_reader.proofs.GeometryLaws.{each-keeps}
use Rattle.geo_reader.specs.declared.fault.GeoFault.{GeoFault}
use Rattle.geo_reader.specs.Geo.{IsRing}
use Rattle.geo_reader.specs.Gives.{Gives}
use Rattle.geo_reader.specs.Steps.{list_of}
use Rattle.geo_reader.specs.Rings.{position_at, position_added, positions_added, count, is_short, is_closed, closed, ring_from, ring_of}
use Rattle.geo_reader.specs.Rings.{ring_added, polygon_added, parts_added}

-- ---- walks that end well

-- a walk that is a fault unless a test holds
pub kept-ok : {A F : Type 0} (test : Bool) (rest : Result A F) (fault : F) (a : A) → cond test rest (Err fault) ≡ Ok a
    → (test ≡ true) × (rest ≡ Ok a)
kept-ok true rest fault a h = (refl, h)
kept-ok false rest fault a h = not-ok fault a h

-- a walk that is a fault where a test holds
pub past-ok : {A F : Type 0} (test : Bool) (fault : F) (rest : Result A F) (a : A) → cond test (Err fault) rest ≡ Ok a
    → (test ≡ false) × (rest ≡ Ok a)
past-ok true fault rest a h = not-ok fault a h
past-ok false fault rest a h = (refl, h)

-- a walk that counts goes on only below its limit
pub below-ok : {A F : Type 0} (seen limit : ℕ) (rest : Result A F) (fault : F) (a : A) → cond (nat_lt seen limit) rest (Err fault) ≡ Ok a
    → (seen < limit) × (rest ≡ Ok a)
below-ok seen limit rest fault a h =
    let kept = kept-ok (nat_lt seen limit) rest fault a h in
    (ltb-true seen limit kept.0, kept.1)

-- ---- one ring

positions-read : (before : ℕ) (trees : Trees) (ring after : List Place) → before + length ring ≤ 2 ^ 19
    → positions_added before trees ring ≡ Ok after → (length after ≡ length ring + count trees) × (before + length after ≤ 2 ^ 19)
positions-read before NoTrees ring after few h =
    let same = ap length (same-ok ring after h) in
    (omega (arith, same), omega (arith, same, few))
positions-read before (NextTree t others) ring after few h =
    let step = then-ok (position_added before t ring) (positions_added before others) after h in
    let counted = below-ok (before + length ring) (2 ^ 19) _ _ step.0 step.1 in
    let placed = then-ok (position_at t) (λ p. Ok (ring ++ p ∷ [])) step.0 counted.1 in
    let same = ap length (same-ok (ring ++ placed.0 ∷ []) step.0 placed.2) in
    let long : length step.0 ≡ length ring + 1 = omega (arith, same, length-append ring (placed.0 ∷ [])) in
    let rest = positions-read before others step.0 after (omega (arith, counted.0, long)) step.2 in
    (omega (arith, rest.0, long), rest.1)

is-place : (o : Option Place) (p : Place) → is_at o p ≡ true → o ≡ Some p
is-place None p h = absurd cc
is-place (Some q) p h =
    let both = both_true (int_eq q.x p.x) (int_eq q.y p.y) h in
    ap (λ (r : Place). Some r) (same_place q p ((Decides-int_eq q.x p.x).0 both.0) ((Decides-int_eq q.y p.y).0 both.1))

closes : (ring : List Place) → is_closed ring ≡ true → last_of ring ≡ slice_get ring 0
closes [] h = refl
closes (p ∷ ps) h = is-place (last_of (p ∷ ps)) p h

-- a ring that is read behind so many positions is one, and within the limit
pub ring-read : (before : ℕ) (t : Tree) (ring : List Place) → before ≤ 2 ^ 19 → ring_of before t ≡ Ok ring
    → IsRing ring × (before + length ring ≤ 2 ^ 19)
ring-read before t ring few h =
    let listed = then-ok (list_of t) (ring_from before t) ring h in
    let long = past-ok (is_short listed.0) _ _ ring listed.2 in
    let read = then-ok (positions_added before listed.0 []) (closed t) ring long.1 in
    let ends = kept-ok (is_closed read.0) _ _ ring read.2 in
    let positions = positions-read before listed.0 [] read.0 (omega (arith, few)) read.1 in
    let is : IsRing read.0 = record {
      long = omega (arith, positions.0, ltb-false (count listed.0) 4 long.0);
      closed = closes read.0 ends.0;
    } in
    subst (λ (r : List Place). IsRing r × (before + length r ≤ 2 ^ 19)) (same-ok read.0 ring ends.1) (is, positions.1)

-- ---- all rings

-- a ring that is added stands behind those that were there
ring-added : (t : Tree) (before after : List (List Place)) → ring_added t before ≡ Ok after
    → (ring : List Place) × (ring_of (sum_by length before) t ≡ Ok ring) × (before ++ ring ∷ [] ≡ after)
ring-added t before after h =
    let read = then-ok (ring_of (sum_by length before) t) (λ ring. Ok (before ++ ring ∷ [])) after h in
    (read.0, read.1, same-ok (before ++ read.0 ∷ []) after read.2)

-- what each ring keeps, the rings of a polygon keep
pub parts-keep : (P : List (List Place) → Type 0)
    → ((t : Tree) (before after : List (List Place)) → P before → ring_added t before ≡ Ok after → P after)
    → (several : Bool) (t : Tree) (before after : List (List Place)) → P before → parts_added several t before ≡ Ok after → P after
parts-keep P one several t before after is h = at_kind several h
  where
    polygon : (u : Tree) (rings now : List (List Place)) → P rings → polygon_added u rings ≡ Ok now → P now
    polygon u rings now holds e =
        let listed = then-ok (list_of u) (λ trees. each ring_added trees rings) now e in
        each-keeps P ring_added one listed.0 rings now holds listed.2

    at_kind : (many : Bool) → parts_added many t before ≡ Ok after → P after
    at_kind true e =
        let listed = then-ok (list_of t) (λ trees. each polygon_added trees before) after e in
        each-keeps P polygon_added polygon listed.0 before after is listed.2
    at_kind false e = polygon t before after is e

ring-more : (n : ℕ) (t : Tree) (before after : List (List Place)) → n ≤ length before → ring_added t before ≡ Ok after → n ≤ length after
ring-more n t before after few h =
    let added = ring-added t before after h in
    omega (arith, few, length-append before (added.0 ∷ []), ap length added.2)

-- no ring is lost
pub parts-more : (several : Bool) (t : Tree) (before after : List (List Place)) → parts_added several t before ≡ Ok after
    → length before ≤ length after
parts-more several t before after h =
    parts-keep (λ rings. length before ≤ length rings) (ring-more (length before)) several t before after (omega arith) h

-- what holds where rings were read
pub gives-ok : {X : Type 0} (P : Type 0) (now : List (List Place)) (r : Result X GeoFault) (walk : Result (List (List Place)) GeoFault)
    → Gives (λ _. now) r walk → (walk ≡ Ok now → P) → IfOk r (λ _. P)
gives-ok P now (Ok x) walk gives from = from gives
gives-ok P now (Err fault) walk gives from = tt

-- rings within the limit
pub record AreRings (rings : List (List Place)) : Type 0 where
  pub each : All IsRing rings
  pub few : sum_by length rings ≤ 2 ^ 19

pub ring-keeps : (t : Tree) (before after : List (List Place)) → AreRings before → ring_added t before ≡ Ok after → AreRings after
ring-keeps t before after are h =
    let added = ring-added t before after h in
    let read = ring-read (sum_by length before) t added.0 are.few added.1 in
    subst AreRings added.2 (record {
      each = All-push IsRing before added.0 are.each read.0;
      few = omega (arith, read.1, sum_by_push length before added.0);
    })
