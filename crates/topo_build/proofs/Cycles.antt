-- Rings as they are read, as cyclic lists: no two neighbours are equal, the last and the first neither.
use Rattle.std.proofs.Common.{◌≡◌, ◌≢◌, ◌∙◌, ◌+◌, ◌-◌, ◌<◌, ◌≤◌, ℕ, zero, suc, Bool, cond, List, [], ◌∷◌, ◌++◌, nat_lt, Some, length}
use Rattle.std.proofs.Common.{slice_get, drop, take, append_assoc, ap, inl, inr, refl, subst, sym, arith, length-append, length-drop}
use Rattle.std.proofs.Common.{length-take}
use Rattle.std.specs.List.{dedup, dedup_from}
use Rattle.std.proofs.lemmas.Bool.{cond-false, cond-true, lt-ltb}
use Rattle.grid_exact.specs.Geometry.{Place}
use Rattle.grid_exact.specs.Walks.{EachEdge, end_of}
use Rattle.arc_map.specs.Ends.{is_same}
use Rattle.arc_map.specs.Map.{IsArc}
use Rattle.arc_map.proofs.Listing.{compared_places, either}
use Rattle.arc_map.proofs.Listing.Same.{Yes, No}
use Rattle.geo_reader.specs.Geo.{IsRing}
use Rattle.topo_build.specs.Cyclic.{closed_from, cyclic, opened}
use Rattle.topo_build.proofs.Triples.{EachTriple, triples-closed}

-- the position differs from both of its neighbours
abbrev pub Differs : Place → Place → Place → Type 0
Differs a p b = (a ≢ p) × (p ≢ b)

-- a cyclic list without equal neighbours
pub record IsCyclic (c : List Place) : Type 0 where
  pub some : 1 ≤ length c
  pub apart : 1 < length c → EachTriple Differs (c ++ take 2 c)

-- ---- equal neighbours are left out

record IsWalk (v : Place) (ws ps : List Place) : Type 0 where
  pub rest : List Place
  pub is : ps ≡ v ∷ rest
  pub apart : EachEdge (λ a b. a ≢ b) v rest
  pub end : end_of v rest ≡ end_of v ws
  pub count : length rest ≤ length ws

walk-from : (v : Place) (ws : List Place) → IsWalk v ws (dedup_from is_same v ws)
walk-from v [] = record { rest = []; is = refl; apart = tt; end = refl; count = omega arith }
walk-from v (w ∷ ws) =
    elim (compared_places w v) [
      | Yes alike e ↦
          let one = walk-from v ws in
          let count = one.count in
          record {
            rest = one.rest;
            is = cond-true (is_same w v) (dedup_from is_same v ws) (v ∷ dedup_from is_same w ws) alike ∙ one.is;
            apart = one.apart;
            end = one.end ∙ ap (λ p. end_of p ws) (sym e);
            count = omega arith;
          }
      | No unlike e ↦
          let one = walk-from w ws in
          let count = one.count in
          record {
            rest = w ∷ one.rest;
            is = cond-false (is_same w v) (dedup_from is_same v ws) (v ∷ dedup_from is_same w ws) unlike ∙ ap (λ ps. v ∷ ps) one.is;
            apart = (λ same. e (sym same), one.apart);
            end = one.end;
            count = omega arith;
          }
    ]

-- ---- the closing position is left out

last-read : (p : Place) (ps : List Place) → slice_get (p ∷ ps) (length ps) ≡ Some (end_of p ps)
last-read p [] = refl
last-read p (q ∷ ps) = last-read q ps

ends-with : (p : Place) (ps : List Place) → p ∷ ps ≡ take (length ps) (p ∷ ps) ++ end_of p ps ∷ []
ends-with p [] = refl
ends-with p (q ∷ ps) = ap (λ qs. p ∷ qs) (ends-with q ps)

triples-made : (a p : Place) (ps : List Place) → EachEdge (λ a b. a ≢ b) a (p ∷ ps) → EachTriple Differs (a ∷ p ∷ ps)
triples-made a p [] h = tt
triples-made a p (b ∷ ps) h = ((h.0, h.1.0), triples-made p b ps h.1)

edge-more : (v : Place) (ws : List Place) (z : Place) → EachEdge (λ a b. a ≢ b) v ws → end_of v ws ≢ z
    → EachEdge (λ a b. a ≢ b) v (ws ++ z ∷ [])
edge-more v [] z h last = (last, tt)
edge-more v (w ∷ ws) z h last = (h.0, edge-more w ws z h.1 last)

opened-walk : (p : Place) (ps : List Place) → EachEdge (λ a b. a ≢ b) p ps → end_of p ps ≡ p → IsCyclic (opened (p ∷ ps))
opened-walk p [] apart closed = record { some = omega arith; apart = λ long. absurd (omega arith) }
opened-walk p (q ∷ []) apart closed = absurd (apart.0 (sym closed))
opened-walk p (q ∷ r ∷ ps) apart closed =
    let c = p ∷ q ∷ take (length ps) (r ∷ ps) in
    let whole : p ∷ q ∷ r ∷ ps ≡ c ++ p ∷ [] = ends-with p (q ∷ r ∷ ps)
    ∙ ap (λ z. take (length (q ∷ r ∷ ps)) (p ∷ q ∷ r ∷ ps) ++ z ∷ []) closed in
    let more : EachEdge (λ a b. a ≢ b) p ((q ∷ r ∷ ps) ++ q ∷ []) =
    edge-more p (q ∷ r ∷ ps) q apart (λ same. apart.0 (sym closed ∙ same)) in
    let split : (p ∷ q ∷ r ∷ ps) ++ q ∷ [] ≡ c ++ p ∷ q ∷ [] = ap (λ qs. qs ++ q ∷ []) whole ∙ append_assoc c (p ∷ []) (q ∷ []) in
    let count : length (p ∷ q ∷ r ∷ ps) - 1 ≡ suc (suc (length ps)) = omega arith in
    let is : opened (p ∷ q ∷ r ∷ ps) ≡ c = cond-true (nat_lt 1 (length (p ∷ q ∷ r ∷ ps)))
    (take (length (p ∷ q ∷ r ∷ ps) - 1) (p ∷ q ∷ r ∷ ps)) (p ∷ q ∷ r ∷ ps) (lt-ltb 1 (length (p ∷ q ∷ r ∷ ps)) (omega arith))
    ∙ ap (λ n. take n (p ∷ q ∷ r ∷ ps)) count in
    subst IsCyclic (sym is) (record {
      some = omega arith;
      apart = λ long. subst (EachTriple Differs) split (triples-made p q ((r ∷ ps) ++ q ∷ []) more);
    })

opened-short : (ps : List Place) → length (opened ps) ≤ length ps
opened-short ps =
    elim (either (nat_lt 1 (length ps))) [
      | inl several ↦ let is = ap length (cond-true (nat_lt 1 (length ps)) (take (length ps - 1) ps) ps several) in let count =
          length-take (length ps - 1) ps in omega (arith, is, count)
      | inr single ↦ let is = ap length (cond-false (nat_lt 1 (length ps)) (take (length ps - 1) ps) ps single) in omega (arith, is)
    ]

pub record IsReadAs (ring c : List Place) : Type 0 where
  pub cyclic : IsCyclic c
  pub short : length c ≤ length ring

pub ring-cyclic : (ring : List Place) → IsRing ring → IsReadAs ring (cyclic ring)
ring-cyclic [] ring = let long = ring.long in absurd (omega arith)
ring-cyclic (p ∷ ps) ring =
    let walk = walk-from p ps in
    let count : length (p ∷ ps) - 1 ≡ length ps = omega arith in
    let last : Some (end_of p ps) ≡ Some p = sym (last-read p ps) ∙ ap (slice_get (p ∷ ps)) (sym count) ∙ ring.closed in
    let closed : end_of p ps ≡ p = cc in
    let short = opened-short (p ∷ walk.rest) in
    let fewer = walk.count in
    subst (IsReadAs (p ∷ ps)) (ap opened (sym walk.is)) (record {
      cyclic = opened-walk p walk.rest walk.apart (walk.end ∙ closed);
      short = omega (arith, short, fewer);
    })

-- ---- once round

arc-made : (a p b : Place) (ps : List Place) → EachTriple Differs (a ∷ p ∷ b ∷ ps) → EachEdge (λ a b. a ≢ b) a (p ∷ b ∷ ps)
arc-made a p b [] h = (h.0.0, (h.0.1, tt))
arc-made a p b (c ∷ ps) h = (h.0.0, arc-made p b c ps h.1)

arc-from : (ps : List Place) → 3 ≤ length ps → EachTriple Differs ps → IsArc ps
arc-from [] long h = absurd (omega arith)
arc-from (a ∷ []) long h = absurd (omega arith)
arc-from (a ∷ p ∷ []) long h = absurd (omega arith)
arc-from (a ∷ p ∷ b ∷ ps) long h = arc-made a p b ps h

pub closed-length : (c : List Place) (at : ℕ) → at < length c → length (closed_from c at) ≡ length c + 1
closed-length c at inside =
    let both = length-append (drop at c) (take (at + 1) c) in
    let behind = length-drop at c in
    let front = length-take (at + 1) c in
    omega (arith, both, behind, front)

pub closed-arc : (c : List Place) (at : ℕ) → IsCyclic c → 1 < length c → at < length c → IsArc (closed_from c at)
closed-arc c at cyclic long inside =
    let count = closed-length c at inside in
    arc-from (closed_from c at) (omega (arith, count)) (triples-closed Differs c at inside (cyclic.apart long))
