-- How many arcs and positions are made, and that they are arcs.
use Rattle.std.proofs.Common.{◌≡◌, ◌≢◌, ◌∙◌, ◌+◌, ◌*◌, ◌<◌, ◌≤◌, ℕ, ℤ, pos, List, [], ◌∷◌, ◌++◌, All, length, sum_by, ap, refl, subst, sym}
use Rattle.std.proofs.Common.{arith, length-append}
use Rattle.std.proofs.lemmas.List.Elements.{All-cons, All-head, All-nil, All-push, All-tail, All-weaker}
use Rattle.std.proofs.lemmas.List.Sums.{sum_by-cons, sum_by_push}
use Rattle.grid_exact.specs.Geometry.{Place}
use Rattle.grid_exact.specs.Walks.{EachEdge}
use Rattle.arc_map.specs.Map.{IsArc}
use Rattle.topo_build.specs.Built.{AreRingsBuilt, AreTaken, BeginsWith, IsRingBuilt}
use Rattle.topo_build.specs.Built.IsRingBuilt.{Single, Free, Cut}
use Rattle.topo_build.specs.Cyclic.{closed_from}
use Rattle.topo_build.specs.Found.{IsFound, IsRingFound}
use Rattle.topo_build.specs.Found.IsFound.{Found, New}
use Rattle.topo_build.specs.References.{arc_of}
use Rattle.topo_build.proofs.Cycles.{IsCyclic, closed-arc, closed-length}

-- what n edges add at most: an arc an edge, and two positions
pub record IsWithin (arcs : List (List Place)) (n : ℕ) (refs : List ℤ) (after : List (List Place)) : Type 0 where
  pub count : length after ≤ length arcs + n
  pub positions : sum_by length after ≤ sum_by length arcs + 2 * n
  pub few : length refs ≤ n
  pub grows : length arcs ≤ length after
  pub names : All (λ r. arc_of r < length after) refs
  pub good : All IsArc arcs → All IsArc after

within-none : (arcs after : List (List Place)) → after ≡ arcs → IsWithin arcs 0 [] after
within-none arcs after same = subst (IsWithin arcs 0 []) (sym same) (record {
  count = omega arith;
  positions = omega arith;
  few = omega arith;
  grows = omega arith;
  names = All-nil (λ r. arc_of r < length arcs);
  good = λ all. all;
})

within-more : (arcs mid after : List (List Place)) (m n : ℕ) (r : ℤ) (refs : List ℤ) → IsWithin arcs m (r ∷ []) mid
    → IsWithin mid n refs after → IsWithin arcs (m + n) (r ∷ refs) after
within-more arcs mid after m n r refs h k =
    let a = h.count in
    let b = k.count in
    let c = h.positions in
    let d = k.positions in
    let e = h.few in
    let f = k.few in
    let g = h.grows in
    let i = k.grows in
    let first : arc_of r < length mid = h.names 0 r (omega arith) in
    record {
      count = omega arith;
      positions = omega arith;
      few = omega arith;
      grows = omega arith;
      names = All-cons (λ s. arc_of s < length after) r refs (omega arith) k.names;
      good = λ all. k.good (h.good all);
    }

within-one : (arcs after : List (List Place)) (n : ℕ) (r : ℤ) (ps : List Place) → 1 ≤ n → length ps ≤ 2 * n → IsArc ps
    → r ≡ pos (length arcs) → after ≡ arcs ++ ps ∷ [] → IsWithin arcs n (r ∷ []) after
within-one arcs after n r ps some short arc is same = subst (IsWithin arcs n (r ∷ [])) (sym same) (
    let count = length-append arcs (ps ∷ []) in
    let sum = sum_by_push length arcs ps in
    let number = ap arc_of is in
    record {
      count = omega (arith, count);
      positions = omega (arith, sum);
      few = omega arith;
      grows = omega (arith, count);
      names = All-cons (λ s. arc_of s < length (arcs ++ ps ∷ [])) r [] (omega (arith, count, number))
          (All-nil (λ s. arc_of s < length (arcs ++ ps ∷ [])));
      good = λ all. All-push IsArc arcs ps all arc;
    })

within-found : (arcs after : List (List Place)) (n : ℕ) (r : ℤ) (ps : List Place) → 1 ≤ n → length ps ≤ 2 * n → IsArc ps
    → IsFound ps arcs r after → IsWithin arcs n (r ∷ []) after
within-found arcs after n r ps some short arc (Found a b starts along same) = subst (IsWithin arcs n (r ∷ [])) (sym same) (record {
  count = omega arith;
  positions = omega arith;
  few = omega arith;
  grows = omega arith;
  names = All-cons (λ s. arc_of s < length arcs) r [] along.known (All-nil (λ s. arc_of s < length arcs));
  good = λ all. all;
})
within-found arcs after n r ps some short arc (New a b starts none is same) = within-one arcs after n r ps some short arc is same

edges-front : (v : Place) (ws : List Place) (z : Place) (rest : List Place) → EachEdge (λ a b. a ≢ b) v (ws ++ z ∷ rest)
    → EachEdge (λ a b. a ≢ b) v (ws ++ z ∷ [])
edges-front v [] z rest h = (h.0, tt)
edges-front v (w ∷ ws) z rest h = (h.0, edges-front w ws z rest h.1)

edges-behind : (v : Place) (ws : List Place) (z : Place) (rest : List Place) → EachEdge (λ a b. a ≢ b) v (ws ++ z ∷ rest)
    → EachEdge (λ a b. a ≢ b) z rest
edges-behind v [] z rest h = h.1
edges-behind v (w ∷ ws) z rest h = edges-behind w ws z rest h.1

within-pieces : (Junction : Place → Type 0) (v : Place) (ws : List Place) (arcs : List (List Place)) (refs : List ℤ) (after :
    List (List Place)) → EachEdge (λ a b. a ≢ b) v ws → AreTaken IsFound Junction v ws arcs refs after
    → IsWithin arcs (length ws) refs after
within-pieces Junction v ws arcs [] after apart h = subst (λ n. IsWithin arcs n [] after) (sym (ap length h.0)) (within-none arcs after h.1)
within-pieces Junction v ws arcs (r ∷ rs) after apart h =
    let b = h.0 in
    let along = subst (EachEdge (λ a b. a ≢ b) v) b.along apart in
    let long = length-append b.inner (b.last ∷ []) in
    let all = ap length b.along ∙ length-append b.inner (b.last ∷ b.rest) in
    let sum : length b.inner + 1 + length b.rest ≡ length ws = omega (arith, all) in
    let here = within-found arcs b.after (length b.inner + 1) r (v ∷ (b.inner ++ b.last ∷ [])) (omega arith) (omega (arith, long))
    (edges-front v b.inner b.last b.rest along) b.taken in
    let rest = within-pieces Junction b.last b.rest b.after rs after (edges-behind v b.inner b.last b.rest along) h.1 in
    subst (λ n. IsWithin arcs n (r ∷ rs) after) sum (within-more arcs b.after after (length b.inner + 1) (length b.rest) r rs here rest)

within-ring : (Junction : Place → Type 0) (c : List Place) (arcs : List (List Place)) (refs : List ℤ) (after : List (List Place))
    → IsCyclic c → IsRingBuilt IsFound IsRingFound Junction c arcs refs after → IsWithin arcs (length c) refs after
within-ring Junction c arcs refs after cyclic (Single p is e same) =
    let some = cyclic.some in
    subst (λ rs. IsWithin arcs (length c) rs after) (sym e) (within-one arcs after (length c) (pos (length arcs)) (p ∷ []) some
    (omega arith) tt refl same)
within-ring Junction c arcs refs after cyclic (Free r long off e taken) =
    let count = closed-length c 0 (omega arith) in
    subst (λ rs. IsWithin arcs (length c) rs after) (sym e) (within-found arcs after (length c) r (closed_from c 0) (omega arith)
    (omega (arith, count)) (closed-arc c 0 cyclic long (omega arith)) taken)
within-ring Junction c arcs refs after cyclic (Cut at v ws long inside off is marked taken) =
    let count = closed-length c at inside in
    let same = ap length is in
    let edges : length ws ≡ length c = omega (arith, count, same) in
    let arc : IsArc (v ∷ ws) = subst IsArc is (closed-arc c at cyclic long inside) in
    subst (λ n. IsWithin arcs n refs after) edges (within-pieces Junction v ws arcs refs after arc taken)

-- the same of all rings
pub record AreWithin (arcs : List (List Place)) (n : ℕ) (refs : List (List ℤ)) (after : List (List Place)) : Type 0 where
  pub count : length after ≤ length arcs + n
  pub positions : sum_by length after ≤ sum_by length arcs + 2 * n
  pub few : sum_by length refs ≤ n
  pub grows : length arcs ≤ length after
  pub names : All (All (λ r. arc_of r < length after)) refs
  pub good : All IsArc arcs → All IsArc after

pub within-rings : (Junction : Place → Type 0) (cs arcs : List (List Place)) (refs : List (List ℤ)) (after : List (List Place))
    → All IsCyclic cs → AreRingsBuilt IsFound IsRingFound Junction cs arcs refs after → AreWithin arcs (sum_by length cs) refs after
within-rings Junction [] arcs [] after all h = subst (AreWithin arcs 0 []) (sym h) (record {
  count = omega arith;
  positions = omega arith;
  few = omega arith;
  grows = omega arith;
  names = All-nil (All (λ r. arc_of r < length arcs));
  good = λ all. all;
})
within-rings Junction [] arcs (rs ∷ refs) after all h = absurd h
within-rings Junction (c ∷ cs) arcs [] after all h = absurd h
within-rings Junction (c ∷ cs) arcs (rs ∷ refs) after all h =
    let one = within-ring Junction c arcs rs h.0 (All-head IsCyclic c cs all) h.1 in
    let more = within-rings Junction cs h.0 refs after (All-tail IsCyclic c cs all) h.2 in
    let a = one.count in
    let b = more.count in
    let d = one.positions in
    let e = more.positions in
    let f = one.few in
    let g = more.few in
    let i = one.grows in
    let j = more.grows in
    let edges = sum_by-cons length c cs in
    let names = sum_by-cons length rs refs in
    record {
      count = omega arith;
      positions = omega arith;
      few = omega arith;
      grows = omega arith;
      names = All-cons (All (λ r. arc_of r < length after)) rs refs
          (All-weaker (λ r. arc_of r < length h.0) (λ r. arc_of r < length after) (λ r known. omega arith) rs one.names) more.names;
      good = λ all. more.good (one.good all);
    }
