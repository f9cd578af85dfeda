-- Rings close, and use each arc once.
use Rattle.std.proofs.Common.{◌≡◌, ◌≢◌, ◌↔◌, ℕ, List, [], ◌∷◌, ◌++◌, All, AllPairs, Contains, map, subst}
use Rattle.std.specs.Prelude.{ℤ}
use Rattle.std.specs.List.Sorted.{IsPermutation}
use Rattle.std.proofs.lemmas.List.Elements.{All-cons, All-nil}
use Rattle.std.proofs.lemmas.List.Sorted.{Contains-permutation, IsPermutation-append_right, IsPermutation-cons, IsPermutation-refl}
use Rattle.std.proofs.lemmas.List.Sorted.{IsPermutation-sym, IsPermutation-trans}
use Rattle.grid_exact.specs.Geometry.{Place}
use Rattle.grid_exact.specs.Walks as walks
use Rattle.arc_map.specs.Map.{Map}
use Rattle.sweep_index.proofs.Distinct.{apart_flips, pairs_permutation}
use Rattle.dissolve.specs.Border.{arc_of, start_of, end_of, without, without_all, IsRest, IsRing, AreRings}
use Rattle.dissolve.specs.Closed.{IsClosed, arcs_used}
use Rattle.dissolve.proofs.Taking.{AreOnce, once-without, taken-out, still-among}

-- ---- closed

rest-closed : (m : Map) (start : Place) (unused : List ℕ) (r : ℤ) (rs : List ℤ) → IsRest m start (end_of m r) unused rs
    → walks.EachEdge (λ s t. start_of m t ≡ end_of m s) r rs × (end_of m (walks.end_of r rs) ≡ start)
rest-closed m start unused r [] is = (tt, is)
rest-closed m start unused r (t ∷ ts) is =
    let later = rest-closed m start (without (arc_of t) unused) t ts is.2 in
    ((is.1.starts, later.0), later.1)

ring-closed : (m : Map) (unused : List ℕ) (ring : List ℤ) → IsRing m unused ring → IsClosed m ring
ring-closed m unused [] is = is
ring-closed m unused (r ∷ rs) is = rest-closed m (start_of m r) (without (arc_of r) unused) r rs is.1

pub rings-closed : (m : Map) (unused : List ℕ) (rings : List (List ℤ)) → AreRings m unused rings → All (IsClosed m) rings
rings-closed m unused [] are = All-nil (IsClosed m)
rings-closed m unused (ring ∷ rings) are = All-cons (IsClosed m) ring rings (ring-closed m unused ring are.0)
    (rings-closed m (without_all ring unused) rings are.1)

-- ---- each arc once

pub once-without_all : (rs : List ℤ) (xs : List ℕ) → AreOnce xs → AreOnce (without_all rs xs)
once-without_all [] xs once = once
once-without_all (r ∷ rs) xs once = once-without_all rs (without (arc_of r) xs) (once-without (arc_of r) xs once)

rest-used : (m : Map) (start p : Place) (unused : List ℕ) (rs : List ℤ) → AreOnce unused → IsRest m start p unused rs
    → IsPermutation unused (map arc_of rs ++ without_all rs unused)
rest-used m start p unused [] once is = IsPermutation-refl unused
rest-used m start p unused (r ∷ rs) once is =
    let arc = arc_of r in
    let later = rest-used m start (end_of m r) (without arc unused) rs (once-without arc unused once) is.2 in
    IsPermutation-trans unused (arc ∷ without arc unused) (arc ∷ (map arc_of rs ++ without_all rs (without arc unused)))
    (taken-out arc unused once is.1.least.among)
    (IsPermutation-cons arc (without arc unused) (map arc_of rs ++ without_all rs (without arc unused)) later)

ring-used : (m : Map) (unused : List ℕ) (ring : List ℤ) → AreOnce unused → IsRing m unused ring
    → IsPermutation unused (map arc_of ring ++ without_all ring unused)
ring-used m unused [] once is = absurd is
ring-used m unused (r ∷ rs) once is =
    let arc = arc_of r in
    let later = rest-used m (start_of m r) (end_of m r) (without arc unused) rs (once-without arc unused once) is.1 in
    IsPermutation-trans unused (arc ∷ without arc unused) (arc ∷ (map arc_of rs ++ without_all rs (without arc unused)))
    (taken-out arc unused once is.0.least.among)
    (IsPermutation-cons arc (without arc unused) (map arc_of rs ++ without_all rs (without arc unused)) later)

pub rings-used : (m : Map) (unused : List ℕ) (rings : List (List ℤ)) → AreOnce unused → AreRings m unused rings
    → IsPermutation unused (arcs_used rings)
rings-used m unused [] once are = subst (λ xs. IsPermutation unused xs) are (IsPermutation-refl unused)
rings-used m unused (ring ∷ rings) once are =
    let left = without_all ring unused in
    let later = rings-used m left rings (once-without_all ring unused once) are.1 in
    IsPermutation-trans unused (map arc_of ring ++ left) (map arc_of ring ++ arcs_used rings)
    (ring-used m unused ring once are.0)
    (IsPermutation-append_right (map arc_of ring) left (arcs_used rings) later)

pub used-once : (m : Map) (unused : List ℕ) (rings : List (List ℤ)) → AreOnce unused → AreRings m unused rings
    → AllPairs (λ j k. j ≢ k) (arcs_used rings)
used-once m unused rings once are = pairs_permutation (λ j k. j ≢ k) apart_flips unused (arcs_used rings)
    (rings-used m unused rings once are) once

pub used-odd : (m : Map) (unused : List ℕ) (rings : List (List ℤ)) → AreOnce unused → AreRings m unused rings → (k : ℕ)
    → Contains (arcs_used rings) k ↔ Contains unused k
used-odd m unused rings once are k =
    let moves = rings-used m unused rings once are in (
      λ held. Contains-permutation (arcs_used rings) unused k (IsPermutation-sym unused (arcs_used rings) moves) held,
      λ held.
          Contains-permutation unused (arcs_used rings) k moves held,
    )

-- ---- what a ring leaves

pub left-among : (rs : List ℤ) (k : ℕ) (xs : List ℕ) → Contains (without_all rs xs) k → Contains xs k
left-among [] k xs held = held
left-among (r ∷ rs) k xs held = (still-among (arc_of r) k xs (left-among rs k (without (arc_of r) xs) held)).0
