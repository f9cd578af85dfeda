-- The places of a subject along its chain, and where layers fall over the pairs of its places.
use Rattle.std.proofs.Common.{◌≡◌, ◌∙◌, ◌↔◌, ℕ, ℤ, pos, ◌+◌, ◌-◌, ◌<◌, ◌≤◌, ◌<ℤ◌, Bool, false, IsTrue, List, length, get_or, ap, subst}
use Rattle.std.proofs.Common.{arith, inl, inr}
use Rattle.std.specs.Prelude.{slice_index}
use Rattle.std.proofs.lemmas.Bool.{both_ways, cases_eq, cases_lt}
use Rattle.std.proofs.lemmas.List.{get_or_default, length-map}
use Rattle.grid_exact.specs.Geometry.{Place}
use Rattle.grid_exact.specs.Frame.{IsBeforeIn}
use Rattle.grid_exact.specs.Near.{weighted}
use Rattle.grid_exact.specs.Weights.{Scales}
use Rattle.error_cone.specs.Cone.{IsPast, Lets}
use Rattle.error_cone.specs.Courses.{IsConeFrom, LetsNear, RunsAlong}
use Rattle.error_cone.proofs.Courses.{none_near, weighted_runs}
use Rattle.error_cone.specs.declared.cone.Cone.{Cone}
use Rattle.arc_map.specs.Arranged.{nowhere}
use Rattle.arc_map.specs.Chains.{IsWithinBound, chain_at, chain_places}
use Rattle.arc_map.specs.Vertices.{places}
use Rattle.arc_map.specs.Work.{Work}
use Rattle.arc_map.proofs.Chained.{length-chain_places}
use Rattle.cert_checker.specs.Runs.{IsRunWithin, place_at}
use Rattle.cert_checker.specs.Subject.{FallNowhere, IsSubjectOf, edge_count, pairs_of}
use Rattle.cert_checker.proofs.Nearby.{near_by_weighted, run_near, weighted_at}
use Rattle.cert_checker.proofs.Pairs.{allowed_by_parts}

-- a place that was read
pub read_at : (ps : List Place) (n : ℕ) (p : Place) → n < length ps → p ≡ get_or ps n p → p ≡ place_at ps n
read_at ps n p within read = read ∙ get_or_default ps n p nowhere within

-- the places of a subject run along as its frame and its ends tell
pub subject_runs : (w : Work) (k : ℕ) (ps : List Place) (weights : Scales) (rising : Bool) (first last : Place) → IsSubjectOf w k ps weights
    → pos 0 <ℤ weights.x → pos 0 <ℤ weights.y → first ≡ place_at ps 0 → last ≡ place_at ps (length ps - 1)
    → (IsTrue rising ↔ IsBeforeIn (chain_at w.chains k).frame first last)
    → RunsAlong (chain_at w.chains k).frame rising (place_at ps) (length ps)
subject_runs w k ps weights rising first last subject wide high starts ends test =
    let chain = chain_at w.chains k in
    let frame = (chain_at w.chains k).frame in
    let count : length ps ≡ length (chain_places (chain_at w.chains k)) = ap length subject.weighed
    ∙ length-map (chain_places (chain_at w.chains k)) (weighted weights.x weights.y) in
    weighted_runs weights.x weights.y frame rising chain.first.place (places chain.rest) nowhere (place_at ps) (length ps) wide high
    (subject.chains.monotone k) count
    (λ n within. ap (λ (qs : List Place). place_at qs n) subject.weighed
    ∙ weighted_at weights.x weights.y (chain_places (chain_at w.chains k)) n (omega (arith, within, count)))
    (subst (λ (x : Place). IsTrue rising ↔ IsBeforeIn frame (place_at ps 0) x) ends
    (subst (λ (x : Place). IsTrue rising ↔ IsBeforeIn frame x last) starts test))

-- ---- pairs

pub subject_count : (w : Work) (k : ℕ) (ps : List Place) (weights : Scales) → IsSubjectOf w k ps weights → length ps ≡ edge_count w k + 1
subject_count w k ps weights subject = ap length subject.weighed
    ∙ length-map (chain_places (chain_at w.chains k)) (weighted weights.x weights.y) ∙ length-chain_places (chain_at w.chains k)

pub pair_near : (w : Work) (k : ℕ) (ps : List Place) (weights : Scales) (bound : ℤ) (i j : ℕ) → IsSubjectOf w k ps weights → i + 1 < j
    → j ≤ edge_count w k → pairs_of w k weights bound i j → IsRunWithin bound ps i j
pair_near w k ps weights bound i j subject order within pair =
    let inside : j < length (chain_places (chain_at w.chains k)) = omega (arith, within, length-chain_places (chain_at w.chains k)) in
    let both = allowed_by_parts (IsWithinBound weights.x weights.y bound) w.chains w.read.points k i j order within in
    (near_by_weighted weights.x weights.y bound (chain_places (chain_at w.chains k)) ps i j subject.weighed (omega arith) inside).1
    (both.1 pair).0

-- a pair that is refused
pub falls_more : (Pair : ℕ → ℕ → Type 0) (layers : List ℕ) (i j : ℕ) (r : Bool) → (IsTrue r ↔ Pair i j) → r ≡ false
    → FallNowhere Pair layers i j → FallNowhere Pair layers i (j + 1)
falls_more Pair layers i j r says e before m order within falls =
    elim (cases_eq m j) [
      | inl same ↦ λ pair. both_ways r e (says.1 (subst (λ (n : ℕ). Pair i n) same pair))
      | inr other ↦ before m order (omega (arith, other, within)) falls
    ]

-- a pair over which the layers do not fall by more than 1
pub falls_not : (Pair : ℕ → ℕ → Type 0) (layers : List ℕ) (i j : ℕ) → ¬ (slice_index layers j + 1 < slice_index layers i)
    → FallNowhere Pair layers i j → FallNowhere Pair layers i (j + 1)
falls_not Pair layers i j level before m order within falls =
    elim (cases_eq m j) [
      | inl same ↦ absurd (level (subst (λ (n : ℕ). slice_index layers n + 1 < slice_index layers i) same falls))
      | inr other ↦ before m order (omega (arith, other, within)) falls
    ]

-- a cone that lets no later place
pub falls_closed : (w : Work) (k : ℕ) (ps : List Place) (weights : Scales) (bound : ℤ) (layers : List ℕ) (i j : ℕ) (c : Cone)
    → IsSubjectOf w k ps weights → length layers ≡ edge_count w k + 1 → i < j → IsConeFrom c (place_at ps) (length ps) bound i
    → LetsNear c (place_at ps) (length ps) bound i (j + 1) → ((v : Place) → IsPast c v → ¬ (Lets c v))
    → FallNowhere (pairs_of w k weights bound) layers i (j + 1) → FallNowhere (pairs_of w k weights bound) layers i (length layers)
falls_closed w k ps weights bound layers i j c subject count order cone lets none before m after within falls pair =
    let size = subject_count w k ps weights subject in
    elim (cases_lt m (j + 1)) [
      | inl early ↦ before m after early falls pair
      | inr late ↦
          let inside : m < length ps = omega (arith, size, count, within) in
          let near = pair_near w k ps weights bound i m subject (omega (arith, late, order)) (omega (arith, count, within)) pair in
          none_near c (place_at ps) (length ps) bound i (j + 1) (omega (arith, order)) cone lets none m late inside (λ n after before.
          run_near bound ps i m n after before (omega (arith, inside)) near)
    ]
