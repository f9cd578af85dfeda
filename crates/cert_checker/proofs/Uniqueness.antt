-- A certificate has one verdict: each reason rules out the others, and the tests pass only where none of them holds.
use Rattle.std.proofs.Common.{◌≡◌, ◌∙◌, ◌+◌, ◌<◌, ℕ, zero, suc, List, [], ◌∷◌, length, map, take, slice_index, sym, ap, subst, refl, arith}
use Rattle.std.proofs.Common.{inl, inr}
use Rattle.std.specs.Prelude.{slice_get}
use Rattle.std.proofs.lemmas.Bool.{cases_order}
use Rattle.grid_exact.specs.Geometry.{Place}
use Rattle.arc_map.specs.Chains.{Chain, chain_at}
use Rattle.arc_map.specs.Records.{Record}
use Rattle.arc_map.specs.Work.{AreKeptIn}
use Rattle.arc_map.specs.declared.refs.ChainRef.{ChainRef}
use Rattle.cert_format.specs.Certificate.{Content}
use Rattle.cert_checker.specs.Difference.{IsFirstDifference}
use Rattle.cert_checker.specs.Judged.{Agrees, AllowedIn, AreJudged, AreSteps, Demand, EndWell, HasBound, HasVersion, HasWeights, IsAccepted}
use Rattle.cert_checker.specs.Judged.{IsFault, IsFirstBadStep, IsFirstFall, IsMismatch, chain_spot, free_chains, record_spot, replaced}
use Rattle.cert_checker.specs.Once.{JudgedOnce}
use Rattle.cert_checker.specs.declared.verdicts.Reason.TheVariants.{Form, Version, Bound, Weights, Held, Chains, Kept, Path, Ends, Layers}
use Rattle.cert_checker.specs.declared.verdicts.Reason.TheVariants.{Text}
use Rattle.cert_checker.specs.declared.verdicts.Verdict.{Verdict}
use Rattle.cert_checker.specs.declared.verdicts.Verdict.TheVariants.{Yes, No}
use Rattle.cert_checker.proofs.Differences.{differ_not_equal}

-- ---- first differences

pub got_before : {A : Type 0} (xs : List A) (l k : ℕ) → k < l → slice_get (take l xs) k ≡ slice_get xs k
got_before xs zero k before = absurd (omega (arith, before))
got_before [] (suc l) k before = refl
got_before (x ∷ xs) (suc l) zero before = refl
got_before (x ∷ xs) (suc l) (suc k) before = got_before xs l k (omega (arith, before))

not_earlier : {A : Type 0} (xs ys : List A) (k l : ℕ) → IsFirstDifference xs ys k → IsFirstDifference xs ys l → k < l → ⊥
not_earlier xs ys k l first second before = first.differ (sym (got_before xs l k before) ∙ ap (λ zs. slice_get zs k) second.same_before
    ∙ got_before ys l k before)

difference_once : {A : Type 0} (xs ys : List A) (k l : ℕ) → IsFirstDifference xs ys k → IsFirstDifference xs ys l → k ≡ l
difference_once xs ys k l first second = elim (cases_order k l) [
  | inl same ↦ same
  | inr other ↦ elim other [
    | inl before ↦ absurd (not_earlier xs ys k l first second before)
    | inr behind ↦ absurd (not_earlier xs ys l k second first behind)
  ]
]

-- ---- mismatches

data Mismatched (d : Demand) (held : List ℕ) (refs : List ChainRef) (c : Content) (v : Verdict) : Type 0 where
  AtVersion : v ≡ No Version → ¬ (HasVersion d c) → Mismatched d held refs c v
  AtBound : v ≡ No Bound → HasVersion d c → ¬ (HasBound d c) → Mismatched d held refs c v
  AtWeights : v ≡ No Weights → HasVersion d c → HasBound d c → ¬ (HasWeights d c) → Mismatched d held refs c v
  AtHeld : (k : ℕ) → v ≡ No (Held k) → HasVersion d c → HasBound d c → HasWeights d c → IsFirstDifference c.held held k
      → Mismatched d held refs c v
  AtChains : (k : ℕ) → v ≡ No (Chains k) → HasVersion d c → HasBound d c → HasWeights d c → c.held ≡ held
      → IsFirstDifference (map record_spot c.entries) (map chain_spot (free_chains held refs)) k → Mismatched d held refs c v

mismatched : (d : Demand) (held : List ℕ) (refs : List ChainRef) (c : Content) (v : Verdict) → IsMismatch d held refs c v
    → Mismatched d held refs c v
mismatched d held refs c Yes m = absurd m
mismatched d held refs c (No Form) m = absurd m
mismatched d held refs c (No Version) m = AtVersion refl m
mismatched d held refs c (No Bound) m = AtBound refl m.0 m.1
mismatched d held refs c (No Weights) m = AtWeights refl m.0 m.1 m.2
mismatched d held refs c (No (Held k)) m = AtHeld k refl m.0 m.1 m.2 m.3
mismatched d held refs c (No (Chains k)) m = AtChains k refl m.0 m.1 m.2 m.3 m.4
mismatched d held refs c (No (Kept n)) m = absurd m
mismatched d held refs c (No (Path n i j)) m = absurd m
mismatched d held refs c (No (Ends n)) m = absurd m
mismatched d held refs c (No (Layers n i j)) m = absurd m
mismatched d held refs c (No (Text n)) m = absurd m

mismatch_once : (d : Demand) (held : List ℕ) (refs : List ChainRef) (c : Content) (v w : Verdict) → Mismatched d held refs c v
    → Mismatched d held refs c w → v ≡ w
mismatch_once d held refs c v w (AtVersion e fails) (AtVersion f fails') = e ∙ sym f
mismatch_once d held refs c v w (AtVersion e fails) (AtBound f version' fails') = absurd (fails version')
mismatch_once d held refs c v w (AtVersion e fails) (AtWeights f version' bound' fails') = absurd (fails version')
mismatch_once d held refs c v w (AtVersion e fails) (AtHeld l f version' bound' weights' diff') = absurd (fails version')
mismatch_once d held refs c v w (AtVersion e fails) (AtChains l f version' bound' weights' same' diff') = absurd (fails version')
mismatch_once d held refs c v w (AtBound e version fails) (AtVersion f fails') = absurd (fails' version)
mismatch_once d held refs c v w (AtBound e version fails) (AtBound f version' fails') = e ∙ sym f
mismatch_once d held refs c v w (AtBound e version fails) (AtWeights f version' bound' fails') = absurd (fails bound')
mismatch_once d held refs c v w (AtBound e version fails) (AtHeld l f version' bound' weights' diff') = absurd (fails bound')
mismatch_once d held refs c v w (AtBound e version fails) (AtChains l f version' bound' weights' same' diff') = absurd (fails bound')
mismatch_once d held refs c v w (AtWeights e version bound fails) (AtVersion f fails') = absurd (fails' version)
mismatch_once d held refs c v w (AtWeights e version bound fails) (AtBound f version' fails') = absurd (fails' bound)
mismatch_once d held refs c v w (AtWeights e version bound fails) (AtWeights f version' bound' fails') = e ∙ sym f
mismatch_once d held refs c v w (AtWeights e version bound fails) (AtHeld l f version' bound' weights' diff') = absurd (fails weights')
mismatch_once d held refs c v w (AtWeights e version bound fails) (AtChains l f version' bound' weights' same' diff') =
    absurd (fails weights')
mismatch_once d held refs c v w (AtHeld k e version bound weights diff) (AtVersion f fails') = absurd (fails' version)
mismatch_once d held refs c v w (AtHeld k e version bound weights diff) (AtBound f version' fails') = absurd (fails' bound)
mismatch_once d held refs c v w (AtHeld k e version bound weights diff) (AtWeights f version' bound' fails') = absurd (fails' weights)
mismatch_once d held refs c v w (AtHeld k e version bound weights diff) (AtHeld l f version' bound' weights' diff') = e
    ∙ ap (λ n. No (Held n)) (difference_once c.held held k l diff diff') ∙ sym f
mismatch_once d held refs c v w (AtHeld k e version bound weights diff) (AtChains l f version' bound' weights' same' diff') =
    absurd (differ_not_equal c.held held k diff same')
mismatch_once d held refs c v w (AtChains k e version bound weights same diff) (AtVersion f fails') = absurd (fails' version)
mismatch_once d held refs c v w (AtChains k e version bound weights same diff) (AtBound f version' fails') = absurd (fails' bound)
mismatch_once d held refs c v w (AtChains k e version bound weights same diff) (AtWeights f version' bound' fails') =
    absurd (fails' weights)
mismatch_once d held refs c v w (AtChains k e version bound weights same diff) (AtHeld l f version' bound' weights' diff') =
    absurd (differ_not_equal c.held held l diff' same)
mismatch_once d held refs c v w (AtChains k e version bound weights same diff) (AtChains l f version' bound' weights' same' diff') = e
    ∙ ap (λ n. No (Chains n)) (difference_once (map record_spot c.entries) (map chain_spot (free_chains held refs)) k l diff diff') ∙ sym f

agrees_excludes : (d : Demand) (held : List ℕ) (refs : List ChainRef) (c : Content) (v : Verdict) → Mismatched d held refs c v
    → Agrees d held refs c → ⊥
agrees_excludes d held refs c v (AtVersion e fails) h = fails h.version
agrees_excludes d held refs c v (AtBound e version fails) h = fails h.bound
agrees_excludes d held refs c v (AtWeights e version bound fails) h = fails h.weights
agrees_excludes d held refs c v (AtHeld k e version bound weights diff) h = differ_not_equal c.held held k diff h.held_arcs
agrees_excludes d held refs c v (AtChains k e version bound weights same diff) h =
    differ_not_equal (map record_spot c.entries) (map chain_spot (free_chains held refs)) k diff h.chains

-- ---- first steps and falls

step_is_bad : (Pair : ℕ → ℕ → Type 0) (path : List ℕ) (i j : ℕ) (h : IsFirstBadStep Pair path i j)
    → Pair (slice_index path h.number) (slice_index path (h.number + 1)) → ⊥
step_is_bad Pair path i j h on = h.bad (subst (λ x. Pair x j) h.start (subst (λ y. Pair (slice_index path h.number) y) h.end on))

bad_step_once : (Pair : ℕ → ℕ → Type 0) (path : List ℕ) (i j x y : ℕ) → IsFirstBadStep Pair path i j → IsFirstBadStep Pair path x y
    → (i ≡ x) × (j ≡ y)
bad_step_once Pair path i j x y first second = elim (cases_order first.number second.number) [
  | inl same ↦ (
    sym first.start ∙ ap (λ n. slice_index path n) same ∙ second.start,
    sym first.end ∙ ap (λ n. slice_index path (n + 1)) same
        ∙ second.end,
  )
  | inr other ↦ elim other [
    | inl before ↦ absurd (step_is_bad Pair path i j first (second.before first.number before))
    | inr behind ↦ absurd (step_is_bad Pair path x y second (first.before second.number behind))
  ]
]

steps_exclude : (Pair : ℕ → ℕ → Type 0) (path : List ℕ) (i j : ℕ) → IsFirstBadStep Pair path i j → AreSteps Pair path → ⊥
steps_exclude Pair path i j h steps = step_is_bad Pair path i j h (steps h.number h.within)

fall_once : (Pair : ℕ → ℕ → Type 0) (m : ℕ) (layers : List ℕ) (i j x y : ℕ) → IsFirstFall Pair m layers i j → IsFirstFall Pair m layers x y
    → (i ≡ x) × (j ≡ y)
fall_once Pair m layers i j x y first second = elim (cases_order i x) [
  | inr other ↦ elim other [
    | inl before ↦ absurd (second.before i j first.ordered first.within (inl before) first.falls first.on)
    | inr behind ↦ absurd (first.before x y second.ordered second.within (inl behind) second.falls second.on)
  ]
  | inl same ↦ elim (cases_order j y) [
    | inl level ↦ (same, level)
    | inr other ↦ elim other [
      | inl before ↦ absurd (second.before i j first.ordered first.within (inr (same, before)) first.falls first.on)
      | inr behind ↦ absurd (first.before x y second.ordered second.within (inr (sym same, behind)) second.falls second.on)
    ]
  ]
]

-- ---- faults

data Faulty (Pair : ℕ → ℕ → Type 0) (k : Chain) (e : ℕ) (r : Record) (v : Verdict) : Type 0 where
  AtKept : v ≡ No (Kept e) → ¬ (AreKeptIn k r.kept) → Faulty Pair k e r v
  AtPath : (i j : ℕ) → v ≡ No (Path e i j) → AreKeptIn k r.kept → IsFirstBadStep Pair r.kept i j → Faulty Pair k e r v
  AtEnds : v ≡ No (Ends e) → AreKeptIn k r.kept → AreSteps Pair r.kept → ¬ (EndWell (length k.rest) r.kept r.layers) → Faulty Pair k e r v
  AtLayers : (i j : ℕ) → v ≡ No (Layers e i j) → AreKeptIn k r.kept → AreSteps Pair r.kept → EndWell (length k.rest) r.kept r.layers
      → IsFirstFall Pair (length k.rest) r.layers i j → Faulty Pair k e r v

faulty : (Pair : ℕ → ℕ → Type 0) (k : Chain) (e : ℕ) (r : Record) (v : Verdict) → IsFault Pair k e r v → Faulty Pair k e r v
faulty Pair k e r Yes f = absurd f
faulty Pair k e r (No Form) f = absurd f
faulty Pair k e r (No Version) f = absurd f
faulty Pair k e r (No Bound) f = absurd f
faulty Pair k e r (No Weights) f = absurd f
faulty Pair k e r (No (Held n)) f = absurd f
faulty Pair k e r (No (Chains n)) f = absurd f
faulty Pair k e r (No (Kept n)) f = AtKept (ap (λ x. No (Kept x)) f.0) f.1
faulty Pair k e r (No (Path n i j)) f = AtPath i j (ap (λ x. No (Path x i j)) f.0) f.1 f.2
faulty Pair k e r (No (Ends n)) f = AtEnds (ap (λ x. No (Ends x)) f.0) f.1 f.2 f.3
faulty Pair k e r (No (Layers n i j)) f = AtLayers i j (ap (λ x. No (Layers x i j)) f.0) f.1 f.2 f.3 f.4
faulty Pair k e r (No (Text n)) f = absurd f

fault_once : (Pair : ℕ → ℕ → Type 0) (k : Chain) (e : ℕ) (r : Record) (v w : Verdict) → Faulty Pair k e r v → Faulty Pair k e r w → v ≡ w
fault_once Pair k e r v w (AtKept f fails) (AtKept g fails') = f ∙ sym g
fault_once Pair k e r v w (AtKept f fails) (AtPath x y g kept' bad') = absurd (fails kept')
fault_once Pair k e r v w (AtKept f fails) (AtEnds g kept' steps' fails') = absurd (fails kept')
fault_once Pair k e r v w (AtKept f fails) (AtLayers x y g kept' steps' ends' fall') = absurd (fails kept')
fault_once Pair k e r v w (AtPath i j f kept bad) (AtKept g fails') = absurd (fails' kept)
fault_once Pair k e r v w (AtPath i j f kept bad) (AtPath x y g kept' bad') =
    (let same = bad_step_once Pair r.kept i j x y bad bad' in f ∙ ap (λ n. No (Path e n j)) same.0 ∙ ap (λ n. No (Path e x n)) same.1
    ∙ sym g)
fault_once Pair k e r v w (AtPath i j f kept bad) (AtEnds g kept' steps' fails') = absurd (steps_exclude Pair r.kept i j bad steps')
fault_once Pair k e r v w (AtPath i j f kept bad) (AtLayers x y g kept' steps' ends' fall') =
    absurd (steps_exclude Pair r.kept i j bad steps')
fault_once Pair k e r v w (AtEnds f kept steps fails) (AtKept g fails') = absurd (fails' kept)
fault_once Pair k e r v w (AtEnds f kept steps fails) (AtPath x y g kept' bad') = absurd (steps_exclude Pair r.kept x y bad' steps)
fault_once Pair k e r v w (AtEnds f kept steps fails) (AtEnds g kept' steps' fails') = f ∙ sym g
fault_once Pair k e r v w (AtEnds f kept steps fails) (AtLayers x y g kept' steps' ends' fall') = absurd (fails ends')
fault_once Pair k e r v w (AtLayers i j f kept steps ends fall) (AtKept g fails') = absurd (fails' kept)
fault_once Pair k e r v w (AtLayers i j f kept steps ends fall) (AtPath x y g kept' bad') =
    absurd (steps_exclude Pair r.kept x y bad' steps)
fault_once Pair k e r v w (AtLayers i j f kept steps ends fall) (AtEnds g kept' steps' fails') = absurd (fails' ends)
fault_once Pair k e r v w (AtLayers i j f kept steps ends fall) (AtLayers x y g kept' steps' ends' fall') =
    (let same = fall_once Pair (length k.rest) r.layers i j x y fall fall' in f ∙ ap (λ n. No (Layers e n j)) same.0
    ∙ ap (λ n. No (Layers e x n)) same.1 ∙ sym g)

accepted_excludes : (Pair : ℕ → ℕ → Type 0) (k : Chain) (e : ℕ) (r : Record) (v : Verdict) → Faulty Pair k e r v → IsAccepted Pair k r → ⊥
accepted_excludes Pair k e r v (AtKept f fails) h = fails h.kept
accepted_excludes Pair k e r v (AtPath i j f kept bad) h = steps_exclude Pair r.kept i j bad h.steps
accepted_excludes Pair k e r v (AtEnds f kept steps fails) h = fails h.ends
accepted_excludes Pair k e r v (AtLayers i j f kept steps ends fall) h = h.falls i j fall.ordered fall.within fall.falls fall.on

-- ---- verdicts

entries_once : (d : Demand) (points : List Place) (chains : List Chain) (ks : List ℕ) (e : ℕ) (rs : List Record) (v w : Verdict)
    (here there : List Chain) → AreJudged d points chains ks e rs v here → AreJudged d points chains ks e rs w there
    → (v ≡ w) × (here ≡ there)
entries_once d points chains ks e [] v w here there first second = (first.0 ∙ sym second.0, sym first.1 ∙ second.1)
entries_once d points chains [] e (r ∷ rs) v w here there first second = absurd first
entries_once d points chains (k ∷ ks) e (r ∷ rs) v w here there (inl first) (inl second) =
    let Pair = AllowedIn d points chains k in (
      fault_once Pair (chain_at chains k) e r v w (faulty Pair (chain_at chains k) e r v first.0)
          (faulty Pair (chain_at chains k) e r w second.0),
      sym first.1 ∙ second.1,
    )
entries_once d points chains (k ∷ ks) e (r ∷ rs) v w here there (inl first) (inr second) =
    let Pair = AllowedIn d points chains k in
    absurd (accepted_excludes Pair (chain_at chains k) e r v (faulty Pair (chain_at chains k) e r v first.0) second.0)
entries_once d points chains (k ∷ ks) e (r ∷ rs) v w here there (inr first) (inl second) =
    let Pair = AllowedIn d points chains k in
    absurd (accepted_excludes Pair (chain_at chains k) e r w (faulty Pair (chain_at chains k) e r w second.0) first.0)
entries_once d points chains (k ∷ ks) e (r ∷ rs) v w here there (inr first) (inr second) =
    entries_once d points (replaced chains k r) ks (e + 1) rs v w here there first.1 second.1

pub judged_once : JudgedOnce
judged_once d held w c first second here there (inl a) (inl b) = (
  mismatch_once d held w.refs c first second (mismatched d held w.refs c first a.0) (mismatched d held w.refs c second b.0),
  sym a.1
      ∙ b.1,
)
judged_once d held w c first second here there (inl a) (inr b) =
    absurd (agrees_excludes d held w.refs c first (mismatched d held w.refs c first a.0) b.0)
judged_once d held w c first second here there (inr a) (inl b) =
    absurd (agrees_excludes d held w.refs c second (mismatched d held w.refs c second b.0) a.0)
judged_once d held w c first second here there (inr a) (inr b) =
    entries_once d w.read.points w.chains _ 0 c.entries first second here there a.1 b.1
