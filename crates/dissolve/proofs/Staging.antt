-- A ring, and the rings, one after another.
use Rattle.std.proofs.Common.{◌≡◌, ◌≢◌, ◌∙◌, ℕ, ◌+◌, ◌<◌, ◌≤◌, Bool, true, false, List, [], ◌∷◌, ◌++◌, Contains, append_assoc, get_or, refl}
use Rattle.std.proofs.Common.{sym, ap, subst, arith, inl, inr}
use Rattle.std.specs.Prelude.{ℤ, pos, negsuc, if◌then◌else◌}
use Rattle.std.specs.Global.{Vec}
use Rattle.std.proofs.lemmas.Bool.{true≢false}
use Rattle.std.proofs.lemmas.List.{append-nil, map_push}
use Rattle.grid_exact.specs.Geometry.{Place}
use Rattle.arc_map.specs.Map.{Map}
use Rattle.dissolve.specs.Border.{arc_of, first_of, last_of, end_of, EndsAt, IsLeast, IsNext, IsRest, IsRing, AreRings, without}
use Rattle.dissolve.specs.Border.{without_all}
use Rattle.dissolve.specs.Unused.{marked}
use Rattle.dissolve.specs.Walk.{reference, references, rings_of, IsEven, IsStage}
use Rattle.dissolve.specs.declared.step.Step.{Step}
use Rattle.dissolve.proofs.Balancing.{IsBalanced, balanced-first, balanced-last, balanced-next}
use Rattle.dissolve.proofs.Marks.{marked-is}
use Rattle.dissolve.proofs.Taking.{AreOnce, still-among}
use Rattle.dissolve.proofs.Using.{left-among}

-- ---- steps

pub arc-of_reference : (s : Step) → arc_of (reference s) ≡ s.arc
arc-of_reference s = elim s.forwards as (λ b. arc_of (if b then pos s.arc else negsuc s.arc) ≡ s.arc) [ true ↦ refl | false ↦ refl ]

-- the step by the least arc with an end at p is the next one
pub next-step : (m : Map) (unused : List ℕ) (p : Place) (s : Step) → IsLeast (EndsAt m p) unused s.arc
    → (s.forwards ≡ true → first_of m s.arc ≡ p) → (s.forwards ≡ false → ¬ (first_of m s.arc ≡ p)) → IsNext m unused p (reference s)
next-step m unused p s least first_there no_first = elim s.forwards as (λ b. s.forwards ≡ b
    → IsNext m unused p (if b then pos s.arc else negsuc s.arc)) [
      | true ↦ λ is. record { least = least; starts = first_there is; forwards = λ begins. refl }
      | false ↦ λ is. record {
        least = least;
        starts = elim least.has [ inl begins ↦ absurd (no_first is begins) | inr stops ↦ stops ];
        forwards = λ begins. absurd (no_first is begins);
      }
    ] refl

-- ---- a ring

-- whatever goes on from p to the start completes the ring
pub record IsUnderWay (m : Map) (all : List ℕ) (arc : ℕ) (start p : Place) (unused : List ℕ) (steps : List Step) : Type 0 where
  pub goes_on : ((k : ℕ) → Contains all k → arc ≤ k) → (rest : List ℤ) → IsRest m start p unused rest
      → IsRing m all (references steps ++ rest)
  pub left : (rest : List ℤ) → without_all (references steps ++ rest) all ≡ without_all rest unused
  pub balanced : IsBalanced m start p unused

pub under-way-first : (m : Map) (all : List ℕ) (arc : ℕ) (s : Step) (steps : List Step) (start p : Place) (unused : List ℕ)
    → s ≡ record { arc = arc; forwards = true } → steps ≡ s ∷ [] → start ≡ first_of m arc → p ≡ end_of m (reference s)
    → unused ≡ without arc all → AreOnce all → Contains all arc → IsEven m all → IsUnderWay m all arc start p unused steps
under-way-first m all arc s steps start p unused is one begins reached left once held even =
    let whole : references steps ≡ pos arc ∷ [] = ap references one ∙ ap (λ t. reference t ∷ []) is in
    let at_last : p ≡ last_of m arc = reached ∙ ap (λ t. end_of m (reference t)) is in
    record {
      goes_on = λ least rest on. subst (λ rs. IsRing m all (rs ++ rest)) (sym whole) (
        record { least = record { among = held; has = tt; least = λ k there has. least k there }; forwards = refl },
        subst (λ q. IsRest m q (last_of m arc) (without arc all) rest) begins
            (subst (λ q. IsRest m start q (without arc all) rest) at_last
            (subst (λ xs. IsRest m start p xs rest) left on)),
      );
      left = λ rest. ap (λ rs. without_all (rs ++ rest) all) whole ∙ ap (without_all rest) (sym left);
      balanced = subst (λ q. IsBalanced m q p unused) (sym begins)
          (subst (λ q. IsBalanced m (first_of m arc) q unused) (sym at_last)
          (subst (IsBalanced m (first_of m arc) (last_of m arc)) (sym left) (balanced-first m all arc once held even)));
    }

pub under-way-next : (m : Map) (all : List ℕ) (arc : ℕ) (start p next : Place) (unused after : List ℕ) (steps longer : List Step) (s : Step)
    → p ≢ start → IsNext m unused p (reference s) → next ≡ end_of m (reference s) → after ≡ without s.arc unused → longer ≡ steps ++ s ∷ []
    → AreOnce unused → IsUnderWay m all arc start p unused steps → IsUnderWay m all arc start next after longer
under-way-next m all arc start p next unused after steps longer s apart is reached left_is pushed once way =
    let r = reference s in
    let left : after ≡ without (arc_of r) unused = left_is ∙ ap (λ k. without k unused) (sym (arc-of_reference s)) in
    let whole = λ (rest : List ℤ). ap (λ rs. rs ++ rest) (ap references pushed ∙ map_push reference steps s)
    ∙ append_assoc (references steps) (r ∷ []) rest in
    record {
      goes_on = λ least rest on. subst (IsRing m all) (sym (whole rest)) (way.goes_on least (r ∷ rest) (
        apart,
        is,
        subst (λ q. IsRest m start q (without (arc_of r) unused) rest) reached (subst (λ xs. IsRest m start next xs rest) left on),
      ));
      left = λ rest. ap (λ rs. without_all rs all) (whole rest) ∙ way.left (r ∷ rest) ∙ ap (without_all rest) (sym left);
      balanced = subst (λ q. IsBalanced m start q after) (sym reached)
          (subst (IsBalanced m start (end_of m r)) (sym left) (balanced-next m start p unused r once is way.balanced));
    }

pub ring-done : (m : Map) (all : List ℕ) (arc : ℕ) (start p : Place) (unused : List ℕ) (steps : List Step) → p ≡ start
    → IsUnderWay m all arc start p unused steps → ((k : ℕ) → Contains all k → arc ≤ k) → IsRing m all (references steps)
ring-done m all arc start p unused steps back way least = subst (IsRing m all) (append-nil (references steps)) (way.goes_on least [] back)

pub ring-left : (m : Map) (all : List ℕ) (arc : ℕ) (start p : Place) (unused : List ℕ) (steps : List Step)
    → IsUnderWay m all arc start p unused steps → unused ≡ without_all (references steps) all
ring-left m all arc start p unused steps way = sym (way.left []) ∙ ap (λ rs. without_all rs all) (append-nil (references steps))

pub ring-even : (m : Map) (all : List ℕ) (arc : ℕ) (start p : Place) (unused : List ℕ) (steps : List Step) → p ≡ start
    → IsUnderWay m all arc start p unused steps → IsEven m unused
ring-even m all arc start p unused steps back way = balanced-last m start p unused back way.balanced

-- ---- the rings

-- the arc with which a ring began is not left
begun-is-used : (m : Map) (unused : List ℕ) (arc : ℕ) (ring : List ℤ) → Contains unused arc → ((k : ℕ) → Contains unused k → arc ≤ k)
    → IsRing m unused ring → (k : ℕ) → Contains (without_all ring unused) k → k ≢ arc
begun-is-used m unused arc [] held least is k there same = absurd is
begun-is-used m unused arc (r ∷ rs) held least is k there same =
    let low = least (arc_of r) is.0.least.among in
    let high = is.0.least.least arc held tt in
    (still-among (arc_of r) k unused (left-among rs k (without (arc_of r) unused) there)).1 (omega (arith, low, high, same))

pub stage-ring : (m : Map) (all unused left : List ℕ) (arc : ℕ) (rings longer : List (Vec Step)) (ring : Vec Step) → Contains unused arc
    → longer ≡ rings ++ ring ∷ [] → left ≡ without_all (references ring.items) unused
    → (((k : ℕ) → Contains unused k → arc ≤ k) → IsRing m unused (references ring.items)) → IsStage m all rings unused arc
    → IsStage m all longer left (arc + 1)
stage-ring m all unused left arc rings longer ring held pushed left_is made stage =
    let is = made stage.none_before in
    let rs = references ring.items in
    record {
      goes_on = λ more are. subst (AreRings m all)
          (sym (ap (λ xs. xs ++ more) (ap rings_of pushed ∙ map_push (λ (v : Vec Step). references v.items) rings ring)
          ∙ append_assoc (rings_of rings) (rs ∷ []) more))
          (stage.goes_on (rs ∷ more) (is, subst (λ xs. AreRings m xs more) left_is are));
      none_before = λ k there.
          let here = subst (λ xs. Contains xs k) left_is there in
          let low = stage.none_before k (left-among rs k unused here) in
          let apart = begun-is-used m unused arc rs held stage.none_before is k here in
          omega (arith, low, apart);
    }

pub stage-skip : (m : Map) (all : List ℕ) (marks : List Bool) (arc : ℕ) (rings : List (Vec Step)) → get_or marks arc false ≡ false
    → IsStage m all rings (marked marks) arc → IsStage m all rings (marked marks) (arc + 1)
stage-skip m all marks arc rings not_there stage = record {
  goes_on = stage.goes_on;
  none_before = λ k there.
      let low = stage.none_before k there in
      let apart : k ≢ arc = λ same. true≢false (sym (marked-is marks k there) ∙ ap (λ i. get_or marks i false) same ∙ not_there) in
      omega (arith, low, apart);
}

pub stage-none : (m : Map) (all : List ℕ) (rings : List (Vec Step)) → rings ≡ [] → IsStage m all rings all 0
stage-none m all rings none = record {
  goes_on = λ more are. subst (λ rs. AreRings m all (rings_of rs ++ more)) (sym none) are;
  none_before = λ k there. omega arith;
}

none-contained : (xs : List ℕ) → ((k : ℕ) → Contains xs k → ⊥) → xs ≡ []
none-contained [] none = refl
none-contained (x ∷ xs) none = absurd (none x (0, omega arith, refl))

pub stage-all : (m : Map) (all unused : List ℕ) (arc : ℕ) (rings : List (Vec Step)) → ((k : ℕ) → Contains unused k → k < arc)
    → IsStage m all rings unused arc → AreRings m all (rings_of rings)
stage-all m all unused arc rings below stage =
    subst (AreRings m all) (append-nil (rings_of rings)) (stage.goes_on []
    (none-contained unused (λ k there. let low = stage.none_before k there in let high = below k there in omega (arith, low, high))))
