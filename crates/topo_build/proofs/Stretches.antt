-- Stretches: what rings pass between two stops. Two that have an edge in common are one.
use Rattle.std.proofs.Common.{◌≡◌, ◌∙◌, ℕ, List, [], ◌∷◌, ◌++◌, All, reverse, append_assoc, ap, refl, subst, sym}
use Rattle.std.proofs.lemmas.List.Elements.{All-head, All-tail}
use mathlib.Core.List.{reverse_aux}
use Rattle.grid_exact.specs.Geometry.{Place}
use Rattle.topo_build.specs.Junctions.{IsJunction, Turn}
use Rattle.topo_build.specs.Found.{AreNext}
use Rattle.topo_build.proofs.Triples.{EachTriple}
use Rattle.topo_build.proofs.Passing.{IsPassed, one_way, one_way_back, passed-turned}

-- from a over p along ws the rings pass positions that are no junctions, to the first stop
abbrev pub Runs : List Turn → (Place → Type 0) → Place → Place → List Place → Type 0
Runs turns Stop a p [] = Stop p
Runs turns Stop a p (b ∷ ws) = ¬ (Stop p) × ¬ (IsJunction turns p) × IsPassed turns a p b × Runs turns Stop p b ws

abbrev pub RunsAlong : List Turn → (Place → Type 0) → List Place → Type 0
RunsAlong turns Stop [] = ⊥
RunsAlong turns Stop (v ∷ []) = ⊥
RunsAlong turns Stop (v ∷ w ∷ ws) = Runs turns Stop v w ws

-- the same from a stop on
abbrev pub IsStretch : List Turn → (Place → Type 0) → List Place → Type 0
IsStretch turns Stop [] = ⊥
IsStretch turns Stop (v ∷ ws) = Stop v × RunsAlong turns Stop (v ∷ ws)

-- ---- there is one way on

pub runs-one : (turns : List Turn) (Stop : Place → Type 0) (a p : Place) (ws vs : List Place) → Runs turns Stop a p ws
    → Runs turns Stop a p vs → ws ≡ vs
runs-one turns Stop a p [] [] h k = refl
runs-one turns Stop a p [] (c ∷ vs) h k = absurd (k.0 h)
runs-one turns Stop a p (b ∷ ws) [] h k = absurd (h.0 k)
runs-one turns Stop a p (b ∷ ws) (c ∷ vs) h k =
    let same = one_way turns a p b c h.1 h.2 k.2 in
    let rest = runs-one turns Stop p b ws vs h.3 (subst (λ q. Runs turns Stop p q vs) (sym same) k.3) in
    cc

-- from an edge on
pub runs-at : (turns : List Turn) (Stop : Place → Type 0) (us : List Place) (a b : Place) (ps : List Place)
    → RunsAlong turns Stop (us ++ a ∷ b ∷ ps) → Runs turns Stop a b ps
runs-at turns Stop [] a b ps h = h
runs-at turns Stop (u ∷ []) a b ps h = h.3
runs-at turns Stop (u ∷ w ∷ []) a b ps h = runs-at turns Stop (w ∷ []) a b ps h.3
runs-at turns Stop (u ∷ w ∷ z ∷ us) a b ps h = runs-at turns Stop (w ∷ z ∷ us) a b ps h.3

-- ---- backwards

runs-back : (turns : List Turn) (Stop : Place → Type 0) (a p : Place) (ws us : List Place) → Runs turns Stop a p ws → Runs turns Stop p a us
    → IsStretch turns Stop (reverse_aux ws (p ∷ a ∷ us))
runs-back turns Stop a p [] us h k = (h, k)
runs-back turns Stop a p (b ∷ ws) us h k = runs-back turns Stop p b ws (a ∷ us) h.3 (h.0, h.1, passed-turned turns a p b h.2, k)

pub stretch-turned : (turns : List Turn) (Stop : Place → Type 0) (ps : List Place) → IsStretch turns Stop ps
    → IsStretch turns Stop (reverse ps)
stretch-turned turns Stop [] h = absurd h
stretch-turned turns Stop (v ∷ []) h = absurd h.1
stretch-turned turns Stop (v ∷ w ∷ ws) h = runs-back turns Stop v w ws [] h.1 h.0

-- ---- a walk from stop to stop

runs-made : (turns : List Turn) (Stop : Place → Type 0) (a p : Place) (ps : List Place) (z : Place) → All (λ q. ¬ (Stop q)) (p ∷ ps)
    → All (λ q. ¬ (IsJunction turns q)) (p ∷ ps) → Stop z → EachTriple (IsPassed turns) (a ∷ p ∷ (ps ++ z ∷ []))
    → Runs turns Stop a p (ps ++ z ∷ [])
runs-made turns Stop a p [] z on smooth stop passed =
    (All-head (λ q. ¬ (Stop q)) p [] on, All-head (λ q. ¬ (IsJunction turns q)) p [] smooth, passed.0, stop)
runs-made turns Stop a p (b ∷ ps) z on smooth stop passed = (
  All-head (λ q. ¬ (Stop q)) p (b ∷ ps) on,
  All-head (λ q. ¬ (IsJunction turns q)) p (b ∷ ps) smooth,
  passed.0,
  runs-made turns Stop p b ps z (All-tail (λ q. ¬ (Stop q)) p (b ∷ ps) on) (All-tail (λ q. ¬ (IsJunction turns q)) p (b ∷ ps) smooth) stop
      passed.1,
)

pub stretch-made : (turns : List Turn) (Stop : Place → Type 0) (a : Place) (inner : List Place) (z : Place) → Stop a → Stop z
    → All (λ q. ¬ (Stop q)) inner → All (λ q. ¬ (IsJunction turns q)) inner → EachTriple (IsPassed turns) (a ∷ (inner ++ z ∷ []))
    → IsStretch turns Stop (a ∷ (inner ++ z ∷ []))
stretch-made turns Stop a [] z start stop on smooth passed = (start, stop)
stretch-made turns Stop a (p ∷ ps) z start stop on smooth passed = (start, runs-made turns Stop a p ps z on smooth stop passed)

-- ---- to the front

abbrev pub HasFirst : (Place → Place → Type 0) → List Place → Type 0
HasFirst Has [] = ⊥
HasFirst Has (v ∷ []) = ⊥
HasFirst Has (v ∷ w ∷ ws) = Has v w

-- what has an edge of a run and goes back with the rings has its first edge
pub to_front : (turns : List Turn) (Stop : Place → Type 0) (Has : Place → Place → Type 0)
    → ((a p b : Place) → Has p b → ¬ (IsJunction turns p) → IsPassed turns a p b → Has a p)
    → (us : List Place) (a b : Place) (ps : List Place) → RunsAlong turns Stop (us ++ a ∷ b ∷ ps) → Has a b
    → HasFirst Has (us ++ a ∷ b ∷ ps)
to_front turns Stop Has back [] a b ps h has = has
to_front turns Stop Has back (u ∷ []) a b ps h has = back u a b has h.1 h.2
to_front turns Stop Has back (u ∷ w ∷ []) a b ps h has = back u w a (to_front turns Stop Has back (w ∷ []) a b ps h.3 has) h.1 h.2
to_front turns Stop Has back (u ∷ w ∷ z ∷ us) a b ps h has = back u w z (to_front turns Stop Has back (w ∷ z ∷ us) a b ps h.3 has) h.1 h.2

-- ---- what stands before an edge of a run

pub data StandsBefore (turns : List Turn) (p b : Place) (us : List Place) : Type 0 where
  Front : us ≡ [] → StandsBefore turns p b us
  Behind : (before : List Place) (a : Place) → us ≡ before ++ a ∷ [] → IsPassed turns a p b → ¬ (IsJunction turns p)
      → StandsBefore turns p b us

behind-more : (turns : List Turn) (u w : Place) (us : List Place) (p b : Place) → StandsBefore turns p b (w ∷ us)
    → StandsBefore turns p b (u ∷ w ∷ us)
behind-more turns u w us p b (Front e) = absurd (cc)
behind-more turns u w us p b (Behind before a e passed smooth) = Behind (u ∷ before) a (ap (λ ps. u ∷ ps) e) passed smooth

pub stands_before : (turns : List Turn) (Stop : Place → Type 0) (us : List Place) (p b : Place) (ps : List Place)
    → RunsAlong turns Stop (us ++ p ∷ b ∷ ps) → StandsBefore turns p b us
stands_before turns Stop [] p b ps h = Front refl
stands_before turns Stop (u ∷ []) p b ps h = Behind [] u refl h.2 h.1
stands_before turns Stop (u ∷ w ∷ []) p b ps h = behind-more turns u w [] p b (stands_before turns Stop (w ∷ []) p b ps h.3)
stands_before turns Stop (u ∷ w ∷ z ∷ us) p b ps h = behind-more turns u w (z ∷ us) p b (stands_before turns Stop (w ∷ z ∷ us) p b ps h.3)
