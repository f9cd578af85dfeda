-- Rings are built one after another.
use Rattle.std.proofs.Common.{◌≡◌, ◌∙◌, ◌+◌, ◌<◌, ◌≤◌, ℕ, ℤ, zero, suc, pos, List, [], ◌∷◌, ◌++◌, All, Some, Result, Ok, Err, IfOk}
use Rattle.std.proofs.Common.{drop, get_or, length, map, min, slice_get, sum_by, take, append-nil, ap, ap₂, inl, inr, refl}
use Rattle.std.proofs.Common.{subst, sym, arith}
use Rattle.std.proofs.lemmas.Bool.{cases_lt}
use Rattle.std.proofs.lemmas.List.{map_push, take_all, take_more}
use Rattle.std.proofs.lemmas.List.Sums.{sum_by-drop_more}
use Rattle.std.proofs.lemmas.Option.{get_or_from_slice_get, slice_get_within}
use Rattle.grid_exact.specs.Geometry.{Place}
use Rattle.topo_build.specs.Built.{AreRingsBuilt, IsRingBuilt}
use Rattle.topo_build.specs.Built.IsRingBuilt.{Single, Free, Cut}
use Rattle.topo_build.specs.Cutting.{IsCut}
use Rattle.topo_build.specs.Cyclic.{closed_from, cyclic}
use Rattle.topo_build.specs.Found.{IsFound, IsRingFound, StartsWith}
use Rattle.topo_build.proofs.Around.{nowhere}
use Rattle.topo_build.proofs.Triples.{closed_is}

-- ---- what is read

pub cyclic-more : {V : Type 0} (f : V → List Place) (rings : List (List Place)) (r : ℕ) (ring : List Place) (before after : List V) (c : V)
    → slice_get rings r ≡ Some ring → f c ≡ cyclic ring → after ≡ before ++ c ∷ [] → map f before ≡ map cyclic (take r rings)
    → map f after ≡ map cyclic (take (r + 1) rings)
cyclic-more f rings r ring before after c there is added so_far =
    let inside = slice_get_within rings r ring there in
    let more : take (r + 1) rings ≡ take r rings ++ ring ∷ [] = take_more rings r ring inside
    ∙ ap (λ z. take r rings ++ z ∷ []) (get_or_from_slice_get rings r ring ring there) in
    ap (map f) added ∙ map_push f before c ∙ ap₂ (λ xs x. xs ++ x ∷ []) so_far is
    ∙ sym (ap (map cyclic) more ∙ map_push cyclic (take r rings) ring)

pub starts-made : (a b : Place) (ps : List Place) → 2 ≤ length ps → a ≡ get_or ps 0 a → b ≡ get_or ps 1 b → StartsWith a b ps
starts-made a b [] long is_a is_b = absurd (omega arith)
starts-made a b (p ∷ []) long is_a is_b = absurd (omega arith)
starts-made a b (p ∷ q ∷ ps) long is_a is_b = record { behind = ps; is = ap₂ (λ x y. x ∷ y ∷ ps) (sym is_a) (sym is_b) }

-- ---- one ring

pub built-single : (Junction : Place → Type 0) (ring : List Place) (arcs : List (List Place)) (refs : List ℤ) (after : List (List Place))
    (r : ℤ) → 1 ≤ length ring → length ring < 2 → refs ≡ r ∷ [] → r ≡ pos (length arcs) → after ≡ arcs ++ ring ∷ []
    → IsRingBuilt IsFound IsRingFound Junction ring arcs refs after
built-single Junction [] arcs refs after r some short e is added = absurd (omega arith)
built-single Junction (p ∷ []) arcs refs after r some short e is added = Single p refl (e ∙ ap (λ s. s ∷ []) is) added
built-single Junction (p ∷ q ∷ ps) arcs refs after r some short e is added = absurd (omega arith)

pub built-cut : (Junction : Place → Type 0) (ring walk : List Place) (at : ℕ) (arcs : List (List Place)) (refs : List ℤ) (after :
    List (List Place)) → 1 < length ring → at < length ring → All (λ p. ¬ (Junction p)) (take at ring) → Junction (get_or ring at nowhere)
    → walk ≡ closed_from ring at → IsCut Junction walk arcs refs after → IsRingBuilt IsFound IsRingFound Junction ring arcs refs after
built-cut Junction ring walk at arcs refs after long inside off on is cut =
    let v = get_or ring at nowhere in
    let ws = drop (at + 1) ring ++ (take at ring ++ v ∷ []) in
    let whole = closed_is ring at nowhere inside in
    Cut at v ws long inside off whole on (cut v ws (is ∙ whole))

-- ---- ring after ring

pub built-push : (Junction : Place → Type 0) (cs : List (List Place)) (c : List Place) (arcs mid after : List (List Place)) (refs :
    List (List ℤ)) (rs : List ℤ) → AreRingsBuilt IsFound IsRingFound Junction cs arcs refs mid
    → IsRingBuilt IsFound IsRingFound Junction c mid rs after
    → AreRingsBuilt IsFound IsRingFound Junction (cs ++ c ∷ []) arcs (refs ++ rs ∷ []) after
built-push Junction [] c arcs mid after [] rs h one =
    (after, subst (λ xs. IsRingBuilt IsFound IsRingFound Junction c xs rs after) h one, refl)
built-push Junction [] c arcs mid after (r ∷ refs) rs h one = absurd h
built-push Junction (d ∷ cs) c arcs mid after [] rs h one = absurd h
built-push Junction (d ∷ cs) c arcs mid after (r ∷ refs) rs h one = (h.0, h.1, built-push Junction cs c h.0 mid after refs rs h.2 one)

-- ---- results

pub if-ok : {T E : Type 0} (r : Result T E) (P Q : T → Type 0) → ((x : T) → P x → Q x) → IfOk r P → IfOk r Q
if-ok (Ok x) P Q f h = f x h
if-ok (Err e) P Q f h = h

pub built-step : {V W : Type 0} (f : V → List Place) (g : W → List ℤ) (Junction : Place
    → Type 0) (rings : List V) (i : ℕ) (x : V) (before after : List W) (r : W) (mid next : List (List Place)) → i < length rings
    → x ≡ get_or rings i x → after ≡ before ++ r ∷ []
    → AreRingsBuilt IsFound IsRingFound Junction (map f (take i rings)) [] (map g before) mid
    → IsRingBuilt IsFound IsRingFound Junction (f x) mid (g r) next
    → AreRingsBuilt IsFound IsRingFound Junction (map f (take (i + 1) rings)) [] (map g after) next
built-step f g Junction rings i x before after r mid next inside is added so_far one =
    let more : map f (take (i + 1) rings) ≡ map f (take i rings) ++ f x ∷ [] =
    ap (map f) (take_more rings i x inside ∙ ap (λ z. take i rings ++ z ∷ []) (sym is)) ∙ map_push f (take i rings) x in
    let refs : map g after ≡ map g before ++ g r ∷ [] = ap (map g) added ∙ map_push g before r in
    let pushed = built-push Junction (map f (take i rings)) (f x) [] mid next (map g before) (g r) so_far one in
    subst (λ cs. AreRingsBuilt IsFound IsRingFound Junction cs [] (map g after) next) (sym more)
    (subst (λ rs. AreRingsBuilt IsFound IsRingFound Junction (map f (take i rings) ++ f x ∷ []) [] rs next) (sym refs) pushed)

pub few-step : {V : Type 0} (f : V → ℕ) (rings : List V) (i n m most : ℕ) (x : V) → i < length rings → x ≡ get_or rings i x
    → n + sum_by f (drop i rings) ≤ most → m ≤ n + f x → m + sum_by f (drop (i + 1) rings) ≤ most
few-step f rings i n m most x inside is few more =
    let sum = sum_by-drop_more f rings i x inside in
    let here : f x ≡ f (get_or rings i x) = ap f is in
    omega arith

-- the first two, or as many as there are
pub front-two : {V : Type 0} (xs : List V) (n : ℕ) → n ≡ min (length xs) 2 → take n xs ≡ take 2 xs
front-two xs n is = elim (cases_lt (length xs) 2) [
  | inl short ↦ take_all n xs (omega arith) ∙ sym (take_all 2 xs (omega arith))
  | inr long ↦ let two : n ≡ 2 = omega arith in ap (λ m. take m xs) two
]
