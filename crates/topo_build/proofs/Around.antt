-- Rings without junctions, once round from each of their places.
use Rattle.std.proofs.Common.{◌≡◌, ◌≢◌, ◌⊎◌, ◌∙◌, ◌+◌, ◌-◌, ◌<◌, ◌≤◌, ℕ, zero, suc, pos, List, [], ◌∷◌, ◌++◌, All, AllPairs, Contains, drop}
use Rattle.std.proofs.Common.{get_or, length, take, append_assoc, ap, inl, inr, refl, subst, sym, arith, length-append, length-drop}
use Rattle.std.proofs.Common.{length-take, take_all}
use Rattle.std.proofs.lemmas.Bool.{cases_lt}
use Rattle.std.proofs.lemmas.List.{drop_all, drop_more, get_or-drop, get_or-take, get_or_default, take_more}
use Rattle.std.proofs.lemmas.List.Elements.{All-append, All-drop, All-from_get_or, All-get_or, All-take}
use Rattle.grid_exact.specs.Geometry.{Place}
use Rattle.topo_build.specs.Cyclic.{closed_from}
use Rattle.topo_build.specs.Found.{AreNext}
use Rattle.topo_build.specs.Junctions.{IsJunction, Turn}
use Rattle.topo_build.proofs.Triples.{EachTriple, closed_is, triples-closed}
use Rattle.topo_build.proofs.Passing.{IsPassed, one_way_back}
use Rattle.topo_build.proofs.Stretches.{IsStretch, stretch-made}

abbrev pub nowhere : Place
nowhere = record { x = pos 0; y = pos 0 }

-- a ring without junctions: from each place it is one stretch back to it
pub record IsFree (turns : List Turn) (c : List Place) : Type 0 where
  pub long : 1 < length c
  pub smooth : All (λ p. ¬ (IsJunction turns p)) c
  pub distinct : AllPairs (λ p q. p ≢ q) c
  pub stretch : (at : ℕ) → at < length c → IsStretch turns (λ p. p ≡ get_or c at nowhere) (closed_from c at)

-- the ring goes from a to b
pub record GoesTo (c : List Place) (a b : Place) : Type 0 where
  pub at : ℕ
  pub inside : at < length c
  pub rest : List Place
  pub is : closed_from c at ≡ a ∷ b ∷ rest

-- ---- a ring without junctions

pub free-made : (turns : List Turn) (c : List Place) → 1 < length c → All (λ p. ¬ (IsJunction turns p)) c → AllPairs (λ p q. p ≢ q) c
    → EachTriple (IsPassed turns) (c ++ take 2 c) → IsFree turns c
free-made turns c long smooth distinct passed = record {
  long = long;
  smooth = smooth;
  distinct = distinct;
  stretch = λ at inside.
      let v = get_or c at nowhere in
      let ys = drop (at + 1) c in
      let xs = take at c in
      let whole : closed_from c at ≡ v ∷ ((ys ++ xs) ++ v ∷ []) = closed_is c at nowhere inside
      ∙ ap (λ ps. v ∷ ps) (sym (append_assoc ys xs (v ∷ []))) in
      let behind : All (λ p. ¬ (p ≡ v)) ys = All-from_get_or (λ p. ¬ (p ≡ v)) ys nowhere (λ i within same.
      let count = length-drop (at + 1) c in
      distinct at (at + 1 + i) nowhere (omega arith) (omega (arith, count, within)) (sym (sym (get_or-drop (at + 1) c i nowhere) ∙ same)))
      in
      let before : All (λ p. ¬ (p ≡ v)) xs = All-from_get_or (λ p. ¬ (p ≡ v)) xs nowhere (λ i within same.
      let count = length-take at c in
      let early : i < at = omega (arith, count, within) in
      distinct i at nowhere early inside (sym (get_or-take at c i nowhere early) ∙ same)) in
      subst (IsStretch turns (λ p. p ≡ v)) (sym whole)
      (stretch-made turns (λ p. p ≡ v) v (ys ++ xs) v refl refl
      (All-append (λ p. ¬ (p ≡ v)) ys xs behind before)
      (All-append (λ p. ¬ (IsJunction turns p)) ys xs (All-drop (λ p. ¬ (IsJunction turns p)) (at + 1) c smooth)
      (All-take (λ p. ¬ (IsJunction turns p)) at c smooth))
      (subst (EachTriple (IsPassed turns)) whole (triples-closed (IsPassed turns) c at inside passed)));
}

-- its positions are no junctions, also with the closing one
pub closed-smooth : (P : Place → Type 0) (c : List Place) (at : ℕ) → All P c → All P (closed_from c at)
closed-smooth P c at all = All-append P (drop at c) (take (at + 1) c) (All-drop P at c all) (All-take P (at + 1) c all)

-- ---- one place back

-- the place before the place `at`, and what the two walks have in common
record PlaceBefore (c : List Place) (at : ℕ) : Type 0 where
  pub place : ℕ
  pub inside : place < length c
  pub first : Place
  pub last : Place
  pub common : List Place
  pub here : closed_from c place ≡ first ∷ common
  pub next : closed_from c at ≡ common ++ last ∷ []
  pub count : length common ≡ length c

place_before : (c : List Place) (at : ℕ) → at < length c → PlaceBefore c at
place_before c zero inside =
    let n = length c in
    let last : n - 1 + 1 ≡ n = omega arith in
    let at : n - 1 < n = omega arith in
    let front = drop_more c (n - 1) nowhere at in
    let none : drop (n - 1 + 1) c ≡ [] = drop_all (n - 1 + 1) c (omega arith) in
    let all : take (n - 1 + 1) c ≡ c = take_all (n - 1 + 1) c (omega arith) in
    record {
      place = n - 1;
      inside = at;
      first = get_or c (n - 1) nowhere;
      last = get_or c 0 nowhere;
      common = c;
      here = rw (front, none, all) refl;
      next = ap (λ ps. c ++ ps) (take_more c 0 nowhere inside);
      count = refl;
    }
place_before c (suc k) inside =
    let within : k < length c = omega arith in
    let next : suc k ≡ k + 1 = omega arith in
    let is : drop k c ≡ get_or c k nowhere ∷ drop (k + 1) c = drop_more c k nowhere within in
    let more : take (k + 1 + 1) c ≡ take (k + 1) c ++ get_or c (k + 1) nowhere ∷ [] = take_more c (k + 1) nowhere (omega arith) in
    record {
      place = k;
      inside = within;
      first = get_or c k nowhere;
      last = get_or c (k + 1) nowhere;
      common = drop (k + 1) c ++ take (k + 1) c;
      here = ap (λ ps. ps ++ take (k + 1) c) is;
      next = rw (next, more) (sym (append_assoc (drop (k + 1) c) (take (k + 1) c) (get_or c (k + 1) nowhere ∷ [])));
      count = let both = length-append (drop (k + 1) c) (take (k + 1) c) in let behind = length-drop (k + 1) c in let front =
          length-take (k + 1) c in omega (arith, both, behind, front);
    }

goes_back-at : (turns : List Turn) (c : List Place) (Stop : Place
    → Type 0) (k : ℕ) (u : Place) (common : List Place) (last a p b : Place) (rest : List Place) → k < length c → 2 ≤ length common
    → closed_from c k ≡ u ∷ common → IsStretch turns Stop (closed_from c k) → p ∷ b ∷ rest ≡ common ++ last ∷ [] → ¬ (IsJunction turns p)
    → IsPassed turns a p b → GoesTo c a p
goes_back-at turns c Stop k u [] last a p b rest inside long here stretch next smooth passed = absurd (omega arith)
goes_back-at turns c Stop k u (t ∷ []) last a p b rest inside long here stretch next smooth passed = absurd (omega arith)
goes_back-at turns c Stop k u (t ∷ s ∷ ts) last a p b rest inside long here stretch next smooth passed =
    let first : t ≡ p = cc in
    let second : s ≡ b = cc in
    let along = subst (IsStretch turns Stop) here stretch in
    let other : IsPassed turns u p b = subst (λ q. IsPassed turns u q b) first (subst (IsPassed turns u t) second along.1.2) in
    let same : u ≡ a = one_way_back turns u a p b smooth other passed in
    record { at = k; inside = inside; rest = s ∷ ts; is = cc }

-- a ring without junctions goes to p from the only place from which the rings go on to b there
pub goes_back : (turns : List Turn) (c : List Place) → IsFree turns c → (a p b : Place) → GoesTo c p b → ¬ (IsJunction turns p)
    → IsPassed turns a p b → GoesTo c a p
goes_back turns c free a p b goes smooth passed =
    let prior = place_before c goes.at goes.inside in
    let count = prior.count in
    let long = free.long in
    let enough : 2 ≤ length prior.common = omega arith in
    goes_back-at turns c (λ q. q ≡ get_or c prior.place nowhere) prior.place prior.first prior.common prior.last a p b goes.rest
    prior.inside enough prior.here (free.stretch prior.place prior.inside) (sym goes.is ∙ prior.next) smooth passed

-- ---- the first edge

-- the edge with which the ring begins stands in each of its walks
pub first-next : (c : List Place) (at : ℕ) (a b : Place) (rest : List Place) → 1 < length c → closed_from c 0 ≡ a ∷ b ∷ rest → at < length c
    → AreNext a b (closed_from c at)
first-next [] at a b rest long is inside = absurd (omega arith)
first-next (x ∷ []) at a b rest long is inside = absurd (omega arith)
first-next (x ∷ y ∷ c) zero a b rest long is inside = record { before = []; behind = rest; is = is }
first-next (x ∷ y ∷ c) (suc k) a b rest long is inside =
    let first : x ≡ a = cc in
    let second : y ≡ b = cc in
    let count : suc k + 1 ≡ suc (suc k) = omega arith in
    let both : take (suc k + 1) (x ∷ y ∷ c) ≡ a ∷ b ∷ take k c = rw (count, first, second) refl in
    record { before = drop (suc k) (x ∷ y ∷ c); behind = take k c; is = ap (λ ps. drop (suc k) (x ∷ y ∷ c) ++ ps) both }
