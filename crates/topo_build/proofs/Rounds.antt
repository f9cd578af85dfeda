-- The neighbours in a cyclic list, from whatever place it is walked.
use Rattle.std.proofs.Common.{◌≡◌, ◌⊎◌, ◌∙◌, ◌+◌, ◌-◌, ◌<◌, ◌≤◌, ℕ, zero, suc, List, [], ◌∷◌, ◌++◌, drop, get_or, length, take}
use Rattle.std.proofs.Common.{append_assoc, ap, ap₂, inl, inr, refl, subst, sym, arith, length-append}
use Rattle.std.proofs.lemmas.List.{drop_more, same_from_push, take_more}
use Rattle.grid_exact.specs.Geometry.{Place}
use Rattle.topo_build.specs.Cyclic.{closed_from}
use Rattle.topo_build.specs.Found.{AreNext}
use Rattle.topo_build.proofs.Around.{GoesTo, nowhere}
use Rattle.topo_build.proofs.Cycles.{closed-length}
use Rattle.topo_build.proofs.Listing.{EndsIn, next-push}

-- what the walks from a place and from the next one have in common
record OneOn (c : List Place) (k : ℕ) : Type 0 where
  pub first : Place
  pub last : Place
  pub front : List Place
  pub behind : List Place
  pub common : List Place
  pub here : closed_from c k ≡ first ∷ common
  pub next : closed_from c (k + 1) ≡ common ++ last ∷ []
  pub ends : common ≡ front ++ first ∷ []
  pub begins : common ≡ last ∷ behind

one_on : (c : List Place) (k : ℕ) → k + 1 < length c → OneOn c k
one_on c k inside =
    let is : drop k c ≡ get_or c k nowhere ∷ drop (k + 1) c = drop_more c k nowhere (omega arith) in
    let on : drop (k + 1) c ≡ get_or c (k + 1) nowhere ∷ drop (k + 1 + 1) c = drop_more c (k + 1) nowhere inside in
    let more : take (k + 1) c ≡ take k c ++ get_or c k nowhere ∷ [] = take_more c k nowhere (omega arith) in
    let most : take (k + 1 + 1) c ≡ take (k + 1) c ++ get_or c (k + 1) nowhere ∷ [] = take_more c (k + 1) nowhere inside in
    record {
      first = get_or c k nowhere;
      last = get_or c (k + 1) nowhere;
      front = drop (k + 1) c ++ take k c;
      behind = drop (k + 1 + 1) c ++ take (k + 1) c;
      common = drop (k + 1) c ++ take (k + 1) c;
      here = ap (λ ps. ps ++ take (k + 1) c) is;
      next = ap (λ ps. drop (k + 1) c ++ ps) most ∙ sym (append_assoc (drop (k + 1) c) (take (k + 1) c) (get_or c (k + 1) nowhere ∷ []));
      ends = ap (λ ps. drop (k + 1) c ++ ps) more ∙ sym (append_assoc (drop (k + 1) c) (take k c) (get_or c k nowhere ∷ []));
      begins = ap (λ ps. ps ++ take (k + 1) c) on;
    }

next-same : (a b : Place) (ps qs : List Place) → ps ≡ qs → AreNext a b ps → AreNext a b qs
next-same a b ps qs e next = record { before = next.before; behind = next.behind; is = sym e ∙ next.is }

pub next-cons : (a b u : Place) (ps : List Place) → AreNext a b ps → AreNext a b (u ∷ ps)
next-cons a b u ps next = record { before = u ∷ next.before; behind = next.behind; is = ap (λ qs. u ∷ qs) next.is }

pub next-snoc : (a b u : Place) (ps : List Place) → AreNext a b ps → AreNext a b (ps ++ u ∷ [])
next-snoc a b u ps next = record {
  before = next.before;
  behind = next.behind ++ u ∷ [];
  is = ap (λ qs. qs ++ u ∷ []) next.is
      ∙ append_assoc next.before (a ∷ b ∷ next.behind) (u ∷ []);
}

-- neighbours in a list with one position more in front
next-first_or : (a b u : Place) (ps us qs : List Place) → u ∷ ps ≡ us ++ a ∷ b ∷ qs → ((u ≡ a) × (ps ≡ b ∷ qs)) ⊎ AreNext a b ps
next-first_or a b u ps [] qs e = let first : u ≡ a = cc in let rest : ps ≡ b ∷ qs = cc in inl (first, rest)
next-first_or a b u ps (x ∷ us) qs e = let rest : ps ≡ us ++ a ∷ b ∷ qs = cc in inr (record { before = us; behind = qs; is = rest })

turned-on : (a b u z : Place) (ps front behind : List Place) → ps ≡ front ++ u ∷ [] → ps ≡ z ∷ behind → AreNext a b (u ∷ ps)
    → AreNext a b (ps ++ z ∷ [])
turned-on a b u z ps front behind ends begins next =
    elim (next-first_or a b u ps next.before next.behind next.is) [
      | inl first ↦
          let at : u ≡ a = first.0 in
          let rest : ps ≡ b ∷ next.behind = first.1 in
          let second : z ≡ b = cc (sym begins ∙ rest) in
          record {
            before = front;
            behind = [];
            is = ap (λ qs. qs ++ z ∷ []) ends ∙ append_assoc front (u ∷ []) (z ∷ [])
                ∙ ap₂ (λ p q. front ++ p ∷ q ∷ []) at second;
          }
      | inr later ↦ next-snoc a b z ps later
    ]

turned-off : (a b u z : Place) (ps front behind : List Place) → ps ≡ front ++ u ∷ [] → ps ≡ z ∷ behind → AreNext a b (ps ++ z ∷ [])
    → AreNext a b (u ∷ ps)
turned-off a b u z ps front behind ends begins next =
    elim (next-push ps next.before a b z next.behind next.is) [
      | inl early ↦ next-cons a b u ps early
      | inr last ↦
          let at = same_from_push front last.0.front u a (sym ends ∙ last.0.is) in
          record { before = []; behind = behind; is = ap (λ qs. u ∷ qs) begins ∙ ap₂ (λ p q. p ∷ q ∷ behind) at.1 last.1 }
    ]

-- neighbours on one walk round are neighbours on each
pub from-start : (c : List Place) (a b : Place) (k : ℕ) → k < length c → AreNext a b (closed_from c 0) → AreNext a b (closed_from c k)
from-start c a b zero inside next = next
from-start c a b (suc k) inside next =
    let one = one_on c k (omega arith) in
    let before = from-start c a b k (omega arith) next in
    let on : k + 1 ≡ suc k = omega arith in
    subst (λ n. AreNext a b (closed_from c n)) on (next-same a b (one.common ++ one.last ∷ []) (closed_from c (k + 1)) (sym one.next)
    (turned-on a b one.first one.last one.common one.front one.behind one.ends one.begins
    (next-same a b (closed_from c k) (one.first ∷ one.common) one.here before)))

pub to-start : (c : List Place) (a b : Place) (k : ℕ) → k < length c → AreNext a b (closed_from c k) → AreNext a b (closed_from c 0)
to-start c a b zero inside next = next
to-start c a b (suc k) inside next =
    let one = one_on c k (omega arith) in
    let on : suc k ≡ k + 1 = omega arith in
    let here : AreNext a b (one.common ++ one.last ∷ []) = next-same a b (closed_from c (suc k)) (one.common ++ one.last ∷ [])
    (ap (closed_from c) on ∙ one.next) next in
    to-start c a b k (omega arith) (next-same a b (one.first ∷ one.common) (closed_from c k) (sym one.here)
    (turned-off a b one.first one.last one.common one.front one.behind one.ends one.begins here))

-- the ring goes from each position to the next
goes-from : (c : List Place) (a b : Place) (k : ℕ) (us qs : List Place) → k + length us < length c → closed_from c k ≡ us ++ a ∷ b ∷ qs
    → GoesTo c a b
goes-from c a b k [] qs inside is = record { at = k; inside = omega arith; rest = qs; is = is }
goes-from c a b k (u ∷ us) qs inside is =
    let one = one_on c k (omega arith) in
    let both : one.first ∷ one.common ≡ u ∷ (us ++ a ∷ b ∷ qs) = sym one.here ∙ is in
    let rest : one.common ≡ us ++ a ∷ b ∷ qs = cc (both) in
    goes-from c a b (k + 1) us (qs ++ one.last ∷ []) (omega arith) (one.next ∙ ap (λ ps. ps ++ one.last ∷ []) rest
    ∙ append_assoc us (a ∷ b ∷ qs) (one.last ∷ []))

pub next-goes : (c : List Place) (a b : Place) → 0 < length c → AreNext a b (closed_from c 0) → GoesTo c a b
next-goes c a b some next =
    let count = closed-length c 0 some in
    let all = ap length next.is ∙ length-append next.before (a ∷ b ∷ next.behind) in
    goes-from c a b 0 next.before next.behind (omega (arith, count, all)) next.is
