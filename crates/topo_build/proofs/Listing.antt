-- The table of edges, arc after arc.
use Rattle.std.proofs.Common.{◌≡◌, ◌≢◌, ◌⊎◌, ◌∙◌, ◌+◌, ◌-◌, ◌<◌, ◌≤◌, ℕ, ℤ, zero, suc, pos, negsuc, Bool, true, false, ◌&&◌, cond, List, []}
use Rattle.std.proofs.Common.{◌∷◌, ◌++◌, Option, None, Some, drop, get_or, length, reverse, take, append_assoc, ap, ap₂, inl, inr, refl}
use Rattle.std.proofs.Common.{subst, sym, arith, length-append}
use Rattle.std.proofs.lemmas.Bool.{cases_lt, cond-false, cond-true, false≢true}
use Rattle.std.proofs.lemmas.List.{get_or_append_left, get_or_past, get_or_push, reverse-reverse, same_from_push, take_more}
use Rattle.grid_exact.specs.Geometry.{Place}
use Rattle.arc_map.specs.Ends.{is_same}
use Rattle.arc_map.proofs.Listing.{both_true, compared_places, either}
use Rattle.arc_map.proofs.Listing.Same.{Yes, No}
use Rattle.topo_build.specs.Found.{AreNext, IsAlong}
use Rattle.topo_build.specs.References.{arc_of, walk_of}
use Rattle.topo_build.specs.Table.{AreListed, ArePut, edge, same_edge}
use Rattle.topo_build.specs.declared.arcs.Edge.{Edge}
use Rattle.topo_build.proofs.Sharing.{next-nil, next-turned}

-- ---- what is found

within-arcs : (arcs : List (List Place)) (k : ℕ) (a b : Place) → AreNext a b (get_or arcs k []) → k < length arcs
within-arcs arcs k a b next =
    elim (cases_lt k (length arcs)) [
      | inl inside ↦ inside
      | inr past ↦ absurd (next-nil a b (subst (AreNext a b) (get_or_past arcs k [] (omega arith)) next))
    ]

pub along-forwards : (arcs : List (List Place)) (found : Edge → Option ℕ) (a b : Place) (k : ℕ) → AreListed arcs found
    → found (edge a b) ≡ Some k → IsAlong arcs a b (pos k)
along-forwards arcs found a b k listed is =
    let has = listed.right (edge a b) k is in
    record { known = within-arcs arcs k a b has; has = has }

pub next-reversed : (a b : Place) (ps : List Place) → AreNext b a ps → AreNext a b (reverse ps)
next-reversed a b ps next = next-turned b a (reverse ps) (subst (AreNext b a) (sym (reverse-reverse ps)) next)

pub along-backwards : (arcs : List (List Place)) (found : Edge → Option ℕ) (a b : Place) (k : ℕ) → AreListed arcs found
    → found (edge b a) ≡ Some k → IsAlong arcs a b (negsuc k)
along-backwards arcs found a b k listed is =
    let has = listed.right (edge b a) k is in
    record { known = within-arcs arcs k b a has; has = next-reversed a b (get_or arcs k []) has }

none-found : (arcs : List (List Place)) (found : Edge → Option ℕ) (a b : Place) (k : ℕ) → AreListed arcs found → found (edge a b) ≡ None
    → AreNext a b (get_or arcs k []) → ⊥
none-found arcs found a b k listed none next = let some = listed.all k a b next in let is = some.1 in absurd (cc)

pub along-none : (arcs : List (List Place)) (found : Edge → Option ℕ) (a b : Place) → AreListed arcs found → found (edge a b) ≡ None
    → found (edge b a) ≡ None → (s : ℤ) → ¬ (IsAlong arcs a b s)
along-none arcs found a b listed ahead back (pos k) along = none-found arcs found a b k listed ahead along.has
along-none arcs found a b listed ahead back (negsuc k) along = none-found arcs found b a k listed back
    (next-turned a b (get_or arcs k []) along.has)

-- ---- no arcs, and one more

pub listed-none : (found : Edge → Option ℕ) → ((e : Edge) → found e ≡ None) → AreListed [] found
listed-none found none = record {
  all = λ k a b next. absurd (next-nil a b next);
  right = λ e k is. let not = none e in absurd (cc);
}

pub listed-more : (arcs after : List (List Place)) (arc : List Place) (before found : Edge → Option ℕ) → AreListed arcs before
    → ArePut arc (length arcs) before found → after ≡ arcs ++ arc ∷ [] → AreListed after found
listed-more arcs after arc before found listed put is = subst (λ all. AreListed all found) (sym is) (record {
  all = λ k a b next. elim (cases_lt k (length arcs)) [
    | inl inside ↦
        let old = listed.all k a b (subst (AreNext a b) (get_or_append_left arcs (arc ∷ []) [] k inside) next) in
        elim (put.other (edge a b)) [
          | inl same ↦ (old.0, same ∙ old.1)
          | inr new ↦ (length arcs, new.0)
        ]
    | inr past ↦
        let count = length-append arcs (arc ∷ []) in
        let known = within-arcs (arcs ++ arc ∷ []) k a b next in
        let last : length arcs ≡ k = omega (arith, count, known) in
        (length arcs, put.here a b (subst (AreNext a b) (get_or_push arcs arc [] k last) next))
  ];
  right = λ e k found_k. elim (put.other e) [
    | inl same ↦
        let old = listed.right e k (sym same ∙ found_k) in
        subst (AreNext e.start e.end) (sym (get_or_append_left arcs (arc ∷ []) [] k (within-arcs arcs k e.start e.end old))) old
    | inr new ↦
        let last : length arcs ≡ k = some-same (length arcs) k (sym new.0 ∙ found_k) in
        subst (AreNext e.start e.end) (sym (get_or_push arcs arc [] k last)) new.1
  ];
})
  where
    some-same : (m n : ℕ) → Some m ≡ Some n → m ≡ n
    some-same m n e = cc

-- ---- the edges of a walk

same-edges : (e f : Edge) → same_edge e f ≡ true → e ≡ f
same-edges e f same =
    let both = both_true (is_same e.start f.start) (is_same e.end f.end) same in
    elim (compared_places e.start f.start) [
      | Yes x p ↦ elim (compared_places e.end f.end) [
        | Yes y q ↦ edges-same e f p q
        | No y q ↦ absurd (false≢true (sym y ∙ both.1))
      ]
      | No x p ↦ absurd (false≢true (sym x ∙ both.0))
    ]
  where
    edges-same : (e f : Edge) → e.start ≡ f.start → e.end ≡ f.end → e ≡ f
    edges-same e f p q = ap₂ edge p q

edge-same : (e : Edge) → same_edge e e ≡ true
edge-same e = elim (compared_places e.start e.start) [
  | Yes x p ↦ elim (compared_places e.end e.end) [
    | Yes y q ↦ rw (x, y) refl
    | No y q ↦ absurd (q refl)
  ]
  | No x p ↦ absurd (p refl)
]

-- the list ends in the position
pub record EndsIn (ps : List Place) (p : Place) : Type 0 where
  pub front : List Place
  pub is : ps ≡ front ++ p ∷ []

pub next-push : (xs us : List Place) (a b q : Place) (ps : List Place) → xs ++ q ∷ [] ≡ us ++ a ∷ b ∷ ps
    → AreNext a b xs ⊎ (EndsIn xs a × (q ≡ b))
next-push [] us a b q ps e = let count = ap length e in let parts = length-append us (a ∷ b ∷ ps) in absurd (omega (arith, count, parts))
next-push (x ∷ []) [] a b q ps e = let first : x ≡ a = cc in let second : q ≡ b = cc in
    inr (record { front = []; is = ap (λ p. p ∷ []) first }, second)
next-push (x ∷ y ∷ xs) [] a b q ps e = let first : x ≡ a = cc in let second : y ≡ b = cc in
    inl (record { before = []; behind = xs; is = cc })
next-push (x ∷ xs) (u ∷ us) a b q ps e =
    let rest : xs ++ q ∷ [] ≡ us ++ a ∷ b ∷ ps = cc in
    elim (next-push xs us a b q ps rest) [
      | inl next ↦ inl (record { before = x ∷ next.before; behind = next.behind; is = ap (λ ys. x ∷ ys) next.is })
      | inr last ↦ inr (record { front = x ∷ last.0.front; is = ap (λ ys. x ∷ ys) last.0.is }, last.1)
    ]

-- the first positions, which end in p and then q
record Reaches (walk : List Place) (k : ℕ) (p q : Place) : Type 0 where
  pub before : take k walk ≡ take (k - 1) walk ++ p ∷ []
  pub here : take (k + 1) walk ≡ take k walk ++ q ∷ []

reaches : (walk : List Place) (k : ℕ) (p q : Place) → 1 ≤ k → k < length walk → p ≡ get_or walk (k - 1) p → q ≡ get_or walk k q
    → Reaches walk k p q
reaches walk k p q some inside is_p is_q =
    let prior : k - 1 + 1 ≡ k = omega arith in
    record {
      before = ap (λ n. take n walk) (sym prior) ∙ take_more walk (k - 1) p (omega arith)
          ∙ ap (λ z. take (k - 1) walk ++ z ∷ []) (sym is_p);
      here = take_more walk k q inside ∙ ap (λ z. take k walk ++ z ∷ []) (sym is_q);
    }

pub put-more : (walk : List Place) (k number : ℕ) (p q : Place) (before mid found : Edge → Option ℕ) → 1 ≤ k → k < length walk
    → p ≡ get_or walk (k - 1) p → q ≡ get_or walk k q → ((e : Edge) → found e ≡ cond (same_edge (edge p q) e) (Some number) (mid e))
    → ArePut (take k walk) number before mid → ArePut (take (k + 1) walk) number before found
put-more walk k number p q before mid found some inside is_p is_q new put =
    let at = reaches walk k p q some inside is_p is_q in
    record {
      here = λ a b next.
          let split : take k walk ++ q ∷ [] ≡ next.before ++ a ∷ b ∷ next.behind = sym at.here ∙ next.is in
          elim (next-push (take k walk) next.before a b q next.behind split) [
            | inl early ↦ stays (edge a b) (put.here a b early)
            | inr last ↦
                let ends = same_from_push (take (k - 1) walk) last.0.front p a (sym at.before ∙ last.0.is) in
                let same : same_edge (edge p q) (edge a b) ≡ true =
                subst (λ e. same_edge (edge p q) e ≡ true) (ap₂ edge ends.1 last.1) (edge-same (edge p q)) in
                new (edge a b) ∙ cond-true (same_edge (edge p q) (edge a b)) (Some number) (mid (edge a b)) same
          ];
      other = λ e. elim (either (same_edge (edge p q) e)) [
        | inl same ↦
            let is : edge p q ≡ e = same-edges (edge p q) e same in
            let next : AreNext p q (take (k + 1) walk) = record {
              before = take (k - 1) walk;
              behind = [];
              is = at.here
                  ∙ ap (λ ps. ps ++ q ∷ []) at.before ∙ append_assoc (take (k - 1) walk) (p ∷ []) (q ∷ []);
            } in
            inr (
              new e ∙ cond-true (same_edge (edge p q) e) (Some number) (mid e) same,
              subst (λ (f : Edge).
                  AreNext f.start f.end (take (k + 1) walk)) is next,
            )
        | inr unlike ↦
            let kept : found e ≡ mid e = new e ∙ cond-false (same_edge (edge p q) e) (Some number) (mid e) unlike in
            elim (put.other e) [
              | inl same ↦ inl (kept ∙ same)
              | inr early ↦ inr (kept ∙ early.0, further e early.1 at.here)
            ]
      ];
    }
  where
    stays : (e : Edge) → mid e ≡ Some number → found e ≡ Some number
    stays e is = elim (either (same_edge (edge p q) e)) [
      | inl same ↦ new e ∙ cond-true (same_edge (edge p q) e) (Some number) (mid e) same
      | inr unlike ↦ new e ∙ cond-false (same_edge (edge p q) e) (Some number) (mid e) unlike ∙ is
    ]

    further : (e : Edge) → AreNext e.start e.end (take k walk) → take (k + 1) walk ≡ take k walk ++ q ∷ []
        → AreNext e.start e.end (take (k + 1) walk)
    further e next here = record {
      before = next.before;
      behind = next.behind ++ q ∷ [];
      is = here ∙ ap (λ ps. ps ++ q ∷ []) next.is ∙ append_assoc next.before (e.start ∷ e.end ∷ next.behind) (q ∷ []);
    }
