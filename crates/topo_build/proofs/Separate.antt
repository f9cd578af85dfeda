-- No two edges of the arcs that are made have the same ends.
use Rattle.std.proofs.Common.{◌≡◌, ◌≢◌, ◌⊎◌, ◌∙◌, ◌+◌, ◌-◌, ◌<◌, ◌≤◌, ℕ, ℤ, zero, suc, pos, negsuc, Bool, List, [], ◌∷◌, ◌++◌, All}
use Rattle.std.proofs.Common.{AllPairs, drop, get_or, length, reverse, take, append_assoc, ap, ap₂, inl, inr, refl, subst, sym, arith}
use Rattle.std.proofs.Common.{length-append, length-take, take-append-drop}
use Rattle.std.proofs.lemmas.Bool.{cases_lt}
use Rattle.std.proofs.lemmas.List.{drop_more, get_or_append_left, get_or_at, get_or-append-add, get_or-reverse, get_or-take}
use Rattle.std.proofs.lemmas.List.Elements.{All-get_or, All-head, All-tail}
use Rattle.grid_exact.specs.Geometry.{Place}
use Rattle.grid_exact.specs.Segments.{SameEnds}
use Rattle.grid_exact.specs.Walks.{EachEdge}
use Rattle.arc_map.specs.Arcs.{edges_of_arcs, edges_of_list, vertices_from}
use Rattle.arc_map.specs.Edges.{Edge, EachOf, EachTwo}
use Rattle.arc_map.specs.Map.{IsArc}
use Rattle.topo_build.specs.Built.{IsEarlier, IsRound}
use Rattle.topo_build.specs.Clean.{IsEdgeBetween}
use Rattle.topo_build.specs.Cyclic.{closed_from}
use Rattle.topo_build.specs.Found.{AreNext}
use Rattle.topo_build.specs.Junctions.{IsJunction, Turn}
use Rattle.topo_build.specs.References.{walk_of}
use Rattle.topo_build.proofs.Around.{GoesTo, IsFree, nowhere}
use Rattle.topo_build.proofs.Listing.{next-reversed}
use Rattle.topo_build.proofs.Passing.{IsPassed, apart}
use Rattle.topo_build.proofs.Rounds.{next-cons, next-goes}
use Rattle.topo_build.proofs.Sharing.{next-none, next-turned, piece-apart, pieces-one, rings-one, stretch-along}
use Rattle.topo_build.proofs.SoundArcs.{IsSound}
use Rattle.topo_build.proofs.SoundArcs.IsSound.{One, Piece, Loop}
use Rattle.topo_build.proofs.Stretches.{IsStretch, Runs, RunsAlong, runs-at, runs-one, stretch-turned}

-- ---- two arcs

-- the lists have no edge in common, in neither direction
pub record AreApart (x y : List Place) : Type 0 where
  pub ahead : (a b : Place) → AreNext a b x → AreNext a b y → ⊥
  pub back : (a b : Place) → AreNext a b x → AreNext b a y → ⊥

pub piece-new : (turns : List Turn) (w : List Place) (arcs : List (List Place)) (k : ℕ) → IsStretch turns (IsJunction turns) w
    → ((s : ℤ) → ¬ (IsEarlier (λ ps. ps ≡ w) arcs s)) → k < length arcs → IsSound turns (get_or arcs k []) → AreApart (get_or arcs k []) w
piece-new turns w arcs k h none inside (One p e) = record {
  ahead = λ a b in_y in_w. next-none a b p (subst (AreNext a b) e in_y);
  back = λ a b in_y in_w. next-none a b p (subst (AreNext a b) e in_y);
}
piece-new turns w arcs k h none inside (Piece y) = record {
  ahead = λ a b in_y in_w. none (pos k) (record { known = inside; is = pieces-one turns w (get_or arcs k []) a b h y in_w in_y });
  back = λ a b in_y in_w. none (negsuc k) (record {
    known = inside;
    is =
        pieces-one turns w (reverse (get_or arcs k [])) b a h (stretch-turned turns (IsJunction turns) (get_or arcs k []) y) in_w
        (next-reversed b a (get_or arcs k []) in_y);
  });
}
piece-new turns w arcs k h none inside (Loop c free e) = record {
  ahead = λ a b in_y in_w. let long = free.long in piece-apart turns w c a b h free in_w
      (next-goes c a b (omega arith) (subst (AreNext a b) e in_y));
  back = λ a b in_y in_w. let long = free.long in piece-apart turns (reverse w) c a b (stretch-turned turns (IsJunction turns) w h) free
      (next-reversed a b w in_w) (next-goes c a b (omega arith) (subst (AreNext a b) e in_y));
}

pub ring-new : (turns : List Turn) (c : List Place) (arcs : List (List Place)) (k : ℕ) → IsFree turns c
    → ((s : ℤ) → ¬ (IsEarlier (IsRound c) arcs s)) → k < length arcs → IsSound turns (get_or arcs k [])
    → AreApart (get_or arcs k []) (closed_from c 0)
ring-new turns c arcs k free none inside (One p e) = record {
  ahead = λ a b in_y in_w. next-none a b p (subst (AreNext a b) e in_y);
  back = λ a b in_y in_w. next-none a b p (subst (AreNext a b) e in_y);
}
ring-new turns c arcs k free none inside (Piece y) = record {
  ahead = λ a b in_y in_w. let long = free.long in piece-apart turns (get_or arcs k []) c a b y free in_y
      (next-goes c a b (omega arith) in_w);
  back = λ a b in_y in_w. let long = free.long in piece-apart turns (reverse (get_or arcs k [])) c b a
      (stretch-turned turns (IsJunction turns) (get_or arcs k []) y) free (next-reversed b a (get_or arcs k []) in_y)
      (next-goes c b a (omega arith) in_w);
}
ring-new turns c arcs k free none inside (Loop d other e) =
    let long = free.long in
    let length_d = other.long in
    let v = get_or d 0 nowhere in
    let y : IsStretch turns (λ p. p ≡ v) (get_or arcs k []) = subst (IsStretch turns (λ p. p ≡ v)) (sym e) (other.stretch 0 (omega arith))
    in
    record {
      ahead = λ a b in_y in_w. none (pos k) (record {
        known = inside;
        is =
            rings-one turns (get_or arcs k []) c v a b y free in_y (next-goes c a b (omega arith) in_w);
      });
      back = λ a b in_y in_w. none (negsuc k) (record {
        known = inside;
        is =
            rings-one turns (reverse (get_or arcs k [])) c v b a (stretch-turned turns (λ p. p ≡ v) (get_or arcs k []) y) free
            (next-reversed b a (get_or arcs k []) in_y) (next-goes c b a (omega arith) in_w);
      });
    }

-- ---- one arc

-- an edge stands in the list once
pub record IsSimple (w : List Place) : Type 0 where
  pub ahead : (a b : Place) (us xs vs ys : List Place) → w ≡ us ++ a ∷ b ∷ xs → w ≡ vs ++ a ∷ b ∷ ys → xs ≡ ys
  pub back : (a b : Place) → AreNext a b w → AreNext b a w → ⊥

simple-ahead : (turns : List Turn) (Stop : Place → Type 0) (w : List Place) → IsStretch turns Stop w
    → (a b : Place) (us xs vs ys : List Place) → w ≡ us ++ a ∷ b ∷ xs → w ≡ vs ++ a ∷ b ∷ ys → xs ≡ ys
simple-ahead turns Stop w h a b us xs vs ys e f =
    let along = stretch-along turns Stop w h in
    runs-one turns Stop a b xs ys (runs-at turns Stop us a b xs (subst (RunsAlong turns Stop) e along))
    (runs-at turns Stop vs a b ys (subst (RunsAlong turns Stop) f along))

-- a walk is cut at an inner place
cut-at : (w : List Place) (k : ℕ) (d : Place) → k + 2 < length w
    → w ≡ take k w ++ get_or w k d ∷ get_or w (k + 1) d ∷ get_or w (k + 2) d ∷ drop (k + 3) w
cut-at w k d inside =
    let first = drop_more w k d (omega arith) in
    let second = drop_more w (k + 1) d (omega arith) in
    let third = drop_more w (k + 1 + 1) d (omega arith) in
    let two : k + 1 + 1 ≡ k + 2 = omega arith in
    let three : k + 1 + 1 + 1 ≡ k + 3 = omega arith in
    sym (take-append-drop k w) ∙ ap (λ ps. take k w ++ ps) (first
    ∙ ap (λ ps. get_or w k d ∷ ps) (second ∙ ap (λ ps. get_or w (k + 1) d ∷ ps) (third
    ∙ ap₂ (λ m n. get_or w m d ∷ drop n w) two three)))

-- the inner places of a stretch are passed between different neighbours
inner-apart : (turns : List Turn) (Stop : Place → Type 0) (w : List Place) (k : ℕ) (d : Place) → IsStretch turns Stop w → k + 2 < length w
    → get_or w k d ≢ get_or w (k + 2) d
inner-apart turns Stop w k d h inside =
    let on = runs-at turns Stop (take k w) (get_or w k d) (get_or w (k + 1) d) (get_or w (k + 2) d ∷ drop (k + 3) w)
    (subst (RunsAlong turns Stop) (cut-at w k d inside) (stretch-along turns Stop w h)) in
    apart turns (get_or w k d) (get_or w (k + 1) d) (get_or w (k + 2) d) on.1 on.2

-- neighbours of an arc differ
edge-differs : (v : Place) (ws : List Place) (k : ℕ) (d : Place) → EachEdge (λ a b. a ≢ b) v ws → k < length ws
    → get_or (v ∷ ws) k d ≢ get_or ws k d
edge-differs v [] k d h inside = absurd (omega arith)
edge-differs v (w ∷ ws) zero d h inside = h.0
edge-differs v (w ∷ ws) (suc k) d h inside = edge-differs w ws k d h.1 (omega arith)

arc-differs : (w : List Place) (k : ℕ) (d : Place) → IsArc w → k + 1 < length w → get_or w k d ≢ get_or w (k + 1) d
arc-differs [] k d arc inside = absurd (omega arith)
arc-differs (v ∷ ws) k d arc inside =
    let next : k + 1 ≡ suc k = omega arith in
    subst (λ n. get_or (v ∷ ws) k d ≢ get_or (v ∷ ws) n d) (sym next) (edge-differs v ws k d arc (omega arith))

data Half (n : ℕ) : Type 0 where
  Even : (h : ℕ) → n ≡ h + h → Half n
  Odd : (h : ℕ) → n ≡ h + h + 1 → Half n

half : (n : ℕ) → Half n
half zero = Even 0 refl
half (suc n) = more (half n)
  where
    more : Half n → Half (suc n)
    more (Even h e) = Odd h (omega arith)
    more (Odd h e) = Even (h + 1) (omega arith)

-- no stretch is its own reverse
not-turned : (turns : List Turn) (Stop : Place → Type 0) (w : List Place) → IsArc w → IsStretch turns Stop w → 2 ≤ length w → reverse w ≡ w
    → ⊥
not-turned turns Stop w arc h long same = by_half (half (length w))
  where
    mirror : (k : ℕ) → k < length w → get_or w k nowhere ≡ get_or w (length w - 1 - k) nowhere
    mirror k inside = ap (λ ps. get_or ps k nowhere) (sym same) ∙ get_or-reverse w k nowhere inside

    by_half : Half (length w) → ⊥
    by_half (Even h e) =
        let here : get_or w (h - 1) nowhere ≡ get_or w (length w - 1 - (h - 1)) nowhere = mirror (h - 1) (omega arith) in
        let other : length w - 1 - (h - 1) ≡ h - 1 + 1 = omega arith in
        arc-differs w (h - 1) nowhere arc (omega arith) (here ∙ ap (λ n. get_or w n nowhere) other)
    by_half (Odd m e) =
        let here : get_or w (m - 1) nowhere ≡ get_or w (length w - 1 - (m - 1)) nowhere = mirror (m - 1) (omega arith) in
        let other : length w - 1 - (m - 1) ≡ m - 1 + 2 = omega arith in
        inner-apart turns Stop w (m - 1) nowhere h (omega arith) (here ∙ ap (λ n. get_or w n nowhere) other)

next-long : (a b : Place) (ps : List Place) → AreNext a b ps → 2 ≤ length ps
next-long a b ps next = let all = ap length next.is ∙ length-append next.before (a ∷ b ∷ next.behind) in omega (arith, all)

piece-back : (turns : List Turn) (w : List Place) → IsArc w → IsStretch turns (IsJunction turns) w → (a b : Place) → AreNext a b w
    → AreNext b a w → ⊥
piece-back turns w arc h a b ahead back =
    not-turned turns (IsJunction turns) w arc h (next-long a b w ahead)
    (pieces-one turns w (reverse w) a b h (stretch-turned turns (IsJunction turns) w h) ahead (next-reversed a b w back))

-- ---- a ring without junctions

-- the positions of the walk once round are different, but for the first and the last
round-ordered : (c : List Place) (k l : ℕ) → AllPairs (λ p q. p ≢ q) c → k < l → l ≤ length c
    → get_or (c ++ take 1 c) k nowhere ≡ get_or (c ++ take 1 c) l nowhere → (k ≡ 0) × (l ≡ length c)
round-ordered c k l distinct ordered inside same =
    let here = get_or_append_left c (take 1 c) nowhere k (omega arith) in
    elim (cases_lt l (length c)) [
      | inl within ↦
          let there = get_or_append_left c (take 1 c) nowhere l within in
          absurd (distinct k l nowhere ordered within (sym here ∙ same ∙ there))
      | inr past ↦
          let last : length c + 0 ≡ l = omega arith in
          let there : get_or (c ++ take 1 c) l nowhere ≡ get_or c 0 nowhere = ap (λ n. get_or (c ++ take 1 c) n nowhere) (sym last)
          ∙ get_or-append-add c (take 1 c) 0 nowhere ∙ get_or-take 1 c 0 nowhere (omega arith) in
          elim (cases_lt 0 k) [
            | inl later ↦ absurd (distinct 0 k nowhere later (omega arith) (sym there ∙ sym same ∙ here))
            | inr first ↦ (omega arith, omega arith)
          ]
    ]

two-back : (turns : List Turn) (c : List Place) → IsFree turns c → length c ≡ 2 → ⊥
two-back turns [] free two = absurd (omega arith)
two-back turns (x ∷ []) free two = absurd (omega arith)
two-back turns (x ∷ y ∷ []) free two =
    let h = free.stretch 0 (omega arith) in
    apart turns x y x h.1.1 h.1.2 refl
two-back turns (x ∷ y ∷ z ∷ c) free two = absurd (omega arith)

-- the places of two neighbours
record NextAt (a b : Place) (ps : List Place) : Type 0 where
  pub place : ℕ
  pub inside : place + 1 < length ps
  pub first : get_or ps place nowhere ≡ a
  pub second : get_or ps (place + 1) nowhere ≡ b

next-at : (a b : Place) (ps : List Place) → AreNext a b ps → NextAt a b ps
next-at a b ps next =
    let all = ap length next.is ∙ length-append next.before (a ∷ b ∷ next.behind) in
    record {
      place = length next.before;
      inside = omega (arith, all);
      first = ap (λ qs. get_or qs (length next.before) nowhere) next.is
          ∙ get_or_at next.before a (b ∷ next.behind) nowhere (length next.before) refl;
      second = ap (λ qs. get_or qs (length next.before + 1) nowhere) next.is
          ∙ get_or-append-add next.before (a ∷ b ∷ next.behind) 1 nowhere;
    }

loop-back : (turns : List Turn) (c : List Place) (a b : Place) → IsFree turns c → AreNext a b (c ++ take 1 c) → AreNext b a (c ++ take 1 c)
    → ⊥
loop-back turns c a b free ahead back =
    let long = free.long in
    let i = next-at a b (c ++ take 1 c) ahead in
    let j = next-at b a (c ++ take 1 c) back in
    let count = length-append c (take 1 c) in
    let one = length-take 1 c in
    let i_in = i.inside in
    let j_in = j.inside in
    let i_ok : i.place + 1 ≤ length c = omega (arith, count, one) in
    let j_ok : j.place + 1 ≤ length c = omega (arith, count, one) in
    let here : get_or (c ++ take 1 c) (i.place + 1) nowhere ≡ get_or (c ++ take 1 c) j.place nowhere = i.second ∙ sym j.first in
    let there : get_or (c ++ take 1 c) i.place nowhere ≡ get_or (c ++ take 1 c) (j.place + 1) nowhere = i.first ∙ sym j.second in
    two-back turns c free (
    elim (cases_lt (i.place + 1) j.place) [
      | inl before ↦ let no_way = round-ordered c (i.place + 1) j.place free.distinct before (omega arith) here in let e = no_way.0 in
          absurd (omega arith)
      | inr not_before ↦ elim (cases_lt j.place (i.place + 1)) [
        | inl behind ↦
            let ends = round-ordered c j.place (i.place + 1) free.distinct behind i_ok (sym here) in
            let e = ends.0 in
            let f = ends.1 in
            elim (cases_lt (j.place + 1) i.place) [
              | inl after ↦ let no_way = round-ordered c (j.place + 1) i.place free.distinct after (omega arith) (sym there) in let g =
                  no_way.0 in absurd (omega arith)
              | inr upto ↦ elim (cases_lt i.place (j.place + 1)) [
                | inl first ↦ let both = round-ordered c i.place (j.place + 1) free.distinct first j_ok there in let g = both.0 in let h =
                    both.1 in omega arith
                | inr same ↦ omega arith
              ]
            ]
        | inr same ↦
            let both = round-ordered c i.place (j.place + 1) free.distinct (omega arith) j_ok there in
            let e = both.0 in
            let f = both.1 in
            omega arith
      ]
    ])

pub simple-sound : (turns : List Turn) (w : List Place) → IsArc w → IsSound turns w → IsSimple w
simple-sound turns w arc (One p e) = record {
  ahead = λ a b us xs vs ys f g. absurd (next-none a b p (record { before = us; behind = xs; is = sym e ∙ f }));
  back = λ a b ahead back. next-none a b p (subst (AreNext a b) e ahead);
}
simple-sound turns w arc (Piece h) = record { ahead = simple-ahead turns (IsJunction turns) w h; back = piece-back turns w arc h }
simple-sound turns w arc (Loop c free e) =
    let long = free.long in
    let v = get_or c 0 nowhere in
    record {
      ahead = simple-ahead turns (λ p. p ≡ v) w (subst (IsStretch turns (λ p. p ≡ v)) (sym e) (free.stretch 0 (omega arith)));
      back = λ a b ahead back. loop-back turns c a b free (subst (AreNext a b) e ahead) (subst (AreNext b a) e back);
    }

-- ---- the edges of the arcs

all-of : {X : Type 0} (P : X → Type 0) (xs ys : List X) → EachOf P xs → EachOf P ys → EachOf P (xs ++ ys)
all-of P [] ys h k = k
all-of P (x ∷ xs) ys h k = (h.0, all-of P xs ys h.1 k)

two-of : {X : Type 0} (R : X → X → Type 0) (xs ys : List X) → EachTwo R xs → EachTwo R ys → EachOf (λ x. EachOf (R x) ys) xs
    → EachTwo R (xs ++ ys)
two-of R [] ys h k cross = k
two-of R (x ∷ xs) ys h k cross = (all-of (R x) xs ys h.0 cross.0, two-of R xs ys h.1 k cross.1)

-- what holds of all neighbours holds of the edges
edges-have : (Q : Place → Place → Type 0) (arc at : ℕ) (ps : List Place) → ((a b : Place) → AreNext a b ps → Q a b)
    → EachOf (λ e. Q e.start.place e.end.place) (edges_of_list (vertices_from arc at ps))
edges-have Q arc at [] f = tt
edges-have Q arc at (p ∷ []) f = tt
edges-have Q arc at (p ∷ q ∷ []) f = (f p q (record { before = []; behind = []; is = refl }), tt)
edges-have Q arc at (p ∷ q ∷ r ∷ ps) f = (
  f p q (record { before = []; behind = r ∷ ps; is = refl }),
  edges-have Q arc (suc at) (q ∷ r ∷ ps)
      (λ a b next. f a b (next-cons a b p (q ∷ r ∷ ps) next)),
)

pub all-edges-have : (Q : Place → Place → Type 0) (arc : ℕ) (pss : List (List Place))
    → All (λ ps. (a b : Place) → AreNext a b ps → Q a b) pss → EachOf (λ e. Q e.start.place e.end.place) (edges_of_arcs arc pss)
all-edges-have Q arc [] all = tt
all-edges-have Q arc (ps ∷ pss) all =
    all-of (λ e. Q e.start.place e.end.place) (edges_of_list (vertices_from arc 0 ps)) (edges_of_arcs (suc arc) pss)
    (edges-have Q arc 0 ps (All-head (λ qs. (a b : Place) → AreNext a b qs → Q a b) ps pss all))
    (all-edges-have Q (suc arc) pss (All-tail (λ qs. (a b : Place) → AreNext a b qs → Q a b) ps pss all))

abbrev OtherEnds : Edge → Edge → Type 0
OtherEnds e f = ¬ (IsEdgeBetween e.start.place e.end.place f)

-- in a list in which an edge stands once
later-other : (w us : List Place) (p q : Place) (rest : List Place) → IsSimple w → w ≡ us ++ p ∷ q ∷ rest → (c d : Place)
    → AreNext c d (q ∷ rest) → ¬ (SameEnds p q c d)
later-other w us p q rest simple is c d next (inl (x, y)) =
    let split : w ≡ (us ++ p ∷ next.before) ++ c ∷ d ∷ next.behind = is ∙ ap (λ ps. us ++ p ∷ ps) next.is
    ∙ sym (append_assoc us (p ∷ next.before) (c ∷ d ∷ next.behind)) in
    let same = simple.ahead c d us rest (us ++ p ∷ next.before) next.behind (is ∙ ap₂ (λ a b. us ++ a ∷ b ∷ rest) x y) split in
    let count = ap length same in
    let all = ap length next.is ∙ length-append next.before (c ∷ d ∷ next.behind) in
    omega (arith, count, all)
later-other w us p q rest simple is c d next (inr (x, y)) =
    let split : w ≡ (us ++ p ∷ next.before) ++ c ∷ d ∷ next.behind = is ∙ ap (λ ps. us ++ p ∷ ps) next.is
    ∙ sym (append_assoc us (p ∷ next.before) (c ∷ d ∷ next.behind)) in
    simple.back c d (record { before = us ++ p ∷ next.before; behind = next.behind; is = split })
    (record { before = us; behind = rest; is = is ∙ ap₂ (λ a b. us ++ a ∷ b ∷ rest) x y })

two-inside : (w us : List Place) (arc at : ℕ) (ps : List Place) → IsSimple w → w ≡ us ++ ps
    → EachTwo OtherEnds (edges_of_list (vertices_from arc at ps))
two-inside w us arc at [] simple is = tt
two-inside w us arc at (p ∷ []) simple is = tt
two-inside w us arc at (p ∷ q ∷ []) simple is = (tt, tt)
two-inside w us arc at (p ∷ q ∷ r ∷ ps) simple is = (
  edges-have (λ c d. ¬ (SameEnds p q c d)) arc (suc at) (q ∷ r ∷ ps) (later-other w us p q (r ∷ ps) simple is),
  two-inside w (us ++ p ∷ []) arc (suc at) (q ∷ r ∷ ps) simple (is ∙ sym (append_assoc us (p ∷ []) (q ∷ r ∷ ps))),
)

apart-other : (x y : List Place) → AreApart x y → (a b : Place) → AreNext a b x → (c d : Place) → AreNext c d y → ¬ (SameEnds a b c d)
apart-other x y away a b in_x c d in_y (inl (p, q)) = away.ahead a b in_x
    (subst (λ z. AreNext a z y) (sym q) (subst (λ z. AreNext z d y) (sym p) in_y))
apart-other x y away a b in_x c d in_y (inr (p, q)) = away.back a b in_x
    (subst (λ z. AreNext z a y) (sym q) (subst (λ z. AreNext c z y) (sym p) in_y))

pub two-edges : (arc : ℕ) (pss : List (List Place)) → All IsSimple pss → AllPairs AreApart pss → EachTwo OtherEnds (edges_of_arcs arc pss)
two-edges arc [] simple away = tt
two-edges arc (ps ∷ pss) simple away =
    two-of OtherEnds (edges_of_list (vertices_from arc 0 ps)) (edges_of_arcs (suc arc) pss)
    (two-inside ps [] arc 0 ps (All-head IsSimple ps pss simple) refl)
    (two-edges (suc arc) pss (All-tail IsSimple ps pss simple) (λ i j d ordered inside. away (suc i) (suc j) d (omega arith) (omega arith)))
    (edges-have (λ a b. EachOf (λ f. ¬ (SameEnds a b f.start.place f.end.place)) (edges_of_arcs (suc arc) pss)) arc 0 ps
    (λ a b in_x. all-edges-have (λ c d. ¬ (SameEnds a b c d)) (suc arc) pss (λ k d inside c e in_y.
    apart-other ps (get_or pss k d) (away 0 (suc k) d (omega arith) (omega arith)) a b in_x c e in_y)))
