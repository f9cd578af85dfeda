-- The arcs that are made are arranged exactly where the rings are clean.
use Rattle.std.proofs.Common.{◌≡◌, ◌≢◌, ◌⊎◌, ◌∙◌, ◌+◌, ◌<◌, ◌≤◌, ◌↔◌, ℕ, ℤ, zero, suc, pos, ◌-ℤ◌, true, false, IsTrue, List, [], ◌∷◌, ◌++◌}
use Rattle.std.proofs.Common.{All, Contains, length, take, append_assoc, ap, inl, inr, refl, subst, sym, arith}
use Rattle.std.proofs.lemmas.List.Elements.{All-append, All-contains, All-nil, All-weaker}
use Rattle.grid_exact.specs.Geometry.{Place, CommonPoint, IsOnSegment}
use Rattle.grid_exact.specs.Segments.{SameEnds}
use Rattle.grid_exact.specs.Walks.{EachEdge}
use Rattle.grid_exact.proofs.WholeLaws.{sums}
use Rattle.grid_exact.proofs.Commons.{common_swapped, first_turned, second_turned, on_turned, starts_are_one, start_is_end, end_is_start}
use Rattle.grid_exact.proofs.Commons.{ends_are_one}
use Rattle.arc_map.specs.Arcs.{edges_of_arcs}
use Rattle.arc_map.specs.Edges.{Edge, EachOf, EachTwo, ClashOnlyIfHeld, EdgesAreArranged}
use Rattle.arc_map.specs.Map.{IsArc}
use Rattle.arc_map.specs.Vertices.{Vertex, MayJoin, MeetLawfully}
use Rattle.arc_map.specs.Vertices.MayJoin.{One as SameVertex, BothEnd}
use Rattle.arc_map.specs.Vertices.IsJunction.{Starts, StartAndEnd, EndAndStart, Ends}
use Rattle.arc_map.proofs.Listing.{compared_places, either}
use Rattle.arc_map.proofs.Listing.Same.{Yes, No}
use Rattle.topo_build.specs.Clean.{AreClean, HasEachEdgeOnce, IsEdgeBetween, IsEndOfBoth}
use Rattle.topo_build.specs.Found.{AreNext}
use Rattle.topo_build.specs.Junctions.{IsJunction, IsPlain, Turn, turns_of, turns_round}
use Rattle.topo_build.proofs.Facts.{ring_of, round-next}
use Rattle.topo_build.proofs.Inner.{before-in, has-later, next-in, nothing-in}
use Rattle.topo_build.proofs.Passing.{IsPassed, ends-joined, ends-turned, in_order}
use Rattle.topo_build.proofs.Passing.IsPassed.{Ahead, Back}
use Rattle.topo_build.proofs.Separate.{all-edges-have}
use Rattle.topo_build.proofs.Sound.{AreSound}
use Rattle.topo_build.proofs.SoundArcs.{IsSound}
use Rattle.topo_build.proofs.SoundArcs.IsSound.{One, Piece, Loop}
use Rattle.topo_build.proofs.Stretches.{IsStretch, Runs}
use Rattle.topo_build.proofs.Around.{nowhere}
use Rattle.topo_build.proofs.Triples.{EachTriple, triples-prefix, triples-suffix}

-- ---- segments that have ends alone in common

abbrev pub MeetAtEnds : Place → Place → Place → Place → Type 0
MeetAtEnds a b c d = (h : CommonPoint a b c d) → IsEndOfBoth h.denominator h.first h.second

other-end : (n s : ℤ) → (n -ℤ s ≡ pos 0) ⊎ (n -ℤ s ≡ n) → (s ≡ pos 0) ⊎ (s ≡ n)
other-end n s (inl e) = inr (omega (arith, sums, e))
other-end n s (inr e) = inl (omega (arith, sums, e))

meet-first : (a b c d : Place) → MeetAtEnds a b c d → MeetAtEnds b a c d
meet-first a b c d only h =
    let k = only (first_turned b a c d h) in
    (other-end h.denominator h.first k.0, k.1)

meet-swapped : (a b c d : Place) → MeetAtEnds c d a b → MeetAtEnds a b c d
meet-swapped a b c d only h =
    let k = only (common_swapped c d a b h) in
    (k.1, k.0)

-- by other names of the ends
meet-of-first : (a b c d e f : Place) → SameEnds a b c d → MeetAtEnds c d e f → MeetAtEnds a b e f
meet-of-first a b c d e f (inl s) only =
    subst (λ p. MeetAtEnds p b e f) (sym s.0) (subst (λ q. MeetAtEnds c q e f) (sym s.1) only)
meet-of-first a b c d e f (inr s) only =
    subst (λ p. MeetAtEnds p b e f) (sym s.0) (subst (λ q. MeetAtEnds d q e f) (sym s.1) (meet-first c d e f only))

meet-of-second : (a b c d e f : Place) → SameEnds c d e f → MeetAtEnds a b e f → MeetAtEnds a b c d
meet-of-second a b c d e f same only = meet-swapped a b c d (meet-of-first c d e f a b same (meet-swapped e f a b only))

on-by : (a b c d p : Place) → SameEnds a b c d → IsOnSegment a b p → IsOnSegment c d p
on-by a b c d p (inl s) on = subst (λ q. IsOnSegment c q p) s.1 (subst (λ q. IsOnSegment q b p) s.0 on)
on-by a b c d p (inr s) on = subst (λ q. IsOnSegment c q p) s.0 (subst (λ q. IsOnSegment q a p) s.1 (on_turned a b p on))

-- ---- lists

each-at : {X : Type 0} (P : X → Type 0) (xs : List X) (x : X) → EachOf P xs → Contains xs x → P x
each-at P [] x each (k, inside, there) = absurd (omega arith)
each-at P (y ∷ xs) x each (zero, inside, there) = subst P there each.0
each-at P (y ∷ xs) x each (suc k, inside, there) = each-at P xs x each.1 (k, omega arith, there)

-- of two elements the one is before the other, or they are one
each-two : {X : Type 0} (R : X → X → Type 0) (xs : List X) (x y : X) → EachTwo R xs → Contains xs x → Contains xs y
    → (R x y ⊎ R y x) ⊎ (x ≡ y)
each-two R [] x y h (i, inside, there) has = absurd (omega arith)
each-two R (z ∷ xs) x y h (zero, inside, there) (zero, within, here) = inr (sym there ∙ here)
each-two R (z ∷ xs) x y h (zero, inside, there) (suc j, within, here) =
    inl (inl (subst (λ u. R u y) there (each-at (R z) xs y h.0 (j, omega arith, here))))
each-two R (z ∷ xs) x y h (suc i, inside, there) (zero, within, here) =
    inl (inr (subst (λ u. R u x) here (each-at (R z) xs x h.0 (i, omega arith, there))))
each-two R (z ∷ xs) x y h (suc i, inside, there) (suc j, within, here) =
    each-two R xs x y h.1 (i, omega arith, there) (j, omega arith, here)

each-of-by : {X : Type 0} (Good P Q : X → Type 0) → ((x : X) → Good x → P x → Q x) → (xs : List X) → EachOf Good xs → EachOf P xs
    → EachOf Q xs
each-of-by Good P Q from [] good h = tt
each-of-by Good P Q from (x ∷ xs) good h = (from x good.0 h.0, each-of-by Good P Q from xs good.1 h.1)

each-two-by : {X : Type 0} (Good : X → Type 0) (S R : X → X → Type 0) → ((x y : X) → Good x → Good y → S x y → R x y)
    → (xs : List X) → EachOf Good xs → EachTwo S xs → EachTwo R xs
each-two-by Good S R from [] good h = tt
each-two-by Good S R from (x ∷ xs) good h =
    (each-of-by Good (S x) (R x) (λ y fine s. from x y good.0 fine s) xs good.1 h.0, each-two-by Good S R from xs good.1 h.1)

each-made : {X : Type 0} (P : X → Type 0) (xs : List X) → ((x : X) → Contains xs x → P x) → EachOf P xs
each-made P [] from = tt
each-made P (x ∷ xs) from = (from x (0, omega arith, refl), each-made P xs (λ y has. from y (has-later x xs y has)))

split-last : (w : Place) (ws : List Place) → (front : List Place) × (last : Place) × (w ∷ ws ≡ front ++ last ∷ [])
split-last w [] = ([], w, refl)
split-last w (u ∷ us) =
    let rest = split-last u us in
    (w ∷ rest.0, rest.1, ap (λ (ps : List Place). w ∷ ps) rest.2)

-- ---- from arranged to clean

lawful-ends : (v w x y : Vertex) → MeetLawfully v w x y → MeetAtEnds v.place w.place x.place y.place
lawful-ends v w x y meet h = elim (meet h) [
  | Starts f s joins ↦ (inl f, inl s)
  | StartAndEnd f s joins ↦ (inl f, inr s)
  | EndAndStart f s joins ↦ (inr f, inl s)
  | Ends f s joins ↦ (inr f, inr s)
]

meet-of-edges : (e f : Edge) → ClashOnlyIfHeld [] e f → MeetAtEnds e.start.place e.end.place f.start.place f.end.place
meet-of-edges e f (inl held) = absurd (nothing-in e.start.arc held.0)
meet-of-edges e f (inr meet) = lawful-ends e.start e.end f.start f.end meet

meet-of-turns : (t u : Turn) (e f : Edge) → IsEdgeBetween t.before t.at e → IsEdgeBetween u.before u.at f
    → MeetAtEnds e.start.place e.end.place f.start.place f.end.place → MeetAtEnds t.before t.at u.before u.at
meet-of-turns t u e f first second meet =
    meet-of-first t.before t.at e.start.place e.end.place u.before u.at first
    (meet-of-second e.start.place e.end.place u.before u.at f.start.place f.end.place second meet)

turns-meet : (turns : List Turn) (arcs : List (List Place)) (points : List Place) → HasEachEdgeOnce turns arcs
    → EdgesAreArranged [] (edges_of_arcs 0 arcs) points → (t u : Turn) → Contains turns t → Contains turns u
    → ¬ (SameEnds t.before t.at u.before u.at) → MeetAtEnds t.before t.at u.before u.at
turns-meet turns arcs points once arranged t u has_t has_u differ =
    let e = once.all t has_t in
    let f = once.all u has_u in
    elim (each-two (ClashOnlyIfHeld []) (edges_of_arcs 0 arcs) e.0 f.0 arranged.pairs e.1 f.1) [
      | inl ordered ↦ elim ordered [
        | inl first ↦ meet-of-turns t u e.0 f.0 e.2 f.2 (meet-of-edges e.0 f.0 first)
        | inr second ↦ meet-of-turns t u e.0 f.0 e.2 f.2
            (meet-swapped e.0.start.place e.0.end.place f.0.start.place f.0.end.place (meet-of-edges f.0 e.0 second))
      ]
      | inr same ↦
          let here : SameEnds t.before t.at f.0.start.place f.0.end.place = subst (λ (x : Edge). IsEdgeBetween t.before t.at x) same e.2 in
          absurd (differ (ends-joined t.before t.at f.0.start.place f.0.end.place u.before u.at here
          (ends-turned u.before u.at f.0.start.place f.0.end.place f.2)))
    ]

clean-from : (turns : List Turn) (arcs : List (List Place)) (points : List Place) → HasEachEdgeOnce turns arcs
    → EdgesAreArranged [] (edges_of_arcs 0 arcs) points → AreClean turns points
clean-from turns arcs points once arranged = record {
  edges = λ t u has_t has_u differ h. turns-meet turns arcs points once arranged t u has_t has_u differ h;
  off = λ p t has_p has_t on.
      let e = once.all t has_t in
      let none = each-at (λ (f : Edge). IsOnSegment f.start.place f.end.place p → Contains [] f.start.arc) (edges_of_arcs 0 arcs) e.0
      (arranged.off p has_p) e.1 in
      nothing-in e.0.start.arc (none (on-by t.before t.at e.0.start.place e.0.end.place p e.2 on));
}

-- ---- how the rings go on

-- some ring goes from a to b, or from b to a, and passes a
abbrev HasEntry : List Turn → Place → Place → Type 0
HasEntry turns a b = (z : Place) × IsPassed turns z a b

entered-round : (turns : List Turn) (x y : Place) (c : List Place) → EachTriple (IsPassed turns) ((x ∷ y ∷ c) ++ x ∷ y ∷ []) → (a b : Place)
    → AreNext a b ((x ∷ y ∷ c) ++ x ∷ []) → HasEntry turns a b
entered-round turns x y c passed a b next = by next.before next.is
  where
    by : (us : List Place) → (x ∷ y ∷ c) ++ x ∷ [] ≡ us ++ a ∷ b ∷ next.behind → HasEntry turns a b
    by [] is =
        let first : x ≡ a = cc in
        let second : y ≡ b = cc in
        let l = split-last x (y ∷ c) in
        let split : (x ∷ y ∷ c) ++ x ∷ y ∷ [] ≡ l.0 ++ l.1 ∷ x ∷ y ∷ [] =
        ap (λ (ps : List Place). ps ++ x ∷ y ∷ []) l.2 ∙ append_assoc l.0 (l.1 ∷ []) (x ∷ y ∷ []) in
        let here = triples-suffix (IsPassed turns) l.0 (l.1 ∷ x ∷ y ∷ []) (subst (EachTriple (IsPassed turns)) split passed) in
        (l.1, subst (λ p. IsPassed turns l.1 p b) first (subst (IsPassed turns l.1 x) second here.0))
    by (u ∷ us) is =
        let l = split-last u us in
        let whole : (x ∷ y ∷ c) ++ x ∷ y ∷ [] ≡ ((x ∷ y ∷ c) ++ x ∷ []) ++ y ∷ [] = sym (append_assoc (x ∷ y ∷ c) (x ∷ []) (y ∷ [])) in
        let front = triples-prefix (IsPassed turns) ((x ∷ y ∷ c) ++ x ∷ []) (y ∷ []) (subst (EachTriple (IsPassed turns)) whole passed) in
        let split : (x ∷ y ∷ c) ++ x ∷ [] ≡ l.0 ++ l.1 ∷ a ∷ b ∷ next.behind =
        is ∙ ap (λ (ps : List Place). ps ++ a ∷ b ∷ next.behind) l.2 ∙ append_assoc l.0 (l.1 ∷ []) (a ∷ b ∷ next.behind) in
        let here = triples-suffix (IsPassed turns) l.0 (l.1 ∷ a ∷ b ∷ next.behind) (subst (EachTriple (IsPassed turns)) split front) in
        (l.1, here.0)

ring-entered : (turns : List Turn) (k : ℕ) (c : List Place) → EachTriple (IsPassed turns) (c ++ take 2 c)
    → All (λ t. HasEntry turns t.before t.at) (turns_round k c)
ring-entered turns k [] passed = All-nil (λ t. HasEntry turns t.before t.at)
ring-entered turns k (x ∷ []) passed = All-nil (λ t. HasEntry turns t.before t.at)
ring-entered turns k (x ∷ y ∷ c) passed =
    All-weaker (λ t. AreNext t.before t.at ((x ∷ y ∷ c) ++ x ∷ [])) (λ t. HasEntry turns t.before t.at)
    (λ t next. entered-round turns x y c passed t.before t.at next) (turns_round k (x ∷ y ∷ c)) (round-next k (x ∷ y ∷ c))

rings-entered : (us turns : List Turn) (k : ℕ) (cs : List (List Place)) → turns ≡ us ++ turns_of k cs
    → All (λ t. HasEntry turns t.before t.at) (turns_of k cs)
rings-entered us turns k [] is = All-nil (λ t. HasEntry turns t.before t.at)
rings-entered us turns k (c ∷ cs) is =
    let ring = ring_of us (turns_of (suc k) cs) turns k c is in
    All-append (λ t. HasEntry turns t.before t.at) (turns_round k c) (turns_of (suc k) cs) (ring-entered turns k c ring.passed)
    (rings-entered (us ++ turns_round k c) turns (suc k) cs (is ∙ sym (append_assoc us (turns_round k c) (turns_of (suc k) cs))))

-- a position that is no junction has two neighbours
record PassedBy (turns : List Turn) (a p b : Place) : Type 0 where
  turn : Turn
  has : Contains turns turn
  at : turn.at ≡ p
  ends : SameEnds a b turn.before turn.after

by-turn : (turns : List Turn) (a p b : Place) → IsPassed turns a p b → PassedBy turns a p b
by-turn turns a p b (Ahead t has x y z) = record { turn = t; has = has; at = y; ends = inl (sym x, sym z) }
by-turn turns a p b (Back t has x y z) = record { turn = t; has = has; at = y; ends = inr (sym z, sym x) }

turns-alike : (turns : List Turn) (p : Place) (t u : Turn) → IsPlain turns p → Contains turns t → Contains turns u → t.at ≡ p → u.at ≡ p
    → SameEnds t.before t.after u.before u.after
turns-alike turns p t u plain has_t has_u at_t at_u =
    elim (in_order (λ v w. v.at ≡ p → w.at ≡ p → (v.ring ≢ w.ring) × SameEnds v.before v.after w.before w.after) turns t u plain.one_way
    has_t has_u) [
      | inl ordered ↦ elim ordered [
        | inl first ↦ (first at_t at_u).1
        | inr second ↦ ends-turned u.before u.after t.before t.after (second at_u at_t).1
      ]
      | inr same ↦ inl (ap (λ (v : Turn). v.before) same, ap (λ (v : Turn). v.after) same)
    ]

neighbour : (turns : List Turn) (a p b z c : Place) → ¬ (IsJunction turns p) → IsPassed turns a p b → IsPassed turns z p c
    → (c ≡ a) ⊎ (c ≡ b)
neighbour turns a p b z c smooth first second = elim (compared_places c a) [
  | Yes alike e ↦ inl e
  | No unlike e ↦ elim (compared_places c b) [
    | Yes alike f ↦ inr f
    | No other f ↦ absurd (smooth (λ plain.
        let v = by-turn turns a p b first in
        let w = by-turn turns z p c second in
        let same = turns-alike turns p v.turn w.turn plain v.has w.has v.at w.at in
        let ends : SameEnds a b z c = ends-joined a b v.turn.before v.turn.after z c v.ends
        (ends-joined v.turn.before v.turn.after w.turn.before w.turn.after z c same
        (ends-turned z c w.turn.before w.turn.after w.ends)) in
        elim ends [
          | inl s ↦ f (sym s.1)
          | inr s ↦ e (sym s.0)
        ]))
  ]
]

-- ---- inner vertices

-- where a ring passes it, and how
abbrev Passes : List Turn → Place → Place → Place → Type 0
Passes turns a p b = ¬ (IsJunction turns p) × IsPassed turns a p b

runs-passed : (turns : List Turn) (Stop : Place → Type 0) (a p : Place) (ws : List Place) → Runs turns Stop a p ws
    → EachTriple (Passes turns) (a ∷ p ∷ ws)
runs-passed turns Stop a p [] h = tt
runs-passed turns Stop a p (b ∷ ws) h = ((h.1, h.2), runs-passed turns Stop p b ws h.3)

stretch-passed : (turns : List Turn) (Stop : Place → Type 0) (ps : List Place) → IsStretch turns Stop ps → EachTriple (Passes turns) ps
stretch-passed turns Stop [] h = absurd h
stretch-passed turns Stop (v ∷ []) h = absurd h.1
stretch-passed turns Stop (v ∷ w ∷ ws) h = runs-passed turns Stop v w ws h.1

sound-passed : (turns : List Turn) (ps : List Place) → IsSound turns ps → EachTriple (Passes turns) ps
sound-passed turns ps (One p e) = subst (EachTriple (Passes turns)) (sym e) tt
sound-passed turns ps (Piece h) = stretch-passed turns (IsJunction turns) ps h
sound-passed turns ps (Loop c free e) =
    let long = free.long in
    subst (EachTriple (Passes turns)) (sym e) (stretch-passed turns _ _ (free.stretch 0 (omega arith)))

-- the vertex is inner in its arc: it stands between two edges, and the rings pass it as the arc does
record IsInner (turns : List Turn) (arcs : List (List Place)) (v : Vertex) : Type 0 where
  first : Edge
  second : Edge
  has_first : Contains (edges_of_arcs 0 arcs) first
  has_second : Contains (edges_of_arcs 0 arcs) second
  ends : first.end ≡ v
  begins : second.start ≡ v
  smooth : ¬ (IsJunction turns v.place)
  passed : IsPassed turns first.start.place v.place second.end.place

inner-end : (turns : List Turn) (arcs : List (List Place)) (e : Edge) → All (EachTriple (Passes turns)) arcs
    → Contains (edges_of_arcs 0 arcs) e → e.end.is_end ≡ false → IsInner turns arcs e.end
inner-end turns arcs e all has inner =
    let n = next-in (Passes turns) 0 arcs all e has inner in
    record {
      first = e;
      second = n.edge;
      has_first = has;
      has_second = n.has;
      ends = refl;
      begins = n.joins;
      smooth = n.triple.0;
      passed = n.triple.1;
    }

inner-start : (turns : List Turn) (arcs : List (List Place)) (e : Edge) → All (EachTriple (Passes turns)) arcs
    → Contains (edges_of_arcs 0 arcs) e → e.start.is_end ≡ false → IsInner turns arcs e.start
inner-start turns arcs e all has inner =
    let b = before-in (Passes turns) 0 arcs all e has inner in
    record {
      first = b.edge;
      second = e;
      has_first = b.has;
      has_second = has;
      ends = b.joins;
      begins = refl;
      smooth = b.triple.0;
      passed = b.triple.1;
    }

-- ---- one vertex at a place that is no junction

-- what is known of the arcs
record AreMade (turns : List Turn) (arcs : List (List Place)) : Type 0 where
  once : HasEachEdgeOnce turns arcs
  passed : All (EachTriple (Passes turns)) arcs
  entered : All (λ t. HasEntry turns t.before t.at) turns
  differ : EachOf (λ (e : Edge). e.start.place ≢ e.end.place) (edges_of_arcs 0 arcs)

same-edge : (turns : List Turn) (arcs : List (List Place)) (e f : Edge) → HasEachEdgeOnce turns arcs → Contains (edges_of_arcs 0 arcs) e
    → Contains (edges_of_arcs 0 arcs) f → SameEnds e.start.place e.end.place f.start.place f.end.place → e ≡ f
same-edge turns arcs e f once has_e has_f same =
    elim (each-two (λ (x y : Edge). ¬ (IsEdgeBetween x.start.place x.end.place y)) (edges_of_arcs 0 arcs) e f once.once has_e has_f) [
      | inl ordered ↦ elim ordered [
        | inl none ↦ absurd (none same)
        | inr none ↦ absurd (none (ends-turned e.start.place e.end.place f.start.place f.end.place same))
      ]
      | inr one ↦ one
    ]

-- an edge goes on from both of its ends
edge-entered : (turns : List Turn) (arcs : List (List Place)) (f : Edge) → AreMade turns arcs → Contains (edges_of_arcs 0 arcs) f
    → HasEntry turns f.start.place f.end.place × HasEntry turns f.end.place f.start.place
edge-entered turns arcs f made has =
    let u = made.once.only f has in
    let t = u.0 in
    let there : HasEntry turns t.before t.at = All-contains (λ v. HasEntry turns v.before v.at) turns t made.entered u.1 in
    let back : HasEntry turns t.at t.before = (t.after, Back t u.1 refl refl refl) in
    elim u.2 [
      | inl s ↦ (
        subst (λ p. HasEntry turns p f.end.place) s.0 (subst (HasEntry turns t.before) s.1 there),
        subst (λ p. HasEntry turns p f.start.place) s.1 (subst (HasEntry turns t.at) s.0 back),
      )
      | inr s ↦ (
        subst (λ p. HasEntry turns p f.end.place) s.1 (subst (HasEntry turns t.at) s.0 back),
        subst (λ p. HasEntry turns p f.start.place) s.0 (subst (HasEntry turns t.before) s.1 there),
      )
    ]

place-of : (v w : Vertex) → v ≡ w → v.place ≡ w.place
place-of v w e = ap (λ (x : Vertex). x.place) e

meets-start : (turns : List Turn) (arcs : List (List Place)) (v : Vertex) (f : Edge) → AreMade turns arcs → IsInner turns arcs v
    → Contains (edges_of_arcs 0 arcs) f → f.start.place ≡ v.place → v ≡ f.start
meets-start turns arcs v f made inner has at =
    let entry = (edge-entered turns arcs f made has).0 in
    let passed : IsPassed turns entry.0 v.place f.end.place = subst (λ p. IsPassed turns entry.0 p f.end.place) at entry.1 in
    let e = inner.first in
    let g = inner.second in
    elim (neighbour turns e.start.place v.place g.end.place entry.0 f.end.place inner.smooth inner.passed passed) [
      | inl before ↦
          let one : e ≡ f = same-edge turns arcs e f made.once inner.has_first has
          (inr (sym before, place-of e.end v inner.ends ∙ sym at)) in
          absurd (each-at (λ (x : Edge). x.start.place ≢ x.end.place) (edges_of_arcs 0 arcs) f made.differ has
          (at ∙ sym (place-of e.end v inner.ends) ∙ ap (λ (x : Edge). x.end.place) one))
      | inr after ↦
          let one : g ≡ f = same-edge turns arcs g f made.once inner.has_second has
          (inl (place-of g.start v inner.begins ∙ sym at, sym after)) in
          sym inner.begins ∙ ap (λ (x : Edge). x.start) one
    ]

meets-end : (turns : List Turn) (arcs : List (List Place)) (v : Vertex) (f : Edge) → AreMade turns arcs → IsInner turns arcs v
    → Contains (edges_of_arcs 0 arcs) f → f.end.place ≡ v.place → v ≡ f.end
meets-end turns arcs v f made inner has at =
    let entry = (edge-entered turns arcs f made has).1 in
    let passed : IsPassed turns entry.0 v.place f.start.place = subst (λ p. IsPassed turns entry.0 p f.start.place) at entry.1 in
    let e = inner.first in
    let g = inner.second in
    elim (neighbour turns e.start.place v.place g.end.place entry.0 f.start.place inner.smooth inner.passed passed) [
      | inl before ↦
          let one : e ≡ f = same-edge turns arcs e f made.once inner.has_first has
          (inl (sym before, place-of e.end v inner.ends ∙ sym at)) in
          sym inner.ends ∙ ap (λ (x : Edge). x.end) one
      | inr after ↦
          let one : g ≡ f = same-edge turns arcs g f made.once inner.has_second has
          (inr (place-of g.start v inner.begins ∙ sym at, sym after)) in
          absurd (each-at (λ (x : Edge). x.start.place ≢ x.end.place) (edges_of_arcs 0 arcs) f made.differ has
          (sym (ap (λ (x : Edge). x.start.place) one) ∙ place-of g.start v inner.begins ∙ sym at))
    ]

-- ---- from clean to arranged

-- the vertex is an end of an edge
record IsAnEnd (turns : List Turn) (arcs : List (List Place)) (v : Vertex) : Type 0 where
  inner : v.is_end ≡ false → IsInner turns arcs v
  meets : (u : Vertex) → IsInner turns arcs u → v.place ≡ u.place → u ≡ v

start-of : (turns : List Turn) (arcs : List (List Place)) (e : Edge) → AreMade turns arcs → Contains (edges_of_arcs 0 arcs) e
    → IsAnEnd turns arcs e.start
start-of turns arcs e made has = record {
  inner = λ inner. inner-start turns arcs e made.passed has inner;
  meets = λ u inner at. meets-start turns arcs u e made inner has at;
}

end-of : (turns : List Turn) (arcs : List (List Place)) (e : Edge) → AreMade turns arcs → Contains (edges_of_arcs 0 arcs) e
    → IsAnEnd turns arcs e.end
end-of turns arcs e made has = record {
  inner = λ inner. inner-end turns arcs e made.passed has inner;
  meets = λ u inner at. meets-end turns arcs u e made inner has at;
}

may-join : (turns : List Turn) (arcs : List (List Place)) (v w : Vertex) → IsAnEnd turns arcs v → IsAnEnd turns arcs w → v.place ≡ w.place
    → MayJoin v w
may-join turns arcs v w first second same = elim (either v.is_end) [
  | inr inner ↦ SameVertex (second.meets v (first.inner inner) (sym same))
  | inl ends ↦ elim (either w.is_end) [
    | inr inner ↦ SameVertex (sym (first.meets w (second.inner inner) same))
    | inl also ↦ BothEnd ends also
  ]
]

lawful-from : (turns : List Turn) (arcs : List (List Place)) (e f : Edge) → AreMade turns arcs → Contains (edges_of_arcs 0 arcs) e
    → Contains (edges_of_arcs 0 arcs) f → MeetAtEnds e.start.place e.end.place f.start.place f.end.place
    → MeetLawfully e.start e.end f.start f.end
lawful-from turns arcs e f made has_e has_f meet h =
    let a = e.start.place in
    let b = e.end.place in
    let c = f.start.place in
    let d = f.end.place in
    let both = meet h in
    elim both.0 [
      | inl first ↦ elim both.1 [
        | inl second ↦ Starts first second (may-join turns arcs e.start f.start (start-of turns arcs e made has_e)
            (start-of turns arcs f made has_f) (starts_are_one a b c d h first second))
        | inr second ↦ StartAndEnd first second (may-join turns arcs e.start f.end (start-of turns arcs e made has_e)
            (end-of turns arcs f made has_f) (start_is_end a b c d h first second))
      ]
      | inr first ↦ elim both.1 [
        | inl second ↦ EndAndStart first second (may-join turns arcs e.end f.start (end-of turns arcs e made has_e)
            (start-of turns arcs f made has_f) (end_is_start a b c d h first second))
        | inr second ↦ Ends first second (may-join turns arcs e.end f.end (end-of turns arcs e made has_e)
            (end-of turns arcs f made has_f) (ends_are_one a b c d h first second))
      ]
    ]

edges-meet : (turns : List Turn) (arcs : List (List Place)) (points : List Place) (e f : Edge) → AreMade turns arcs → AreClean turns points
    → Contains (edges_of_arcs 0 arcs) e → Contains (edges_of_arcs 0 arcs) f → ¬ (IsEdgeBetween e.start.place e.end.place f)
    → ClashOnlyIfHeld [] e f
edges-meet turns arcs points e f made clean has_e has_f none =
    let t = made.once.only e has_e in
    let u = made.once.only f has_f in
    let to_t = ends-turned t.0.before t.0.at e.start.place e.end.place t.2 in
    let to_u = ends-turned u.0.before u.0.at f.start.place f.end.place u.2 in
    let differ : ¬ (SameEnds t.0.before t.0.at u.0.before u.0.at) = λ same.
    none (ends-joined e.start.place e.end.place t.0.before t.0.at f.start.place f.end.place to_t
    (ends-joined t.0.before t.0.at u.0.before u.0.at f.start.place f.end.place same u.2)) in
    inr (lawful-from turns arcs e f made has_e has_f
    (meet-of-first e.start.place e.end.place t.0.before t.0.at f.start.place f.end.place to_t
    (meet-of-second t.0.before t.0.at f.start.place f.end.place u.0.before u.0.at to_u (clean.edges t.0 u.0 t.1 u.1 differ))))

arranged-from : (turns : List Turn) (arcs : List (List Place)) (points : List Place) → AreMade turns arcs → AreClean turns points
    → EdgesAreArranged [] (edges_of_arcs 0 arcs) points
arranged-from turns arcs points made clean =
    let all = edges_of_arcs 0 arcs in
    record {
      pairs = each-two-by (Contains all) (λ (e f : Edge). ¬ (IsEdgeBetween e.start.place e.end.place f)) (ClashOnlyIfHeld [])
          (λ e f has_e has_f none. edges-meet turns arcs points e f made clean has_e has_f none) all
          (each-made (Contains all) all (λ e has. has)) made.once.once;
      off = λ p has_p. each-made (λ (e : Edge). IsOnSegment e.start.place e.end.place p → Contains [] e.start.arc) all (λ e has on.
          let t = made.once.only e has in
          absurd (clean.off p t.0 has_p t.1 (on-by e.start.place e.end.place t.0.before t.0.at p
          (ends-turned t.0.before t.0.at e.start.place e.end.place t.2) on)));
    }

-- ---- both ways

edge-differs : (us : List Place) (a b : Place) (qs : List Place) → IsArc (us ++ a ∷ b ∷ qs) → a ≢ b
edge-differs [] a b qs arc = arc.0
edge-differs (u ∷ []) a b qs arc = arc.1.0
edge-differs (u ∷ w ∷ us) a b qs arc = edge-differs (w ∷ us) a b qs arc.1

next-differs : (ps : List Place) → IsArc ps → (a b : Place) → AreNext a b ps → a ≢ b
next-differs ps arc a b next = edge-differs next.before a b next.behind (subst IsArc next.is arc)

pub arranged-where-clean : (cs arcs : List (List Place)) (points : List Place) → All IsArc arcs → AreSound (turns_of 0 cs) arcs
    → HasEachEdgeOnce (turns_of 0 cs) arcs
    → EdgesAreArranged [] (edges_of_arcs 0 arcs) points ↔ AreClean (turns_of 0 cs) points
arranged-where-clean cs arcs points are sound once =
    let turns = turns_of 0 cs in
    let made : AreMade turns arcs = record {
      once = once;
      passed = All-weaker (IsSound turns) (EachTriple (Passes turns)) (λ ps h. sound-passed turns ps h) arcs sound.each;
      entered = rings-entered [] turns 0 cs refl;
      differ = all-edges-have (λ a b. a ≢ b) 0 arcs
          (All-weaker IsArc (λ ps. (a b : Place) → AreNext a b ps → a ≢ b) (λ ps arc. next-differs ps arc) arcs are);
    } in
    (λ arranged. clean-from turns arcs points once arranged, λ clean. arranged-from turns arcs points made clean)
