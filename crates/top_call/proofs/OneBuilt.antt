-- What is built of rings is one map, with one list of references for each ring.
use Rattle.std.proofs.Common.{◌≡◌, ◌≢◌, ◌∙◌, ℕ, zero, suc, ◌+◌, ◌<◌, ◌≤◌, ℤ, pos, negsuc, List, [], ◌∷◌, ◌++◌, All, get_or, length, map}
use Rattle.std.proofs.Common.{take}
use Rattle.std.proofs.Common.{drop}
use Rattle.std.proofs.Common.{append_assoc, refl, ap, sym, subst, inl, inr, arith, add-one}
use Rattle.std.proofs.lemmas.Bool.{cases_order}
use Rattle.std.proofs.lemmas.List.{append-nil, drop_more, get_or-take, length-take-le}
use Rattle.std.proofs.lemmas.List.Elements.{All-nil, All-cons, All-head, All-tail, All-get_or}
use Rattle.grid_exact.specs.Geometry.{Place}
use Rattle.arc_map.specs.Arcs.{vertices_from, edges_of_list, edges_of_arcs}
use Rattle.arc_map.specs.Edges.{Edge, EachTwo}
use Rattle.arc_map.specs.Map.{Map, IsArc}
use Rattle.geo_reader.specs.Geo.{Geo}
use Rattle.topo_build.specs.Built.{IsRound, IsEarlier, IsTaken, Earlier, Next, IsPieceTaken, IsRingTaken, BeginsWith, AreTaken}
use Rattle.topo_build.specs.Built.{IsRingBuilt, Single, Free, Cut, AreRingsBuilt, rings_of, geo_turns, IsBuilt}
use Rattle.topo_build.specs.Cyclic.{closed_from}
use Rattle.topo_build.specs.Junctions.{IsJunction}
use Rattle.topo_build.specs.References.{arc_of, walk_of, polygons_of}
use Rattle.top_call.proofs.OneReference.{two_front, HasNext, Apart, join, turned, differ, one_reference}

-- ---- arcs that grow

-- these arcs, and then more
record Grows (arcs after : List (List Place)) : Type 0 where
  more : List (List Place)
  is : after ≡ arcs ++ more

stays : (arcs after : List (List Place)) → after ≡ arcs → Grows arcs after
stays arcs after is = record { more = []; is = is ∙ sym (append-nil arcs) }

grows_on : (arcs between after : List (List Place)) → Grows arcs between → Grows between after → Grows arcs after
grows_on arcs between after first second = record {
  more = first.more ++ second.more;
  is = second.is ∙ ap (λ (xs : List (List Place)). xs ++ second.more) first.is ∙ append_assoc arcs first.more second.more;
}

taken_grows : (Is : List Place → Type 0) (piece : List Place) (arcs : List (List Place)) (r : ℤ) (after : List (List Place))
    → IsTaken Is piece arcs r after → Grows arcs after
taken_grows Is piece arcs r after (Earlier e is) = stays arcs after is
taken_grows Is piece arcs r after (Next none number is) = record { more = piece ∷ []; is = is }

walk_grows : (J : Place → Type 0) (v : Place) (ws : List Place) (arcs : List (List Place)) (refs : List ℤ) (after : List (List Place))
    → AreTaken IsPieceTaken J v ws arcs refs after → Grows arcs after
walk_grows J v ws arcs [] after are = stays arcs after are.1
walk_grows J v ws arcs (r ∷ rs) after are =
    let b = are.0 in
    let piece = v ∷ (b.inner ++ b.last ∷ []) in
    grows_on arcs b.after after (taken_grows (λ ps. ps ≡ piece) piece arcs r b.after b.taken)
    (walk_grows J b.last b.rest b.after rs after are.1)

ring_grows : (J : Place → Type 0) (ring : List Place) (arcs : List (List Place)) (refs : List ℤ) (after : List (List Place))
    → IsRingBuilt IsPieceTaken IsRingTaken J ring arcs refs after → Grows arcs after
ring_grows J ring arcs refs after (Single p one number is) = record { more = (p ∷ []) ∷ []; is = is }
ring_grows J ring arcs refs after (Free r several free number taken) = taken_grows (IsRound ring) (closed_from ring 0) arcs r after taken
ring_grows J ring arcs refs after (Cut at v ws several within before closed junction are) = walk_grows J v ws arcs refs after are

rings_grow : (J : Place → Type 0) (rings : List (List Place)) (arcs : List (List Place)) (refs : List (List ℤ)) (after : List (List Place))
    → AreRingsBuilt IsPieceTaken IsRingTaken J rings arcs refs after → Grows arcs after
rings_grow J [] arcs [] after are = stays arcs after are
rings_grow J [] arcs (rs ∷ rest) after are = absurd are
rings_grow J (ring ∷ rings) arcs [] after are = absurd are
rings_grow J (ring ∷ rings) arcs (rs ∷ rest) after are =
    grows_on arcs are.0 after (ring_grows J ring arcs rs are.0 are.1) (rings_grow J rings are.0 rest after are.2)

-- ---- sound arcs

-- each edge stands once, and no two neighbours are equal
pub record AreSound (lists : List (List Place)) : Type 0 where
  pub once : EachTwo Apart (edges_of_arcs 0 lists)
  pub arcs : All IsArc lists

edges_split : (n : ℕ) (xs ys : List (List Place)) → (later : List Edge) × (edges_of_arcs n (xs ++ ys) ≡ edges_of_arcs n xs ++ later)
edges_split n [] ys = (edges_of_arcs n ys, refl)
edges_split n (x ∷ xs) ys =
    let rest = edges_split (suc n) xs ys in
    let here = edges_of_list (vertices_from n 0 x) in
    (rest.0, ap (λ (es : List Edge). here ++ es) rest.1 ∙ sym (append_assoc here (edges_of_arcs (suc n) xs) rest.0))

front_arcs : (arcs more : List (List Place)) → All IsArc (arcs ++ more) → All IsArc arcs
front_arcs [] more all = All-nil IsArc
front_arcs (arc ∷ arcs) more all =
    All-cons IsArc arc arcs (All-head IsArc arc (arcs ++ more) all) (front_arcs arcs more (All-tail IsArc arc (arcs ++ more) all))

sound_before : (arcs after : List (List Place)) → Grows arcs after → AreSound after → AreSound arcs
sound_before arcs after grows sound =
    let parts = edges_split 0 arcs grows.more in
    let whole = subst (λ (xs : List (List Place)). EachTwo Apart (edges_of_arcs 0 xs)) grows.is sound.once in
    record {
      once = two_front Apart (edges_of_arcs 0 arcs) parts.0 (subst (EachTwo Apart) parts.1 whole);
      arcs = front_arcs arcs grows.more (subst (All IsArc) grows.is sound.arcs);
    }

walk_apart : (a b : Place) (arcs : List (List Place)) (r : ℤ) → arc_of r < length arcs → All IsArc arcs → HasNext a b (walk_of arcs r)
    → a ≢ b
walk_apart a b arcs (pos k) within are h same = differ a b (get_or arcs k []) (All-get_or IsArc arcs k [] within are) h same
walk_apart a b arcs (negsuc k) within are h same =
    differ b a (get_or arcs k []) (All-get_or IsArc arcs k [] within are) (turned a b (get_or arcs k []) h) (sym same)

-- ---- one reference for a piece

one_along : (a b : Place) (arcs : List (List Place)) (r s : ℤ) → AreSound arcs → arc_of r < length arcs → HasNext a b (walk_of arcs r)
    → HasNext a b (walk_of arcs s) → r ≡ s
one_along a b arcs r s sound within first second =
    one_reference a b arcs r s (walk_apart a b arcs r within sound.arcs first) sound.once first second

piece_one : (v last : Place) (inner : List Place) (arcs : List (List Place)) (r s : ℤ) → AreSound arcs
    → IsEarlier (λ ps. ps ≡ v ∷ (inner ++ last ∷ [])) arcs r → IsEarlier (λ ps. ps ≡ v ∷ (inner ++ last ∷ [])) arcs s → r ≡ s
piece_one v last [] arcs r s sound e f =
    one_along v last arcs r s sound e.known (subst (HasNext v last) (sym e.is) (inl (refl, refl)))
    (subst (HasNext v last) (sym f.is) (inl (refl, refl)))
piece_one v last (i ∷ inner) arcs r s sound e f =
    one_along v i arcs r s sound e.known (subst (HasNext v i) (sym e.is) (inl (refl, refl)))
    (subst (HasNext v i) (sym f.is) (inl (refl, refl)))

-- a ring goes on from its first position to the second, wherever it begins
round_has : (c d : Place) (cs : List Place) (at : ℕ) → HasNext c d (closed_from (c ∷ d ∷ cs) at)
round_has c d cs zero = inl (refl, refl)
round_has c d cs (suc k) =
    let ring = c ∷ d ∷ cs in
    let is : take (suc k + 1) ring ≡ c ∷ d ∷ take k cs = ap (λ (n : ℕ). take n ring) (add-one (suc k)) in
    subst (λ (xs : List Place). HasNext c d (drop (suc k) ring ++ xs)) (sym is) (join c d (drop (suc k) ring) (take k cs))

round_one : (ring : List Place) (arcs : List (List Place)) (r s : ℤ) → AreSound arcs → 1 < length ring → IsEarlier (IsRound ring) arcs r
    → IsEarlier (IsRound ring) arcs s → r ≡ s
round_one [] arcs r s sound several e f = absurd (omega (arith, several))
round_one (c ∷ []) arcs r s sound several e f = absurd (omega (arith, several))
round_one (c ∷ d ∷ cs) arcs r s sound several e f =
    one_along c d arcs r s sound e.known (subst (HasNext c d) (sym e.is.2) (round_has c d cs e.is.0))
    (subst (HasNext c d) (sym f.is.2) (round_has c d cs f.is.0))

taken_one : (Is : List Place → Type 0) (piece : List Place) (arcs : List (List Place)) (r s : ℤ) (after other : List (List Place))
    → (IsEarlier Is arcs r → IsEarlier Is arcs s → r ≡ s) → IsTaken Is piece arcs r after → IsTaken Is piece arcs s other
    → (r ≡ s) × (after ≡ other)
taken_one Is piece arcs r s after other one (Earlier e is) (Earlier f too) = (one e f, is ∙ sym too)
taken_one Is piece arcs r s after other one (Earlier e is) (Next none number too) = absurd (none r e)
taken_one Is piece arcs r s after other one (Next none number is) (Earlier f too) = absurd (none s f)
taken_one Is piece arcs r s after other one (Next none number is) (Next also second too) = (number ∙ sym second, is ∙ sym too)

-- ---- one way to cut

cut_one : (J : Place → Type 0) (inner other : List Place) (last end : Place) (rest left : List Place)
    → inner ++ last ∷ rest ≡ other ++ end ∷ left → All (λ p. ¬ (J p)) inner → All (λ p. ¬ (J p)) other → J last → J end
    → (inner ≡ other) × (last ≡ end) × (rest ≡ left)
cut_one J [] [] last end rest left same plain also here there =
    let first : last ≡ end = cc in
    let behind : rest ≡ left = cc in
    (refl, first, behind)
cut_one J [] (o ∷ other) last end rest left same plain also here there =
    let first : last ≡ o = cc in
    absurd (All-head (λ p. ¬ (J p)) o other also (subst J first here))
cut_one J (i ∷ inner) [] last end rest left same plain also here there =
    let first : end ≡ i = cc in
    absurd (All-head (λ p. ¬ (J p)) i inner plain (subst J first there))
cut_one J (i ∷ inner) (o ∷ other) last end rest left same plain also here there =
    let first : i ≡ o = cc in
    let behind : inner ++ last ∷ rest ≡ other ++ end ∷ left = cc in
    let more =
    cut_one J inner other last end rest left behind (All-tail (λ p. ¬ (J p)) i inner plain)
    (All-tail (λ p. ¬ (J p)) o other also) here there in
    (ap (λ (x : Place). x ∷ inner) first ∙ ap (λ (xs : List Place). o ∷ xs) more.0, more.1, more.2)

-- something is left
some_left : (inner : List Place) (last : Place) (rest : List Place) → [] ≡ inner ++ last ∷ rest → ⊥
some_left [] last rest same = cc
some_left (i ∷ inner) last rest same = cc

walk_one : (J : Place → Type 0) (v : Place) (ws : List Place) (arcs : List (List Place)) (refs others : List ℤ)
    (after other : List (List Place)) → AreSound after → AreTaken IsPieceTaken J v ws arcs refs after
    → AreTaken IsPieceTaken J v ws arcs others other → (refs ≡ others) × (after ≡ other)
walk_one J v ws arcs [] [] after other sound first second = (refl, first.1 ∙ sym second.1)
walk_one J v ws arcs [] (s ∷ ss) after other sound first second =
    let c = second.0 in
    absurd (some_left c.inner c.last c.rest (sym first.0 ∙ c.along))
walk_one J v ws arcs (r ∷ rs) [] after other sound first second =
    let b = first.0 in
    absurd (some_left b.inner b.last b.rest (sym second.0 ∙ b.along))
walk_one J v ws arcs (r ∷ rs) (s ∷ ss) after other sound first second =
    let b = first.0 in
    let c = second.0 in
    let piece = v ∷ (b.inner ++ b.last ∷ []) in
    let cut = cut_one J b.inner c.inner b.last c.last b.rest c.rest (sym b.along ∙ c.along) b.plain c.plain b.junction c.junction in
    let same : v ∷ (c.inner ++ c.last ∷ []) ≡ piece =
    ap (λ (xs : List Place). v ∷ (xs ++ c.last ∷ [])) (sym cut.0) ∙ ap (λ (w : Place). v ∷ (b.inner ++ w ∷ [])) (sym cut.1) in
    let taken = subst (λ (ps : List Place). IsPieceTaken ps arcs s c.after) same c.taken in
    let grows = grows_on arcs b.after after (taken_grows (λ ps. ps ≡ piece) piece arcs r b.after b.taken)
    (walk_grows J b.last b.rest b.after rs after first.1) in
    let here = sound_before arcs after grows sound in
    let one = taken_one (λ ps. ps ≡ piece) piece arcs r s b.after c.after (piece_one v b.last b.inner arcs r s here) b.taken taken in
    let by_last = subst (λ (w : Place). AreTaken IsPieceTaken J w c.rest c.after ss other) (sym cut.1) second.1 in
    let by_rest = subst (λ (xs : List Place). AreTaken IsPieceTaken J b.last xs c.after ss other) (sym cut.2) by_last in
    let by_arcs = subst (λ (xs : List (List Place)). AreTaken IsPieceTaken J b.last b.rest xs ss other) (sym one.1) by_rest in
    let more = walk_one J b.last b.rest b.after rs ss after other sound first.1 by_arcs in
    (ap (λ (x : ℤ). x ∷ rs) one.0 ∙ ap (λ (xs : List ℤ). s ∷ xs) more.0, more.1)

-- ---- one way to build a ring

begins_at : (ring ws : List Place) (v : Place) (at : ℕ) → at < length ring → closed_from ring at ≡ v ∷ ws → get_or ring at v ≡ v
begins_at ring ws v at within closed =
    let is : get_or ring at v ∷ (drop (at + 1) ring ++ take (at + 1) ring) ≡ v ∷ ws =
    ap (λ (xs : List Place). xs ++ take (at + 1) ring) (sym (drop_more ring at v within)) ∙ closed in
    cc

-- a junction is not among the first places, none of which is one
not_before : (J : Place → Type 0) (ring ws : List Place) (v : Place) (at n : ℕ) → at < n → at < length ring → n ≤ length ring
    → All (λ p. ¬ (J p)) (take n ring) → closed_from ring at ≡ v ∷ ws → J v → ⊥
not_before J ring ws v at n before within few plain closed junction =
    let long = length-take-le n ring few in
    let is : get_or (take n ring) at v ≡ v = get_or-take n ring at v before ∙ begins_at ring ws v at within closed in
    All-get_or (λ p. ¬ (J p)) (take n ring) at v (omega (arith, long, before)) plain (subst J (sym is) junction)

cut_places : (J : Place → Type 0) (ring ws xs : List Place) (v w : Place) (at n : ℕ) → at < length ring → n < length ring
    → All (λ p. ¬ (J p)) (take at ring) → All (λ p. ¬ (J p)) (take n ring) → closed_from ring at ≡ v ∷ ws → closed_from ring n ≡ w ∷ xs
    → J v → J w → at ≡ n
cut_places J ring ws xs v w at n within inside plain also closed too junction other = elim (cases_order at n) [
  | inl same ↦ same
  | inr apart ↦ elim apart [
    | inl before ↦ absurd (not_before J ring ws v at n before within (omega (arith, inside)) also closed junction)
    | inr behind ↦ absurd (not_before J ring xs w n at behind inside (omega (arith, within)) plain too other)
  ]
]

several_not_one : (ring : List Place) (p : Place) → 1 < length ring → ring ≡ p ∷ [] → ⊥
several_not_one ring p several is = omega (arith, several, ap length is)

-- where no position is a junction the ring is not cut
not_cut : (J : Place → Type 0) (ring ws : List Place) (v : Place) (at : ℕ) → All (λ p. ¬ (J p)) ring → at < length ring
    → closed_from ring at ≡ v ∷ ws → J v → ⊥
not_cut J ring ws v at free within closed junction =
    All-get_or (λ p. ¬ (J p)) ring at v within free (subst J (sym (begins_at ring ws v at within closed)) junction)

ring_one : (J : Place → Type 0) (ring : List Place) (arcs : List (List Place)) (refs others : List ℤ) (after other : List (List Place))
    → AreSound after → IsRingBuilt IsPieceTaken IsRingTaken J ring arcs refs after
    → IsRingBuilt IsPieceTaken IsRingTaken J ring arcs others other → (refs ≡ others) × (after ≡ other)
ring_one J ring arcs refs others after other sound (Single p one number is) (Single q also second too) =
    let same : p ≡ q = let lists = sym one ∙ also in cc in
    (number ∙ sym second, is ∙ ap (λ (x : Place). arcs ++ (x ∷ []) ∷ []) same ∙ sym too)
ring_one J ring arcs refs others after other sound (Single p one number is) (Free r several free second taken) =
    absurd (several_not_one ring p several one)
ring_one J ring arcs refs others after other sound (Single p one number is) (Cut at v ws several within before closed junction are) =
    absurd (several_not_one ring p several one)
ring_one J ring arcs refs others after other sound (Free r several free number taken) (Single p one second is) =
    absurd (several_not_one ring p several one)
ring_one J ring arcs refs others after other sound (Cut at v ws several within before closed junction are) (Single p one number is) =
    absurd (several_not_one ring p several one)
ring_one J ring arcs refs others after other sound (Free r several free number taken) (Free s many empty second also) =
    let grows = taken_grows (IsRound ring) (closed_from ring 0) arcs r after taken in
    let here = sound_before arcs after grows sound in
    let one = taken_one (IsRound ring) (closed_from ring 0) arcs r s after other (round_one ring arcs r s here several) taken also in
    (number ∙ ap (λ (x : ℤ). x ∷ []) one.0 ∙ sym second, one.1)
ring_one J ring arcs refs others after other sound (Free r several free number taken)
    (Cut at v ws many within before closed junction are) = absurd (not_cut J ring ws v at free within closed junction)
ring_one J ring arcs refs others after other sound (Cut at v ws many within before closed junction are)
    (Free r several free number taken) = absurd (not_cut J ring ws v at free within closed junction)
ring_one J ring arcs refs others after other sound (Cut at v ws several within before closed junction are)
    (Cut n w xs many inside also too second others_are) =
    let place = cut_places J ring ws xs v w at n within inside before also closed too junction second in
    let walks : v ∷ ws ≡ w ∷ xs = sym closed ∙ ap (closed_from ring) place ∙ too in
    let first : v ≡ w = cc in
    let rest : ws ≡ xs = cc in
    let by_first = subst (λ (y : Place). AreTaken IsPieceTaken J y xs arcs others other) (sym first) others_are in
    walk_one J v ws arcs refs others after other sound are (subst (λ (ys : List Place). AreTaken IsPieceTaken J v ys arcs others other)
    (sym rest) by_first)

rings_one : (J : Place → Type 0) (rings arcs : List (List Place)) (refs others : List (List ℤ)) (after other : List (List Place))
    → AreSound after → AreRingsBuilt IsPieceTaken IsRingTaken J rings arcs refs after
    → AreRingsBuilt IsPieceTaken IsRingTaken J rings arcs others other → (refs ≡ others) × (after ≡ other)
rings_one J [] arcs [] [] after other sound first second = (refl, first ∙ sym second)
rings_one J [] arcs (rs ∷ rest) others after other sound first second = absurd first
rings_one J [] arcs [] (ss ∷ more) after other sound first second = absurd second
rings_one J (ring ∷ rings) arcs [] others after other sound first second = absurd first
rings_one J (ring ∷ rings) arcs (rs ∷ rest) [] after other sound first second = absurd second
rings_one J (ring ∷ rings) arcs (rs ∷ rest) (ss ∷ more) after other sound first second =
    let here = sound_before first.0 after (rings_grow J rings first.0 rest after first.2) sound in
    let one = ring_one J ring arcs rs ss first.0 second.0 here first.1 second.1 in
    let moved = subst (λ (xs : List (List Place)). AreRingsBuilt IsPieceTaken IsRingTaken J rings xs more other) (sym one.1) second.2 in
    let later = rings_one J rings first.0 rest more after other sound first.2 moved in
    (ap (λ (x : List ℤ). x ∷ rest) one.0 ∙ ap (λ (xs : List (List ℤ)). ss ∷ xs) later.0, later.1)

-- ---- one map

same_map : (m n : Map) → m.arcs ≡ n.arcs → m.points ≡ n.points → m.polygons ≡ n.polygons → m.coded ≡ n.coded → m ≡ n
same_map m n arcs points polygons coded =
    λ i. record { arcs = arcs i; points = points i; polygons = polygons i; coded = coded i }

pub built_is_one : (geo : Geo) (m n : Map) (rings others : List (List ℤ)) → AreSound m.arcs → IsBuilt geo m rings → IsBuilt geo n others
    → (m ≡ n) × (rings ≡ others)
built_is_one geo m n rings others sound first second =
    let one = rings_one (IsJunction (geo_turns geo)) (rings_of geo) [] rings others m.arcs n.arcs sound first.arcs second.arcs in
    let polygons = first.polygons ∙ ap (polygons_of geo.polygons) one.0 ∙ sym second.polygons in
    (same_map m n one.1 (first.points ∙ sym second.points) polygons (first.coded ∙ sym second.coded), one.0)
