-- The references of a ring, put together, are the ring.
use Rattle.std.proofs.Common.{◌≡◌, ◌∙◌, ◌<◌, ℕ, ℤ, pos, negsuc, List, [], ◌∷◌, ◌++◌, drop, get_or, length, reverse, take, ◌+◌, append_assoc}
use Rattle.std.proofs.Common.{append-nil, ap, refl, subst, sym, arith, length-append}
use Rattle.std.specs.List.{AllZip}
use Rattle.std.proofs.lemmas.List.{get_or_append_left, get_or_push}
use Rattle.grid_exact.specs.Geometry.{Place}
use Rattle.grid_exact.specs.Walks.{end_of}
use Rattle.topo_build.specs.Built.{AreRingsBuilt, AreTaken, BeginsWith, IsEarlier, IsPieceTaken, IsRingBuilt, IsRingTaken, IsRound, IsTaken}
use Rattle.topo_build.specs.Built.IsRingBuilt.{Single as OnePosition, Free, Cut}
use Rattle.topo_build.specs.Built.IsTaken.{Earlier, Next}
use Rattle.topo_build.specs.Cyclic.{closed_from}
use Rattle.topo_build.specs.References.{IsPutTogether, Leads, arc_of, walk_of}
use Rattle.topo_build.specs.References.IsPutTogether.{Single, Round}
use Rattle.topo_build.proofs.Around.{nowhere}
use Rattle.topo_build.proofs.Triples.{closed_is}

-- ---- arcs are only added

pub record Grows (arcs all : List (List Place)) : Type 0 where
  pub more : List (List Place)
  pub is : all ≡ arcs ++ more

grown-same : (arcs : List (List Place)) → Grows arcs arcs
grown-same arcs = record { more = []; is = sym (append-nil arcs) }

grown-joined : (arcs mid all : List (List Place)) → Grows arcs mid → Grows mid all → Grows arcs all
grown-joined arcs mid all h k = record {
  more = h.more ++ k.more;
  is = k.is ∙ ap (λ xs. xs ++ k.more) h.is
      ∙ append_assoc arcs h.more k.more;
}

taken-grows : (Is : List Place → Type 0) (piece : List Place) (arcs : List (List Place)) (r : ℤ) (after : List (List Place))
    → IsTaken Is piece arcs r after → Grows arcs after
taken-grows Is piece arcs r after (Earlier h e) = record { more = []; is = e ∙ sym (append-nil arcs) }
taken-grows Is piece arcs r after (Next none is e) = record { more = piece ∷ []; is = e }

walk-grown : (arcs all : List (List Place)) (r : ℤ) → Grows arcs all → arc_of r < length arcs → walk_of all r ≡ walk_of arcs r
walk-grown arcs all (pos k) grows known = ap (λ xs. get_or xs k []) grows.is ∙ get_or_append_left arcs grows.more [] k known
walk-grown arcs all (negsuc k) grows known = ap reverse (ap (λ xs. get_or xs k []) grows.is ∙ get_or_append_left arcs grows.more [] k known)

-- a piece that is taken is the walk along its arc, also later
taken-walk : (Is : List Place → Type 0) (piece : List Place) (arcs : List (List Place)) (r : ℤ) (after all : List (List Place)) → Is piece
    → IsTaken Is piece arcs r after → Grows after all → Is (walk_of all r)
taken-walk Is piece arcs r after all itself (Earlier h e) grows =
    subst Is (sym (walk-grown arcs all r (grown-joined arcs after all (taken-grows Is piece arcs r after (Earlier h e)) grows) h.known))
    h.is
taken-walk Is piece arcs r after all itself (Next none is e) grows =
    let count = ap length e ∙ length-append arcs (piece ∷ []) in
    let number = ap arc_of is in
    let known : arc_of r < length after = omega arith in
    let last : walk_of after r ≡ piece = ap (walk_of after) is ∙ ap (λ xs. get_or xs (length arcs) []) e
    ∙ get_or_push arcs piece [] (length arcs) refl in
    subst Is (sym (walk-grown after all r grows known ∙ last)) itself

-- ---- one ring

end-push : (v : Place) (ws : List Place) (z : Place) → end_of v (ws ++ z ∷ []) ≡ z
end-push v [] z = refl
end-push v (w ∷ ws) z = end-push w ws z

pieces-grow : (Junction : Place → Type 0) (v : Place) (ws : List Place) (arcs : List (List Place)) (refs : List ℤ) (after :
    List (List Place)) → AreTaken IsPieceTaken Junction v ws arcs refs after → Grows arcs after
pieces-grow Junction v ws arcs [] after h = subst (Grows arcs) (sym h.1) (grown-same arcs)
pieces-grow Junction v ws arcs (r ∷ rs) after h =
    let b = h.0 in
    grown-joined arcs b.after after (taken-grows (λ ps. ps ≡ v ∷ (b.inner ++ b.last ∷ [])) (v ∷ (b.inner ++ b.last ∷ [])) arcs r b.after
    b.taken) (pieces-grow Junction b.last b.rest b.after rs after h.1)

pieces-lead : (Junction : Place → Type 0) (v : Place) (ws : List Place) (arcs : List (List Place)) (refs : List ℤ) (after all :
    List (List Place)) → AreTaken IsPieceTaken Junction v ws arcs refs after → Grows after all → Leads all v refs ws
pieces-lead Junction v ws arcs [] after all h grows = h.0
pieces-lead Junction v ws arcs (r ∷ rs) after all h grows =
    let b = h.0 in
    let here = b.inner ++ b.last ∷ [] in
    let on = grown-joined b.after after all (pieces-grow Junction b.last b.rest b.after rs after h.1) grows in (
      here,
      b.rest,
      b.along ∙ sym (append_assoc b.inner (b.last ∷ []) b.rest),
      taken-walk (λ ps. ps ≡ v ∷ here) (v ∷ here) arcs r b.after all refl b.taken on,
      subst (λ z. Leads all z rs b.rest) (sym (end-push v b.inner b.last))
          (pieces-lead Junction b.last b.rest b.after rs after all h.1 grows),
    )

-- one walk round the ring
round-together : (all : List (List Place)) (c : List Place) (r : ℤ) (at : ℕ) → 1 < length c → at < length c
    → walk_of all r ≡ closed_from c at → IsPutTogether all c (r ∷ [])
round-together all c r at long inside is =
    let v = get_or c at nowhere in
    let ws = drop (at + 1) c ++ (take at c ++ v ∷ []) in
    let whole : closed_from c at ≡ v ∷ ws = closed_is c at nowhere inside in
    Round at v ws long inside whole (ws, [], sym (append-nil ws), is ∙ whole, refl)

ring-grows : (Junction : Place → Type 0) (c : List Place) (arcs : List (List Place)) (refs : List ℤ) (after : List (List Place))
    → IsRingBuilt IsPieceTaken IsRingTaken Junction c arcs refs after → Grows arcs after
ring-grows Junction c arcs refs after (OnePosition p is e f) = record { more = (p ∷ []) ∷ []; is = f }
ring-grows Junction c arcs refs after (Free r long off e taken) = taken-grows (IsRound c) (closed_from c 0) arcs r after taken
ring-grows Junction c arcs refs after (Cut at v ws long inside off is marked taken) = pieces-grow Junction v ws arcs refs after taken

ring-together : (Junction : Place → Type 0) (c : List Place) (arcs : List (List Place)) (refs : List ℤ) (after all : List (List Place))
    → IsRingBuilt IsPieceTaken IsRingTaken Junction c arcs refs after → Grows after all → IsPutTogether all c refs
ring-together Junction c arcs refs after all (OnePosition p is e f) grows =
    let count = ap length f ∙ length-append arcs ((p ∷ []) ∷ []) in
    let known : length arcs < length after = omega arith in
    let last : get_or after (length arcs) [] ≡ p ∷ [] = ap (λ xs. get_or xs (length arcs) []) f
    ∙ get_or_push arcs (p ∷ []) [] (length arcs) refl in
    Single p (pos (length arcs)) is e (walk-grown after all (pos (length arcs)) grows known ∙ last)
ring-together Junction c arcs refs after all (Free r long off e taken) grows =
    let walk = taken-walk (IsRound c) (closed_from c 0) arcs r after all (0, omega arith, refl) taken grows in
    subst (IsPutTogether all c) (sym e) (round-together all c r walk.0 long walk.1 walk.2)
ring-together Junction c arcs refs after all (Cut at v ws long inside off is marked taken) grows =
    Round at v ws long inside is (pieces-lead Junction v ws arcs refs after all taken grows)

-- ---- all rings

rings-grow : (Junction : Place → Type 0) (cs arcs : List (List Place)) (refs : List (List ℤ)) (after : List (List Place))
    → AreRingsBuilt IsPieceTaken IsRingTaken Junction cs arcs refs after → Grows arcs after
rings-grow Junction [] arcs [] after h = subst (Grows arcs) (sym h) (grown-same arcs)
rings-grow Junction [] arcs (rs ∷ refs) after h = absurd h
rings-grow Junction (c ∷ cs) arcs [] after h = absurd h
rings-grow Junction (c ∷ cs) arcs (rs ∷ refs) after h = grown-joined arcs h.0 after (ring-grows Junction c arcs rs h.0 h.1)
    (rings-grow Junction cs h.0 refs after h.2)

rings-joined : (Junction : Place → Type 0) (cs arcs : List (List Place)) (refs : List (List ℤ)) (after all : List (List Place))
    → AreRingsBuilt IsPieceTaken IsRingTaken Junction cs arcs refs after → Grows after all → AllZip (IsPutTogether all) cs refs
rings-joined Junction [] arcs [] after all h grows = tt
rings-joined Junction [] arcs (rs ∷ refs) after all h grows = absurd h
rings-joined Junction (c ∷ cs) arcs [] after all h grows = absurd h
rings-joined Junction (c ∷ cs) arcs (rs ∷ refs) after all h grows = (
  ring-together Junction c arcs rs h.0 all h.1 (grown-joined h.0 after all (rings-grow Junction cs h.0 refs after h.2) grows),
  rings-joined Junction cs h.0 refs after all h.2 grows,
)

-- the references of each ring are the ring
pub rings-together : (Junction : Place → Type 0) (cs : List (List Place)) (refs : List (List ℤ)) (after : List (List Place))
    → AreRingsBuilt IsPieceTaken IsRingTaken Junction cs [] refs after → AllZip (IsPutTogether after) cs refs
rings-together Junction cs refs after h = rings-joined Junction cs [] refs after after h (grown-same after)
