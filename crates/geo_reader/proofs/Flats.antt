-- Rings that lie one behind the other in one list: those that were there stay where one is added.
use Rattle.std.proofs.Common.{◌≡◌, ◌∙◌, ℕ, ◌+◌, ◌*◌, ◌-◌, ◌≤◌, ◌^◌, List, [], ◌∷◌, ◌++◌, All, length, sum_by, take, drop, ap, sym, subst}
use Rattle.std.proofs.Common.{refl, arith, length-drop}
use Rattle.std.proofs.lemmas.List.{take-append-le, drop-append-le, take_all, map-append, length-append, length-map}
use Rattle.std.proofs.lemmas.List.Elements.{All-nil, All-cons, All-head, All-tail, All-push}
use Rattle.std.proofs.lemmas.List.Sums.{sum_by-cons, sum_by_push}
use Rattle.std.proofs.Math.Seq.{drop-append_seam}
use Rattle.grid_exact.specs.Geometry.{Place}
use Rattle.geo_reader.specs.declared.rings.Part.{Part}
use Rattle.geo_reader.specs.Geo.{IsRing}
use Rattle.geo_reader.specs.Flat.{ring_at, rings_of, LiesIn, AreFlat}

-- a part of the list stays where more is added at its end
ring_at-append : (positions more : List Place) (part : Part) → LiesIn positions part
    → ring_at (positions ++ more) part ≡ ring_at positions part
ring_at-append positions more part lies =
    ap (take (part.end - part.start)) (drop-append-le part.start positions more (omega (arith, lies.order, lies.within)))
    ∙ take-append-le (part.end - part.start) (drop part.start positions) more
    (omega (arith, lies.order, lies.within, length-drop part.start positions))

rings-stay : (positions more : List Place) (parts : List Part) → All (LiesIn positions) parts
    → rings_of (positions ++ more) parts ≡ rings_of positions parts
rings-stay positions more [] all = refl
rings-stay positions more (part ∷ parts) all =
    let first = ring_at-append positions more part (All-head (LiesIn positions) part parts all) in
    let rest = rings-stay positions more parts (All-tail (LiesIn positions) part parts all) in
    cc

-- what was added is the part behind the list
ring_at-added : (positions ring : List Place) (part : Part) → part.start ≡ length positions → part.end ≡ length positions + length ring
    → ring_at (positions ++ ring) part ≡ ring
ring_at-added positions ring part s e =
    ap (λ (n : ℕ). take (part.end - n) (drop n (positions ++ ring))) s
    ∙ ap (take (part.end - length positions)) (drop-append_seam positions ring) ∙ take_all _ ring (omega (arith, e))

-- the rings with one more at the end
rings-pushed : (positions ring : List Place) (parts : List Part) (part : Part) → All (LiesIn positions) parts
    → part.start ≡ length positions → part.end ≡ length positions + length ring
    → rings_of (positions ++ ring) (parts ++ part ∷ []) ≡ rings_of positions parts ++ ring ∷ []
rings-pushed positions ring parts part all s e =
    let split = map-append (ring_at (positions ++ ring)) parts (part ∷ []) in
    let before = rings-stay positions ring parts all in
    let added = ring_at-added positions ring part s e in
    cc

lies-on : (positions more : List Place) (part : Part) → LiesIn positions part → LiesIn (positions ++ more) part
lies-on positions more part lies =
    record { order = lies.order; within = omega (arith, lies.within, length-append positions more) }

lie-on : (positions more : List Place) (parts : List Part) → All (LiesIn positions) parts → All (LiesIn (positions ++ more)) parts
lie-on positions more [] all = All-nil (LiesIn (positions ++ more))
lie-on positions more (part ∷ parts) all =
    All-cons (LiesIn (positions ++ more)) part parts (lies-on positions more part (All-head (LiesIn positions) part parts all))
    (lie-on positions more parts (All-tail (LiesIn positions) part parts all))

-- rings have four positions or more
pub few-rings : (rings : List (List Place)) → All IsRing rings → 4 * length rings ≤ sum_by length rings
few-rings [] all = omega arith
few-rings (ring ∷ rings) all =
    omega (
      arith,
      (All-head IsRing ring rings all).long,
      few-rings rings (All-tail IsRing ring rings all),
      sum_by-cons length ring rings,
    )

-- so many rings are less than a limit of positions
pub count-few : (positions : List Place) (parts : List Part) → AreFlat positions parts → length parts ≤ 2 ^ 17
count-few positions parts are =
    omega (arith, few-rings (rings_of positions parts) are.rings, length-map parts (ring_at positions), are.whole, are.few)

-- a ring is added at the end
pub flat-pushed : (positions ring now : List Place) (parts later : List Part) (part : Part) → AreFlat positions parts → IsRing ring
    → sum_by length (rings_of positions parts) + length ring ≤ 2 ^ 19 → now ≡ positions ++ ring → part.start ≡ length positions
    → part.end ≡ length now → later ≡ parts ++ part ∷ [] → AreFlat now later × (rings_of now later ≡ rings_of positions parts ++ ring ∷ [])
flat-pushed positions ring now parts later part are is few n s e l =
    let long : length (positions ++ ring) ≡ length positions + length ring = length-append positions ring in
    let end : part.end ≡ length positions + length ring = omega (arith, e, ap length n, long) in
    let rings = rings-pushed positions ring parts part are.parts_lie s end in
    let flat : AreFlat (positions ++ ring) (parts ++ part ∷ []) = record {
      rings = subst (All IsRing) (sym rings) (All-push IsRing (rings_of positions parts) ring are.rings is);
      parts_lie = All-push (LiesIn (positions ++ ring)) parts part (lie-on positions ring parts are.parts_lie)
          (record { order = omega (arith, s, end); within = omega (arith, end, long) });
      whole = omega (arith, long, are.whole, sum_by_push length (rings_of positions parts) ring, ap (sum_by length) rings);
      few = omega (arith, long, are.whole, few);
    } in
    rw (n, l) (flat, rings)
