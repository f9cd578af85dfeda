-- The text with the arcs of the outcome of a run is at most 2^27 bytes.
use Rattle.std.specs.Prelude.{codes}
use Rattle.std.specs.Fmt.{signed_decimal}
use Rattle.std.proofs.Common.{◌≡◌, ℕ, suc, ◌+◌, ◌*◌, ◌≤◌, ◌^◌, Bool, true, false, List, [], ◌∷◌, ◌++◌, All, map, length, take, drop, sum_by}
use Rattle.std.proofs.Common.{refl, ap, arith, length-drop}
use Rattle.std.proofs.lemmas.Int.{ints}
use Rattle.std.proofs.lemmas.List.{length-append, length-take-le}
use Rattle.std.proofs.lemmas.List.Elements.{All-nil, All-cons, All-head, All-tail}
use Rattle.std.proofs.lemmas.List.Sums.{sum_by-cons}
use Rattle.grid_exact.specs.Geometry.{Place, IsOnGrid}
use Rattle.arc_map.specs.Map.{Map, IsArc}
use Rattle.arc_map.proofs.Finishing.{has_position}
use Rattle.topo_writer.specs.Texts.{behind_commas, list_text, position_text, IsDifference}
use Rattle.topo_writer.specs.ArcsText.{difference, differences, coded_positions, arc_text, arcs_text_of}
use Rattle.topo_writer.specs.Splice.{spliced}
use Rattle.topo_writer.proofs.Lengths.{short_difference}

-- ---- positions

-- the coordinates are those of a place of the grid, or of the way between two of them
record IsShort (p : Place) : Type 0 where
  across : IsDifference p.x
  up : IsDifference p.y

place_is_short : (p : Place) → IsOnGrid p → IsShort p
place_is_short p on = record {
  across = record { low = omega (arith, ints, on.across.low); high = omega (arith, ints, on.across.high) };
  up = record { low = omega (arith, ints, on.up.low); high = omega (arith, ints, on.up.high) };
}

way_is_short : (p q : Place) → IsOnGrid p → IsOnGrid q → IsShort (difference p q)
way_is_short p q from to = record {
  across =
      record { low = omega (arith, ints, from.across.high, to.across.low); high = omega (arith, ints, from.across.low, to.across.high) };
  up = record { low = omega (arith, ints, from.up.high, to.up.low); high = omega (arith, ints, from.up.low, to.up.high) };
}

position_fits : (p : Place) → IsShort p → length (position_text p) ≤ 25
position_fits p is =
    omega (
      arith,
      short_difference p.x is.across,
      short_difference p.y is.up,
      length-append (codes "[") (signed_decimal p.x),
      length-append (codes "[" ++ signed_decimal p.x) (codes ","),
      length-append (codes "[" ++ signed_decimal p.x ++ codes ",") (signed_decimal p.y),
      length-append (codes "[" ++ signed_decimal p.x ++ codes "," ++ signed_decimal p.y) (codes "]"),
    )

-- ---- arcs

further_positions : (ps : List Place) → All IsShort ps → length (behind_commas (map position_text ps)) ≤ 26 * length ps
further_positions [] are = omega arith
further_positions (p ∷ ps) are =
    omega (
      arith,
      position_fits p (All-head IsShort p ps are),
      further_positions ps (All-tail IsShort p ps are),
      length-append (codes "," ++ position_text p) (behind_commas (map position_text ps)),
      length-append (codes ",") (position_text p),
    )

differences_are_short : (p : Place) (qs : List Place) → IsOnGrid p → All IsOnGrid qs → All IsShort (differences p qs)
differences_are_short p [] from on = All-nil IsShort
differences_are_short p (q ∷ qs) from on =
    let here = All-head IsOnGrid q qs on in
    All-cons IsShort (difference p q) (differences q qs) (way_is_short p q from here)
    (differences_are_short q qs here (All-tail IsOnGrid q qs on))

coded_are_short : (coded : Bool) (p : Place) (qs : List Place) → IsOnGrid p → All IsOnGrid qs → All IsShort (coded_positions coded p qs)
coded_are_short true p qs from on = differences_are_short p qs from on
coded_are_short false p qs from on = λ k d within. place_is_short _ (on k d within)

differences_count : (p : Place) (qs : List Place) → length (differences p qs) ≡ length qs
differences_count p [] = refl
differences_count p (q ∷ qs) = ap suc (differences_count q qs)

coded_count : (coded : Bool) (p : Place) (qs : List Place) → length (coded_positions coded p qs) ≡ length qs
coded_count true p qs = differences_count p qs
coded_count false p qs = refl

list_is : (t : List ℕ) (ts : List (List ℕ)) → length (list_text (t ∷ ts)) ≡ 1 + length (behind_commas (t ∷ ts))
list_is t ts =
    omega (
      arith,
      length-append (codes "[" ++ t ++ behind_commas ts) (codes "]"),
      length-append (codes "[" ++ t) (behind_commas ts),
      length-append (codes "[") t,
      length-append (codes "," ++ t) (behind_commas ts),
      length-append (codes ",") t,
    )

list_fits : (ts : List (List ℕ)) → length (list_text ts) ≤ 2 + length (behind_commas ts)
list_fits [] = omega arith
list_fits (t ∷ ts) = omega (arith, list_is t ts)

-- an arc of one position is written with it twice
arc_with : (coded : Bool) (p : Place) (qs : List Place) → IsOnGrid p → All IsOnGrid qs
    → length (list_text (map position_text (p ∷ coded_positions coded p qs))) ≤ 27 + 26 * length qs
arc_with coded p qs from on =
    let all = All-cons IsShort p (coded_positions coded p qs) (place_is_short p from) (coded_are_short coded p qs from on) in
    omega (
      arith,
      further_positions (p ∷ coded_positions coded p qs) all,
      coded_count coded p qs,
      list_is (position_text p)
          (map position_text (coded_positions coded p qs)),
    )

arc_fits : (coded : Bool) (ps : List Place) → IsArc ps → All IsOnGrid ps → length (arc_text coded ps) ≤ 53 * length ps
arc_fits coded [] is on = absurd is
arc_fits coded (p ∷ []) is on = omega (arith, arc_with coded p (p ∷ []) (All-head IsOnGrid p [] on) on)
arc_fits coded (p ∷ q ∷ ps) is on =
    omega (arith, arc_with coded p (q ∷ ps) (All-head IsOnGrid p (q ∷ ps) on) (All-tail IsOnGrid p (q ∷ ps) on))

further_arcs : (coded : Bool) (arcs : List (List Place)) → All IsArc arcs → All (All IsOnGrid) arcs
    → length (behind_commas (map (arc_text coded) arcs)) ≤ 54 * sum_by length arcs
further_arcs coded [] are on = omega arith
further_arcs coded (ps ∷ arcs) are on =
    omega (
      arith,
      arc_fits coded ps (All-head IsArc ps arcs are) (All-head (All IsOnGrid) ps arcs on),
      has_position ps (All-head IsArc ps arcs are),
      further_arcs coded arcs (All-tail IsArc ps arcs are) (All-tail (All IsOnGrid) ps arcs on),
      sum_by-cons length ps arcs,
      length-append (codes "," ++ arc_text coded ps) (behind_commas (map (arc_text coded) arcs)),
      length-append (codes ",") (arc_text coded ps),
    )

pub arcs_text_fits : (m : Map) → All IsArc m.arcs → All (All IsOnGrid) m.arcs → sum_by length m.arcs ≤ 2 ^ 20
    → length (arcs_text_of m) ≤ 2 ^ 26
arcs_text_fits m are on few = omega (arith, few, list_fits (map (arc_text m.coded) m.arcs), further_arcs m.coded m.arcs are on)

-- ---- a text with other arcs

pub spliced_fits : (text part : List ℕ) (start end : ℕ) → start ≤ end → end ≤ length text
    → length (spliced text start end part) ≤ length text + length part
spliced_fits text part start end forwards within =
    omega (
      arith,
      forwards,
      within,
      length-append (take start text ++ part) (drop end text),
      length-append (take start text) part,
      length-take-le start text (omega (arith, forwards, within)),
      length-drop end text,
    )
