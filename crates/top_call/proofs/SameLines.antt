-- A map and the outcome of a run over it have the same lines of `faces`.
use Rattle.std.specs.Prelude.{codes, Contains}
use Rattle.std.specs.Fmt.{decimal, signed_decimal}
use Rattle.std.specs.List.{flat_map, range_with_len}
use Rattle.std.proofs.Common.{◌≡◌, ◌∙◌, ℕ, zero, suc, ◌+◌, ◌<◌, ◌≤◌, List, ◌++◌, filter, length, get_or, ap, refl, sym, arith}
use Rattle.std.proofs.lemmas.List.Elements.{filter_agree, Contains-get_or}
use Rattle.grid_exact.specs.Geometry.{Place}
use Rattle.arc_map.specs.Map.{Map}
use Rattle.arc_map.specs.Arcs.{is_inside}
use Rattle.arc_map.specs.Arranged.{nowhere}
use Rattle.face_parity.specs.Lines.{faces_of, numbers_text, line_of}
use Rattle.chain_replace.proofs.Replacing.{outcome_keeps_faces}
use Rattle.chain_replace.proofs.ThinnedArcs.{outcome_thins_arcs}
use Rattle.top_call.specs.Answers.{faces_text}
use Rattle.top_call.specs.Laws.{OutcomeKeepsLines}

-- ---- one line

-- the line of a point with this number and place, in these polygons
abbrev line_with : ℕ → Place → List ℕ → List ℕ
line_with k p faces =
    codes "point " ++ decimal k ++ codes " " ++ signed_decimal p.x ++ codes " " ++ signed_decimal p.y ++ codes " in" ++ numbers_text faces
    ++ codes "\n"

line_is : (m : Map) (k : ℕ) → line_of m k ≡ line_with k (get_or m.points k nowhere) (faces_of m (get_or m.points k nowhere))
unfolding line_of
line_is m k = refl

-- a place that is in the same polygons of two maps has the same list of them
faces_stay : (m n : Map) (p : Place) → n.polygons ≡ m.polygons → ((polygon : ℕ) → is_inside p n polygon ≡ is_inside p m polygon)
    → faces_of n p ≡ faces_of m p
faces_stay m n p polygons inside =
    ap (λ (pss : List (List ℕ)). filter (is_inside p n) (range_with_len 0 (length pss))) polygons
    ∙ filter_agree (is_inside p n) (is_inside p m) inside (range_with_len 0 (length m.polygons))

line_stays : (m n : Map) (k : ℕ) → n.points ≡ m.points → n.polygons ≡ m.polygons
    → ((polygon : ℕ) → is_inside (get_or m.points k nowhere) n polygon ≡ is_inside (get_or m.points k nowhere) m polygon)
    → line_of n k ≡ line_of m k
line_stays m n k points polygons inside =
    line_is n k
    ∙ ap (λ (ps : List Place). line_with k (get_or ps k nowhere) (faces_of n (get_or ps k nowhere))) points
    ∙ ap (λ (faces : List ℕ). line_with k (get_or m.points k nowhere) faces) (faces_stay m n (get_or m.points k nowhere) polygons inside)
    ∙ sym (line_is m k)

-- ---- all lines

lines_agree : (f g : ℕ → List ℕ) (k n : ℕ) → ((j : ℕ) → k ≤ j → j < k + n → f j ≡ g j)
    → flat_map f (range_with_len k n) ≡ flat_map g (range_with_len k n)
lines_agree f g k zero same = refl
lines_agree f g k (suc n) same =
    ap (λ (xs : List ℕ). xs ++ flat_map f (range_with_len (k + 1) n)) (same k (omega arith) (omega arith))
    ∙ ap (λ (xs : List ℕ). g k ++ xs) (lines_agree f g (k + 1) n (λ j low high. same j (omega (arith, low)) (omega (arith, high))))

lines_stay : (m n : Map) → n.points ≡ m.points → n.polygons ≡ m.polygons
    → ((p : Place) (polygon : ℕ) → Contains m.points p → is_inside p n polygon ≡ is_inside p m polygon) → faces_text n ≡ faces_text m
lines_stay m n points polygons inside =
    ap (λ (ps : List Place). flat_map (line_of n) (range_with_len 0 (length ps))) points
    ∙ lines_agree (line_of n) (line_of m) 0 (length m.points) (λ k low high.
    line_stays m n k points polygons (λ polygon. inside (get_or m.points k nowhere) polygon
    (Contains-get_or m.points k nowhere (omega (arith, high)))))

pub outcome_keeps_lines : OutcomeKeepsLines
outcome_keeps_lines m t after records was is =
    let thins = outcome_thins_arcs m t after records is in
    lines_stay m after thins.points thins.polygons (outcome_keeps_faces m t after records was is).inside
