-- Views of the plane: with its axes exchanged, turned half round, and one after another.
--
-- A run that is strictly monotone in a frame increases, in the order that compares x, then y, in one of four views: the
-- plane as it is, negated, turned, or both. So a lemma is proved once, for increasing runs, and carried over by a view.
use Rattle.std.proofs.Common.{◌≡◌, Bool, true, false, List, [], ◌∷◌, ◌++◌, map, ℤ, pos, negsuc, ◌+ℤ◌, ◌-ℤ◌, ◌*ℤ◌, int_lt, refl, sym, ap}
use Rattle.std.proofs.Common.{◌∙◌, arith}
use Rattle.grid_exact.specs.Geometry.{Place, area_of, turned, IsBefore, IsOnSegment, CommonPoint}
use Rattle.grid_exact.specs.Geometry.IsBefore.{Left, Below}
use Rattle.grid_exact.specs.Segments.{IsOffSegment, IsApart}
use Rattle.grid_exact.proofs.WholeLaws.{sums}
use Rattle.grid_exact.proofs.Polynomial.{Whole, ◌⊕◌, ◌⊖◌, ◌⊗◌, ◌≈◌, ◌times◌, Variable, by_multiples}
use Rattle.grid_exact.specs.Crossing.{is_before, is_crossed, is_crossed_sideways}
use Rattle.grid_exact.specs.Walks.{EachEdge, end_of, count_edges, is_odd, differ, IsOff}
use Rattle.grid_exact.specs.Views.{SeenCommon, IsView, same_view, negated}
use Rattle.grid_exact.proofs.Commons.{same_place, on_turned, start_on, end_is_on, common_at_start, common_swapped, second_turned}
use Rattle.grid_exact.proofs.Areas.{area_of-negated}
use Rattle.grid_exact.proofs.Orders.{before_yes, before_no, one_side, opposite_sides, on_by_order, Before, Same, After, compared, up_to}
use Rattle.grid_exact.proofs.Crossings.{differ_turned, crossed_turned, sideways_is_turned, crossed_between, crossed_before, crossed_after}
use Rattle.grid_exact.proofs.Walks.{is_odd-counted, each_edge_mapped, counted_alike, closed_walk}

pub counted_mapped : (f g : Place → Place → Bool) (view : Place → Place) → ((a b : Place) → f a b ≡ g (view a) (view b))
    → (v : Place) (ws : List Place) → is_odd (count_edges f v ws) ≡ is_odd (count_edges g (view v) (map view ws))
counted_mapped f g view same v [] = refl
counted_mapped f g view same v (w ∷ ws) =
    is_odd-counted f v w ws
    ∙ ap (λ (t : Bool). differ t (is_odd (count_edges f w ws))) (same v w)
    ∙ ap (λ (t : Bool). differ (g (view v) (view w)) t) (counted_mapped f g view same w ws)
    ∙ sym (is_odd-counted g (view v) (view w) (map view ws))

-- ---- the axes exchanged

abbrev pub common_turned : (a b c d : Place) → CommonPoint a b c d → CommonPoint (turned a) (turned b) (turned c) (turned d)
common_turned a b c d h =
    record {
      denominator = h.denominator;
      first = h.first;
      second = h.second;
      whole = h.whole;
      first_low = h.first_low;
      first_high =
          h.first_high;
      second_low = h.second_low;
      second_high = h.second_high;
      across = h.up;
      up = h.across;
    }

pub common_turned_back : (a b c d : Place) → CommonPoint (turned a) (turned b) (turned c) (turned d) → CommonPoint a b c d
common_turned_back a b c d h =
    record {
      denominator = h.denominator;
      first = h.first;
      second = h.second;
      whole = h.whole;
      first_low = h.first_low;
      first_high =
          h.first_high;
      second_low = h.second_low;
      second_high = h.second_high;
      across = h.up;
      up = h.across;
    }

on_turned_back : (a b p : Place) → IsOnSegment (turned a) (turned b) (turned p) → IsOnSegment a b p
on_turned_back a b p h = record {
  denominator = h.denominator;
  numerator = h.numerator;
  whole = h.whole;
  from_start = h.from_start;
  to_end =
      h.to_end;
  across = h.up;
  up = h.across;
}

pub turned_view : IsView turned
turned_view =
    record {
      one_to_one = λ a b e. same_place a b (ap (λ (v : Place). v.y) e) (ap (λ (v : Place). v.x) e);
      common = λ a b c d h. record { point = common_turned a b c d h; denominator = refl; first = refl; second = refl };
      common_back = common_turned_back;
      on_back = on_turned_back;
      parity = λ p v ws off closed. closed_walk p v ws off closed
          ∙ counted_mapped (is_crossed_sideways p) (is_crossed (turned p)) turned (sideways_is_turned p) v ws;
    }

-- ---- turned half round

pub negated_before : (a b : Place) → IsBefore a b → IsBefore (negated b) (negated a)
negated_before a b (Left h) = Left (omega (arith, sums))
negated_before a b (Below e h) = Below (omega (arith, sums)) (omega (arith, sums))

pub minus_way : (n s t a b c d : ℤ) → n *ℤ a +ℤ s *ℤ (b -ℤ a) ≡ n *ℤ c +ℤ t *ℤ (d -ℤ c)
    → n *ℤ (pos 0 -ℤ a) +ℤ s *ℤ ((pos 0 -ℤ b) -ℤ (pos 0 -ℤ a)) ≡ n *ℤ (pos 0 -ℤ c) +ℤ t *ℤ ((pos 0 -ℤ d) -ℤ (pos 0 -ℤ c))
minus_way n s t a b c d e =
    let x = Variable in
    let z = Whole (pos 0) in
    by_multiples (n ∷ s ∷ t ∷ a ∷ b ∷ c ∷ d ∷ []) (x 0 ⊗ (z ⊖ x 3) ⊕ x 1 ⊗ ((z ⊖ x 4) ⊖ (z ⊖ x 3)) ≈ x 0 ⊗ (z ⊖ x 5) ⊕ x 2
    ⊗ ((z ⊖ x 6) ⊖ (z ⊖ x 5))) ((Whole (negsuc 0) times (x 0 ⊗ x 3 ⊕ x 1 ⊗ (x 4 ⊖ x 3) ≈ x 0 ⊗ x 5 ⊕ x 2 ⊗ (x 6 ⊖ x 5))) ∷ []) (e, tt)
    refl

plus_way : (n s t a b c d : ℤ) → n *ℤ (pos 0 -ℤ a) +ℤ s *ℤ ((pos 0 -ℤ b) -ℤ (pos 0 -ℤ a))
    ≡ n *ℤ (pos 0 -ℤ c) +ℤ t *ℤ ((pos 0 -ℤ d) -ℤ (pos 0 -ℤ c)) → n *ℤ a +ℤ s *ℤ (b -ℤ a) ≡ n *ℤ c +ℤ t *ℤ (d -ℤ c)
plus_way n s t a b c d e =
    let x = Variable in
    let z = Whole (pos 0) in
    by_multiples (n ∷ s ∷ t ∷ a ∷ b ∷ c ∷ d ∷ []) (x 0 ⊗ x 3 ⊕ x 1 ⊗ (x 4 ⊖ x 3) ≈ x 0 ⊗ x 5 ⊕ x 2 ⊗ (x 6 ⊖ x 5))
    ((Whole (negsuc 0) times (x 0 ⊗ (z ⊖ x 3) ⊕ x 1 ⊗ ((z ⊖ x 4) ⊖ (z ⊖ x 3)) ≈ x 0 ⊗ (z ⊖ x 5) ⊕ x 2 ⊗ ((z ⊖ x 6) ⊖ (z ⊖ x 5)))) ∷ [])
    (e, tt) refl

plus_place : (n s a b v : ℤ) → n *ℤ (pos 0 -ℤ v) ≡ n *ℤ (pos 0 -ℤ a) +ℤ s *ℤ ((pos 0 -ℤ b) -ℤ (pos 0 -ℤ a))
    → n *ℤ v ≡ n *ℤ a +ℤ s *ℤ (b -ℤ a)
plus_place n s a b v e =
    let x = Variable in
    let z = Whole (pos 0) in
    by_multiples (n ∷ s ∷ a ∷ b ∷ v ∷ []) (x 0 ⊗ x 4 ≈ x 0 ⊗ x 2 ⊕ x 1 ⊗ (x 3 ⊖ x 2))
    ((Whole (negsuc 0) times (x 0 ⊗ (z ⊖ x 4) ≈ x 0 ⊗ (z ⊖ x 2) ⊕ x 1 ⊗ ((z ⊖ x 3) ⊖ (z ⊖ x 2)))) ∷ []) (e, tt) refl

abbrev pub common_negated : (a b c d : Place) → CommonPoint a b c d → CommonPoint (negated a) (negated b) (negated c) (negated d)
common_negated a b c d h =
    record {
      denominator = h.denominator;
      first = h.first;
      second = h.second;
      whole = h.whole;
      first_low = h.first_low;
      first_high =
          h.first_high;
      second_low = h.second_low;
      second_high = h.second_high;
      across =
          minus_way h.denominator h.first h.second a.x b.x c.x d.x h.across;
      up =
          minus_way h.denominator h.first h.second a.y b.y c.y d.y h.up;
    }

common_negated_back : (a b c d : Place) → CommonPoint (negated a) (negated b) (negated c) (negated d) → CommonPoint a b c d
common_negated_back a b c d h =
    record {
      denominator = h.denominator;
      first = h.first;
      second = h.second;
      whole = h.whole;
      first_low = h.first_low;
      first_high =
          h.first_high;
      second_low = h.second_low;
      second_high = h.second_high;
      across =
          plus_way h.denominator h.first h.second a.x b.x c.x d.x h.across;
      up =
          plus_way h.denominator h.first h.second a.y b.y c.y d.y h.up;
    }

on_negated_back : (a b p : Place) → IsOnSegment (negated a) (negated b) (negated p) → IsOnSegment a b p
on_negated_back a b p h = record {
  denominator = h.denominator;
  numerator = h.numerator;
  whole = h.whole;
  from_start =
      h.from_start;
  to_end = h.to_end;
  across = plus_place h.denominator h.numerator a.x b.x p.x h.across;
  up =
      plus_place h.denominator h.numerator a.y b.y p.y h.up;
}

-- the bits of an edge: crossed, crossed in the view turned half round, and each end past p
abbrev half_bits : Place → Place → Place → Bool
half_bits p a b = differ (differ (is_crossed p a b) (is_crossed (negated p) (negated a) (negated b)))
    (differ (is_before p a) (is_before p b))

half_bits_turned : (p a b : Place) → half_bits p b a ≡ false → half_bits p a b ≡ false
half_bits_turned p a b e =
    ap (λ (t : Bool). differ (differ t (is_crossed (negated p) (negated a) (negated b))) (differ (is_before p a) (is_before p b)))
    (crossed_turned p a b)
    ∙ ap (λ (t : Bool). differ (differ (is_crossed p b a) t) (differ (is_before p a) (is_before p b)))
    (crossed_turned (negated p) (negated a) (negated b))
    ∙ ap (λ (t : Bool). differ (differ (is_crossed p b a) (is_crossed (negated p) (negated b) (negated a))) t)
    (differ_turned (is_before p a) (is_before p b))
    ∙ e

-- p is past a and before b
half_bits_between : (p a b : Place) → ¬ (IsOnSegment a b p) → IsBefore a p → IsBefore p b → half_bits p a b ≡ false
half_bits_between p a b off ap' pb =
    let first : is_crossed p a b ≡ int_lt (area_of a b p) (pos 0) = crossed_between p a b ap' pb in
    let second : is_crossed (negated p) (negated a) (negated b) ≡ int_lt (pos 0) (area_of a b p) =
    crossed_turned (negated p) (negated a) (negated b)
    ∙ crossed_between (negated p) (negated b) (negated a) (negated_before p b pb) (negated_before a p ap')
    ∙ opposite_sides (area_of (negated b) (negated a) (negated p)) (area_of a b p) (area_of-negated a b p) in
    let one : differ (int_lt (area_of a b p) (pos 0)) (int_lt (pos 0) (area_of a b p)) ≡ true =
    one_side (area_of a b p) (λ flat. off (on_by_order a b p (up_to a p ap') (up_to p b pb) flat)) in
    rw (first, second, one, before_no p a ap', before_yes p b pb) refl

edge_half_bits : (p a b : Place) → ¬ (IsOnSegment a b p) → half_bits p a b ≡ false
edge_half_bits p a b off =
    elim (compared p a) [
      | Same e ↦ absurd (off (start_on a b p e))
      | Before h ↦
          elim (compared p b) [
            | Same e ↦ absurd (off (end_is_on a b p e))
            | Before k ↦ rw (
              crossed_before p a b h k,
              crossed_after (negated p) (negated a) (negated b) (negated_before p a h)
                  (negated_before p b k),
              before_yes p a h,
              before_yes p b k,
            ) refl
            | After k ↦ half_bits_turned p a b (half_bits_between p b a (λ on. off (on_turned b a p on)) k h)
          ]
      | After h ↦
          elim (compared p b) [
            | Same e ↦ absurd (off (end_is_on a b p e))
            | Before k ↦ half_bits_between p a b off h k
            | After k ↦ rw (
              crossed_after p a b h k,
              crossed_before (negated p) (negated a) (negated b) (negated_before a p h)
                  (negated_before b p k),
              before_no p a h,
              before_no p b k,
            ) refl
          ]
    ]

same_minus : (a b : ℤ) → pos 0 -ℤ a ≡ pos 0 -ℤ b → a ≡ b
same_minus a b e = omega (arith, sums)

pub negated_view : IsView negated
negated_view =
    record {
      one_to_one = λ a b e. same_place a b (same_minus a.x b.x (ap (λ (v : Place). v.x) e))
          (same_minus a.y b.y (ap (λ (v : Place). v.y) e));
      common = λ a b c d h. record { point = common_negated a b c d h; denominator = refl; first = refl; second = refl };
      common_back = common_negated_back;
      on_back = on_negated_back;
      parity = λ p v ws off closed.
          counted_alike (is_crossed p) (λ a b. is_crossed (negated p) (negated a) (negated b)) (is_before p) v ws
          (each_edge_mapped _ _ (edge_half_bits p) v ws off) closed
          ∙ counted_mapped (λ a b. is_crossed (negated p) (negated a) (negated b)) (is_crossed (negated p)) negated (λ a b. refl) v ws;
    }

-- ---- walks in a view

pub end_of-map : (view : Place → Place) (v : Place) (ws : List Place) → end_of (view v) (map view ws) ≡ view (end_of v ws)
end_of-map view v [] = refl
end_of-map view v (w ∷ ws) = end_of-map view w ws

pub map-pushed : (view : Place → Place) (ws : List Place) (x : Place) → map view (ws ++ x ∷ []) ≡ map view ws ++ view x ∷ []
map-pushed view [] x = refl
map-pushed view (w ∷ ws) x = ap (λ (us : List Place). view w ∷ us) (map-pushed view ws x)

map-map : (f g : Place → Place) (ws : List Place) → map g (map f ws) ≡ map (λ v. g (f v)) ws
map-map f g [] = refl
map-map f g (w ∷ ws) = ap (λ (us : List Place). g (f w) ∷ us) (map-map f g ws)

pub off_in_view : (view : Place → Place) → IsView view → (p v : Place) (ws : List Place) → IsOff p v ws
    → IsOff (view p) (view v) (map view ws)
off_in_view view h p v [] off = tt
off_in_view view h p v (w ∷ ws) off = ((λ on. off.0 (h.on_back v w p on)), off_in_view view h p w ws off.1)

seen_twice : (f g : Place → Place) → IsView f → IsView g → (a b c d : Place) (m : CommonPoint a b c d) → SeenCommon (λ v. g (f v)) a b c d m
seen_twice f g h k a b c d m =
    let once = h.common a b c d m in
    let twice = k.common (f a) (f b) (f c) (f d) once.point in
    record {
      point = twice.point;
      denominator = twice.denominator ∙ once.denominator;
      first = twice.first ∙ once.first;
      second =
          twice.second ∙ once.second;
    }

pub view_of_view : (f g : Place → Place) → IsView f → IsView g → IsView (λ v. g (f v))
view_of_view f g h k =
    record {
      one_to_one = λ a b e. h.one_to_one a b (k.one_to_one (f a) (f b) e);
      common = λ a b c d m. seen_twice f g h k a b c d m;
      common_back = λ a b c d m. h.common_back a b c d (k.common_back (f a) (f b) (f c) (f d) m);
      on_back = λ a b p m. h.on_back a b p (k.on_back (f a) (f b) (f p) m);
      parity = λ p v ws off closed.
          h.parity p v ws off closed
          ∙ k.parity (f p) (f v) (map f ws) (off_in_view f h p v ws off) (end_of-map f v ws ∙ ap f closed)
          ∙ ap (λ (us : List Place). is_odd (count_edges (is_crossed (g (f p))) (g (f v)) us)) (map-map f g ws);
    }

pub apart_in_view : (view : Place → Place) → IsView view → (c d v : Place) (ws : List Place) → EachEdge (IsApart c d) v ws
    → EachEdge (IsApart (view c) (view d)) (view v) (map view ws)
apart_in_view view h c d v [] apart = tt
apart_in_view view h c d v (w ∷ ws) apart = ((λ m. apart.0 (h.common_back v w c d m)), apart_in_view view h c d w ws apart.1)

pub rising_in_view : (view : Place → Place) (v : Place) (ws : List Place) → EachEdge (λ a b. IsBefore (view a) (view b)) v ws
    → EachEdge IsBefore (view v) (map view ws)
rising_in_view view v [] h = tt
rising_in_view view v (w ∷ ws) h = (h.0, rising_in_view view w ws h.1)

-- ---- edges with no common point

pub apart_turned : (c d v : Place) (ws : List Place) → EachEdge (IsApart c d) v ws → EachEdge (IsApart d c) v ws
apart_turned c d v [] h = tt
apart_turned c d v (w ∷ ws) h = (λ k. h.0 (second_turned v w d c k), apart_turned c d w ws h.1)

pub off_by_apart_start : (c d v : Place) (ws : List Place) → EachEdge (IsApart c d) v ws → EachEdge (IsOffSegment c) v ws
off_by_apart_start c d v [] h = tt
off_by_apart_start c d v (w ∷ ws) h = (λ on. h.0 (common_swapped v w c d (common_at_start c d v w on)), off_by_apart_start c d w ws h.1)

-- ---- the plane as it is

pub plain_view : IsView same_view
plain_view =
    record {
      one_to_one = λ a b e. e;
      common = λ a b c d h. record { point = h; denominator = refl; first = refl; second = refl };
      common_back = λ a b c d h. h;
      on_back = λ a b p h. h;
      parity = λ p v ws off closed. counted_mapped (is_crossed p) (is_crossed p) same_view (λ a b. refl) v ws;
    }
