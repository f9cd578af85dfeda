-- The made map is arranged: no two of its edges clash, and no town is on an edge.
use Rattle.std.proofs.Common.{◌≡◌, ◌⊎◌, inl, inr, ◌∙◌, ℕ, ◌+◌, ◌-◌, ◌/◌, ◌%◌, ◌<◌, ◌≤◌, ℤ, pos, ◌+ℤ◌, get_or, sym, ap, subst, arith}
use Rattle.std.proofs.lemmas.Int.{ints}
use Rattle.std.proofs.lemmas.Bool.{cases_lt}
use Rattle.grid_exact.specs.Geometry.{Place, IsOnSegment, CommonPoint}
use Rattle.grid_exact.specs.Clash.{Flags, IsLawful, Clash}
use Rattle.grid_exact.specs.Clash.IsLawful.{Starts, StartAndEnd, EndAndStart, Ends, Next}
use Rattle.grid_exact.proofs.Views.{common_turned}
use Rattle.arc_map.specs.Arranged.{nowhere, edge_start, edge_end, IsEarlier, flags_between, EdgesClash, PointIsOn}
use Rattle.arc_map.specs.declared.refs.EdgeRef.{EdgeRef}
use Rattle.map_gen.specs.Make.{across_count, offset, across_position, up_position}
use Rattle.map_gen.specs.MadeMap.{made_map}
use Rattle.map_gen.specs.Laws.{MadeMapsAreArranged}
use Rattle.map_gen.proofs.Apart.{town_is, MeetNext, in_order, IsSideEnd, crossing, IsTownOver, town_on_across, town_off_up}
use Rattle.map_gen.proofs.Apart.MeetNext.{InSide, AtNode}
use Rattle.map_gen.proofs.Apart.IsSideEnd.{AtFirst, AtLast}
use Rattle.map_gen.proofs.MadeEdges.{IsInside, edge_inside, edge_across, edge_up, number_up, wavy, first_is_end, last_is_end, are_joined}
use Rattle.map_gen.proofs.MadeEdges.{same_arc, before_across, before_up, some_column, town_count, town_found, town_above}

-- edges whose common points are lawful junctions do not clash, also where the places are written in another way
no_clash : (a b c d v w x y : Place) (flags : Flags) → a ≡ v → b ≡ w → c ≡ x → d ≡ y
    → ((h : CommonPoint v w x y) → IsLawful flags h.denominator h.first h.second) → Clash a b c d flags → ⊥
no_clash a b c d v w x y flags at_a at_b at_c at_d lawful clash =
    let first : Clash v b c d flags = subst (λ (p : Place). Clash p b c d flags) at_a clash in
    let second : Clash v w c d flags = subst (λ (p : Place). Clash v p c d flags) at_b first in
    let third : Clash v w x d flags = subst (λ (p : Place). Clash v w p d flags) at_c second in
    let moved : Clash v w x y flags = subst (λ (p : Place). Clash v w x p flags) at_d third in
    moved.unlawful (lawful moved.common)

-- ---- edges that run the same way

lawful_next : (rows cols seed : ℕ) (e f : EdgeRef) (start start2 : ℕ) (d s t : ℤ) → IsInside rows cols e → (start ≡ start2 → e.arc ≡ f.arc)
    → MeetNext start e.at start2 f.at d s t → IsLawful (flags_between (made_map rows cols seed) e f) d s t
lawful_next rows cols seed e f start start2 d s t inside same (InSide h k p q) = Next p q (are_joined e.arc f.arc e.at f.at (same h) k)
lawful_next rows cols seed e f start start2 d s t inside same (AtNode h k p q) =
    EndAndStart p q (last_is_end rows cols seed e.arc e.at inside.arc h) (first_is_end (made_map rows cols seed) f.arc f.at k)

across_lawful : (rows cols seed : ℕ) (e f : EdgeRef) → IsInside rows cols e → IsInside rows cols f → e.arc < across_count rows cols
    → IsEarlier e f
    → (h : CommonPoint (across_position cols seed e.arc e.at) (across_position cols seed e.arc (e.at + 1))
    (across_position cols seed f.arc f.at) (across_position cols seed f.arc (f.at + 1)))
    → IsLawful (flags_between (made_map rows cols seed) e f) h.denominator h.first h.second
across_lawful rows cols seed e f inside inside2 across earlier h =
    let some : 0 < cols = some_column rows cols e.arc across in
    let meet = in_order (e.arc / cols) (e.arc % cols) (offset seed e.arc) e.at (f.arc / cols) (f.arc % cols) (offset seed f.arc) f.at
    (wavy seed e.arc) (wavy seed f.arc) inside.at inside2.at (before_across cols e.arc f.arc e.at f.at some inside.at earlier) h in
    lawful_next rows cols seed e f (e.arc % cols) (f.arc % cols) h.denominator h.first h.second inside
    (same_arc cols e.arc f.arc some meet.same_line) meet.next

-- the numbers among the arcs that run up are in the order of the arcs
earlier_up : (count x y i j : ℕ) → count ≤ x → (x < y) ⊎ ((x ≡ y) × (i < j)) → (x - count < y - count) ⊎ ((x - count ≡ y - count) × (i < j))
earlier_up count x y i j up (inl later) = inl (omega arith)
earlier_up count x y i j up (inr same) = inr (ap (λ (a : ℕ). a - count) same.0, same.1)

same_up : (count x y : ℕ) → count ≤ x → count ≤ y → x - count ≡ y - count → x ≡ y
same_up count x y up up2 e = omega arith

up_lawful : (rows cols seed : ℕ) (e f : EdgeRef) → IsInside rows cols e → IsInside rows cols f → across_count rows cols ≤ e.arc
    → across_count rows cols ≤ f.arc → IsEarlier e f
    → (h : CommonPoint (up_position rows cols seed (number_up rows cols e.arc) e.at)
    (up_position rows cols seed (number_up rows cols e.arc) (e.at + 1)) (up_position rows cols seed (number_up rows cols f.arc) f.at)
    (up_position rows cols seed (number_up rows cols f.arc) (f.at + 1)))
    → IsLawful (flags_between (made_map rows cols seed) e f) h.denominator h.first h.second
up_lawful rows cols seed e f inside inside2 up up2 earlier h =
    let n = number_up rows cols e.arc in
    let n2 = number_up rows cols f.arc in
    let some : 0 < cols + 1 = omega arith in
    let count = across_count rows cols in
    let seen = common_turned (up_position rows cols seed n e.at) (up_position rows cols seed n (e.at + 1))
    (up_position rows cols seed n2 f.at) (up_position rows cols seed n2 (f.at + 1)) h in
    let order = earlier_up count e.arc f.arc e.at f.at up earlier in
    let meet = in_order (n % (cols + 1)) (n / (cols + 1)) (offset seed (count + n)) e.at (n2 % (cols + 1)) (n2 / (cols + 1))
    (offset seed (count + n2)) f.at (wavy seed (count + n)) (wavy seed (count + n2)) inside.at inside2.at
    (before_up (cols + 1) n n2 e.at f.at some inside.at order) seen in
    lawful_next rows cols seed e f (n / (cols + 1)) (n2 / (cols + 1)) h.denominator h.first h.second inside (λ rows_same.
    same_up count e.arc f.arc up up2 (same_arc (cols + 1) n n2 some rows_same meet.same_line)) meet.next

-- ---- an edge that runs across, and one that runs up

lawful_ends : (rows cols seed : ℕ) (e f : EdgeRef) (d s t : ℤ) → IsInside rows cols e → IsInside rows cols f → IsSideEnd e.at d s
    → IsSideEnd f.at d t → IsLawful (flags_between (made_map rows cols seed) e f) d s t
lawful_ends rows cols seed e f d s t inside inside2 (AtFirst h p) (AtFirst k q) =
    Starts p q (first_is_end (made_map rows cols seed) e.arc e.at h) (first_is_end (made_map rows cols seed) f.arc f.at k)
lawful_ends rows cols seed e f d s t inside inside2 (AtFirst h p) (AtLast k q) =
    StartAndEnd p q (first_is_end (made_map rows cols seed) e.arc e.at h) (last_is_end rows cols seed f.arc f.at inside2.arc k)
lawful_ends rows cols seed e f d s t inside inside2 (AtLast h p) (AtFirst k q) =
    EndAndStart p q (last_is_end rows cols seed e.arc e.at inside.arc h) (first_is_end (made_map rows cols seed) f.arc f.at k)
lawful_ends rows cols seed e f d s t inside inside2 (AtLast h p) (AtLast k q) =
    Ends p q (last_is_end rows cols seed e.arc e.at inside.arc h) (last_is_end rows cols seed f.arc f.at inside2.arc k)

crossing_lawful : (rows cols seed : ℕ) (e f : EdgeRef) → IsInside rows cols e → IsInside rows cols f
    → (h : CommonPoint (across_position cols seed e.arc e.at) (across_position cols seed e.arc (e.at + 1))
    (up_position rows cols seed (number_up rows cols f.arc) f.at) (up_position rows cols seed (number_up rows cols f.arc) (f.at + 1)))
    → IsLawful (flags_between (made_map rows cols seed) e f) h.denominator h.first h.second
crossing_lawful rows cols seed e f inside inside2 h =
    let n2 = number_up rows cols f.arc in
    let meet = crossing (e.arc / cols) (e.arc % cols) (offset seed e.arc) e.at (n2 % (cols + 1)) (n2 / (cols + 1))
    (offset seed (across_count rows cols + n2)) f.at (wavy seed e.arc) (wavy seed (across_count rows cols + n2)) inside.at inside2.at h
    in
    lawful_ends rows cols seed e f h.denominator h.first h.second inside inside2 meet.first meet.second

-- ---- all pairs of edges

later_up : (count x y : ℕ) (i j : ℕ) → count ≤ x → y < count → (x < y) ⊎ ((x ≡ y) × (i < j)) → ⊥
later_up count x y i j up across (inl later) = omega arith
later_up count x y i j up across (inr same) = omega (arith, same.0)

edges_apart : (rows cols seed : ℕ) (e f : EdgeRef) → IsInside rows cols e → IsInside rows cols f → IsEarlier e f
    → EdgesClash (made_map rows cols seed) e f → ⊥
edges_apart rows cols seed e f inside inside2 earlier clash =
    let m = made_map rows cols seed in
    let count = across_count rows cols in
    let at : e.at < 9 = omega (arith, inside.at) in
    let at_end : e.at + 1 < 9 = omega (arith, inside.at) in
    let at2 : f.at < 9 = omega (arith, inside2.at) in
    let at_end2 : f.at + 1 < 9 = omega (arith, inside2.at) in
    elim (cases_lt e.arc count) [
      | inl across ↦
          elim (cases_lt f.arc count) [
            | inl across2 ↦ no_clash (edge_start m e) (edge_end m e) (edge_start m f) (edge_end m f) _ _ _ _ (flags_between m e f)
                (edge_across rows cols seed e e.at inside across at) (edge_across rows cols seed e (e.at + 1) inside across at_end)
                (edge_across rows cols seed f f.at inside2 across2 at2) (edge_across rows cols seed f (f.at + 1) inside2 across2 at_end2)
                (across_lawful rows cols seed e f inside inside2 across earlier) clash
            | inr up2 ↦ no_clash (edge_start m e) (edge_end m e) (edge_start m f) (edge_end m f) _ _ _ _ (flags_between m e f)
                (edge_across rows cols seed e e.at inside across at) (edge_across rows cols seed e (e.at + 1) inside across at_end)
                (edge_up rows cols seed f f.at inside2 up2 at2) (edge_up rows cols seed f (f.at + 1) inside2 up2 at_end2)
                (crossing_lawful rows cols seed e f inside inside2) clash
          ]
      | inr up ↦
          elim (cases_lt f.arc count) [
            | inl across2 ↦ later_up count e.arc f.arc e.at f.at up across2 earlier
            | inr up2 ↦ no_clash (edge_start m e) (edge_end m e) (edge_start m f) (edge_end m f) _ _ _ _ (flags_between m e f)
                (edge_up rows cols seed e e.at inside up at) (edge_up rows cols seed e (e.at + 1) inside up at_end)
                (edge_up rows cols seed f f.at inside2 up2 at2) (edge_up rows cols seed f (f.at + 1) inside2 up2 at_end2)
                (up_lawful rows cols seed e f inside inside2 up up2 earlier) clash
          ]
    ]

-- ---- the towns

off_by_one : (y : ℤ) → y +ℤ pos 1 ≡ y → ⊥
off_by_one y e = omega (arith, ints)

-- a town is over the middle of its own side alone
town_over_own : (cols seed arc arc2 : ℕ) → 0 < cols
    → IsTownOver (arc / cols) (arc % cols) (offset seed arc) (arc2 / cols) (arc2 % cols) (offset seed arc2) → ⊥
town_over_own cols seed arc arc2 some over =
    let same : arc ≡ arc2 = same_arc cols arc arc2 some over.same_line over.same_start in
    off_by_one (offset seed arc 4) (over.over ∙ ap (λ (a : ℕ). offset seed a 4) (sym same))

on_moved : (a b p v w q : Place) → a ≡ v → b ≡ w → p ≡ q → IsOnSegment a b p → IsOnSegment v w q
on_moved a b p v w q at_a at_b at_p on =
    let first : IsOnSegment v b p = subst (λ (c : Place). IsOnSegment c b p) at_a on in
    let second : IsOnSegment v w p = subst (λ (c : Place). IsOnSegment v c p) at_b first in
    subst (λ (c : Place). IsOnSegment v w c) at_p second

town_off : (rows cols seed k : ℕ) (e : EdgeRef) → k < across_count rows cols → IsInside rows cols e
    → PointIsOn (made_map rows cols seed) k e → ⊥
town_off rows cols seed k e town_k inside on =
    let m = made_map rows cols seed in
    let some : 0 < cols = some_column rows cols k town_k in
    let at : e.at < 9 = omega (arith, inside.at) in
    let at_end : e.at + 1 < 9 = omega (arith, inside.at) in
    let spot = town_found rows cols seed k town_k ∙ town_above rows cols seed k town_k ∙ town_is (k / cols) (k % cols) (offset seed k) in
    elim (cases_lt e.arc (across_count rows cols)) [
      | inl across ↦
          town_over_own cols seed k e.arc some
          (town_on_across (k / cols) (k % cols) (offset seed k) (e.arc / cols) (e.arc % cols) (offset seed e.arc) e.at (wavy seed k)
          (wavy seed e.arc) inside.at
          (on_moved (edge_start m e) (edge_end m e) (get_or m.points k nowhere) _ _ _ (edge_across rows cols seed e e.at inside across at)
          (edge_across rows cols seed e (e.at + 1) inside across at_end) spot on))
      | inr up ↦
          let n = number_up rows cols e.arc in
          town_off_up (k / cols) (k % cols) (offset seed k) (n % (cols + 1)) (n / (cols + 1)) (offset seed (across_count rows cols + n))
          e.at (wavy seed (across_count rows cols + n))
          (on_moved (edge_start m e) (edge_end m e) (get_or m.points k nowhere) _ _ _ (edge_up rows cols seed e e.at inside up at)
          (edge_up rows cols seed e (e.at + 1) inside up at_end) spot on)
    ]

pub made_maps_are_arranged : MadeMapsAreArranged
made_maps_are_arranged rows cols seed =
    record {
      clashes = λ e f edge edge2 earlier clash.
          absurd (edges_apart rows cols seed e f (edge_inside rows cols seed e edge) (edge_inside rows cols seed f edge2) earlier clash);
      points = λ k e town_k edge on. absurd (town_off rows cols seed k e (omega (arith, town_count rows cols seed))
          (edge_inside rows cols seed e edge) on);
    }
