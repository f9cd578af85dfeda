-- The namings that polygons make, part by part, tell in which polygons a point lies.
use Rattle.std.proofs.Common.{◌≡◌, ◌∙◌, ℕ, ◌+◌, ◌<◌, ◌≤◌, ◌==◌, Bool, true, false, cond, List, [], ◌∷◌, ◌++◌, All, Contains, length, get_or}
use Rattle.std.proofs.Common.{map, refl, sym, ap, subst, arith, inl, inr}
use Rattle.std.specs.Prelude.{◌&&◌, filter, nat_le, slice_index}
use Rattle.std.specs.List.Sorted.{IsPermutation}
use Rattle.std.proofs.lemmas.Bool.{and_from, and_left, and_parts, and_right, cases_Bool, cases_lt, eq-eqb, le-leb, leb-true, ne_eqb}
use Rattle.std.proofs.lemmas.List.{append-nil, map-append}
use Rattle.std.proofs.lemmas.List.Elements.{All-append, All-head, All-map, All-tail, All-weaker, Contains-get_or, filter-append}
use Rattle.std.proofs.lemmas.List.Sorted.{All-permutation}
use Rattle.grid_exact.specs.Geometry.{Place, IsOnGrid}
use Rattle.grid_exact.specs.Walks.{differ}
use Rattle.grid_exact.proofs.Crossings.{differ_false}
use Rattle.grid_exact.proofs.Walks.{differ_assoc}
use Rattle.arc_map.specs.Map.{Map}
use Rattle.arc_map.specs.Arcs.{is_inside, is_inside_of, is_list_crossed_oddly}
use Rattle.arc_map.specs.Arranged.{arc_at}
use Rattle.sweep_index.specs.Offsets.{offset_of}
use Rattle.face_parity.specs.Bounds.{IsOffsetOf}
use Rattle.face_parity.specs.Faces.{IsFloored}
use Rattle.face_parity.specs.Floors.{IsUnder}
use Rattle.face_parity.specs.Naming.{AreNamings, AreNamingsTo, AreUnder, IsTold, is_by, named_by, refs_over}
use Rattle.face_parity.specs.Parities.{pass_oddly}
use Rattle.face_parity.specs.declared.bounds.Offset.{Offset}
use Rattle.face_parity.specs.declared.floors.Floors.{Floors}
use Rattle.face_parity.specs.declared.namings.Naming.{Naming}
use Rattle.face_parity.specs.declared.runs.Run.{Run}
use Rattle.face_parity.proofs.Found.{nat-le-no}
use Rattle.face_parity.proofs.Lowest.{inside-sum}
use Rattle.face_parity.proofs.Same.{in-cases, in-none}
use Rattle.face_parity.proofs.Sums.{pass-agree, pass-filter, pass-map, pass-permutation}

-- ---- the arcs that a polygon names over a point

pub refs-append : (ns ms : List Naming) (y k : ℕ) → refs_over (ns ++ ms) y k ≡ refs_over ns y k ++ refs_over ms y k
refs-append ns ms y k = ap (map (λ (n : Naming). n.arc)) (filter-append (is_by y k) ns ms)
    ∙ map-append (λ (n : Naming). n.arc) (filter (is_by y k) ns) (filter (is_by y k) ms)

refs-yes : (n : Naming) (ns : List Naming) (y k : ℕ) → is_by y k n ≡ true → refs_over (n ∷ ns) y k ≡ n.arc ∷ refs_over ns y k
refs-yes n ns y k holds = ap (λ b. map (λ (m : Naming). m.arc) (cond b (n ∷ filter (is_by y k) ns) (filter (is_by y k) ns))) holds

refs-no : (n : Naming) (ns : List Naming) (y k : ℕ) → is_by y k n ≡ false → refs_over (n ∷ ns) y k ≡ refs_over ns y k
refs-no n ns y k fails = ap (λ b. map (λ (m : Naming). m.arc) (cond b (n ∷ filter (is_by y k) ns) (filter (is_by y k) ns))) fails

refs-none : (ns : List Naming) (y k : ℕ) → All (λ n. is_by y k n ≡ false) ns → refs_over ns y k ≡ []
refs-none [] y k all = refl
refs-none (n ∷ ns) y k all = refs-no n ns y k (All-head (λ m. is_by y k m ≡ false) n ns all)
    ∙ refs-none ns y k (All-tail (λ m. is_by y k m ≡ false) n ns all)

-- a naming by another polygon
not-by : (y k : ℕ) (n : Naming) → (n.polygon ≡ k → ⊥) → is_by y k n ≡ false
not-by y k n apart = and_left (n.polygon == k) (nat_le n.floor y) (ne_eqb n.polygon k apart)

refs-own : (part : List ℕ) (k floor y : ℕ) → floor ≤ y → refs_over (map (named_by k floor) part) y k ≡ part
refs-own [] k floor y low = refl
refs-own (a ∷ part) k floor y low =
    refs-yes (named_by k floor a) (map (named_by k floor) part) y k
    (and_from (k == k) (nat_le floor y) (eq-eqb k k refl) (le-leb floor y low))
    ∙ ap (λ rs. a ∷ rs) (refs-own part k floor y low)

refs-above : (part : List ℕ) (k floor y : ℕ) → y < floor → refs_over (map (named_by k floor) part) y k ≡ []
refs-above part k floor y above = refs-none (map (named_by k floor) part) y k
    (All-map (λ n. is_by y k n ≡ false) (named_by k floor) part (λ i d within.
    and_right (k == k) (nat_le floor y) (nat-le-no floor y above)))

refs-other : (part : List ℕ) (k floor y other : ℕ) → (k ≡ other → ⊥) → refs_over (map (named_by k floor) part) y other ≡ []
refs-other part k floor y other apart = refs-none (map (named_by k floor) part) y other
    (All-map (λ n. is_by y other n ≡ false) (named_by k floor) part (λ i d within.
    not-by y other (named_by k floor (get_or part i d)) apart))

-- ---- how often edges are crossed

inside-append : (p : Place) (arcs : List (List Place)) (xs ys : List ℕ)
    → is_inside_of p arcs (xs ++ ys) ≡ differ (is_inside_of p arcs xs) (is_inside_of p arcs ys)
inside-append p arcs [] ys = refl
inside-append p arcs (x ∷ xs) ys = ap (differ (is_list_crossed_oddly p (get_or arcs x []))) (inside-append p arcs xs ys)
    ∙ differ_assoc (is_list_crossed_oddly p (get_or arcs x [])) (is_inside_of p arcs xs) (is_inside_of p arcs ys)

inside-by : (p : Place) (m : Map) (ns : List Naming) (y k : ℕ) → is_inside_of p m.arcs (refs_over ns y k)
    ≡ pass_oddly (λ n. is_by y k n && is_list_crossed_oddly p (arc_at m n.arc)) ns
inside-by p m ns y k =
    inside-sum p m.arcs (refs_over ns y k)
    ∙ pass-map (λ arc. is_list_crossed_oddly p (arc_at m arc)) (λ (n : Naming). n.arc) (filter (is_by y k) ns)
    ∙ pass-filter (is_by y k) (λ n. is_list_crossed_oddly p (arc_at m n.arc)) ns

-- the order of the namings does not matter
told-moved : (m : Map) (ns sorted : List Naming) (k : ℕ) → IsPermutation ns sorted → IsTold m ns k → IsTold m sorted k
told-moved m ns sorted k moves told p on_grid =
    let y = offset_of p.y in
    inside-by p m sorted y k
    ∙ pass-permutation (λ n. is_by y k n && is_list_crossed_oddly p (arc_at m n.arc)) ns sorted moves
    ∙ sym (inside-by p m ns y k)
    ∙ told p on_grid

pub namings-moved : (m : Map) (ns sorted : List Naming) → IsPermutation ns sorted → AreNamings m ns → AreNamings m sorted
namings-moved m ns sorted moves are = record {
  below = All-permutation (λ n. n.polygon < length m.polygons) ns sorted moves are.below;
  told = λ k less. told-moved m ns sorted k moves (are.told k less);
}

-- how often an arc is named over a point
swapped : (b c : Bool) → (b && c) ≡ (c && b)
swapped true true = refl
swapped true false = refl
swapped false true = refl
swapped false false = refl

pub named-odd : (ns : List Naming) (y k arc : ℕ) → pass_oddly (λ n. (n.arc == arc) && is_by y k n) ns
    ≡ pass_oddly (λ a. a == arc) (refs_over ns y k)
named-odd ns y k arc =
    pass-agree (λ n. (n.arc == arc) && is_by y k n) (λ n. is_by y k n && (n.arc == arc)) ns (λ i d within.
    swapped ((get_or ns i d).arc == arc) (is_by y k (get_or ns i d)))
    ∙ sym (pass-filter (is_by y k) (λ n. n.arc == arc) ns)
    ∙ sym (pass-map (λ a. a == arc) (λ (n : Naming). n.arc) (filter (is_by y k) ns))

-- ---- floors

-- the floor of an arc that is named over a point is not above it
refs-floor : (floors : List ℕ) (ns : List Naming) (y k arc : ℕ) → AreUnder floors ns → Contains (refs_over ns y k) arc
    → slice_index floors arc ≤ y
refs-floor floors [] y k arc under held = absurd (in-none arc held)
refs-floor floors (n ∷ ns) y k arc under held = elim (cases_Bool (is_by y k n)) [
  | inl holds ↦ elim (in-cases n.arc arc (refs_over ns y k) (subst (λ rs. Contains rs arc) (refs-yes n ns y k holds) held)) [
    | inl same ↦
        let low = All-head (λ m. slice_index floors m.arc ≤ m.floor) n ns under in
        let here : slice_index floors arc ≤ n.floor = subst (λ a. slice_index floors a ≤ n.floor) same low in
        let over = leb-true n.floor y (and_parts (n.polygon == k) (nat_le n.floor y) holds).1 in
        omega (arith, here, over)
    | inr later ↦ refs-floor floors ns y k arc (All-tail (λ m. slice_index floors m.arc ≤ m.floor) n ns under) later
  ]
  | inr fails ↦ refs-floor floors ns y k arc (All-tail (λ m. slice_index floors m.arc ≤ m.floor) n ns under)
      (subst (λ rs. Contains rs arc) (refs-no n ns y k fails) held)
]

pub floored-by : (floors : Floors) (ns : List Naming) (y k : ℕ) (r : Run) → AreUnder floors.arcs.items ns → IsUnder floors r.arc r.floor
    → IsFloored (refs_over ns y k) y r
floored-by floors ns y k r under its named = let low = refs-floor floors.arcs.items ns y k r.arc under named in omega (arith, low, its)

-- the namings of one more part, and the floors that are lowered to its floor
pub under-more : (old new : List ℕ) (ns : List Naming) (part : List ℕ) (k floor : ℕ)
    → ((arc : ℕ) → slice_index new arc ≤ slice_index old arc) → ((arc : ℕ) → Contains part arc → slice_index new arc ≤ floor)
    → AreUnder old ns → AreUnder new (ns ++ map (named_by k floor) part)
under-more old new ns part k floor lower here under =
    All-append (λ n. slice_index new n.arc ≤ n.floor) ns (map (named_by k floor) part)
    (All-weaker (λ n. slice_index old n.arc ≤ n.floor) (λ n. slice_index new n.arc ≤ n.floor) (λ n low. let less = lower n.arc in
    omega (arith, low, less)) ns under)
    (All-map (λ n. slice_index new n.arc ≤ n.floor) (named_by k floor) part (λ i d within.
    here (get_or part i d) (Contains-get_or part i d within)))

-- ---- one polygon, part by part

-- the namings of the polygons before this one, and of its parts before the rest of its arcs
pub record IsTelling (m : Map) (k : ℕ) (ns : List Naming) (rest refs : List ℕ) : Type 0 where
  pub below : All (λ n. n.polygon < k + 1) ns
  pub told : (polygon : ℕ) → polygon < k → IsTold m ns polygon
  pub so_far : (p : Place) → IsOnGrid p → differ (is_inside_of p m.arcs (refs_over ns (offset_of p.y) k)) (is_inside_of p m.arcs rest)
      ≡ is_inside_of p m.arcs refs

-- a list of no length
pub without_any : (xs : List ℕ) → length xs ≡ 0 → xs ≡ []
without_any [] none = refl
without_any (x ∷ xs) none = absurd (omega (arith, none))

pub telling-first : (m : Map) (k : ℕ) (ns : List Naming) (rest refs : List ℕ) → refs ≡ rest → AreNamingsTo m k ns
    → IsTelling m k ns rest refs
telling-first m k ns rest refs is are = record {
  below = All-weaker (λ n. n.polygon < k) (λ n. n.polygon < k + 1) (λ n less. omega (arith, less)) ns are.below;
  told = are.told;
  so_far = λ p on_grid.
      let none = refs-none ns (offset_of p.y) k (All-weaker (λ n. n.polygon < k) (λ n. is_by (offset_of p.y) k n ≡ false) (λ n less.
      not-by (offset_of p.y) k n (λ same. omega (arith, same, less))) ns are.below) in
      ap (λ rs. differ (is_inside_of p m.arcs rs) (is_inside_of p m.arcs rest)) none ∙ ap (is_inside_of p m.arcs) (sym is);
}

-- a part is told as it is, since from below its floor nothing is crossed oddly
part-told : (m : Map) (k floor : ℕ) (part : List ℕ) → ((p : Place) → IsOnGrid p → offset_of p.y < floor
    → is_inside_of p m.arcs part ≡ false) → (p : Place) → IsOnGrid p
    → is_inside_of p m.arcs (refs_over (map (named_by k floor) part) (offset_of p.y) k) ≡ is_inside_of p m.arcs part
part-told m k floor part even p on_grid = elim (cases_lt (offset_of p.y) floor) [
  | inl below ↦ ap (is_inside_of p m.arcs) (refs-above part k floor (offset_of p.y) below) ∙ sym (even p on_grid below)
  | inr low ↦ ap (is_inside_of p m.arcs) (refs-own part k floor (offset_of p.y) low)
]

pub telling-more : (m : Map) (k floor : ℕ) (ns : List Naming) (part others rest refs : List ℕ) → rest ≡ part ++ others
    → ((p : Place) → IsOnGrid p → offset_of p.y < floor → is_inside_of p m.arcs part ≡ false) → IsTelling m k ns rest refs
    → IsTelling m k (ns ++ map (named_by k floor) part) others refs
telling-more m k floor ns part others rest refs is even telling =
    let more = map (named_by k floor) part in
    record {
      below = All-append (λ n. n.polygon < k + 1) ns more telling.below
          (All-map (λ n. n.polygon < k + 1) (named_by k floor) part (λ i d within. omega arith));
      told = λ polygon less p on_grid.
          let y = offset_of p.y in
          ap (is_inside_of p m.arcs) (refs-append ns more y polygon
          ∙ ap (λ rs. refs_over ns y polygon ++ rs) (refs-other part k floor y polygon (λ same. omega (arith, same, less)))
          ∙ append-nil (refs_over ns y polygon))
          ∙ telling.told polygon less p on_grid;
      so_far = λ p on_grid.
          let y = offset_of p.y in
          let before = is_inside_of p m.arcs (refs_over ns y k) in
          let here = is_inside_of p m.arcs part in
          let after = is_inside_of p m.arcs others in
          ap (λ rs. differ (is_inside_of p m.arcs rs) after) (refs-append ns more y k)
          ∙ ap (λ b. differ b after) (inside-append p m.arcs (refs_over ns y k) (refs_over more y k)
          ∙ ap (differ before) (part-told m k floor part even p on_grid))
          ∙ sym (differ_assoc before here after)
          ∙ ap (differ before) (sym (inside-append p m.arcs part others) ∙ ap (is_inside_of p m.arcs) (sym is))
          ∙ telling.so_far p on_grid;
    }

pub telling-last : (m : Map) (k : ℕ) (ns : List Naming) (rest : List ℕ) → rest ≡ [] → IsTelling m k ns rest (get_or m.polygons k [])
    → AreNamingsTo m (k + 1) ns
telling-last m k ns rest none telling = record {
  below = telling.below;
  told = λ polygon less. elim (cases_lt polygon k) [
    | inl earlier ↦ telling.told polygon earlier
    | inr last ↦
        let here : k ≡ polygon = omega (arith, last, less) in
        subst (IsTold m ns) here (λ p on_grid.
        sym (differ_false (is_inside_of p m.arcs (refs_over ns (offset_of p.y) k)))
        ∙ ap (λ rs. differ (is_inside_of p m.arcs (refs_over ns (offset_of p.y) k)) (is_inside_of p m.arcs rs)) (sym none)
        ∙ telling.so_far p on_grid)
  ];
}

-- a point at this offset
pub told-at : (m : Map) (ns : List Naming) (k : ℕ) (p : Place) (at : Offset) → IsOffsetOf p at → IsTold m ns k
    → is_inside_of p m.arcs (refs_over ns at.y k) ≡ is_inside p m k
told-at m ns k p at here told = ap (λ y. is_inside_of p m.arcs (refs_over ns y k)) here.y ∙ told p here.on_grid
