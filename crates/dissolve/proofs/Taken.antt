-- What is left where an arc is taken away.
use Rattle.std.proofs.Common.{◌≡◌, ◌∙◌, ℕ, ◌<◌, ◌≤◌, Bool, false, List, [], ◌∷◌, ◌++◌, All, AllPairs, Contains, Some, length, get_or, map}
use Rattle.std.proofs.Common.{position, set, refl, sym, ap, subst, arith, inl, inr, length-append}
use Rattle.std.specs.Global.{Global}
use Rattle.smallvec.specs.declared.small_vec.SmallVec.{SmallVec}
use Rattle.std.proofs.lemmas.Bool.{cond-false, cond-true, true≢false}
use Rattle.std.proofs.lemmas.List.{get_or_append_left, length-map, length-set, map-set}
use Rattle.std.proofs.lemmas.List.Elements.{All-contains, Contains-append_cases, Contains-append_right}
use Rattle.grid_exact.specs.Geometry.{Place}
use Rattle.arc_map.specs.Map.{Map}
use Rattle.arc_map.specs.Ends.{is_same, listed}
use Rattle.arc_map.proofs.Elements.{mapped-at}
use Rattle.arc_map.proofs.Listing.{compared_places, listed-at, listed-set, stands-position}
use Rattle.arc_map.proofs.Listing.Same.{Yes, No}
use Rattle.sweep_index.proofs.Distinct.{pairs_head, pairs_tail}
use Rattle.face_parity.proofs.Same.{in-cases, in-none}
use Rattle.dissolve.specs.Border.{EndsAt, IsLeast, without}
use Rattle.dissolve.specs.Unused.{AreEnding, AreUnused, IsPopped, IsTaken, arcs_at, marked, unused_in}
use Rattle.dissolve.specs.declared.unused.Unused.{Unused}
use Rattle.dissolve.proofs.Balancing.{same-itself}
use Rattle.dissolve.proofs.Marks.{is-marked, marked-is, marked-cleared, still-marked}

-- ---- fronts of lists

all-front : {X : Type 0} (P : X → Type 0) (xs ys : List X) → All P (xs ++ ys) → All P xs
all-front P xs ys all k d within = subst P (get_or_append_left xs ys d k within) (all k d (omega (arith, length-append xs ys, within)))

pairs-front : {X : Type 0} (R : X → X → Type 0) (xs ys : List X) → AllPairs R (xs ++ ys) → AllPairs R xs
pairs-front R xs ys all i j d lt within =
    subst (R (get_or xs i d)) (get_or_append_left xs ys d j within)
    (subst (λ x. R x (get_or (xs ++ ys) j d)) (get_or_append_left xs ys d i (omega (arith, lt, within)))
    (all i j d lt (omega (arith, length-append xs ys, within))))

pairs-across : {X : Type 0} (R : X → X → Type 0) (xs ys : List X) (x y : X) → AllPairs R (xs ++ y ∷ ys) → Contains xs x → R x y
pairs-across R [] ys x y all held = absurd (in-none x held)
pairs-across R (z ∷ xs) ys x y all held = elim (in-cases z x xs held) [
  | inl same ↦ subst (λ w. R w y) same (All-contains (R z) (xs ++ y ∷ ys) y (pairs_head R z (xs ++ y ∷ ys) all)
      (Contains-append_right xs (y ∷ ys) y (0, omega arith, refl)))
  | inr later ↦ pairs-across R xs ys x y (pairs_tail R z (xs ++ y ∷ ys) all) later
]

-- ---- an arc's mark is taken away

fewer-marks : (m : Map) (marks : List Bool) (arc : ℕ) (p : Place) (arcs : List ℕ) → AreEnding m marks p arcs
    → AreEnding m (set marks arc false) p arcs
fewer-marks m marks arc p arcs are = record {
  known = are.known;
  ends = are.ends;
  falling = are.falling;
  all = λ k is ends. are.all k (still-marked marks arc k is).0 ends;
}

pub taken-mark : (m : Map) (before after : Unused) (arc : ℕ) → after.marks.items ≡ set before.marks.items arc false
    → after.places.keys ≡ before.places.keys → length after.lists.items ≡ length before.lists.items
    → ((p : Place) → arcs_at after p ≡ arcs_at before p) → AreUnused m before → AreUnused m after
taken-mark m before after arc marks places lists same are = record {
  count = ap length marks ∙ length-set before.marks.items arc false ∙ are.count;
  lists = lists ∙ are.lists ∙ sym (ap length places);
  each = λ p. subst (λ ms. AreEnding m ms p (arcs_at after p)) (sym marks)
      (subst (AreEnding m (set before.marks.items arc false) p) (sym (same p))
      (fewer-marks m before.marks.items arc p (arcs_at before p) (are.each p)));
}

-- ---- the least arc with an end at a place is taken

popped-ending : (m : Map) (marks : List Bool) (p : Place) (before after : List ℕ) (arc : ℕ) → IsPopped marks before after arc
    → AreEnding m marks p before → AreEnding m (set marks arc false) p after
popped-ending m marks p before after arc popped are = record {
  known = all-front (λ k. k < length m.arcs) after (arc ∷ popped.dropped) (subst (All (λ k. k < length m.arcs)) popped.is are.known);
  ends = all-front (EndsAt m p) after (arc ∷ popped.dropped) (subst (All (EndsAt m p)) popped.is are.ends);
  falling = pairs-front (λ j k. k ≤ j) after (arc ∷ popped.dropped) (subst (AllPairs (λ j k. k ≤ j)) popped.is are.falling);
  all = λ k is ends.
      let still = still-marked marks arc k is in
      let held = subst (λ xs. Contains xs k) popped.is (are.all k still.0 ends) in
      elim (Contains-append_cases after (arc ∷ popped.dropped) k held) [
        | inl kept ↦ kept
        | inr gone ↦ elim (in-cases arc k popped.dropped gone) [
          | inl same ↦ absurd (still.1 (sym same))
          | inr dropped ↦ absurd (true≢false (sym still.0 ∙ All-contains (λ j. get_or marks j false ≡ false) popped.dropped k
              popped.unmarked dropped))
        ]
      ];
}

popped-held : (marks : List Bool) (before after : List ℕ) (arc : ℕ) → IsPopped marks before after arc → Contains before arc
popped-held marks before after arc popped = subst (λ xs. Contains xs arc) (sym popped.is)
    (Contains-append_right after (arc ∷ popped.dropped) arc (0, omega arith, refl))

popped-least : (m : Map) (marks : List Bool) (p : Place) (before after : List ℕ) (arc : ℕ) → IsPopped marks before after arc
    → AreEnding m marks p before → IsLeast (EndsAt m p) (marked marks) arc
popped-least m marks p before after arc popped are = record {
  among = is-marked marks arc popped.marked;
  has = All-contains (EndsAt m p) before arc are.ends (popped-held marks before after arc popped);
  least = λ k held ends.
      let here = subst (λ xs. Contains xs k) popped.is (are.all k (marked-is marks k held) ends) in
      elim (Contains-append_cases after (arc ∷ popped.dropped) k here) [
        | inl kept ↦ pairs-across (λ i j. j ≤ i) after popped.dropped k arc (subst (AllPairs (λ i j. j ≤ i)) popped.is are.falling) kept
        | inr gone ↦ elim (in-cases arc k popped.dropped gone) [
          | inl same ↦ omega (arith, same)
          | inr dropped ↦ absurd (true≢false (sym (marked-is marks k held)
              ∙ All-contains (λ j. get_or marks j false ≡ false) popped.dropped k popped.unmarked dropped))
        ]
      ];
}

pub taken-known : (m : Map) (before after : Unused) (place : Place) (arc : ℕ) → AreUnused m before → IsTaken before after place arc
    → arc < length m.arcs
taken-known m before after place arc are taken = All-contains (λ k. k < length m.arcs) (arcs_at before place) arc (are.each place).known
    (popped-held before.marks.items (arcs_at before place) (arcs_at after place) arc taken.popped)

pub taken-least : (m : Map) (before after : Unused) (place : Place) (arc : ℕ) → AreUnused m before → IsTaken before after place arc
    → IsLeast (EndsAt m place) (unused_in before) arc
taken-least m before after place arc are taken = popped-least m before.marks.items place (arcs_at before place) (arcs_at after place) arc
    taken.popped (are.each place)

pub taken-left : (before after : Unused) (place : Place) (arc : ℕ) → IsTaken before after place arc
    → unused_in after ≡ without arc (unused_in before)
taken-left before after place arc taken = ap marked taken.marks ∙ marked-cleared before.marks.items arc

pub taken-unused : (m : Map) (before after : Unused) (place : Place) (arc : ℕ) → AreUnused m before → IsTaken before after place arc
    → AreUnused m after
taken-unused m before after place arc are taken = record {
  count = ap length taken.marks ∙ length-set before.marks.items arc false ∙ are.count;
  lists = taken.lists;
  each = λ p. subst (λ ms. AreEnding m ms p (arcs_at after p)) (sym taken.marks) (elim (compared_places p place) [
    | Yes alike e ↦ subst (λ q. AreEnding m (set before.marks.items arc false) q (arcs_at after q)) (sym e)
        (popped-ending m before.marks.items place (arcs_at before place) (arcs_at after place) arc taken.popped (are.each place))
    | No unlike e ↦ subst (AreEnding m (set before.marks.items arc false) p) (sym (taken.other p unlike))
        (fewer-marks m before.marks.items arc p (arcs_at before p) (are.each p))
  ]);
}

-- where none in the list of the place is marked, no arc that is left ends there
pub none-left : (m : Map) (u : Unused) (place : Place) → AreUnused m u → All (λ k. get_or u.marks.items k false ≡ false) (arcs_at u place)
    → (k : ℕ) → Contains (unused_in u) k → ¬ (EndsAt m place k)
none-left m u place are unmarked k held ends =
    let is = marked-is u.marks.items k held in
    true≢false (sym is ∙ All-contains (λ j. get_or u.marks.items j false ≡ false) (arcs_at u place) k unmarked
    ((are.each place).all k is ends))

-- ---- the list of the place

pub at-list : (u : Unused) (place : Place) (at : ℕ) (list : SmallVec ℕ 2 Global) → position (is_same place) u.places.keys ≡ Some at
    → length u.lists.items ≡ length u.places.keys → list ≡ get_or u.lists.items at list → arcs_at u place ≡ list.items
at-list u place at list is same here =
    let stands = stands-position u.places.keys place at is in
    let inside = stands.inside in
    let count = length-map u.lists.items (λ arcs. arcs.items) in
    listed-at u.places.keys (map (λ arcs. arcs.items) u.lists.items) place at (omega (arith, count, same)) stands
    ∙ mapped-at (λ arcs. arcs.items) u.lists.items at list [] (omega (arith, inside, same)) here

pub popped-taken : (before after : Unused) (place : Place) (at arc : ℕ) (old new : SmallVec ℕ 2 Global)
    → position (is_same place) before.places.keys ≡ Some at → length before.lists.items ≡ length before.places.keys
    → old ≡ get_or before.lists.items at old → after.marks.items ≡ set before.marks.items arc false → after.places.keys ≡ before.places.keys
    → after.lists.items ≡ set before.lists.items at new → IsPopped before.marks.items old.items new.items arc
    → IsTaken before after place arc
popped-taken before after place at arc old new is same here marks places lists popped =
    let keys = before.places.keys in
    let items = map (λ arcs. arcs.items) before.lists.items in
    let count = length-map before.lists.items (λ arcs. arcs.items) in
    let stands = stands-position keys place at is in
    let changed = λ (p : Place).
    ap (λ ks. listed ks (map (λ arcs. arcs.items) after.lists.items) p) places
    ∙ ap (λ ls. listed keys ls p) (ap (map (λ arcs. arcs.items)) lists ∙ map-set (λ arcs. arcs.items) before.lists.items at new)
    ∙ listed-set keys items place at new.items (omega (arith, count, same)) stands p in
    let now : arcs_at after place ≡ new.items = changed place ∙ cond-true (is_same place place) new.items (arcs_at before place)
    (same-itself place) in
    record {
      marks = marks;
      lists = ap length lists ∙ length-set before.lists.items at new ∙ same ∙ sym (ap length places);
      other = λ p unlike. changed p ∙ cond-false (is_same p place) new.items (arcs_at before p) unlike;
      popped = subst (λ xs. IsPopped before.marks.items (arcs_at before place) xs arc) (sym now)
          (subst (λ xs. IsPopped before.marks.items xs new.items arc) (sym (at-list before place at old is same here)) popped);
    }
