-- What the table of passages tells, turn after turn.
use Rattle.std.proofs.Common.{◌≡◌, ◌≢◌, ◌⊎◌, ◌↔◌, ◌∙◌, ◌+◌, ◌<◌, ◌≤◌, ℕ, Bool, true, false, cond, List, [], ◌∷◌, ◌++◌, All, AllPairs}
use Rattle.std.proofs.Common.{Contains, IsTrue, Option, None, Some, get_or, length, ap, inl, inr, refl, subst, sym, arith, length-append}
use Rattle.std.proofs.lemmas.Bool.{cond-false, cond-true, false≢true}
use Rattle.std.proofs.lemmas.List.{get_or_append_left, get_or_default, get_or_push}
use Rattle.std.proofs.lemmas.List.Elements.{All-contains, All-push, All-weaker, Contains-append_left, Contains-push}
use Rattle.std.proofs.lemmas.List.Quantifiers.{all_pairs_push}
use Rattle.grid_exact.specs.Geometry.{Place}
use Rattle.grid_exact.specs.Segments.{SameEnds}
use Rattle.arc_map.specs.Ends.{is_same}
use Rattle.arc_map.proofs.Listing.{compared_places, either}
use Rattle.arc_map.proofs.Listing.Same.{Yes, No}
use Rattle.topo_build.specs.Junctions.{IsJunction, IsPlain, Turn}
use Rattle.topo_build.specs.Passages.{AreTold, IsAgain, IsFirst, IsMarked, IsNext, IsPassage, MakesJunction, Tells, found_at, is_marked}
use Rattle.topo_build.specs.Passages.{turn}
use Rattle.topo_build.specs.declared.junctions.Passage.{Passage}
use Rattle.topo_build.specs.declared.junctions.Junctions.{Junctions}
use Rattle.topo_build.proofs.Passing.{ends-joined, ends-turned}

-- ---- lists with one element more

all-front : {X : Type 0} (P : X → Type 0) (xs ys : List X) → All P (xs ++ ys) → All P xs
all-front P xs ys all k d inside =
    let count = length-append xs ys in
    subst P (get_or_append_left xs ys d k inside) (all k d (omega (arith, count)))

all-last : {X : Type 0} (P : X → Type 0) (xs : List X) (x : X) → All P (xs ++ x ∷ []) → P x
all-last P xs x all =
    let count = length-append xs (x ∷ []) in
    subst P (get_or_push xs x x (length xs) refl) (all (length xs) x (omega (arith, count)))

pairs-front : {X : Type 0} (R : X → X → Type 0) (xs ys : List X) → AllPairs R (xs ++ ys) → AllPairs R xs
pairs-front R xs ys pairs i j d ordered inside =
    let count = length-append xs ys in
    subst (λ z. R z (get_or xs j d)) (get_or_append_left xs ys d i (omega arith))
    (subst (R (get_or (xs ++ ys) i d)) (get_or_append_left xs ys d j inside) (pairs i j d ordered (omega (arith, count))))

pairs-last : {X : Type 0} (R : X → X → Type 0) (xs : List X) (x y : X) → AllPairs R (xs ++ y ∷ []) → Contains xs x → R x y
pairs-last R xs x y pairs (i, inside, there) =
    let count = length-append xs (y ∷ []) in
    subst (λ z. R z y) (get_or_append_left xs (y ∷ []) x i inside ∙ there)
    (subst (R (get_or (xs ++ y ∷ []) i x)) (get_or_push xs y x (length xs) refl) (pairs i (length xs) x inside (omega (arith, count))))

-- ---- plain positions

abbrev Apart : Place → Turn → Type 0
Apart p t = t.at ≡ p → t.before ≢ t.after

abbrev OneWay : Place → Turn → Turn → Type 0
OneWay p t u = t.at ≡ p → u.at ≡ p → (t.ring ≢ u.ring) × SameEnds t.before t.after u.before u.after

plain-less : (turns : List Turn) (t : Turn) (p : Place) → IsPlain (turns ++ t ∷ []) p → IsPlain turns p
plain-less turns t p plain = record {
  apart = all-front (Apart p) turns (t ∷ []) plain.apart;
  one_way =
      pairs-front (OneWay p) turns (t ∷ []) plain.one_way;
}

plain-elsewhere : (turns : List Turn) (t : Turn) (p : Place) → t.at ≢ p → IsPlain turns p → IsPlain (turns ++ t ∷ []) p
plain-elsewhere turns t p other plain = record {
  apart = All-push (Apart p) turns t plain.apart (λ here. absurd (other here));
  one_way = all_pairs_push (OneWay p) turns t plain.one_way (λ k d inside at_k at_t. absurd (other at_t));
}

-- a position that is not there is plain
pub plain-none : (turns : List Turn) (p : Place) → All (λ t. t.at ≢ p) turns → IsPlain turns p
plain-none turns p none = record {
  apart = λ k d inside here. absurd (none k d inside here);
  one_way = λ i j d ordered inside at_i at_j. absurd (none j d inside at_j);
}

-- whether two pairs of ends are the same
ends-decided : (a b c d : Place) → SameEnds a b c d ⊎ ¬ (SameEnds a b c d)
ends-decided a b c d =
    elim (compared_places a c) [
      | Yes x e ↦ elim (compared_places b d) [
        | Yes y f ↦ inl (inl (e, f))
        | No y f ↦ elim (compared_places a d) [
          | Yes z g ↦ elim (compared_places b c) [
            | Yes w h ↦ inl (inr (g, h))
            | No w h ↦ inr (λ same. elim same [ inl s ↦ f s.1 | inr s ↦ h s.1 ])
          ]
          | No z g ↦ inr (λ same. elim same [ inl s ↦ f s.1 | inr s ↦ g s.0 ])
        ]
      ]
      | No x e ↦ elim (compared_places a d) [
        | Yes z g ↦ elim (compared_places b c) [
          | Yes w h ↦ inl (inr (g, h))
          | No w h ↦ inr (λ same. elim same [ inl s ↦ e s.0 | inr s ↦ h s.1 ])
        ]
        | No z g ↦ inr (λ same. elim same [ inl s ↦ e s.0 | inr s ↦ g s.0 ])
      ]
    ]

-- ---- one turn more

-- at another position
told-elsewhere : (turns : List Turn) (t : Turn) (p : Place) (found : Option Passage) → t.at ≢ p → Tells turns p found
    → Tells (turns ++ t ∷ []) p found
told-elsewhere turns t p None other none = All-push (λ u. u.at ≢ p) turns t none other
told-elsewhere turns t p (Some s) other told =
    let a = told.among in
    let l = told.latest in
    record {
      junction = λ on plain. told.junction on (plain-less turns t p plain);
      plain = λ off. plain-elsewhere turns t p other (told.plain off);
      alike = λ off. All-push (λ u. u.at ≡ p → SameEnds s.before s.after u.before u.after) turns t (told.alike off) (λ here.
          absurd (other here));
      among = (a.0, Contains-append_left turns (t ∷ []) a.0 a.1, a.2, a.3, a.4);
      latest = (l.0, Contains-append_left turns (t ∷ []) l.0 l.1, l.2, l.3);
      late = All-push (λ u. u.at ≡ p → u.ring ≤ s.ring) turns t told.late (λ here. absurd (other here));
    }

-- at a position that is met for the first time
told-first : (turns : List Turn) (ring : ℕ) (before at after : Place) (s : Passage) → All (λ t. t.at ≢ at) turns
    → IsFirst ring before after s → IsPassage (turns ++ turn ring before at after ∷ []) at s
told-first turns ring before at after s none first =
    let t = turn ring before at after in
    let same_ring = first.number in
    record {
      junction = λ on plain. all-last (Apart at) turns t plain.apart refl (first.junction.0 on);
      plain = λ off. record {
        apart = All-push (Apart at) turns t (All-weaker (λ u. u.at ≢ at) (Apart at) (λ u not here. absurd (not here)) turns none)
            (λ here same. off (first.junction.1 same));
        one_way = all_pairs_push (OneWay at) turns t (plain-none turns at none).one_way (λ k d inside at_k. absurd (none k d inside at_k));
      };
      alike = λ off. All-push (λ u. u.at ≡ at → SameEnds s.before s.after u.before u.after) turns t
          (All-weaker (λ u. u.at ≢ at) (λ u. u.at ≡ at → SameEnds s.before s.after u.before u.after) (λ u not here. absurd (not here)) turns
          none) (λ here. inl (first.before, first.after));
      among = (t, Contains-push turns t, refl, sym first.before, sym first.after);
      latest = (t, Contains-push turns t, refl, sym first.number);
      late = All-push (λ u. u.at ≡ at → u.ring ≤ s.ring) turns t
          (All-weaker (λ u. u.at ≢ at) (λ u. u.at ≡ at → u.ring ≤ s.ring) (λ u not here. absurd (not here)) turns none) (λ here.
          omega arith);
    }

-- what makes a junction breaks the one way
breaks : (turns : List Turn) (ring : ℕ) (before at after : Place) (old : Passage) → IsPassage turns at old
    → MakesJunction old ring before after → IsPlain (turns ++ turn ring before at after ∷ []) at → ⊥
breaks turns ring before at after old told (inl same) plain = all-last (Apart at) turns (turn ring before at after) plain.apart refl same
breaks turns ring before at after old told (inr (inl same)) plain =
    let l = told.latest in
    (pairs-last (OneWay at) turns l.0 (turn ring before at after) plain.one_way l.1 l.2 refl).0 (l.3 ∙ same)
breaks turns ring before at after old told (inr (inr other)) plain =
    let a = told.among in
    let ends : SameEnds a.0.before a.0.after before after =
    (pairs-last (OneWay at) turns a.0 (turn ring before at after) plain.one_way a.1 a.2 refl).1 in
    other (ends-joined old.before old.after a.0.before a.0.after before after (inl (sym a.3, sym a.4)) ends)

-- at a position that is met again
told-again : (turns : List Turn) (ring : ℕ) (before at after : Place) (old s : Passage) → All (λ t. t.ring ≤ ring) turns
    → IsPassage turns at old → IsAgain old ring before after s → IsPassage (turns ++ turn ring before at after ∷ []) at s
told-again turns ring before at after old s rings told again =
    let t = turn ring before at after in
    let a = told.among in
    let l = told.latest in
    let same_ring = again.number in
    let off_old : ¬ (IsTrue s.is_junction) → ¬ (IsTrue old.is_junction) = λ off on. off (again.junction.1 (inl on)) in
    let unmade : ¬ (IsTrue s.is_junction) → ¬ (MakesJunction old ring before after) = λ off made. off (again.junction.1 (inr made)) in
    let ends : ¬ (IsTrue s.is_junction) → SameEnds old.before old.after before after = λ off.
    elim (ends-decided old.before old.after before after) [
      | inl same ↦ same
      | inr other ↦ absurd (unmade off (inr (inr other)))
    ] in
    record {
      junction = λ on plain. elim (again.junction.0 on) [
        | inl before_on ↦ told.junction before_on (plain-less turns t at plain)
        | inr made ↦ breaks turns ring before at after old told made plain
      ];
      plain = λ off. record {
        apart = All-push (Apart at) turns t (told.plain (off_old off)).apart (λ here same. unmade off (inl same));
        one_way = all_pairs_push (OneWay at) turns t (told.plain (off_old off)).one_way (λ k d inside at_k at_t. (
          λ same.
              let late : (get_or turns k d).ring ≤ old.ring = told.late k d inside at_k in
              let upto : l.0.ring ≤ ring = All-contains (λ u. u.ring ≤ ring) turns l.0 rings l.1 in
              let last : l.0.ring ≡ old.ring = l.3 in
              unmade off (inr (inl (omega arith))),
          ends-joined (get_or turns k d).before (get_or turns k d).after old.before old.after before after
              (ends-turned old.before old.after (get_or turns k d).before (get_or turns k d).after
              (told.alike (off_old off) k d inside at_k)) (ends off),
        ));
      };
      alike = λ off. All-push (λ u. u.at ≡ at → SameEnds s.before s.after u.before u.after) turns t
          (All-weaker (λ u. u.at ≡ at → SameEnds old.before old.after u.before u.after) (λ u. u.at ≡ at
          → SameEnds s.before s.after u.before u.after)
          (λ u alike here. ends-joined s.before s.after old.before old.after u.before u.after (inl (again.before, again.after))
          (alike here)) turns (told.alike (off_old off)))
          (λ here. ends-joined s.before s.after old.before old.after before after (inl (again.before, again.after)) (ends off));
      among = (a.0, Contains-append_left turns (t ∷ []) a.0 a.1, a.2, a.3 ∙ sym again.before, a.4 ∙ sym again.after);
      latest = (t, Contains-push turns t, refl, sym again.number);
      late = All-push (λ u. u.at ≡ at → u.ring ≤ s.ring) turns t
          (All-weaker (λ u. u.ring ≤ ring) (λ u. u.at ≡ at → u.ring ≤ s.ring) (λ u upto here. omega arith) turns rings) (λ here.
          omega arith);
    }

told-here : (turns : List Turn) (ring : ℕ) (before at after : Place) (found : Option Passage) (s : Passage) → All (λ t. t.ring ≤ ring) turns
    → Tells turns at found → IsNext found ring before after s → IsPassage (turns ++ turn ring before at after ∷ []) at s
told-here turns ring before at after None s rings told next = told-first turns ring before at after s told next
told-here turns ring before at after (Some old) s rings told next = told-again turns ring before at after old s rings told next

pub told-more : (turns : List Turn) (ring : ℕ) (before at after : Place) (s : Passage) (j k : Junctions) → All (λ t. t.ring ≤ ring) turns
    → AreTold turns j → IsNext (found_at j at) ring before after s
    → ((q : Place) → found_at k q ≡ cond (is_same at q) (Some s) (found_at j q)) → AreTold (turns ++ turn ring before at after ∷ []) k
told-more turns ring before at after s j k rings told next found p =
    elim (compared_places at p) [
      | Yes alike e ↦
          let here : found_at k p ≡ Some s = found p ∙ cond-true (is_same at p) (Some s) (found_at j p) alike in
          subst (Tells (turns ++ turn ring before at after ∷ []) p) (sym here)
          (subst (λ q. IsPassage (turns ++ turn ring before at after ∷ []) q s) e
          (told-here turns ring before at after (found_at j at) s rings (told at) next))
      | No unlike e ↦
          let there : found_at k p ≡ found_at j p = found p ∙ cond-false (is_same at p) (Some s) (found_at j p) unlike in
          subst (Tells (turns ++ turn ring before at after ∷ []) p) (sym there)
          (told-elsewhere turns (turn ring before at after) p (found_at j p) e (told p))
    ]

-- ---- what is marked

marked-found : (turns : List Turn) (p : Place) (found : Option Passage) → Tells turns p found → IsTrue (is_marked found)
    ↔ IsJunction turns p
marked-found turns p None none = (λ on. absurd (false≢true on), λ junction. absurd (junction (plain-none turns p none)))
marked-found turns p (Some s) told = (
  told.junction,
  λ junction. elim (either s.is_junction) [
    | inl on ↦ on
    | inr off ↦ absurd (junction (told.plain (λ on. false≢true (sym off ∙ on))))
  ],
)

-- the positions that the table marks are the junctions
pub marked-junctions : (turns : List Turn) (j : Junctions) → AreTold turns j → (p : Place) → IsMarked j p ↔ IsJunction turns p
marked-junctions turns j told p = marked-found turns p (found_at j p) (told p)
