-- What the meetings of a map's things tell of its edges and feature points.
use Rattle.std.proofs.Common.{◌≡◌, ◌≢◌, ◌⊎◌, inl, inr, ◌∙◌, ◌<◌, ◌==◌, ◌&&◌, nat_lt, ℕ, List, Bool, true, false, Option, Some, None, get_or}
use Rattle.std.proofs.Common.{arith, refl, ap, sym, subst}
use Rattle.std.specs.Prelude.{if◌then◌else◌}
use Rattle.std.proofs.lemmas.Bool.{and_from, and_parts, eq-eqb, eqb-true, lt-ltb, ltb-true, or_cases, or_left, or_right, false_from_ne_true}
use Rattle.arc_map.specs.Map.{Map}
use Rattle.arc_map.specs.Arranged.{IsEarlier, nowhere}
use Rattle.arc_map.specs.declared.refs.EdgeRef.{EdgeRef}
use Rattle.sweep_index.specs.Boxes.{BoxHolds, BoxesMeet}
use Rattle.sweep_index.specs.Meetings.{meetings_of}
use Rattle.sweep_index.specs.Pairs.{ArePairsOf, AreTownsOf, IsPairOf, IsTownOf, edges_met, is_earlier, ordered, pairs_in, town_met}
use Rattle.sweep_index.specs.Pairs.{towns_in}
use Rattle.sweep_index.specs.Things.{AreOf, IsThingOf}
use Rattle.sweep_index.specs.declared.things.Banded.{Banded}
use Rattle.sweep_index.specs.declared.things.Thing.{Thing}
use Rattle.sweep_index.specs.declared.things.Thing.TheVariants.{Edge, Town}
use Rattle.sweep_index.proofs.Distinct.{told_apart}
use Rattle.sweep_index.proofs.Holding.{told, told_holds}
use Rattle.sweep_index.proofs.Meeting.{IsMeetingOf, IsOfBoth, ThingsMeet, meet_somewhere, meetings_are, meetings_differ}
use Rattle.sweep_index.proofs.Ranges.{between_from_meet, meet_flips, meet_from_between}

some_same : {X : Type 0} (x y : X) → Some x ≡ Some y → x ≡ y
some_same x y is = cc

-- the things are these two, in either order
abbrev AreBoth : Thing → Thing → Thing → Thing → Type 0
AreBoth s t a b = ((a ≡ s) × (b ≡ t)) ⊎ ((a ≡ t) × (b ≡ s))

-- ---- which pair two things are

ordered_by : (e f : EdgeRef) (pair : EdgeRef × EdgeRef) (b : Bool) → is_earlier e f ≡ b → (c : Bool) → is_earlier f e ≡ c
    → (if b then Some (e, f) else (if c then Some (f, e) else None)) ≡ Some pair
    → AreBoth (Edge pair.0) (Edge pair.1) (Edge e) (Edge f) × (is_earlier pair.0 pair.1 ≡ true)
ordered_by e f pair true earlier c other is =
    let same = some_same (e, f) pair is in
    (inl (ap (λ p. Edge p.0) same, ap (λ p. Edge p.1) same), subst (λ p. is_earlier p.0 p.1 ≡ true) same earlier)
ordered_by e f pair false earlier true later is =
    let same = some_same (f, e) pair is in
    (inr (ap (λ p. Edge p.1) same, ap (λ p. Edge p.0) same), subst (λ p. is_earlier p.0 p.1 ≡ true) same later)
ordered_by e f pair false earlier false later is = absurd (grind arith)

edges_told : (a b : Thing) (pair : EdgeRef × EdgeRef) → edges_met a b ≡ Some pair
    → AreBoth (Edge pair.0) (Edge pair.1) a b × (is_earlier pair.0 pair.1 ≡ true)
edges_told (Edge e) (Edge f) pair is = ordered_by e f pair (is_earlier e f) refl (is_earlier f e) refl is
edges_told (Edge e) (Town k) pair is = absurd (grind arith)
edges_told (Town k) (Edge f) pair is = absurd (grind arith)
edges_told (Town k) (Town l) pair is = absurd (grind arith)

town_told : (a b : Thing) (town : ℕ × EdgeRef) → town_met a b ≡ Some town → AreBoth (Edge town.1) (Town town.0) a b
town_told (Edge e) (Edge f) town is = absurd (grind arith)
town_told (Edge e) (Town k) town is = let same = some_same (k, e) town is in inl (ap (λ p. Edge p.1) same, ap (λ p. Town p.0) same)
town_told (Town k) (Edge f) town is = let same = some_same (k, f) town is in inr (ap (λ p. Town p.0) same, ap (λ p. Edge p.1) same)
town_told (Town k) (Town l) town is = absurd (grind arith)

-- ---- the order of edges

earlier_yes : (e f : EdgeRef) → IsEarlier e f → is_earlier e f ≡ true
earlier_yes e f (inl less) = or_left (nat_lt e.arc f.arc) ((e.arc == f.arc) && nat_lt e.at f.at) (lt-ltb e.arc f.arc less)
earlier_yes e f (inr both) = or_right (nat_lt e.arc f.arc) ((e.arc == f.arc) && nat_lt e.at f.at)
    (and_from (e.arc == f.arc) (nat_lt e.at f.at) (eq-eqb e.arc f.arc both.0) (lt-ltb e.at f.at both.1))

earlier_parts : (e f : EdgeRef) → (nat_lt e.arc f.arc ≡ true) ⊎ (((e.arc == f.arc) && nat_lt e.at f.at) ≡ true) → IsEarlier e f
earlier_parts e f (inl less) = inl (ltb-true e.arc f.arc less)
earlier_parts e f (inr both) = let parts = and_parts (e.arc == f.arc) (nat_lt e.at f.at) both in
    inr (eqb-true e.arc f.arc parts.0, ltb-true e.at f.at parts.1)

pub earlier_from_test : (e f : EdgeRef) → is_earlier e f ≡ true → IsEarlier e f
earlier_from_test e f is = earlier_parts e f (or_cases (nat_lt e.arc f.arc) ((e.arc == f.arc) && nat_lt e.at f.at) is)

never_both : (e f : EdgeRef) → IsEarlier e f → IsEarlier f e → ⊥
never_both e f (inl less) (inl more) = omega (arith, less, more)
never_both e f (inl less) (inr both) = let same = both.0 in omega (arith, less, same)
never_both e f (inr both) (inl more) = let same = both.0 in omega (arith, more, same)
never_both e f (inr both) (inr back) = let less = both.1 in let more = back.1 in omega (arith, less, more)

earlier_no : (e f : EdgeRef) → IsEarlier e f → is_earlier f e ≡ false
earlier_no e f earlier = false_from_ne_true (is_earlier f e) (λ later. never_both e f earlier (earlier_from_test f e later))

edges_apart : (e f : EdgeRef) → IsEarlier e f → Edge e ≢ Edge f
edges_apart e f earlier same = let is : e ≡ f = cc in never_both e f earlier
    (subst (λ g. IsEarlier g e) is (subst (IsEarlier e) (sym is) earlier))

ordered_yes : (e f : EdgeRef) → is_earlier e f ≡ true → ordered e f ≡ Some (e, f)
ordered_yes e f earlier = ap (λ b. if b then Some (e, f) else (if is_earlier f e then Some (f, e) else None)) earlier

ordered_back : (e f : EdgeRef) → is_earlier f e ≡ false → is_earlier e f ≡ true → ordered f e ≡ Some (e, f)
ordered_back e f later earlier = ap (λ b. if b then Some (f, e) else (if is_earlier e f then Some (e, f) else None)) later
    ∙ ap (λ b. if b then Some (e, f) else None) earlier

pair_told : (e f : EdgeRef) (a b : Thing) → IsEarlier e f → AreBoth (Edge e) (Edge f) a b → edges_met a b ≡ Some (e, f)
pair_told e f a b earlier (inl both) = ap (λ t. edges_met t b) both.0
    ∙ (ap (edges_met (Edge e)) both.1 ∙ ordered_yes e f (earlier_yes e f earlier))
pair_told e f a b earlier (inr both) = ap (λ t. edges_met t b) both.0
    ∙ (ap (edges_met (Edge f)) both.1 ∙ ordered_back e f (earlier_no e f earlier) (earlier_yes e f earlier))

holder_told : (k : ℕ) (e : EdgeRef) (a b : Thing) → AreBoth (Edge e) (Town k) a b → town_met a b ≡ Some (k, e)
holder_told k e a b (inl both) = ap (λ t. town_met t b) both.0 ∙ ap (town_met (Edge e)) both.1
holder_told k e a b (inr both) = ap (λ t. town_met t b) both.0 ∙ ap (town_met (Town k)) both.1

-- ---- what is known of the things, by their names

flipped : (m : Map) (s t : Thing) → ThingsMeet m s t → ThingsMeet m t s
flipped m s t meet = record { across = meet_flips _ _ _ _ meet.across; up = meet_flips _ _ _ _ meet.up }

-- two things that are known to meet, by other names
renamed : (m : Map) (s t a b : Thing) → AreBoth s t a b → IsThingOf m a × IsThingOf m b → ThingsMeet m a b
    → (IsThingOf m s × IsThingOf m t) × ThingsMeet m s t
renamed m s t a b (inl both) things meet = (
  (subst (IsThingOf m) both.0 things.0, subst (IsThingOf m) both.1 things.1),
  subst (ThingsMeet m s) both.1
      (subst (λ u. ThingsMeet m u b) both.0 meet),
)
renamed m s t a b (inr both) things meet = (
  (subst (IsThingOf m) both.1 things.1, subst (IsThingOf m) both.0 things.0),
  flipped m t s
      (subst (ThingsMeet m t) both.1 (subst (λ u. ThingsMeet m u b) both.0 meet)),
)

-- both are the same two
joined : (s t a b c d : Thing) → AreBoth s t a b → AreBoth s t c d → AreBoth c d a b
joined s t a b c d (inl p) (inl q) = inl (p.0 ∙ sym q.0, p.1 ∙ sym q.1)
joined s t a b c d (inl p) (inr q) = inr (p.0 ∙ sym q.1, p.1 ∙ sym q.0)
joined s t a b c d (inr p) (inl q) = inr (p.0 ∙ sym q.1, p.1 ∙ sym q.0)
joined s t a b c d (inr p) (inr q) = inl (p.0 ∙ sym q.0, p.1 ∙ sym q.1)

boxes_from_things : (m : Map) (e f : EdgeRef) → ThingsMeet m (Edge e) (Edge f) → BoxesMeet m e f
boxes_from_things m e f meet = record { across = meet.across; up = meet.up }

things_from_boxes : (m : Map) (e f : EdgeRef) → BoxesMeet m e f → ThingsMeet m (Edge e) (Edge f)
things_from_boxes m e f meet = record { across = meet.across; up = meet.up }

box_from_things : (m : Map) (e : EdgeRef) (k : ℕ) → ThingsMeet m (Edge e) (Town k) → BoxHolds m e (get_or m.points k nowhere)
box_from_things m e k meet = record { across = between_from_meet _ _ _ meet.across; up = between_from_meet _ _ _ meet.up }

things_from_box : (m : Map) (e : EdgeRef) (k : ℕ) → BoxHolds m e (get_or m.points k nowhere) → ThingsMeet m (Edge e) (Town k)
things_from_box m e k holds = record { across = meet_from_between _ _ _ holds.across; up = meet_from_between _ _ _ holds.up }

edge_is_no_town : (e : EdgeRef) (k : ℕ) → Edge e ≢ Town k
edge_is_no_town e k same = cc

-- ---- the pairs and the feature points

abbrev pair_at : Banded × Banded → Option (EdgeRef × EdgeRef)
pair_at p = edges_met p.0.thing p.1.thing

abbrev town_at : Banded × Banded → Option (ℕ × EdgeRef)
town_at p = town_met p.0.thing p.1.thing

-- what is known of a meeting
abbrev IsKnown : Map → ℕ → Banded × Banded → Type 0
IsKnown m height p = (IsThingOf m p.0.thing × IsThingOf m p.1.thing) × IsMeetingOf m height p

pair_of : (m : Map) (height : ℕ) (p : Banded × Banded) (pair : EdgeRef × EdgeRef) → IsKnown m height p → pair_at p ≡ Some pair
    → IsPairOf m pair
pair_of m height p pair known is =
    let both = edges_told p.0.thing p.1.thing pair is in
    let named = renamed m (Edge pair.0) (Edge pair.1) p.0.thing p.1.thing both.0 known.0 known.1.meet in
    record { first = named.0.0; second = named.0.1; rising = both.1; boxes = boxes_from_things m pair.0 pair.1 named.1 }

town_of : (m : Map) (height : ℕ) (p : Banded × Banded) (town : ℕ × EdgeRef) → IsKnown m height p → town_at p ≡ Some town → IsTownOf m town
town_of m height p town known is =
    let both = town_told p.0.thing p.1.thing town is in
    let named = renamed m (Edge town.1) (Town town.0) p.0.thing p.1.thing both known.0 known.1.meet in
    record { point = named.0.1; edge = named.0.0; box = box_from_things m town.1 town.0 named.1 }

module _ (m : Map) (height : ℕ) (things : List Banded) (tall : 0 < height) (are : AreOf m height things) where
  pub pairs_are : ArePairsOf m (pairs_in (meetings_of height things))
  pairs_are = record {
    only = told (IsPairOf m) pair_at (IsKnown m height) (λ p pair known is. pair_of m height p pair known is) (meetings_of height things)
        (meetings_are m height things tall are);
    all = λ e f first second earlier boxes.
        let found = meet_somewhere m height things tall are (Edge e) (Edge f) first second (edges_apart e f earlier)
        (things_from_boxes m e f boxes) in
        told_holds pair_at (meetings_of height things) found.0 (e, f) found.1
        (pair_told e f found.0.0.thing found.0.1.thing earlier found.2);
    once = told_apart pair_at (λ p q. IsOfBoth q.0.thing q.1.thing p → ⊥)
        (λ p q pair apart one two. apart (joined (Edge pair.0) (Edge pair.1) p.0.thing p.1.thing q.0.thing q.1.thing
        (edges_told p.0.thing p.1.thing pair one).0 (edges_told q.0.thing q.1.thing pair two).0))
        (meetings_of height things) (meetings_differ m height things tall are);
  }

  pub towns_are : AreTownsOf m (towns_in (meetings_of height things))
  towns_are = record {
    only = told (IsTownOf m) town_at (IsKnown m height) (λ p town known is. town_of m height p town known is) (meetings_of height things)
        (meetings_are m height things tall are);
    all = λ k e point edge box.
        let found = meet_somewhere m height things tall are (Edge e) (Town k) edge point (edge_is_no_town e k) (things_from_box m e k box)
        in
        told_holds town_at (meetings_of height things) found.0 (k, e) found.1 (holder_told k e found.0.0.thing found.0.1.thing found.2);
    once = told_apart town_at (λ p q. IsOfBoth q.0.thing q.1.thing p → ⊥)
        (λ p q town apart one two. apart (joined (Edge town.1) (Town town.0) p.0.thing p.1.thing q.0.thing q.1.thing
        (town_told p.0.thing p.1.thing town one) (town_told q.0.thing q.1.thing town two)))
        (meetings_of height things) (meetings_differ m height things tall are);
  }
