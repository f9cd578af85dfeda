-- The meetings of a map's things in bands: all things whose boxes meet, each two once.
use Rattle.std.proofs.Common.{◌≡◌, ◌≢◌, ◌⊎◌, inl, inr, ◌∙◌, ◌/◌, ◌<◌, ◌≤◌, ◌&&◌, ◌==◌, nat_le, ℕ, zero, suc, true, List, [], ◌∷◌, All}
use Rattle.std.proofs.Common.{AllPairs, Contains, length, get_or, map, min, max, arith, ap, sym, subst}
use Rattle.std.proofs.lemmas.Bool.{and_from, and_parts, cases_lt, eq-eqb, eqb-true, le-leb, leb-true}
use Rattle.std.proofs.lemmas.List.{get_or-map, length-map}
use Rattle.std.proofs.lemmas.List.Elements.{All-append, All-filter, All-head, All-map, All-nil, All-tail, All-weaker, Contains-append_left}
use Rattle.std.proofs.lemmas.List.Elements.{Contains-append_right, at_from_Contains, filter_passes}
use Rattle.std.proofs.lemmas.List.Kept.{AllPairs-filter}
use Rattle.arc_map.specs.Map.{Map}
use Rattle.sweep_index.specs.Boxes.{RangesMeet}
use Rattle.sweep_index.specs.Meetings.{do_meet, is_met, meetings_beside, meetings_of, with_head}
use Rattle.sweep_index.specs.Offsets.{offset_of}
use Rattle.sweep_index.specs.Things.{AreOf, IsBandedOf, IsThingOf, spot_of, thing_end, thing_start}
use Rattle.sweep_index.specs.declared.things.Banded.{Banded}
use Rattle.sweep_index.specs.declared.things.Thing.{Thing}
use Rattle.sweep_index.proofs.Distinct.{pairs_append, pairs_from_map, pairs_head, pairs_map, pairs_nil, pairs_tail}
use Rattle.sweep_index.proofs.Holding.{filter_holds, some_of}
use Rattle.sweep_index.proofs.Orders.{div_rises}
use Rattle.sweep_index.proofs.Ranges.{meet_flips, meet_from_overlap, overlap_from_meet}

-- ---- two things

-- the boxes round the two things meet
pub record ThingsMeet (m : Map) (s t : Thing) : Type 0 where
  pub across : RangesMeet (thing_start m s).x (thing_end m s).x (thing_start m t).x (thing_end m t).x
  pub up : RangesMeet (thing_start m s).y (thing_end m s).y (thing_start m t).y (thing_end m t).y

-- the lowest band that both things reach
abbrev pub common_band : Map → ℕ → Thing → Thing → ℕ
common_band m height s t = max (min (offset_of (thing_start m s).y) (offset_of (thing_end m s).y))
    (min (offset_of (thing_start m t).y) (offset_of (thing_end m t).y)) / height

-- a meeting is of two things whose boxes meet, in their lowest common band
pub record IsMeetingOf (m : Map) (height : ℕ) (p : Banded × Banded) : Type 0 where
  pub meet : ThingsMeet m p.0.thing p.1.thing
  pub first_band : p.0.band ≡ common_band m height p.0.thing p.1.thing
  pub second_band : p.1.band ≡ common_band m height p.0.thing p.1.thing

parts_met : (height : ℕ) (b c : Banded) → is_met height (b, c) ≡ true
    → (c.band ≡ b.band) × (b.extent.west ≤ c.extent.east) × (c.extent.west ≤ b.extent.east) × (b.extent.south ≤ c.extent.north)
    × (c.extent.south ≤ b.extent.north) × (max b.extent.south c.extent.south / height ≡ b.band)
parts_met height b c met =
    let outer = and_parts (c.band == b.band) (do_meet b.extent c.extent && (max b.extent.south c.extent.south / height == b.band)) met in
    let inner = and_parts (do_meet b.extent c.extent) (max b.extent.south c.extent.south / height == b.band) outer.1 in
    let boxes = and_parts (nat_le b.extent.west c.extent.east && nat_le c.extent.west b.extent.east) (nat_le b.extent.south c.extent.north
    && nat_le c.extent.south b.extent.north) inner.0 in
    let across = and_parts (nat_le b.extent.west c.extent.east) (nat_le c.extent.west b.extent.east) boxes.0 in
    let up = and_parts (nat_le b.extent.south c.extent.north) (nat_le c.extent.south b.extent.north) boxes.1 in (
      eqb-true c.band b.band outer.0,
      leb-true b.extent.west c.extent.east across.0,
      leb-true c.extent.west b.extent.east across.1,
      leb-true
          b.extent.south c.extent.north up.0,
      leb-true c.extent.south b.extent.north up.1,
      eqb-true
          (max b.extent.south c.extent.south / height) b.band inner.1,
    )

met_from_parts : (height : ℕ) (b c : Banded) → c.band ≡ b.band → b.extent.west ≤ c.extent.east → c.extent.west ≤ b.extent.east
    → b.extent.south ≤ c.extent.north → c.extent.south ≤ b.extent.north → max b.extent.south c.extent.south / height ≡ b.band
    → is_met height (b, c) ≡ true
met_from_parts height b c bands west east south north level =
    let across = and_from (nat_le b.extent.west c.extent.east) (nat_le c.extent.west b.extent.east)
    (le-leb b.extent.west c.extent.east west) (le-leb c.extent.west b.extent.east east) in
    let up = and_from (nat_le b.extent.south c.extent.north) (nat_le c.extent.south b.extent.north)
    (le-leb b.extent.south c.extent.north south) (le-leb c.extent.south b.extent.north north) in
    let boxes = and_from (nat_le b.extent.west c.extent.east && nat_le c.extent.west b.extent.east) (nat_le b.extent.south c.extent.north
    && nat_le c.extent.south b.extent.north) across up in
    and_from (c.band == b.band) (do_meet b.extent c.extent && (max b.extent.south c.extent.south / height == b.band))
    (eq-eqb c.band b.band bands)
    (and_from (do_meet b.extent c.extent) (max b.extent.south c.extent.south / height == b.band) boxes
    (eq-eqb (max b.extent.south c.extent.south / height) b.band level))

band_of_two : (m : Map) (height : ℕ) (b c : Banded) → IsBandedOf m height b → IsBandedOf m height c
    → max b.extent.south c.extent.south / height ≡ common_band m height b.thing c.thing
band_of_two m height b c first second = ap (λ k. max k c.extent.south / height) first.round.south
    ∙ ap (λ k. max (min (offset_of (thing_start m b.thing).y) (offset_of (thing_end m b.thing).y)) k / height) second.round.south

meeting_of : (m : Map) (height : ℕ) (b c : Banded) → IsBandedOf m height b → IsBandedOf m height c → is_met height (b, c) ≡ true
    → IsMeetingOf m height (b, c)
meeting_of m height b c first second met =
    let parts = parts_met height b c met in
    let r = first.round in
    let s = second.round in
    let west = parts.1 in
    let east = parts.2 in
    let south = parts.3 in
    let north = parts.4 in
    let r_west = r.west in
    let r_east = r.east in
    let r_south = r.south in
    let r_north = r.north in
    let s_west = s.west in
    let s_east = s.east in
    let s_south = s.south in
    let s_north = s.north in
    let level = band_of_two m height b c first second in
    record {
      meet = record {
        across = meet_from_overlap (thing_start m b.thing).x (thing_end m b.thing).x (thing_start m c.thing).x (thing_end m c.thing).x
            r.start_on_grid.across r.end_on_grid.across s.start_on_grid.across s.end_on_grid.across (omega (arith, west, r_west, s_east))
            (omega (arith, east, s_west, r_east));
        up = meet_from_overlap (thing_start m b.thing).y (thing_end m b.thing).y (thing_start m c.thing).y (thing_end m c.thing).y
            r.start_on_grid.up r.end_on_grid.up s.start_on_grid.up s.end_on_grid.up (omega (arith, south, r_south, s_north))
            (omega (arith, north, s_south, r_north));
      };
      first_band = sym parts.5 ∙ level;
      second_band = parts.0 ∙ (sym parts.5 ∙ level);
    }

met_of : (m : Map) (height : ℕ) (b c : Banded) → IsBandedOf m height b → IsBandedOf m height c → ThingsMeet m b.thing c.thing
    → b.band ≡ common_band m height b.thing c.thing → c.band ≡ common_band m height b.thing c.thing → is_met height (b, c) ≡ true
met_of m height b c first second meet here there =
    let r = first.round in
    let s = second.round in
    let bs = thing_start m b.thing in
    let be = thing_end m b.thing in
    let cs = thing_start m c.thing in
    let ce = thing_end m c.thing in
    let west = overlap_from_meet bs.x be.x cs.x ce.x meet.across in
    let east = overlap_from_meet cs.x ce.x bs.x be.x (meet_flips bs.x be.x cs.x ce.x meet.across) in
    let south = overlap_from_meet bs.y be.y cs.y ce.y meet.up in
    let north = overlap_from_meet cs.y ce.y bs.y be.y (meet_flips bs.y be.y cs.y ce.y meet.up) in
    let r_west = r.west in
    let r_east = r.east in
    let r_south = r.south in
    let r_north = r.north in
    let s_west = s.west in
    let s_east = s.east in
    let s_south = s.south in
    let s_north = s.north in
    met_from_parts height b c (there ∙ sym here) (omega (arith, west, r_west, s_east)) (omega (arith, east, s_west, r_east))
    (omega (arith, south, r_south, s_north)) (omega (arith, north, s_south, r_north)) (band_of_two m height b c first second ∙ sym here)

-- ---- what the meetings have

-- what holds of each thing holds of both things of each meeting
both_of : (Q : Banded → Type 0) (height : ℕ) (es : List Banded) → All Q es → All (λ p. Q p.0 × Q p.1) (meetings_of height es)
both_of Q height [] all = All-nil (λ p. Q p.0 × Q p.1)
both_of Q height (e ∷ es) all =
    let head = All-head Q e es all in
    let rest = All-tail Q e es all in
    All-append (λ p. Q p.0 × Q p.1) (meetings_beside height e es 0) (meetings_of height es)
    (All-filter (is_met height) (λ p. Q p.0 × Q p.1) (map (with_head e) es)
    (All-map (λ p. Q p.0 × Q p.1) (with_head e) es (λ k d within. (head, rest k d within))))
    (both_of Q height es rest)

each_met : (height : ℕ) (es : List Banded) → All (λ p. is_met height p ≡ true) (meetings_of height es)
each_met height [] = All-nil (λ p. is_met height p ≡ true)
each_met height (e ∷ es) = All-append (λ p. is_met height p ≡ true) (meetings_beside height e es 0) (meetings_of height es)
    (filter_passes (is_met height) (map (with_head e) es)) (each_met height es)

-- the spots of p are not those of q, in either order
pub record IsElsewhere (p q : Banded × Banded) : Type 0 where
  pub straight : spot_of p.0 ≡ spot_of q.0 → spot_of p.1 ≡ spot_of q.1 → ⊥
  pub crossed : spot_of p.0 ≡ spot_of q.1 → spot_of p.1 ≡ spot_of q.0 → ⊥

elsewhere : (height : ℕ) (es : List Banded) → AllPairs (λ e f. spot_of e ≢ spot_of f) es → AllPairs IsElsewhere (meetings_of height es)
elsewhere height [] apart = pairs_nil IsElsewhere
elsewhere height (e ∷ es) apart =
    let head : All (λ f. spot_of e ≢ spot_of f) es = pairs_head (λ e f. spot_of e ≢ spot_of f) e es apart in
    let rest : AllPairs (λ e f. spot_of e ≢ spot_of f) es = pairs_tail (λ e f. spot_of e ≢ spot_of f) e es apart in
    let later : All (λ q. (spot_of e ≢ spot_of q.0) × (spot_of e ≢ spot_of q.1)) (meetings_of height es) =
    both_of (λ f. spot_of e ≢ spot_of f) height es head in
    pairs_append IsElsewhere (meetings_beside height e es 0) (meetings_of height es)
    (AllPairs-filter IsElsewhere (is_met height) (map (with_head e) es) (pairs_map IsElsewhere (with_head e) es
    (λ i j d lt within. record {
      straight = λ first second. rest i j d lt within second;
      crossed = λ first second.
          head j d within first;
    })))
    (elsewhere height es rest)
    (All-filter (is_met height) (λ p. All (IsElsewhere p) (meetings_of height es)) (map (with_head e) es)
    (All-map (λ p. All (IsElsewhere p) (meetings_of height es)) (with_head e) es
    (λ k d within. All-weaker (λ q. (spot_of e ≢ spot_of q.0) × (spot_of e ≢ spot_of q.1)) (IsElsewhere (e, get_or es k d)) (λ q both.
    record { straight = λ first second. both.0 first; crossed = λ first second. both.1 first }) (meetings_of height es) later)))

-- ---- all meetings

-- two places of the list whose things meet are a meeting
met_in : (height : ℕ) (es : List Banded) (i j : ℕ) (d : Banded) → i < j → j < length es
    → is_met height (get_or es i d, get_or es j d) ≡ true → Contains (meetings_of height es) (get_or es i d, get_or es j d)
met_in height [] i j d lt within met = absurd (omega (arith, within))
met_in height (e ∷ es) i zero d lt within met = absurd (omega (arith, lt))
met_in height (e ∷ es) zero (suc j) d lt within met =
    let inside : j < length es = omega (arith, within) in
    let long = length-map es (with_head e) in
    Contains-append_left (meetings_beside height e es 0) (meetings_of height es) (e, get_or es j d)
    (filter_holds (is_met height) (map (with_head e) es) (e, get_or es j d)
    (j, omega (arith, inside, long), get_or-map (with_head e) es j d (e, get_or es j d) inside) met)
met_in height (e ∷ es) (suc i) (suc j) d lt within met =
    Contains-append_right (meetings_beside height e es 0) (meetings_of height es) (get_or es i d, get_or es j d)
    (met_in height es i j d (omega (arith, lt)) (omega (arith, within)) met)

-- p is of the things s and t, in either order
abbrev pub IsOfBoth : Thing → Thing → Banded × Banded → Type 0
IsOfBoth s t p = ((p.0.thing ≡ s) × (p.1.thing ≡ t)) ⊎ ((p.0.thing ≡ t) × (p.1.thing ≡ s))

-- where a thing stands in a band
pub record IsSpotIn (things : List Banded) (t : Thing) (band : ℕ) : Type 0 where
  pub at : ℕ
  pub within : at < length things
  pub thing : (d : Banded) → (get_or things at d).thing ≡ t
  pub level : (d : Banded) → (get_or things at d).band ≡ band

spot_in : (things : List Banded) (t : Thing) (band : ℕ) → Contains (map spot_of things) (t, band) → IsSpotIn things t band
spot_in things t band held =
    let found = at_from_Contains (map spot_of things) (t, band) held in
    let long = length-map things spot_of in
    let inside : found.0 < length things = omega (arith, long, found.1) in
    let here : (d : Banded) → spot_of (get_or things found.0 d) ≡ (t, band) = λ d.
    sym (get_or-map spot_of things found.0 d (spot_of d) inside) ∙ found.2 (spot_of d) in
    record {
      at = found.0;
      within = inside;
      thing = λ d. ap (λ s. s.0) (here d);
      level = λ d. ap (λ s. s.1) (here d);
    }

same_spot : (b c : Banded) → b.thing ≡ c.thing → b.band ≡ c.band → spot_of b ≡ spot_of c
same_spot b c things levels = ap (λ t. (t, b.band)) things ∙ ap (λ n. (c.thing, n)) levels

module _ (m : Map) (height : ℕ) (things : List Banded) (tall : 0 < height) (are : AreOf m height things) where
  -- the things reach their lowest common band
  reaches_first : (s t : Thing) → IsThingOf m s → ThingsMeet m s t → IsSpotIn things s (common_band m height s t)
  reaches_first s t thing meet =
      let ss = thing_start m s in
      let se = thing_end m s in
      let ts = thing_start m t in
      let te = thing_end m t in
      let up = overlap_from_meet ts.y te.y ss.y se.y (meet_flips ss.y se.y ts.y te.y meet.up) in
      spot_in things s (common_band m height s t) (are.all s (common_band m height s t) thing
      (div_rises (min (offset_of ss.y) (offset_of se.y)) (max (min (offset_of ss.y) (offset_of se.y))
      (min (offset_of ts.y) (offset_of te.y))) height tall (omega arith))
      (div_rises (max (min (offset_of ss.y) (offset_of se.y)) (min (offset_of ts.y) (offset_of te.y)))
      (max (offset_of ss.y) (offset_of se.y)) height tall (omega (arith, up))))

  reaches_second : (s t : Thing) → IsThingOf m t → ThingsMeet m s t → IsSpotIn things t (common_band m height s t)
  reaches_second s t thing meet =
      let ss = thing_start m s in
      let se = thing_end m s in
      let ts = thing_start m t in
      let te = thing_end m t in
      let up = overlap_from_meet ss.y se.y ts.y te.y meet.up in
      spot_in things t (common_band m height s t) (are.all t (common_band m height s t) thing
      (div_rises (min (offset_of ts.y) (offset_of te.y)) (max (min (offset_of ss.y) (offset_of se.y))
      (min (offset_of ts.y) (offset_of te.y))) height tall (omega arith))
      (div_rises (max (min (offset_of ss.y) (offset_of se.y)) (min (offset_of ts.y) (offset_of te.y)))
      (max (offset_of ts.y) (offset_of te.y)) height tall (omega (arith, up))))

  -- two spots of things that meet, one before the other
  met_at : (s t : Thing) (i j : ℕ) (d : Banded) → i < j → j < length things → ThingsMeet m s t → (get_or things i d).thing ≡ s
      → (get_or things j d).thing ≡ t → (get_or things i d).band ≡ common_band m height s t
      → (get_or things j d).band ≡ common_band m height s t → Contains (meetings_of height things) (get_or things i d, get_or things j d)
  met_at s t i j d lt within meet first second first_band second_band =
      let b = get_or things i d in
      let c = get_or things j d in
      let level : common_band m height s t ≡ common_band m height b.thing c.thing = ap (λ u. common_band m height u t) (sym first)
      ∙ ap (common_band m height b.thing) (sym second) in
      met_in height things i j d lt within
      (met_of m height b c (are.only i d (omega (arith, lt, within))).0 (are.only j d within).0
      (subst (ThingsMeet m b.thing) (sym second) (subst (λ u. ThingsMeet m u t) (sym first) meet))
      (first_band ∙ level) (second_band ∙ level))

  common_flips : (s t : Thing) → common_band m height s t ≡ common_band m height t s
  common_flips s t =
      let a = min (offset_of (thing_start m s).y) (offset_of (thing_end m s).y) in
      let b = min (offset_of (thing_start m t).y) (offset_of (thing_end m t).y) in
      let same : max a b ≡ max b a = omega arith in
      ap (λ k. k / height) same

  things_flip : (s t : Thing) → ThingsMeet m s t → ThingsMeet m t s
  things_flip s t meet = record {
    across = meet_flips (thing_start m s).x (thing_end m s).x (thing_start m t).x (thing_end m t).x meet.across;
    up = meet_flips (thing_start m s).y (thing_end m s).y (thing_start m t).y (thing_end m t).y meet.up;
  }

  -- different things that meet are a meeting, in either order
  pub meet_somewhere : (s t : Thing) → IsThingOf m s → IsThingOf m t → s ≢ t → ThingsMeet m s t
      → (p : Banded × Banded) × Contains (meetings_of height things) p × IsOfBoth s t p
  meet_somewhere s t first second apart meet =
      let one = reaches_first s t first meet in
      let two = reaches_second s t second meet in
      let d = some_of things one.at one.within in
      let differ : one.at ≡ two.at → ⊥ = λ same. apart (sym (one.thing d) ∙ (ap (λ k. (get_or things k d).thing) same ∙ two.thing d)) in
      elim (cases_lt one.at two.at) [
        | inl lt ↦ (
          (get_or things one.at d, get_or things two.at d),
          met_at s t one.at two.at d lt two.within meet (one.thing d)
              (two.thing d) (one.level d) (two.level d),
          inl (one.thing d, two.thing d),
        )
        | inr ge ↦ (
          (get_or things two.at d, get_or things one.at d),
          met_at t s two.at one.at d (omega (arith, ge, differ)) one.within (things_flip s t meet) (two.thing d) (one.thing d) (two.level d
              ∙ common_flips s t) (one.level d ∙ common_flips s t),
          inr (two.thing d, one.thing d),
        )
      ]

  -- each meeting is of things of the map whose boxes meet
  pub meetings_are : All (λ p. (IsThingOf m p.0.thing × IsThingOf m p.1.thing) × IsMeetingOf m height p) (meetings_of height things)
  meetings_are k d within =
      let both = both_of (λ b. IsBandedOf m height b × IsThingOf m b.thing) height things are.only k d within in
      let met = each_met height things k d within in
      let p = get_or (meetings_of height things) k d in
      ((both.0.1, both.1.1), meeting_of m height p.0 p.1 both.0.0 both.1.0 met)

  -- and no two meetings are of the same things
  pub meetings_differ : AllPairs (λ p q. IsOfBoth q.0.thing q.1.thing p → ⊥) (meetings_of height things)
  meetings_differ i j d lt within same =
      let p = get_or (meetings_of height things) i d in
      let q = get_or (meetings_of height things) j d in
      let first = (meetings_are i d (omega (arith, lt, within))).1 in
      let second = (meetings_are j d within).1 in
      let apart = elsewhere height things (pairs_from_map (λ s t. s ≢ t) spot_of things are.once) i j d lt within in
      elim same [
        | inl straight ↦
            let level : common_band m height p.0.thing p.1.thing ≡ common_band m height q.0.thing q.1.thing =
            ap (λ u. common_band m height u p.1.thing) straight.0 ∙ ap (common_band m height q.0.thing) straight.1 in
            apart.straight
            (same_spot p.0 q.0 straight.0 (first.first_band ∙ (level ∙ sym second.first_band)))
            (same_spot p.1 q.1 straight.1 (first.second_band ∙ (level ∙ sym second.second_band)))
        | inr crossed ↦
            let level : common_band m height p.0.thing p.1.thing ≡ common_band m height q.0.thing q.1.thing =
            ap (λ u. common_band m height u p.1.thing) crossed.0
            ∙ (ap (common_band m height q.1.thing) crossed.1 ∙ common_flips q.1.thing q.0.thing) in
            apart.crossed
            (same_spot p.0 q.1 crossed.0 (first.first_band ∙ (level ∙ sym second.second_band)))
            (same_spot p.1 q.0 crossed.1 (first.second_band ∙ (level ∙ sym second.first_band)))
      ]
