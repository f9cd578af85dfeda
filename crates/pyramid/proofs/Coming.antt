-- How a level in memory comes to the next one.
use Rattle.std.proofs.Common.{◌≡◌, ◌∙◌, ◌==◌, ℕ, zero, suc, ◌+◌, ◌<◌, Bool, true, false, cond, ℤ, pos, List, [], ◌∷◌, All, map, filter}
use Rattle.std.proofs.Common.{drop, length, get_or, slice_index, refl, sym, ap, subst, arith}
use Rattle.std.specs.Prelude.{Contains}
use Rattle.std.specs.List.{flat_map, range_with_len}
use Rattle.std.specs.Global.{Vec}
use Rattle.std.proofs.lemmas.List.{length-map, get_or-map}
use Rattle.std.proofs.lemmas.List.Elements.{All-get_or, All-from_get_or, Contains-get_or, Contains-append_left, Contains-append_right}
use Rattle.grid_exact.specs.Geometry.{Place}
use Rattle.grid_exact.specs.Weights.{Scales}
use Rattle.arc_map.specs.Map.{Map, IsMap, IsArc}
use Rattle.arc_map.specs.Arranged.{IsArranged, arc_at}
use Rattle.arc_map.specs.Records.{Record}
use Rattle.arc_map.proofs.Finishing.{has_position}
use Rattle.arrangement_check.specs.Partly.{Holding}
use Rattle.chain_replace.specs.Run.{IsOutcome}
use Rattle.chain_replace.specs.Laws.{KeepsFaces}
use Rattle.pyramid.specs.Levels.{Level as LevelOf, kept_of, later_places, level_terms, ones}
use Rattle.pyramid.specs.LevelMemory.{IsComeTo, level_in}
use Rattle.pyramid.specs.Places.{list_of, lists_of, AreRaised, IsWithin}
use Rattle.pyramid.specs.UnderWay.{IsUpTo}
use Rattle.pyramid.specs.declared.level.Level.{Level}
use Rattle.pyramid.proofs.ArcsLeft.{same_test}
use Rattle.pyramid.proofs.Rising.{at-place}
use Rattle.pyramid.proofs.RunPlaces.{record_is_of_arc}
use Rattle.pyramid.proofs.Stepping.{IsNext, arc-on, level-on, next-level, place-within, start}

-- ---- what the run says

pub run-outcome : (h : Holding) (m : Map) (bound : ℤ) (weights : Scales) (after : Map) (records : List Record)
    → h ≡ record { map = m; held = [] } → weights ≡ ones
    → IsOutcome h.map (record { held = h.held; bound = bound; weights = weights }) after records
    → IsOutcome m (level_terms bound) after records
run-outcome h m bound weights after records whole unit is =
    subst (λ (g : Holding). IsOutcome g.map (record { held = g.held; bound = bound; weights = ones }) after records) whole
    (subst (λ (w : Scales). IsOutcome h.map (record { held = h.held; bound = bound; weights = w }) after records) unit is)

pub run-faces : (h : Holding) (m after : Map) → h ≡ record { map = m; held = [] } → KeepsFaces h.held h.map after → KeepsFaces [] m after
run-faces h m after whole is = subst (λ (g : Holding). KeepsFaces g.held g.map after) whole is

-- ---- the records keep places

later-or-not : (b : Bool) (x : ℕ) (r : Record) (rs : List Record) → Contains (flat_map later_places rs) x
    → Contains (flat_map later_places (cond b (r ∷ rs) rs)) x
later-or-not true x r rs held = Contains-append_right (later_places r) (flat_map later_places rs) x held
later-or-not false x r rs held = held

later-held : (arc x : ℕ) (rs : List Record) (j : ℕ) (d : Record) → j < length rs → (get_or rs j d).arc ≡ arc
    → Contains (later_places (get_or rs j d)) x → Contains (flat_map later_places (filter (λ (s : Record). s.arc == arc) rs)) x
later-held arc x [] j d below is held = absurd (omega arith)
later-held arc x (r ∷ rs) zero d below is held =
    subst (λ (b : Bool).
    Contains (flat_map later_places (cond b (r ∷ filter (λ (s : Record). s.arc == arc) rs) (filter (λ (s : Record). s.arc == arc) rs)))
    x) (sym (same_test r.arc arc is))
    (Contains-append_left (later_places r) (flat_map later_places (filter (λ (s : Record). s.arc == arc) rs)) x held)
later-held arc x (r ∷ rs) (suc j) d below is held = later-or-not (r.arc == arc) x r (filter (λ (s : Record). s.arc == arc) rs)
    (later-held arc x rs j d (omega arith) is held)

behind : (y x : ℕ) (xs : List ℕ) → Contains xs x → Contains (y ∷ xs) x
behind y x xs held = (suc held.0, omega (arith, held.1), held.2)

abbrev none : Record
none = record { arc = 0; «from» = 0; kept = []; layers = [] }

pub records-within : (m : Map) (bounds : List ℤ) (k : ℕ) (bound : ℤ) (level : Level) (after : Map) (records : List Record) (places :
    List (Vec ℕ)) → places ≡ level.places.items → IsComeTo m bounds k level → IsOutcome level.map (level_terms bound) after records
    → All (IsWithin places) records
records-within m bounds k bound level after records places same come outcome =
    let l = level_in level in
    let next : LevelOf = record { left = after; places = l.places } in
    let of_map = come.up_to.last.of_map in
    let kinds = record_is_of_arc level.map (level_terms bound) after records refl outcome in
    subst (λ (ps : List (Vec ℕ)). All (IsWithin ps) records) (sym same)
    (All-from_get_or (IsWithin level.places.items) records none (λ j below.
    let r = get_or records j none in
    let one = All-get_or (λ (s : Record). (s.arc < length level.map.arcs) × (0 < length s.kept)) records j none below kinds in
    let inside : r.arc < length m.arcs = omega (arith, one.0, of_map.count) in
    let on = arc-on m bound l next records of_map outcome r.arc inside in
    record {
      arc = omega (arith, inside, come.count);
      some = one.1;
      later = λ n d within.
          let i = get_or (drop 1 r.kept) n d in
          let long = length-map (drop 1 r.kept) (λ (q : ℕ). r.«from» + q) in
          let among : Contains (later_places r) (r.«from» + i) =
          (n, omega (arith, long, within), get_or-map (λ (q : ℕ). r.«from» + q) (drop 1 r.kept) n d (r.«from» + i) within) in
          let there = at-place (kept_of records r.arc) (r.«from» + i)
          (behind 0 (r.«from» + i) (flat_map later_places (filter (λ (s : Record). s.arc == r.arc) records))
          (later-held r.arc (r.«from» + i) records j none below refl among)) in
          omega (arith, on.within there.place there.below, there.is);
    }))

-- ---- the places of the next level are those of ranks

pub next-within : (m : Map) (bounds : List ℤ) (k : ℕ) (bound : ℤ) (level : Level) (after : Map) (records : List Record) (left ranks :
    List (Vec ℕ)) → ranks ≡ level.ranks.items → IsComeTo m bounds k level → IsOutcome level.map (level_terms bound) after records
    → KeepsFaces [] level.map after → length left ≡ length level.places.items
    → ((arc : ℕ) → arc < length level.places.items → list_of left arc
    ≡ map (slice_index (list_of level.places.items arc)) (kept_of records arc)) → (arc : ℕ) → arc < length left
    → All (λ at. at < length (list_of ranks arc)) (list_of left arc)
next-within m bounds k bound level after records left ranks same come outcome faces count places arc below =
    let l = level_in level in
    let next : LevelOf = record { left = after; places = list_of left } in
    let up = come.up_to in
    let inside : arc < length m.arcs = omega (arith, come.count) in
    let is : IsNext m bound l next records = record {
      outcome = outcome;
      faces = faces;
      places = λ j within.
          places j (omega (arith, come.count));
    } in
    let are = (level-on m bound l next records up.last.of_map is).arcs arc inside in
    let long : length (list_of ranks arc) ≡ length (arc_at m arc) = ap (λ (rs : List (Vec ℕ)). length (list_of rs arc)) same
    ∙ up.long arc inside in
    λ j d within.
    let low = place-within (arc_at m arc) (arc_at after arc) (list_of left arc) (get_or (list_of left arc) j d) (up.some arc inside) are
    (Contains-get_or (list_of left arc) j d within) in
    omega (arith, low, long)

-- ---- the next level

pub next-come : (m : Map) (bounds : List ℤ) (k number : ℕ) (bound : ℤ) (old new : Level) (after : Map) (records : List Record)
    → number ≡ k + 1 → bound ≡ get_or bounds k (pos 0) → IsComeTo m bounds k old → IsOutcome old.map (level_terms bound) after records
    → KeepsFaces [] old.map after → new.map ≡ after → length new.places.items ≡ length old.places.items
    → ((arc : ℕ) → arc < length old.places.items → list_of new.places.items arc
    ≡ map (slice_index (list_of old.places.items arc)) (kept_of records arc)) → length new.ranks.items ≡ length old.ranks.items
    → ((arc : ℕ) → arc < length new.places.items
    → AreRaised (list_of old.ranks.items arc) (list_of new.ranks.items arc) (list_of new.places.items arc) number)
    → IsComeTo m bounds (k + 1) new
next-come m bounds k number bound old new after records numbered by come outcome faces made count places long raised =
    let before = length-map old.ranks.items (λ (v : Vec ℕ). v.items) in
    let behind = length-map new.ranks.items (λ (v : Vec ℕ). v.items) in
    let next : suc k ≡ k + 1 = omega arith in
    let last : number ≡ suc k = omega arith in
    record {
      count = count ∙ come.count;
      up_to = subst (λ (n : ℕ). IsUpTo m bounds (lists_of new.ranks.items) n (level_in new)) next
          (next-level m bounds bound (level_in old) (level_in new) records (lists_of old.ranks.items) (lists_of new.ranks.items) k by
          come.up_to
          (record {
            outcome = subst (λ (n : Map). IsOutcome old.map (level_terms bound) n records) (sym made) outcome;
            faces = subst (KeepsFaces [] old.map) (sym made) faces;
            places = λ arc below. places arc (omega (arith, come.count));
          })
          (omega arith)
          (λ arc below. subst (AreRaised (list_of old.ranks.items arc) (list_of new.ranks.items arc) (list_of new.places.items arc)) last
          (raised arc (omega (arith, come.count)))));
    }

-- ---- level 0

pub start-come : (m one two : Map) (bounds : List ℤ) (level : Level) → one ≡ m → two ≡ m → IsMap one → IsArranged m → level.map ≡ m
    → length level.places.items ≡ length one.arcs → ((arc : ℕ) → arc < length one.arcs
    → list_of level.places.items arc ≡ range_with_len 0 (length (arc_at one arc))) → length level.ranks.items ≡ length two.arcs
    → ((arc : ℕ) → arc < length two.arcs → length (list_of level.ranks.items arc) ≡ length (arc_at two arc))
    → ((arc : ℕ) → arc < length two.arcs → (at : ℕ) → get_or (list_of level.ranks.items arc) at 0 ≡ 0) → IsComeTo m bounds 0 level
start-come m one two bounds level first second is_map arranged made count places ranks long none =
    let few = ap (λ (n : Map). length n.arcs) first in
    let few' = ap (λ (n : Map). length n.arcs) second in
    let is = subst IsMap first is_map in
    record {
      count = count ∙ few;
      up_to = start m bounds (lists_of level.ranks.items) (level_in level) arranged (λ arc below.
          has_position (arc_at m arc) (All-get_or IsArc m.arcs arc [] below is.arcs)) made
          (λ arc below. places arc (omega arith) ∙ ap (λ (n : Map). range_with_len 0 (length (arc_at n arc))) first)
          (length-map level.ranks.items (λ (v : Vec ℕ). v.items) ∙ ranks ∙ few')
          (λ arc below. long arc (omega arith) ∙ ap (λ (n : Map). length (arc_at n arc)) second)
          (λ arc below at. none arc (omega arith) at);
    }
