-- The places and the ranks are those of the next level.
use Rattle.std.proofs.Common.{◌≡◌, ◌∙◌, ◌<◌, ℕ, List, [], get_or, map, length, slice_index, sym, ap, subst}
use Rattle.std.specs.Global.{Vec}
use Rattle.std.specs.Vec.{with_items}
use Rattle.std.proofs.lemmas.List.{with_items_is}
use Rattle.chain_replace.specs.Run.{IsOutcome}
use Rattle.chain_replace.specs.Laws.{KeepsFaces}
use Rattle.pyramid.specs.Levels.{kept_of, level_terms}
use Rattle.pyramid.specs.Places.{list_of, AreRaised}
use Rattle.pyramid.proofs.Coming.{run-outcome, run-faces, records-within, next-within, next-come}
use Rattle.pyramid.proofs.level.Level.next.Goals as goal

pub places_left-requires-clause-within : goal.places_left-requires-clause-within
places_left-requires-clause-within c =
    let o = c.in_ok-outcome.outcome in
    let run : IsOutcome c.args.self.map (level_terms c.args.bound) o.map.map o.records.entries =
    run-outcome c.whole.result c.args.self.map c.args.bound c.unit_weights.result o.map.map o.records.entries c.whole.ensures
    c.unit_weights.ensures c.in_ok-outcome.ensures.outcome in
    records-within c.requires.read c.requires.bounds c.requires.number c.args.bound c.args.self o.map.map o.records.entries
    c.as_slice.result.now c.as_slice.ensures.value c.requires.come run

pub raise_all-requires-clause-within : goal.raise_all-requires-clause-within
raise_all-requires-clause-within c =
    let o = c.in_ok-outcome.outcome in
    let run : IsOutcome c.args.self.map (level_terms c.args.bound) o.map.map o.records.entries =
    run-outcome c.whole.result c.args.self.map c.args.bound c.unit_weights.result o.map.map o.records.entries c.whole.ensures
    c.unit_weights.ensures c.in_ok-outcome.ensures.outcome in
    let faces : KeepsFaces [] c.args.self.map o.map.map = run-faces c.whole.result c.args.self.map o.map.map c.whole.ensures
    c.in_ok-outcome.ensures.faces in
    let places : List (Vec ℕ) = c.as_slice.result.now in
    let same = c.as_slice.ensures.value in
    subst (λ (left : List (Vec ℕ)). (arc : ℕ) → arc < length left → (k : ℕ) (d : ℕ) → k < length (list_of left arc)
    → get_or (list_of left arc) k d < length (list_of c.as_mut_slice.result.now arc)) (sym c.as_slice-2.ensures.value)
    (next-within c.requires.read c.requires.bounds c.requires.number c.args.bound c.args.self o.map.map o.records.entries
    c.in_ok-left.left.items c.as_mut_slice.result.now c.as_mut_slice.ensures.value c.requires.come run faces
    (c.in_ok-left.ensures.count ∙ ap length same)
    (subst (λ (ps : List (Vec ℕ)). (arc : ℕ) → arc < length ps → list_of c.in_ok-left.left.items arc
    ≡ map (slice_index (list_of ps arc)) (kept_of o.records.entries arc)) same c.in_ok-left.ensures.left))

pub returns : goal.returns
returns c = λ m bounds k number by come.
    let o = c.in_ok-outcome.outcome in
    let run : IsOutcome c.args.self.map (level_terms c.args.bound) o.map.map o.records.entries =
    run-outcome c.whole.result c.args.self.map c.args.bound c.unit_weights.result o.map.map o.records.entries c.whole.ensures
    c.unit_weights.ensures c.in_ok-outcome.ensures.outcome in
    let faces : KeepsFaces [] c.args.self.map o.map.map = run-faces c.whole.result c.args.self.map o.map.map c.whole.ensures
    c.in_ok-outcome.ensures.faces in
    let same = c.as_slice.ensures.value in
    let left = c.as_slice-2.ensures.value in
    let old = c.as_mut_slice.ensures.value in
    let wrote = with_items_is c.args.self.ranks c.raise_all.new.ranks (c.raise_all.ensures.count ∙ c.as_mut_slice.ensures.len) in
    next-come m bounds k c.args.number c.args.bound c.args.self
    (record { map = c.adopt.result; places = c.in_ok-left.left; ranks = with_items c.args.self.ranks c.raise_all.new.ranks }) o.map.map
    o.records.entries number by come run faces (c.adopt.ensures ∙ c.into_map.ensures)
    (c.in_ok-left.ensures.count ∙ ap length same)
    (subst (λ (ps : List (Vec ℕ)). (arc : ℕ) → arc < length ps → list_of c.in_ok-left.left.items arc
    ≡ map (slice_index (list_of ps arc)) (kept_of o.records.entries arc)) same c.in_ok-left.ensures.left)
    (ap length wrote ∙ c.raise_all.ensures.count ∙ ap length old)
    (subst (λ (ranks : List (Vec ℕ)). (arc : ℕ) → arc < length c.in_ok-left.left.items
    → AreRaised (list_of c.args.self.ranks.items arc) (list_of ranks arc) (list_of c.in_ok-left.left.items arc) c.args.number)
    (sym wrote)
    (subst (λ (ps : List (Vec ℕ)). (arc : ℕ) → arc < length ps
    → AreRaised (list_of c.args.self.ranks.items arc) (list_of c.raise_all.new.ranks arc) (list_of ps arc) c.args.number) left
    (subst (λ (rs : List (Vec ℕ)). (arc : ℕ) → arc < length c.as_slice-2.result.now
    → AreRaised (list_of rs arc) (list_of c.raise_all.new.ranks arc) (list_of c.as_slice-2.result.now arc) c.args.number) old
    c.raise_all.ensures.raised)))
