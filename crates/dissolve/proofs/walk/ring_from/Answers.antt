-- The ring goes on until it is at its first position again.
use Rattle.std.proofs.Common.{◌≡◌, ℕ, ◌<◌, true, length, refl, sym, subst, rules}
use Rattle.std.specs.Prelude.{Contains, ⊤}
use Rattle.std.proofs.lemmas.Bool.{not-true, not-false, some_since}
use Rattle.dissolve.specs.Border.{EndsAt, IsNext, without}
use Rattle.dissolve.specs.Unused.{AreUnused, unused_in}
use Rattle.dissolve.specs.Walk.{reference}
use Rattle.std.proofs.lemmas.Option.{MatchOption-at_some}
use Rattle.dissolve.specs.declared.step.Step.{Step}
use Rattle.dissolve.proofs.Taking.{fewer}
use Rattle.dissolve.proofs.Balancing.{goes-on, told-apart, told-same}
use Rattle.dissolve.proofs.Marks.{marked-below, marked-once}
use Rattle.dissolve.proofs.Staging.{arc-of_reference, under-way-first, under-way-next, ring-done, ring-left, ring-even}
use Rattle.dissolve.proofs.walk.ring_from.Goals as goal

pub unwrap-step-requires : goal.unwrap-step-requires
unwrap-step-requires c =
    let apart = told-apart c.loop-start.at c.first_position-start.result _ refl (not-true _ (sym c.loop-start-test.ensures)) in
    let some = goes-on c.args.map.now c.first_position-start.result c.loop-start.at (unused_in c.loop-start.unused) apart
    c.loop-start.invariant.way.balanced in
    some_since _ _ _ c.next.ensures.next (λ none. none some.0 some.1 some.2)

pub loop-start-init : goal.loop-start-init
loop-start-init c = record {
  unused = c.take.ensures.unused c.args.map.now c.requires.unused;
  way = under-way-first c.args.map.now (unused_in c.args.unused.now) c.args.arc (record { arc = c.args.arc; forwards = true })
      c.push.new.self.items c.first_position-start.result c.end-at.result (unused_in c.take.new.self)
      refl (search rules) c.first_position-start.ensures c.end-at.ensures c.take.ensures.left (marked-once c.args.unused.now.marks.items)
      c.requires.arc c.requires.even;
}

pub loop-start-preserved : goal.loop-start-preserved
loop-start-preserved c =
    let m = c.args.map.now in
    let s = c.unwrap-step.result in
    let is = c.unwrap-step.ensures in
    let before = unused_in c.loop-start.unused in
    let apart = told-apart c.loop-start.at c.first_position-start.result _ refl (not-true _ (sym c.loop-start-test.ensures)) in
    let next = MatchOption-at_some ((k : ℕ) → Contains before k
    → ¬ (EndsAt m c.loop-start.at k)) (λ step. IsNext m before c.loop-start.at (reference step)) s is c.next.ensures.next in
    let left = MatchOption-at_some ⊤ (λ (step : Step). unused_in c.next.new.self ≡ without step.arc before) s is c.next.ensures.left in
    record {
      unused = MatchOption-at_some ⊤ (λ (step : Step). AreUnused m c.next.new.self) s is c.next.ensures.unused;
      way = under-way-next m (unused_in c.args.unused.now) c.args.arc c.first_position-start.result c.loop-start.at
          c.end-at-in-loop-start.result before (unused_in c.next.new.self) c.loop-start.ring.items c.push-in-loop-start.new.self.items s
          apart next c.end-at-in-loop-start.ensures left c.in_ok-push-2.ensures.items (marked-once c.loop-start.unused.marks.items)
          c.loop-start.invariant.way;
    }

pub loop-start-smaller : goal.loop-start-smaller
loop-start-smaller c =
    let m = c.args.map.now in
    let s = c.unwrap-step.result in
    let is = c.unwrap-step.ensures in
    let before = unused_in c.loop-start.unused in
    let next = MatchOption-at_some ((k : ℕ) → Contains before k
    → ¬ (EndsAt m c.loop-start.at k)) (λ step. IsNext m before c.loop-start.at (reference step)) s is c.next.ensures.next in
    let left = MatchOption-at_some ⊤ (λ (step : Step). unused_in c.next.new.self ≡ without step.arc before) s is c.next.ensures.left in
    let held = subst (Contains before) (arc-of_reference s) next.least.among in
    subst (λ xs. length xs < length before) (sym left) (fewer s.arc before (marked-once c.loop-start.unused.marks.items) held)

pub first_position-start-requires : goal.first_position-start-requires
first_position-start-requires c = subst (λ n. c.args.arc < n) c.requires.unused.count
    (marked-below c.args.unused.now.marks.items c.args.arc c.requires.arc)

pub take-requires : goal.take-requires
take-requires c = marked-below c.args.unused.now.marks.items c.args.arc c.requires.arc

pub end-at-requires : goal.end-at-requires
end-at-requires c = subst (λ n. c.args.arc < n) c.requires.unused.count
    (marked-below c.args.unused.now.marks.items c.args.arc c.requires.arc)

pub returns-clause-even : goal.returns-clause-even
returns-clause-even c =
    let back = told-same c.loop-start.at c.first_position-start.result _ refl (not-false _ (sym c.loop-start-test.ensures)) in
    ring-even c.args.map.now (unused_in c.args.unused.now) c.args.arc c.first_position-start.result c.loop-start.at
    (unused_in c.loop-start.unused) c.loop-start.ring.items back c.loop-start.invariant.way

pub returns-clause-left : goal.returns-clause-left
returns-clause-left c = ring-left c.args.map.now (unused_in c.args.unused.now) c.args.arc c.first_position-start.result c.loop-start.at
    (unused_in c.loop-start.unused) c.loop-start.ring.items c.loop-start.invariant.way

pub returns-clause-ring : goal.returns-clause-ring
returns-clause-ring c =
    let back = told-same c.loop-start.at c.first_position-start.result _ refl (not-false _ (sym c.loop-start-test.ensures)) in
    ring-done c.args.map.now (unused_in c.args.unused.now) c.args.arc c.first_position-start.result c.loop-start.at
    (unused_in c.loop-start.unused) c.loop-start.ring.items back c.loop-start.invariant.way
