use Rattle.std.proofs.Common.{◌≡◌, ◌∙◌, ap, sym, subst}
use Rattle.plane_sweep.specs.Places.{AllMeetLawfully, AllRise, HasHighs}
use Rattle.plane_sweep.specs.Spans.{spans_in}
use Rattle.plane_sweep.proofs.Cleaning.{all_rise, no_clash}
use Rattle.plane_sweep.proofs.walk.is_clean.Goals as goal

pub pass_all-requires-clause-rising : goal.pass_all-requires-clause-rising
pass_all-requires-clause-rising c =
    let spans = c.in_ok-spans.spans.items in
    let numbers = c.in_ok-numbers.numbers.items in
    let whole : spans_in spans numbers ≡ spans = subst (λ xs. spans_in xs numbers ≡ xs) c.deref.ensures.value c.in_ok-numbers.ensures in
    let same : spans_in c.deref-4.result.now c.deref-5.result.now ≡ spans =
    ap (λ xs. spans_in xs c.deref-5.result.now) c.deref-4.ensures.value ∙ ap (spans_in spans) c.deref-5.ensures.value ∙ whole in
    subst AllRise (sym same) (all_rise c.args.map.now spans c.in_ok-spans.ensures)

pub pass_all-requires-clause-ends : goal.pass_all-requires-clause-ends
pass_all-requires-clause-ends c =
    let spans = c.in_ok-spans.spans.items in
    let numbers = c.in_ok-numbers.numbers.items in
    let places = c.in_ok-places.places.items in
    let whole : spans_in spans numbers ≡ spans = subst (λ xs. spans_in xs numbers ≡ xs) c.deref.ensures.value c.in_ok-numbers.ensures in
    let same : spans_in c.deref-4.result.now c.deref-5.result.now ≡ spans =
    ap (λ xs. spans_in xs c.deref-5.result.now) c.deref-4.ensures.value ∙ ap (spans_in spans) c.deref-5.ensures.value ∙ whole in
    let ends : HasHighs spans places = subst (λ xs. HasHighs xs places) c.deref-2.ensures.value c.in_ok-places.ensures in
    subst (λ xs. HasHighs xs c.deref-6.result.now) (sym same) (subst (HasHighs spans) (sym c.deref-6.ensures.value) ends)

pub returns : goal.returns
returns c t =
    let spans = c.in_ok-spans.spans.items in
    let numbers = c.in_ok-numbers.numbers.items in
    let whole : spans_in spans numbers ≡ spans = subst (λ xs. spans_in xs numbers ≡ xs) c.deref.ensures.value c.in_ok-numbers.ensures in
    let same : spans_in c.deref-4.result.now c.deref-5.result.now ≡ spans =
    ap (λ xs. spans_in xs c.deref-5.result.now) c.deref-4.ensures.value ∙ ap (spans_in spans) c.deref-5.ensures.value ∙ whole in
    no_clash c.args.map.now spans c.in_ok-spans.ensures (subst AllMeetLawfully same (c.in_ok-passed.ensures t))
