-- Spans by their numbers.
use Rattle.std.proofs.Common.{◌≡◌, ◌∙◌, ◌+◌, ◌<◌, ℕ, List, [], ◌∷◌, ◌++◌, length, take, sym, ap, subst}
use Rattle.std.proofs.lemmas.List.{map-append, take_more}
use Rattle.plane_sweep.specs.declared.spans.Span.{Span}
use Rattle.plane_sweep.specs.Passage.{LastHas}
use Rattle.plane_sweep.specs.Spans.{no_span, span_of, spans_in}
use Rattle.plane_sweep.proofs.Lists.{last_has}

pub spans_parted : (spans : List Span) (all first second : List ℕ) → all ≡ first ++ second
    → spans_in spans all ≡ spans_in spans first ++ spans_in spans second
spans_parted spans all first second is = ap (spans_in spans) is ∙ map-append (span_of spans) first second

-- what holds of the span with the last number
pub spans_last : (P : Span → Type 0) (spans : List Span) (all others : List ℕ) (number : ℕ) → all ≡ others ++ number ∷ []
    → P (span_of spans number) → LastHas P (spans_in spans all)
spans_last P spans all others number is has = subst (LastHas P) (sym (spans_parted spans all others (number ∷ []) is))
    (last_has P (spans_in spans others) (span_of spans number) has)

-- one number more
pub spans_more : (spans : List Span) (numbers more : List ℕ) (k : ℕ) → k < length spans → more ≡ numbers ++ k ∷ []
    → spans_in spans numbers ≡ take k spans → spans_in spans more ≡ take (k + 1) spans
spans_more spans numbers more k within is so_far =
    spans_parted spans more numbers (k ∷ []) is ∙ ap (λ xs. xs ++ span_of spans k ∷ []) so_far ∙ sym (take_more spans k no_span within)
