-- What was written for a text has one verdict.
use Rattle.std.proofs.Common.{◌≡◌, ◌∙◌, ℕ, zero, suc, ℤ, ◌<◌, List, [], ◌∷◌, take, slice_get, refl, sym, ap, subst, inl, inr, arith}
use Rattle.std.proofs.lemmas.Bool.{cases_order}
use Rattle.arc_map.specs.Arcs.{map_now}
use Rattle.arc_map.specs.Chains.{Chain}
use Rattle.topo_reader.specs.Reads.{TopologyRead}
use Rattle.cert_checker.specs.Difference.{IsFirstDifference}
use Rattle.cert_checker.specs.declared.verdicts.Reason.{Reason}
use Rattle.cert_checker.specs.declared.verdicts.Reason.TheVariants as reasons
use Rattle.cert_checker.specs.declared.verdicts.Verdict.{Verdict}
use Rattle.cert_checker.specs.declared.verdicts.Verdict.TheVariants.{Yes, No}
use Rattle.cert_checker.proofs.Uniqueness.{got_before}
use Rattle.top_call.specs.declared.forms.Options.{Options}
use Rattle.top_call.specs.Reading.{Read}
use Rattle.top_call.specs.Answers.{IsChecked, NotCertificate, IsRefuted, IsCompared, IsComparison, text_with}
use Rattle.top_call.proofs.OnlyYes.{compared_equal, judged_for_once}

-- ---- one first difference

not_earlier : (xs ys : List ℕ) (k l : ℕ) → IsFirstDifference xs ys k → IsFirstDifference xs ys l → k < l → ⊥
not_earlier xs ys k l first second before =
    first.differ (sym (got_before xs l k before) ∙ ap (λ (zs : List ℕ). slice_get zs k) second.same_before ∙ got_before ys l k before)

difference_is_one : (xs ys : List ℕ) (k l : ℕ) → IsFirstDifference xs ys k → IsFirstDifference xs ys l → k ≡ l
difference_is_one xs ys k l first second = elim (cases_order k l) [
  | inl same ↦ same
  | inr other ↦ elim other [
    | inl before ↦ absurd (not_earlier xs ys k l first second before)
    | inr behind ↦ absurd (not_earlier xs ys l k second first behind)
  ]
]

-- ---- one comparison

-- the texts are equal, or this is where they first differ
data Compared (expected out : List ℕ) (v : Verdict) : Type 0 where
  Equal : v ≡ Yes → expected ≡ out → Compared expected out v
  Differing : (at : ℕ) → v ≡ No (reasons.Text at) → IsFirstDifference expected out at → Compared expected out v

compared : (expected out : List ℕ) (v : Verdict) → IsComparison expected out v → Compared expected out v
compared expected out Yes found = Equal refl found
compared expected out (No (reasons.Text at)) found = Differing at refl found
compared expected out (No reasons.Form) found = absurd found
compared expected out (No reasons.Version) found = absurd found
compared expected out (No reasons.Bound) found = absurd found
compared expected out (No reasons.Weights) found = absurd found
compared expected out (No (reasons.Held k)) found = absurd found
compared expected out (No (reasons.Chains k)) found = absurd found
compared expected out (No (reasons.Kept n)) found = absurd found
compared expected out (No (reasons.Path n i j)) found = absurd found
compared expected out (No (reasons.Ends n)) found = absurd found
compared expected out (No (reasons.Layers n i j)) found = absurd found

comparison_is_one : (expected out : List ℕ) (v w : Verdict) → Compared expected out v → IsComparison expected out v
    → IsComparison expected out w → Compared expected out w → v ≡ w
comparison_is_one expected out v w (Equal is same) first second also = is ∙ sym (compared_equal expected out w same second)
comparison_is_one expected out v w (Differing at is differ) first second (Equal too same) =
    compared_equal expected out v same first ∙ sym too
comparison_is_one expected out v w (Differing at is differ) first second (Differing place too other) =
    is ∙ ap (λ (n : ℕ). No (reasons.Text n)) (difference_is_one expected out at place differ other) ∙ sym too

-- ---- one verdict

no_is_not_yes : (r : Reason) → No r ≡ Yes → ⊥
no_is_not_yes r h = absurd cc

pub verdict_is_one : (options : Options) (bound : ℤ) (read : Read) (v w : Verdict) → IsChecked options bound read v
    → IsChecked options bound read w → v ≡ w
verdict_is_one options bound read v w (NotCertificate t held loaded none is) (NotCertificate u arcs also missing too) = is ∙ sym too
verdict_is_one options bound read v w (NotCertificate t held loaded none is) (IsRefuted u reason after judged too) =
    absurd (none judged.content judged.is_content.certificate judged.is_content.text)
verdict_is_one options bound read v w (NotCertificate t held loaded none is) (IsCompared u after judged found) =
    absurd (none judged.content judged.is_content.certificate judged.is_content.text)
verdict_is_one options bound read v w (IsRefuted t reason after judged is) (NotCertificate u arcs also missing too) =
    absurd (missing judged.content judged.is_content.certificate judged.is_content.text)
verdict_is_one options bound read v w (IsCompared t after judged found) (NotCertificate u arcs also missing too) =
    absurd (missing judged.content judged.is_content.certificate judged.is_content.text)
verdict_is_one options bound read v w (IsRefuted t reason after judged is) (IsRefuted u other chains again too) =
    is ∙ (judged_for_once options bound read.file read.cert t u (No reason) (No other) after chains judged again).verdict ∙ sym too
verdict_is_one options bound read v w (IsRefuted t reason after judged is) (IsCompared u chains again found) =
    absurd (no_is_not_yes reason (judged_for_once options bound read.file read.cert t u (No reason) Yes after chains judged again).verdict)
verdict_is_one options bound read v w (IsCompared t after judged found) (IsRefuted u other chains again too) =
    absurd (no_is_not_yes other (sym (judged_for_once options bound read.file read.cert t u Yes
    (No other) after chains judged again).verdict))
verdict_is_one options bound read v w (IsCompared t after judged found) (IsCompared u chains again other) =
    let same = judged_for_once options bound read.file read.cert u t Yes Yes chains after again judged in
    let expected = text_with read.file t (map_now t.map after) in
    let text : text_with read.file u (map_now u.map chains) ≡ expected =
    ap (λ (x : TopologyRead). text_with read.file x (map_now x.map chains)) same.topology
    ∙ ap (λ (cs : List Chain). text_with read.file t (map_now t.map cs)) same.chains in
    let here = subst (λ (xs : List ℕ). IsComparison xs read.out w) text other in
    comparison_is_one expected read.out v w (compared expected read.out v found) found here (compared expected read.out w here)
