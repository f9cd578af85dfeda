-- `check` has one answer to what a run writes.
use Rattle.std.proofs.Common.{◌≡◌, ◌∙◌, List, ℕ, refl, sym, ap, subst}
use Rattle.cert_checker.specs.declared.verdicts.Verdict.TheVariants.{Yes}
use Rattle.top_call.specs.declared.forms.Options.{Options}
use Rattle.top_call.specs.declared.status.Status.TheVariants.{Done}
use Rattle.top_call.specs.Answers.{Answer, done, told, IsMapAnswer, Refused, Written, IsCheckAnswer, RefusedFile, Told, IsSimplified}
use Rattle.top_call.specs.Answers.{IsCertified}
use Rattle.top_call.specs.Laws.{CheckAnswersYes}
use Rattle.top_call.specs.Endings.{IsMapStatus}
use Rattle.top_call.proofs.NotRefused.{loaded_not_refused}
use Rattle.top_call.proofs.RefusalKinds.{refusal_kind}
use Rattle.top_call.proofs.OnlyYes.{simplified_checks_yes}

-- what was put out is what a form writes
pub written_by : (options : Options) (text : List ℕ) (W : List ℕ → Type 0) (bytes : List ℕ) → IsMapAnswer options text W (done bytes)
    → W bytes
written_by options text W bytes (Refused s why is) =
    let same : s ≡ Done = sym (ap (λ (a : Answer). a.status) is) in
    absurd (subst IsMapStatus same (refusal_kind options text s why))
written_by options text W bytes (Written written is by) =
    let same : bytes ≡ written = ap (λ (a : Answer). a.bytes) by in
    subst W (sym same) is

pub check_answers_yes : CheckAnswersYes
check_answers_yes options bound file out cert read limits simplifies layers a = (only, there)
  where
    simplified : IsSimplified options bound read.file read.out
    simplified = written_by options read.file (IsSimplified options bound read.file) read.out simplifies

    certified : IsCertified options bound read.file read.cert
    certified = written_by options read.file (IsCertified options bound read.file) read.cert layers

    only : IsCheckAnswer options bound read a → a ≡ told Yes
    only (RefusedFile s why is) = absurd (loaded_not_refused options read.file certified.topology certified.held s certified.run.loaded why)
    only (Told verdict checked is) =
        is ∙ ap told ((simplified_checks_yes options bound read verdict limits.0 limits.1 simplified certified).0 checked)

    there : a ≡ told Yes → IsCheckAnswer options bound read a
    there is = Told Yes ((simplified_checks_yes options bound read Yes limits.0 limits.1 simplified certified).1 refl) is
