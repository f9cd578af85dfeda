-- Where FILE is ready, and OUT and CERT are held and short, `check` tells a verdict.
use Rattle.std.proofs.Common.{◌∙◌, ℕ, ℤ, Bool, List, Option, ap, refl, sym, subst, inl, inr}
use Rattle.std.specs.Prelude.{◌≢◌}
use Rattle.std.proofs.lemmas.Option.{same_Some}
use Rattle.outside_io.specs.Texts.{Texts}
use Rattle.cert_checker.specs.declared.verdicts.Verdict.{Verdict}
use Rattle.cert_checker.specs.declared.verdicts.Verdict.TheVariants as verdicts
use Rattle.top_call.specs.declared.forms.Options.{Options}
use Rattle.top_call.specs.declared.status.Status.{Status}
use Rattle.top_call.specs.declared.status.Status.TheVariants.{ReadFault, WriteFault}
use Rattle.top_call.specs.Words.{Form, Check}
use Rattle.top_call.specs.Reading.{named}
use Rattle.top_call.specs.Maps.{IsLoaded}
use Rattle.top_call.specs.Answers.{Answer, verdict_status, RefusedFile, Told, IsFormAnswer, NotHeld, TooLong, Worked, IsAnswerBy, IsAnswer}
use Rattle.top_call.specs.Endings.{Settles}
use Rattle.top_call.specs.Headline.{CanJudge, IsJudgingStatus, Judges}
use Rattle.top_call.proofs.NotRefused.{loaded_not_refused}
use Rattle.top_call.proofs.Promised.{answered, AreWithin, file_within, none_unheld, none_past}

verdict_told : (v : Verdict) → IsJudgingStatus (verdict_status v)
verdict_told verdicts.Yes = inl refl
verdict_told (verdicts.No r) = inr (inl (r, refl))

all_within : (options : Options) (bound : ℤ) (texts : Texts) (file out cert : List ℕ) → CanJudge options texts file out cert
    → AreWithin texts (named (Check options bound file out cert))
all_within options bound texts file out cert can = (file_within options texts file can.ready, (can.out_within, (can.cert_within, tt)))

judging_ends : (options : Options) (bound : ℤ) (texts : Texts) (file out cert : List ℕ) (a : Answer) → CanJudge options texts file out cert
    → IsFormAnswer (Check options bound file out cert) texts a → IsJudgingStatus a.status
judging_ends options bound texts file out cert a can (NotHeld none e) =
    absurd (none_unheld texts (named (Check options bound file out cert)) (all_within options bound texts file out cert can) none)
judging_ends options bound texts file out cert a can (TooLong role past e) =
    absurd (none_past texts (named (Check options bound file out cert)) role (all_within options bound texts file out cert can) past)
judging_ends options bound texts file out cert a can (Worked read are short (RefusedFile s why e)) =
    let ready = can.ready in
    let same = same_Some ready.text read.file (sym ready.is_held ∙ are.0) in
    let loaded = subst (λ (xs : List ℕ). IsLoaded options xs ready.topology ready.held) same ready.loaded in
    absurd (loaded_not_refused options read.file ready.topology ready.held s loaded why)
judging_ends options bound texts file out cert a can (Worked read are short (Told verdict checked e)) =
    subst IsJudgingStatus (sym (ap (λ (b : Answer). b.status) e)) (verdict_told verdict)

pub judges : (words : List (List ℕ)) (texts : Texts) (tells : Bool) (before now : List ℕ) (s : Status)
    → Settles (IsAnswer words texts) tells before now s → s ≢ ReadFault → s ≢ WriteFault → Judges words texts s
judges words texts tells before now s settled read write options bound file out cert is_form can =
    elim (answered (IsAnswer words texts) tells before now s read write settled) [
      | inl none ↦ inr (inr none)
      | inr known ↦
          subst IsJudgingStatus (sym known.2)
          (judging_ends options bound texts file out cert known.0 can
          (subst (λ (o : Option Form). IsAnswerBy o texts known.0) is_form known.1))
    ]
