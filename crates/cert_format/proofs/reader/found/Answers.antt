-- The records of a certificate stand behind its first bracket, and without them its text is read as its other numbers.
use Rattle.std.proofs.Common.{◌≡◌, ◌++◌, ◌∷◌, ◌∙◌, map, sym, subst}
use Rattle.cert_format.specs.Certificate.{certificate_text, record_text}
use Rattle.cert_format.specs.Parts.{IsTextOf, bare, joined}
use Rattle.cert_format.specs.Values.{data_of}
use Rattle.cert_format.proofs.Found.{wide_bound}
use Rattle.cert_format.proofs.Framing.{front_text, back_text, front_lacks, opened, without_records}
use Rattle.cert_format.proofs.Opened.{bare_is_text}
use Rattle.cert_format.proofs.reader.found.Goals as goal

pub returns-in-Err-clause-found : goal.returns-in-Err-clause-found
returns-in-Err-clause-found c = λ w fits is.
    let cut = c.cut_behind.ensures.parts (front_text w) (joined (map record_text w.entries) ++ (93 ∷ back_text w))
    (front_lacks w (wide_bound w fits)) (sym is ∙ opened w) in
    c.in-Err.ensures.taken w.entries (back_text w) fits.limits.few fits.entries cut.1

pub returns-in-Err-parsed-clause-found : goal.returns-in-Err-parsed-clause-found
returns-in-Err-parsed-clause-found c = λ w fits is.
    let cut = c.cut_behind.ensures.parts (front_text w) (joined (map record_text w.entries) ++ (93 ∷ back_text w))
    (front_lacks w (wide_bound w fits)) (sym is ∙ opened w) in
    let records = c.in-Ok.ensures.taken w.entries (back_text w) fits.limits.few fits.entries cut.1 in
    let text : c.deref.result.now ≡ certificate_text (bare w) = c.deref.ensures.value ∙ c.in-Ok-together.ensures
    ∙ without_records w _ _ cut.0 records.1 in
    c.in-Err-parsed.ensures (data_of (bare w)) (subst (IsTextOf 3 (data_of (bare w))) (sym text) (bare_is_text w fits))

pub returns-in-Ok-taken-clause-found : goal.returns-in-Ok-taken-clause-found
returns-in-Ok-taken-clause-found c = λ w fits is.
    let cut = c.cut_behind.ensures.parts (front_text w) (joined (map record_text w.entries) ++ (93 ∷ back_text w))
    (front_lacks w (wide_bound w fits)) (sym is ∙ opened w) in
    let records = c.in-Ok.ensures.taken w.entries (back_text w) fits.limits.few fits.entries cut.1 in
    let text : c.deref.result.now ≡ certificate_text (bare w) = c.deref.ensures.value ∙ c.in-Ok-together.ensures
    ∙ without_records w _ _ cut.0 records.1 in
    let value = c.in-Ok-parsed.ensures (data_of (bare w)) (subst (IsTextOf 3 (data_of (bare w))) (sym text) (bare_is_text w fits)) in
    c.in-Ok-taken.ensures.taken w fits value records.0

pub returns-clause-found : goal.returns-clause-found
returns-clause-found c = λ w fits is.
    let cut = c.cut_behind.ensures.parts (front_text w) (joined (map record_text w.entries) ++ (93 ∷ back_text w))
    (front_lacks w (wide_bound w fits)) (sym is ∙ opened w) in
    let records = c.in-Ok.ensures.taken w.entries (back_text w) fits.limits.few fits.entries cut.1 in
    let text : c.deref.result.now ≡ certificate_text (bare w) = c.deref.ensures.value ∙ c.in-Ok-together.ensures
    ∙ without_records w _ _ cut.0 records.1 in
    let value = c.in-Ok-parsed.ensures (data_of (bare w)) (subst (IsTextOf 3 (data_of (bare w))) (sym text) (bare_is_text w fits)) in
    c.in-Err-taken.ensures.taken w fits value records.0
