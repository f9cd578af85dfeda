-- The text is refused as it was loaded, and the verdict is that of the certificate.
use Rattle.std.proofs.Common.{List, ℕ, subst}
use Rattle.std.proofs.lemmas.Result.{err_from_is_err_and}
use Rattle.top_call.specs.Reading.{texts_read}
use Rattle.top_call.specs.Maps.{IsRefused, topology_in}
use Rattle.top_call.proofs.Checked.{not_certificate}
use Rattle.top_call.proofs.checking.verdict_on.Goals as goal

pub returns-in_err-loaded-clause-refused : goal.returns-in_err-loaded-clause-refused
returns-in_err-loaded-clause-refused c =
    let p = err_from_is_err_and c.from_residual.result c.from_residual.ensures.1 in
    rw (p.1, p.2) (subst (λ (text : List ℕ). IsRefused c.args.options.now text c.in_err-loaded.field-0.0) c.deref.ensures.value
    c.in_err-loaded.ensures.refused)

pub returns-in-Err-NotCertificate-clause-told : goal.returns-in-Err-NotCertificate-clause-told
returns-in-Err-NotCertificate-clause-told c =
    let read = texts_read c.args.texts.now in
    not_certificate c.args.options.now c.args.bound read (topology_in c.in_ok-loaded.loaded) c.in_ok-loaded.loaded.partly.held
    c.deref.result.now c.deref-2.result.now
    c.in_ok-loaded.ensures.loaded c.deref.ensures.value (c.in-Err-NotCertificate.ensures.refused c.in-Err-NotCertificate.field-0-is)
    c.deref-2.ensures.value
