-- The verdict of the judge is that of the definition, and behind Yes the text is compared.
use Rattle.std.proofs.Common.{◌∙◌}
use Rattle.cert_format.specs.Content.{content_of}
use Rattle.top_call.specs.Reading.{texts_read}
use Rattle.top_call.specs.Maps.{topology_in}
use Rattle.top_call.proofs.Checked.{judged_for, refuted, yes_where_no_no, compared_with}
use Rattle.top_call.proofs.checking.judged.Goals as goal

pub returns-in-No-clause-told : goal.returns-in-No-clause-told
returns-in-No-clause-told c =
    let read = texts_read c.args.texts.now in
    let t = topology_in c.args.loaded in
    let judged =
    judged_for c.args.options.now c.args.bound read.file read.cert t c.args.loaded.partly.held c.in_ok-state.state
    c.version_of-version.result c.weights_of.result
    (content_of c.args.certificate.now) c.judge-verdict.result c.judge-verdict.new.state.work.chains c.requires.loaded c.in_ok-state.ensures
    c.version_of-version.ensures c.weights_of.ensures
    c.requires.certificate c.requires.text c.judge-verdict.ensures.judged in
    refuted c.args.options.now c.args.bound read t c.judge-verdict.result c.in-No.field-0 c.judge-verdict.new.state.work.chains c.in-No.is
    judged

pub returns-clause-told : goal.returns-clause-told
returns-clause-told c =
    let read = texts_read c.args.texts.now in
    let t = topology_in c.args.loaded in
    let judged =
    judged_for c.args.options.now c.args.bound read.file read.cert t c.args.loaded.partly.held c.in_ok-state.state
    c.version_of-version.result c.weights_of.result
    (content_of c.args.certificate.now) c.judge-verdict.result c.judge-verdict.new.state.work.chains c.requires.loaded c.in_ok-state.ensures
    c.version_of-version.ensures c.weights_of.ensures
    c.requires.certificate c.requires.text c.judge-verdict.ensures.judged in
    compared_with c.args.options.now c.args.bound read t c.args.loaded.partly.held c.in_ok-state.state c.judge-verdict.new.state
    c.judge-verdict.result c.compared.result c.finish.result
    c.deref.result.now c.deref-2.result.now c.deref-3.result.now c.in_ok-state.ensures c.judge-verdict.ensures.after
    (yes_where_no_no c.judge-verdict.result c.in_default.not-No) judged c.finish.ensures c.deref.ensures.value
    (c.deref-2.ensures.value ∙ c.in_ok-expected.ensures.value) c.deref-3.ensures.value c.compared.ensures
