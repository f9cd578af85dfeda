-- What is printed for the record's value is the record's text.
use Rattle.std.proofs.Common.{◌++◌, ◌∙◌, ap, sym}
use Rattle.arc_map.specs.Records.{Record}
use Rattle.serde_json.specs.Written.{compact_text, has_float}
use Rattle.cert_format.proofs.Values.{no_float_record, record_compact}
use Rattle.cert_format.proofs.writer.write_record.Goals as goal

pub returns : goal.returns
returns c =
    let chain = c.args.chain in
    let r : Record = record { arc = chain.arc; «from» = chain.«from»; kept = chain.kept.now; layers = chain.layers.now } in
    let printed = c.in_ok-text.ensures.text (ap has_float c.in_ok-value.ensures ∙ no_float_record r) ∙ ap compact_text c.in_ok-value.ensures
    ∙ sym (record_compact r) in
    c.in_ok-extend_from_slice.ensures.items ∙ ap (λ t. c.args.out.now.items ++ t) (c.deref.ensures.value ∙ printed)
