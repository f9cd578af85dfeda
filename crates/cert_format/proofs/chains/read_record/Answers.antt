-- The text of a record is parsed as the record's value.
use Rattle.std.proofs.Common.{sym, subst}
use Rattle.cert_format.specs.Parts.{IsTextOf}
use Rattle.cert_format.specs.Values.{record_data}
use Rattle.cert_format.proofs.Opened.{record_is_text}
use Rattle.cert_format.proofs.chains.read_record.Goals as goal

pub returns-in-Ok-record_of : goal.returns-in-Ok-record_of
returns-in-Ok-record_of c = λ r fits is.
    c.in-Ok-record_of.ensures r fits (c.in-Ok.ensures (record_data r) (subst (IsTextOf 2 (record_data r)) (sym is) (record_is_text r fits)))

pub returns : goal.returns
returns c = λ r fits is.
    c.in-Err-record_of.ensures r fits (c.in-Ok.ensures (record_data r)
    (subst (IsTextOf 2 (record_data r)) (sym is) (record_is_text r fits)))

pub returns-in-Err : goal.returns-in-Err
returns-in-Err c = λ r fits is.
    c.in-Err.ensures (record_data r) (subst (IsTextOf 2 (record_data r)) (sym is) (record_is_text r fits))
