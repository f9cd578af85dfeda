use Rattle.std.proofs.lemmas.List.{length-map}
use Rattle.top_call.specs.Requests.{bytes_of}
use Rattle.top_call.proofs.OtherWords.{weighed_other}
use Rattle.top_call.proofs.words.weighed.Goals as goal

pub returns-in_default : goal.returns-in_default
returns-in_default c = weighed_other c.args.task c.args.hold (bytes_of c.args.words.now) (rw length-map c.in_default.len_below)
