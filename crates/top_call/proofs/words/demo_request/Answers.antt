use Rattle.std.proofs.Common.{rules, inl, inr}
use Rattle.std.proofs.lemmas.List.{length-map}
use Rattle.top_call.specs.Requests.{bytes_of}
use Rattle.top_call.proofs.OtherWords.{demo_other}
use Rattle.top_call.proofs.words.demo_request.Goals as goal
use Rattle.top_call.proofs.words.demo_request.Goals.{in_default-via-then-words-lt4, in_default-via-else-words-lt4+else-words-lt5}

pub returns-in_default : goal.returns-in_default
returns-in_default c =
    demo_other (bytes_of c.args.words.now) (rw length-map (elim c.in_default.branch [
      | in_default-via-then-words-lt4 w ↦ inl (search rules)
      | in_default-via-else-words-lt4+else-words-lt5 w ↦ inr (search rules)
    ]))
