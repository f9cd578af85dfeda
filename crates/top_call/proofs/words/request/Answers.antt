use Rattle.std.proofs.Common.{arith}
use Rattle.std.specs.Option.{option_map}
use Rattle.std.proofs.lemmas.Grind.{common_steps}
use Rattle.top_call.specs.Requests.{bytes_of, form}
use Rattle.top_call.proofs.Spelling.{form_spells}
use Rattle.top_call.proofs.words.request.Goals as goal

pub returns-in-len1-up-clause-spelled : goal.returns-in-len1-up-clause-spelled
returns-in-len1-up-clause-spelled c =
    form_spells (bytes_of c.args.words.now) (option_map form c.commanded.result) (grind (arith, common_steps))
