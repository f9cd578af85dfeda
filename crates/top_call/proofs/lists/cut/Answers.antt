-- The word before the first comma, or the whole list.
use Rattle.std.proofs.Common.{Some, None, rules, arith}
use Rattle.std.proofs.lemmas.Str.Pattern.{split_parts}
use Rattle.top_call.proofs.ListWords.{cut_at_comma, uncut}
use Rattle.top_call.proofs.lists.cut.Goals as goal

pub returns-in-Some : goal.returns-in-Some
returns-in-Some c =
    let parts = split_parts 44 c.args.list.now (Some (c.in-Some.word, c.in-Some.rest)) c.in-Some.ensures.cases (omega arith) in
    record { shorter = search rules; split = rw parts.0 (cut_at_comma c.in-Some.word.now c.in-Some.rest.now parts.1) }

pub returns-in-None : goal.returns-in-None
returns-in-None c =
    let lacks = split_parts 44 c.args.list.now None c.in-None.ensures.cases (omega arith) in
    record { shorter = tt; split = uncut c.args.list.now lacks }
