-- The answer of the request that the words spell, or the usage.
use Rattle.std.proofs.Common.{◌∙◌, ap, refl, sym}
use Rattle.std.specs.Option.{option_map}
use Rattle.top_call.specs.Requests.{bytes_of, form}
use Rattle.top_call.proofs.Promised.{makes_by, makes_none}
use Rattle.top_call.proofs.Settled.{words_settled, usage_settled}
use Rattle.top_call.proofs.running.answer.Goals as goal

pub returns-in-Some-clause-answers : goal.returns-in-Some-clause-answers
returns-in-Some-clause-answers g c = λ tells.
    words_settled (bytes_of c.args.words.now) (g.I.Inputs.texts c.args.inputs.now) (form c.in-Some.request) g.O.Sink.tells
    (g.O.Sink.written c.args.out.now) (g.O.Sink.written c.respond.new.out) c.respond.result
    (ap (option_map form) (sym c.in-Some.is) ∙ c.request.ensures.value) (c.respond.ensures.answers tells)

pub returns-in-None-clause-answers : goal.returns-in-None-clause-answers
returns-in-None-clause-answers g c = λ tells.
    usage_settled (bytes_of c.args.words.now) (g.I.Inputs.texts c.args.inputs.now) g.O.Sink.tells (g.O.Sink.written c.args.out.now)
    (g.O.Sink.written c.args.out.now) refl
    (ap (option_map form) (sym c.in-None.is) ∙ c.request.ensures.value)

pub returns-in-Some-clause-made : goal.returns-in-Some-clause-made
returns-in-Some-clause-made g c =
    makes_by (bytes_of c.args.words.now) (form c.in-Some.request) c.respond.result
    (ap (option_map form) (sym c.in-Some.is) ∙ c.request.ensures.value) c.respond.ensures.made

pub returns-in-None-clause-made : goal.returns-in-None-clause-made
returns-in-None-clause-made g c =
    makes_none (bytes_of c.args.words.now) _ (ap (option_map form) (sym c.in-None.is) ∙ c.request.ensures.value)
