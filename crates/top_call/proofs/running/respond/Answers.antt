-- The answer over the texts that were read, or that one of them is too long.
use Rattle.std.proofs.Common.{refl, sym}
use Rattle.std.proofs.lemmas.Bool.{true≢false}
use Rattle.top_call.specs.Requests.{form}
use Rattle.top_call.specs.Reading.{texts_read}
use Rattle.top_call.proofs.Promised.{making_ends, making_names_none}
use Rattle.top_call.proofs.Settled.{form_settled, reading_settled}
use Rattle.top_call.proofs.running.respond.Goals as goal

pub returns-in-Ok-clause-answers : goal.returns-in-Ok-clause-answers
returns-in-Ok-clause-answers g c = λ tells.
    form_settled (form c.args.request.now) (g.I.Inputs.texts c.args.inputs.now) (texts_read c.in-Ok.texts) g.O.Sink.tells
    (g.O.Sink.written c.args.out.now) (g.O.Sink.written c.work.new.out) c.work.result
    (c.in-Ok.ensures.reads.read tells) c.in-Ok.ensures.reads.short c.work.ensures.answers

pub returns-in-Err-clause-answers : goal.returns-in-Err-clause-answers
returns-in-Err-clause-answers g c = λ tells.
    reading_settled (form c.args.request.now) (g.I.Inputs.texts c.args.inputs.now) g.O.Sink.tells (g.O.Sink.written c.args.out.now)
    (g.O.Sink.written c.args.out.now) c.in-Err.status refl
    c.in-Err.ensures.reads.statuses (c.in-Err.ensures.reads.past tells)

pub returns-in-Ok-clause-made : goal.returns-in-Ok-clause-made
returns-in-Ok-clause-made g c =
    making_ends (form c.args.request.now) (texts_read c.in-Ok.texts) g.O.Sink.tells (g.O.Sink.written c.args.out.now)
    (g.O.Sink.written c.work.new.out) c.work.result c.work.ensures.status c.work.ensures.answers

pub returns-in-Err-clause-made : goal.returns-in-Err-clause-made
returns-in-Err-clause-made g c =
    λ making. absurd (true≢false (sym (c.in-Err.ensures.unnamed (making_names_none (form c.args.request.now) making))))
