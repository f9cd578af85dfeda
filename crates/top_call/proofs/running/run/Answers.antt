-- What is promised follows from the answer.
use Rattle.std.proofs.Common.{◌≡◌}
use Rattle.top_call.specs.Answers.{IsAnswer}
use Rattle.top_call.specs.Requests.{bytes_of}
use Rattle.top_call.proofs.Judging.{judges}
use Rattle.top_call.proofs.AnswerOfWords.{answer_is_one}
use Rattle.top_call.proofs.Finished.{reaches_yes, keeps_lines}
use Rattle.top_call.proofs.Promised.{headline, borders, levels, builds, completes}
use Rattle.top_call.proofs.Settled.{settled_as}
use Rattle.top_call.proofs.running.run.Goals as goal

pub returns-clause-headline : goal.returns-clause-headline
returns-clause-headline g c = λ tells told.
    headline (bytes_of c.args.words.now) (g.I.Inputs.texts c.args.inputs.now) g.O.Sink.tells (g.O.Sink.written c.args.out.now)
    (g.O.Sink.written c.answer-status.new.out) c.answer-status.result (c.answer-status.ensures.answers tells) told

pub returns-clause-borders : goal.returns-clause-borders
returns-clause-borders g c = λ tells told.
    borders (bytes_of c.args.words.now) (g.I.Inputs.texts c.args.inputs.now) g.O.Sink.tells (g.O.Sink.written c.args.out.now)
    (g.O.Sink.written c.answer-status.new.out) c.answer-status.result (c.answer-status.ensures.answers tells) told

pub returns-clause-levels : goal.returns-clause-levels
returns-clause-levels g c = λ tells told.
    levels (bytes_of c.args.words.now) (g.I.Inputs.texts c.args.inputs.now) g.O.Sink.tells (g.O.Sink.written c.args.out.now)
    (g.O.Sink.written c.answer-status.new.out) c.answer-status.result (c.answer-status.ensures.answers tells) told

pub returns-clause-builds : goal.returns-clause-builds
returns-clause-builds g c = λ tells told.
    builds (bytes_of c.args.words.now) (g.I.Inputs.texts c.args.inputs.now) g.O.Sink.tells (g.O.Sink.written c.args.out.now)
    (g.O.Sink.written c.answer-status.new.out) c.answer-status.result (c.answer-status.ensures.answers tells) told

pub returns-clause-complete : goal.returns-clause-complete
returns-clause-complete g c = λ tells no_read no_write.
    completes (bytes_of c.args.words.now) (g.I.Inputs.texts c.args.inputs.now) g.O.Sink.tells (g.O.Sink.written c.args.out.now)
    (g.O.Sink.written c.answer-status.new.out) c.answer-status.result (c.answer-status.ensures.answers tells)
    (λ is. no_read (c.answer-status.ensures.reads.fault.rose is)) (λ is. no_write (c.answer-status.ensures.fault.rose is))

pub returns-clause-judges : goal.returns-clause-judges
returns-clause-judges g c = λ tells no_read no_write.
    judges (bytes_of c.args.words.now) (g.I.Inputs.texts c.args.inputs.now) g.O.Sink.tells (g.O.Sink.written c.args.out.now)
    (g.O.Sink.written c.answer-status.new.out) c.answer-status.result (c.answer-status.ensures.answers tells)
    (λ is. no_read (c.answer-status.ensures.reads.fault.rose is)) (λ is. no_write (c.answer-status.ensures.fault.rose is))

pub returns-clause-exactly : goal.returns-clause-exactly
returns-clause-exactly g c = λ tells a is.
    let words = bytes_of c.args.words.now in
    let texts = g.I.Inputs.texts c.args.inputs.now in
    settled_as (IsAnswer words texts) (λ b. b ≡ a) g.O.Sink.tells (g.O.Sink.written c.args.out.now)
    (g.O.Sink.written c.answer-status.new.out) c.answer-status.result
    (λ b other. answer_is_one words texts b a other is) (c.answer-status.ensures.answers tells)

pub returns-clause-reaches_yes : goal.returns-clause-reaches_yes
returns-clause-reaches_yes g c = λ tells no_read no_write.
    reaches_yes (bytes_of c.args.words.now) (g.I.Inputs.texts c.args.inputs.now) g.O.Sink.tells (g.O.Sink.written c.args.out.now)
    (g.O.Sink.written c.answer-status.new.out) c.answer-status.result (c.answer-status.ensures.answers tells)
    (λ is. no_read (c.answer-status.ensures.reads.fault.rose is)) (λ is. no_write (c.answer-status.ensures.fault.rose is))

pub returns-clause-keeps_lines : goal.returns-clause-keeps_lines
returns-clause-keeps_lines g c = λ tells no_read no_write.
    keeps_lines (bytes_of c.args.words.now) (g.I.Inputs.texts c.args.inputs.now) g.O.Sink.tells (g.O.Sink.written c.args.out.now)
    (g.O.Sink.written c.answer-status.new.out) c.answer-status.result (c.answer-status.ensures.answers tells)
    (λ is. no_read (c.answer-status.ensures.reads.fault.rose is)) (λ is. no_write (c.answer-status.ensures.fault.rose is))
