-- The lines are the answer, or the text is refused.
use Rattle.std.proofs.Common.{refl, subst}
use Rattle.top_call.specs.declared.forms.Options.{Options}
use Rattle.top_call.specs.Maps.{IsRefused, topology_in}
use Rattle.top_call.specs.Answers.{IsFaced, plain}
use Rattle.top_call.proofs.Settled.{map_refused, faces_settled}
use Rattle.top_call.proofs.faces.write_faces.Goals as goal

pub returns-in-Err-clause-answers : goal.returns-in-Err-clause-answers
returns-in-Err-clause-answers g c =
    let text = c.args.text.now in
    map_refused plain text (IsFaced text) g.O.Sink.tells (g.O.Sink.written c.args.out.now)
    (g.O.Sink.written c.args.out.now) c.in-Err.status refl c.in-Err.ensures.status
    (subst (λ (o : Options). IsRefused o text c.in-Err.status) c.no_options-options.ensures c.in-Err.ensures.refused)

pub returns-in-Ok-clause-answers : goal.returns-in-Ok-clause-answers
returns-in-Ok-clause-answers g c =
    faces_settled c.no_options-options.result c.args.text.now (topology_in c.in-Ok.loaded) c.in-Ok.loaded.partly.held c.map.result.now
    g.O.Sink.tells (g.O.Sink.written c.args.out.now)
    (g.O.Sink.written c.reply_faces.new.out) c.reply_faces.result c.no_options-options.ensures c.in-Ok.ensures.loaded c.map.ensures.same
    c.reply_faces.ensures.replies
