-- The answer of each form.
use Rattle.std.proofs.Common.{◌≡◌, ap, refl, sym, subst}
use Rattle.map_gen.specs.Make.{made}
use Rattle.top_call.specs.declared.forms.Request.{Request}
use Rattle.top_call.specs.Requests.{form}
use Rattle.top_call.specs.Words.{polygons_in, bounds_in}
use Rattle.top_call.specs.Reading.{texts_read}
use Rattle.top_call.specs.Maps.{IsRefusal}
use Rattle.top_call.specs.Built.{IsGeoRefusal, IsBuiltOf}
use Rattle.top_call.specs.Answers.{done, plain, IsSimplified, IsCertified, IsDemoed, IsBorderRefusal, IsDissolved, IsRanked, IsMadeAnswer}
use Rattle.top_call.specs.Answers.{IsWorkAnswer}
use Rattle.top_call.specs.Endings.{Settles}
use Rattle.top_call.proofs.Settled.{text_settles, check_settles, faces_settles, made_settles}
use Rattle.top_call.proofs.running.work.Goals as goal

pub returns-in-Simplify-clause-answers : goal.returns-in-Simplify-clause-answers
returns-in-Simplify-clause-answers g c =
    let read = texts_read c.args.texts.now in
    subst (λ (r : Request). Settles (IsWorkAnswer (form r) read) g.O.Sink.tells (g.O.Sink.written c.args.out.now)
    (g.O.Sink.written c.write_bytes.new.out) c.write_bytes.result) (sym c.in-Simplify.is)
    (text_settles g.O.Sink.written c.args.out.now c.write_bytes.new.out (λ text s. IsRefusal c.in-Simplify.options text s)
    (λ text bytes. IsSimplified c.in-Simplify.options c.in-Simplify.bound text bytes) c.deref.result.now read.file g.O.Sink.tells
    c.simplified.result c.write_bytes.result c.deref.ensures.value c.simplified.ensures.written c.simplified.ensures.refused
    c.simplified.ensures.status c.write_bytes.ensures.replies c.write_bytes.ensures.refused)

pub returns-in-Layers-clause-answers : goal.returns-in-Layers-clause-answers
returns-in-Layers-clause-answers g c =
    let read = texts_read c.args.texts.now in
    subst (λ (r : Request). Settles (IsWorkAnswer (form r) read) g.O.Sink.tells (g.O.Sink.written c.args.out.now)
    (g.O.Sink.written c.write_bytes-in-Layers.new.out) c.write_bytes-in-Layers.result) (sym c.in-Layers.is)
    (text_settles g.O.Sink.written c.args.out.now c.write_bytes-in-Layers.new.out (λ text s. IsRefusal c.in-Layers.options text s)
    (λ text bytes. IsCertified c.in-Layers.options c.in-Layers.bound text bytes) c.deref-in-Layers.result.now read.file g.O.Sink.tells
    c.certified.result c.write_bytes-in-Layers.result c.deref-in-Layers.ensures.value c.certified.ensures.written
    c.certified.ensures.refused c.certified.ensures.status c.write_bytes-in-Layers.ensures.replies
    c.write_bytes-in-Layers.ensures.refused)

pub returns-in-Check-clause-answers : goal.returns-in-Check-clause-answers
returns-in-Check-clause-answers g c =
    let read = texts_read c.args.texts.now in
    subst (λ (r : Request). Settles (IsWorkAnswer (form r) read) g.O.Sink.tells (g.O.Sink.written c.args.out.now)
    (g.O.Sink.written c.write_verdict.new.out) c.write_verdict.result) (sym c.in-Check.is)
    (check_settles g.O.Sink.written c.args.out.now c.write_verdict.new.out c.in-Check.options c.in-Check.bound read g.O.Sink.tells
    c.verdict_on.result c.write_verdict.result c.verdict_on.ensures.told c.verdict_on.ensures.refused c.verdict_on.ensures.status
    c.write_verdict.ensures.replies c.write_verdict.ensures.refused)

pub returns-in-Faces-clause-answers : goal.returns-in-Faces-clause-answers
returns-in-Faces-clause-answers g c =
    let read = texts_read c.args.texts.now in
    subst (λ (r : Request). Settles (IsWorkAnswer (form r) read) g.O.Sink.tells (g.O.Sink.written c.args.out.now)
    (g.O.Sink.written c.write_faces.new.out) c.write_faces.result) (sym c.in-Faces.is)
    (faces_settles c.deref-in-Faces.result.now read.file g.O.Sink.tells (g.O.Sink.written c.args.out.now)
    (g.O.Sink.written c.write_faces.new.out) c.write_faces.result c.deref-in-Faces.ensures.value c.write_faces.ensures.answers)

pub returns-in-Make-clause-answers : goal.returns-in-Make-clause-answers
returns-in-Make-clause-answers g c =
    let read = texts_read c.args.texts.now in
    subst (λ (r : Request). Settles (IsWorkAnswer (form r) read) g.O.Sink.tells (g.O.Sink.written c.args.out.now)
    (g.O.Sink.written c.write_bytes-in-Make.new.out) c.write_bytes-in-Make.result) (sym c.in-Make.is)
    (made_settles g.O.Sink.written c.args.out.now c.write_bytes-in-Make.new.out
    (λ bytes. bytes ≡ made c.in-Make.rows c.in-Make.cols c.in-Make.seed)
    (λ a. a ≡ done (made c.in-Make.rows c.in-Make.cols c.in-Make.seed)) g.O.Sink.tells
    c.coverage.result c.write_bytes-in-Make.result (λ bytes is. ap done is) c.coverage.ensures.made c.coverage.ensures.status
    c.write_bytes-in-Make.ensures.replies c.write_bytes-in-Make.ensures.refused)

pub returns-in-Demo-clause-answers : goal.returns-in-Demo-clause-answers
returns-in-Demo-clause-answers g c =
    let read = texts_read c.args.texts.now in
    subst (λ (r : Request). Settles (IsWorkAnswer (form r) read) g.O.Sink.tells (g.O.Sink.written c.args.out.now)
    (g.O.Sink.written c.write_bytes-in-Demo.new.out) c.write_bytes-in-Demo.result) (sym c.in-Demo.is)
    (made_settles g.O.Sink.written c.args.out.now c.write_bytes-in-Demo.new.out
    (λ bytes. IsDemoed c.in-Demo.rows c.in-Demo.cols c.in-Demo.seed c.in-Demo.bound bytes)
    (λ a. IsMadeAnswer (IsDemoed c.in-Demo.rows c.in-Demo.cols c.in-Demo.seed c.in-Demo.bound) a) g.O.Sink.tells
    c.demo.result c.write_bytes-in-Demo.result (λ bytes is. (bytes, is, refl)) c.demo.ensures.written c.demo.ensures.status
    c.write_bytes-in-Demo.ensures.replies c.write_bytes-in-Demo.ensures.refused)

pub returns-in-Dissolve-clause-answers : goal.returns-in-Dissolve-clause-answers
returns-in-Dissolve-clause-answers g c =
    let read = texts_read c.args.texts.now in
    subst (λ (r : Request). Settles (IsWorkAnswer (form r) read) g.O.Sink.tells (g.O.Sink.written c.args.out.now)
    (g.O.Sink.written c.write_bytes-in-Dissolve.new.out) c.write_bytes-in-Dissolve.result) (sym c.in-Dissolve.is)
    (text_settles g.O.Sink.written c.args.out.now c.write_bytes-in-Dissolve.new.out
    (λ text s. IsBorderRefusal (polygons_in c.in-Dissolve.list.now) text s)
    (λ text bytes. IsDissolved (polygons_in c.in-Dissolve.list.now) text bytes) c.deref-in-Dissolve.result.now read.file
    g.O.Sink.tells c.dissolved.result c.write_bytes-in-Dissolve.result c.deref-in-Dissolve.ensures.value c.dissolved.ensures.written
    c.dissolved.ensures.refused c.dissolved.ensures.status c.write_bytes-in-Dissolve.ensures.replies
    c.write_bytes-in-Dissolve.ensures.refused)

pub returns-in-Pyramid-clause-answers : goal.returns-in-Pyramid-clause-answers
returns-in-Pyramid-clause-answers g c =
    let read = texts_read c.args.texts.now in
    subst (λ (r : Request). Settles (IsWorkAnswer (form r) read) g.O.Sink.tells (g.O.Sink.written c.args.out.now)
    (g.O.Sink.written c.write_bytes-in-Pyramid.new.out) c.write_bytes-in-Pyramid.result) (sym c.in-Pyramid.is)
    (text_settles g.O.Sink.written c.args.out.now c.write_bytes-in-Pyramid.new.out (λ text s. IsRefusal plain text s)
    (λ text bytes. IsRanked (bounds_in c.in-Pyramid.list.now) text bytes) c.deref-in-Pyramid.result.now read.file g.O.Sink.tells
    c.ranked.result c.write_bytes-in-Pyramid.result c.deref-in-Pyramid.ensures.value c.ranked.ensures.written c.ranked.ensures.refused
    c.ranked.ensures.status c.write_bytes-in-Pyramid.ensures.replies c.write_bytes-in-Pyramid.ensures.refused)

pub returns-in-Build-clause-answers : goal.returns-in-Build-clause-answers
returns-in-Build-clause-answers g c =
    let read = texts_read c.args.texts.now in
    subst (λ (r : Request). Settles (IsWorkAnswer (form r) read) g.O.Sink.tells (g.O.Sink.written c.args.out.now)
    (g.O.Sink.written c.write_bytes-in-Build.new.out) c.write_bytes-in-Build.result) (sym c.in-Build.is)
    (text_settles g.O.Sink.written c.args.out.now c.write_bytes-in-Build.new.out (λ text s. IsGeoRefusal text s)
    (λ text bytes. IsBuiltOf text bytes) c.deref-in-Build.result.now read.file g.O.Sink.tells c.built.result
    c.write_bytes-in-Build.result c.deref-in-Build.ensures.value c.built.ensures.written c.built.ensures.refused
    c.built.ensures.status c.write_bytes-in-Build.ensures.replies c.write_bytes-in-Build.ensures.refused)
