use Rattle.std.specs.Prelude.{codes, OnOk}
use Rattle.std.proofs.Common.{◌≡◌, ◌∙◌, ap, subst}
use Rattle.json_scan.specs.Shown.{tree}
use Rattle.geo_text.specs.Drafts.{Draft, written}
use Rattle.geo_text.specs.BuiltText.{head, entries, topology}
use Rattle.geo_text.specs.Written.{draft_of}
use Rattle.geo_text.proofs.text.topology.Goals as goal

pub returns : goal.returns
unfolding head
returns c =
    let input = c.args.input.now in
    let t = tree c.args.value in
    let arcs = c.args.arcs.now in
    let begun : draft_of c.write.new.self ≡ written head (draft_of c.args.writer.now) = c.in_ok-write.ensures in
    let same : written (codes "}") (draft_of c.write-3.new.self) ≡ topology input t arcs (draft_of c.args.writer.now) =
    ap (written (codes "}")) (c.in_ok-write-3.ensures
    ∙ ap (written arcs) (c.in_ok-write-2.ensures
    ∙ ap (written (codes "}},\"arcs\":")) (c.in_ok-entries.ensures ∙ ap (entries input t) begun))) in
    subst (λ (d : Draft). OnOk c.write-4.result (draft_of c.write-4.new.self ≡ d)) same c.write-4.ensures
