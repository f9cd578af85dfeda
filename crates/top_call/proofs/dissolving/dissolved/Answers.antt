-- The text is refused, a polygon is missing, or the border was written.
use Rattle.std.proofs.Common.{◌∙◌, inr, subst, sym}
use Rattle.std.specs.Prelude.{List, ℕ}
use Rattle.std.proofs.lemmas.Result.{err_from_is_err_and}
use Rattle.top_call.specs.Words.{polygons_in}
use Rattle.top_call.specs.Maps.{topology_in}
use Rattle.top_call.specs.Answers.{IsBorderText}
use Rattle.top_call.proofs.Borders.{border_refused, border_missed, dissolved_by}
use Rattle.top_call.proofs.dissolving.dissolved.Goals as goal

pub returns-in_err-loaded-clause-refused : goal.returns-in_err-loaded-clause-refused
returns-in_err-loaded-clause-refused c =
    let p = err_from_is_err_and c.from_residual.result c.from_residual.ensures.1 in
    rw (p.1, p.2) (border_refused c.no_options.result (polygons_in c.args.list.now) c.args.text.now c.in_err-loaded.field-0.0
    c.no_options.ensures c.in_err-loaded.ensures.refused)

pub returns-in-Some-clause-refused : goal.returns-in-Some-clause-refused
returns-in-Some-clause-refused c =
    inr (border_missed c.no_options.result (polygons_in c.args.list.now) c.args.text.now
    (topology_in c.in_ok-loaded.loaded) c.in_ok-loaded.loaded.partly.held c.map-map.result.now c.polygon_count.result c.deref.result.now
    c.in-Some.polygon
    (record {
      is_plain = c.no_options.ensures;
      loaded = c.in_ok-loaded.ensures.loaded;
      map_is = c.map-map.ensures.same;
      count_is =
          c.polygon_count.ensures.value;
      numbers_are = c.deref.ensures.value ∙ c.in_ok-polygons.ensures;
    })
    c.in-Some.ensures)

pub returns-clause-written : goal.returns-clause-written
returns-clause-written c =
    let same = c.deref-2.ensures.value ∙ sym c.deref.ensures.value in
    dissolved_by c.no_options.result (polygons_in c.args.list.now) c.args.text.now
    (topology_in c.in_ok-loaded.loaded) c.in_ok-loaded.loaded.partly.held c.map-map.result.now c.polygon_count.result c.deref.result.now
    c.in_ok-border_text.field-0.items
    (record {
      is_plain = c.no_options.ensures;
      loaded = c.in_ok-loaded.ensures.loaded;
      map_is = c.map-map.ensures.same;
      count_is =
          c.polygon_count.ensures.value;
      numbers_are = c.deref.ensures.value ∙ c.in_ok-polygons.ensures;
    })
    c.in_default.ensures (subst (λ (ns : List ℕ). IsBorderText c.map-map.result.now ns c.in_ok-border_text.field-0.items) same
    c.in_ok-border_text.ensures)
