-- What a run writes of a text within its limit is within the limit of OUT.
use Rattle.std.proofs.Common.{◌≡◌, ℕ, suc, ℤ, ◌<◌, ◌≤◌, ◌^◌, List, [], ◌∷◌, All, length, get_or, sum_by, ap, subst, arith}
use Rattle.std.proofs.lemmas.List.Sums.{sum_by-cons}
use Rattle.grid_exact.specs.Geometry.{Place, IsGridNumber, IsOnGrid}
use Rattle.grid_exact.specs.Weights.{StaysOnGrid}
use Rattle.grid_exact.proofs.WholeLaws.{one-*ℤ}
use Rattle.arc_map.specs.Map.{Map}
use Rattle.topo_writer.specs.ArcsText.{arcs_text_of}
use Rattle.topo_writer.specs.Fits.{FitsIn}
use Rattle.top_call.specs.declared.forms.Options.{Options}
use Rattle.top_call.specs.Answers.{terms_of, IsSimplified}
use Rattle.top_call.specs.Maps.{ones}
use Rattle.top_call.specs.Requests.{AreWeights}
use Rattle.top_call.proofs.ArcsLeft.{outcome_has_arcs}
use Rattle.top_call.proofs.ArcsValue.{arcs_lie_in}
use Rattle.top_call.proofs.FacesAlike.{stay_unweighed, fitting_stay}
use Rattle.top_call.proofs.OutcomeFits.{outcome_fits}
use Rattle.top_call.proofs.ReadMaps.{read_map_is_map}
use Rattle.top_call.proofs.ShortTexts.{arcs_text_fits, spliced_fits}

-- weights of 1 change nothing
on_grid : (p : Place) → StaysOnGrid ones p → IsOnGrid p
on_grid p stays = record { across = subst IsGridNumber (one-*ℤ p.x) stays.across; up = subst IsGridNumber (one-*ℤ p.y) stays.up }

-- as many lists, each no longer, are no longer in sum
sum_is_less : (xs ys : List (List Place)) → length ys ≡ length xs
    → ((k : ℕ) → k < length xs → length (get_or ys k []) ≤ length (get_or xs k [])) → sum_by length ys ≤ sum_by length xs
sum_is_less [] [] same shorter = omega arith
sum_is_less [] (y ∷ ys) same shorter = absurd (omega (arith, same))
sum_is_less (x ∷ xs) [] same shorter = absurd (omega (arith, same))
sum_is_less (x ∷ xs) (y ∷ ys) same shorter =
    let first : length y ≤ length x = shorter 0 (omega arith) in
    let rest = sum_is_less xs ys (omega (arith, same)) (λ k below. shorter (suc k) (omega (arith, below))) in
    omega (arith, first, rest, sum_by-cons length x xs, sum_by-cons length y ys)

fitting_is_less : (m new : Map) → FitsIn m new → sum_by length new.arcs ≤ sum_by length m.arcs
fitting_is_less m new fits = sum_is_less m.arcs new.arcs fits.count (λ k below. (fits.arcs k below).short)

pub simplified_is_short : (options : Options) (bound : ℤ) (text bytes : List ℕ) → AreWeights options.weights → length text ≤ 2 ^ 26
    → IsSimplified options bound text bytes → length bytes ≤ 2 ^ 27
simplified_is_short options bound text bytes weights short is =
    let m = is.topology.map in
    let loaded = is.run.loaded in
    let were = read_map_is_map text is.topology loaded.topology in
    let fits = outcome_fits m (terms_of options bound is.held) is.after is.records were.arcs is.run.outcome in
    let are = outcome_has_arcs m (terms_of options bound is.held) is.after is.records were.arcs is.run.outcome in
    let stay = fitting_stay ones m is.after fits (stay_unweighed options.weights m.arcs weights loaded.weights) in
    let on : All (All IsOnGrid) is.after.arcs = λ arc d within at e inside. on_grid _ (stay arc d within at e inside) in
    let arcs = arcs_text_fits is.after are on (omega (arith, were.few_positions, fitting_is_less m is.after fits)) in
    let place = arcs_lie_in text is.topology loaded.topology in
    omega (
      arith,
      ap length is.written,
      spliced_fits text (arcs_text_of is.after) is.topology.arcs_at.start is.topology.arcs_at.end
          place.forwards place.within,
      arcs,
      short,
    )
