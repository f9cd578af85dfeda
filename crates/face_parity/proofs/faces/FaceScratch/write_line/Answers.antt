use Rattle.std.proofs.Common.{◌≡◌, ◌∙◌, ◌++◌, [], false, get_or, filter, length, ap, refl}
use Rattle.std.specs.Prelude.{codes, decimal}
use Rattle.std.specs.Fmt.{signed_decimal}
use Rattle.std.proofs.lemmas.Option.{get_or_from_slice_get}
use Rattle.arc_map.specs.Arranged.{nowhere}
use Rattle.face_parity.specs.Lines.{line_of, numbers_text, faces_of}
use Rattle.face_parity.specs.Tally.{is_odd_at}
use Rattle.face_parity.proofs.Found.{odd-faces}
use Rattle.face_parity.proofs.faces.FaceScratch.write_line.Goals as goal

pub returns-clause-line : goal.returns-clause-line
unfolding line_of
returns-clause-line c =
    let m = c.args.topology.now in
    let p = c.point-p.result in
    let t = c.sort.new.self in
    let here : get_or m.points c.args.k nowhere ≡ p = get_or_from_slice_get m.points c.args.k p nowhere c.point-p.ensures in
    let empty : c.clear-2.new.self.items ≡ [] = c.clear-2.ensures.items in
    let point : c.write_point.new.text.items ≡ c.clear-2.new.self.items ++ codes "point " ++ decimal c.args.k ++ codes " "
    ++ signed_decimal p.x ++ codes " " ++ signed_decimal p.y ++ codes " in" = c.write_point.ensures.value in
    let count : length t.odd.items ≡ length m.polygons = ap length c.sort.ensures.odd ∙ c.turn_crossed.ensures.polygons
    ∙ c.clear.ensures.count ∙ c.requires.scratch.polygons in
    let odd : filter (is_odd_at t) t.turned.items ≡ faces_of m p =
    odd-faces m p t c.sort.ensures.tally c.sort.ensures.rising count (λ k low. ap (λ odd. get_or odd k false) c.sort.ensures.odd
    ∙ c.turn_crossed.ensures.odd k low) in
    let faces : c.write_faces.new.text.items ≡ c.write_point.new.text.items ++ numbers_text (faces_of m p) = c.write_faces.ensures.value
    ∙ ap (λ ns. c.write_point.new.text.items ++ numbers_text ns) odd in
    let last : c.put.new.text.items ≡ c.write_faces.new.text.items ++ codes "\n" = c.put.ensures.value in
    rw (last, faces, point, empty, here) refl
