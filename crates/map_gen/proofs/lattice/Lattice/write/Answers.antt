use Rattle.std.proofs.Common.{◌≡◌, ◌*◌, ◌++◌, refl, append_assoc}
use Rattle.std.specs.Prelude.{codes}
use Rattle.map_gen.specs.Make.{made, list_of, cell_text, town_text, wavy_text, across_count, arc_count}
use Rattle.map_gen.proofs.lattice.Lattice.write.Goals as goal

pub returns-clause-value : goal.returns-clause-value
unfolding made
returns-clause-value c =
    let rows = c.args.self.now.rows in
    let cols = c.args.self.now.cols in
    let seed = c.args.self.now.seed in
    let e0 : c.extend_from_slice.new.self.items ≡ c.args.out.now.items
    ++ codes "{\"type\":\"Topology\",\"objects\":{\"cells\":{\"type\":\"GeometryCollection\",\"geometries\":" =
    c.in_ok-extend_from_slice.ensures.items in
    let e1 : c.write_cells.new.out.items ≡ c.extend_from_slice.new.self.items ++ list_of (cell_text rows cols) (rows * cols) =
    c.in_ok-write_cells.ensures.value in
    let e2 : c.extend_from_slice-2.new.self.items ≡ c.write_cells.new.out.items
    ++ codes "},\"towns\":{\"type\":\"MultiPoint\",\"coordinates\":" = c.in_ok-extend_from_slice-2.ensures.items in
    let e3 : c.write_towns.new.out.items ≡ c.extend_from_slice-2.new.self.items
    ++ list_of (town_text rows cols seed) (across_count rows cols) = c.in_ok-write_towns.ensures.value in
    let e4 : c.extend_from_slice-3.new.self.items ≡ c.write_towns.new.out.items ++ codes "}},\"arcs\":" =
    c.in_ok-extend_from_slice-3.ensures.items in
    let e5 : c.write_arcs.new.out.items ≡ c.extend_from_slice-3.new.self.items ++ list_of (wavy_text rows cols seed) (arc_count rows cols) =
    c.in_ok-write_arcs.ensures.value in
    let e6 : c.push.new.self.items ≡ c.write_arcs.new.out.items ++ codes "}" = c.in_ok-push.ensures.items in
    rw (e6, e5, e4, e3, e2, e1, e0) (simp append_assoc refl)
