use Rattle.std.proofs.Common.{◌≡◌, ◌++◌, refl, append_assoc}
use Rattle.std.specs.Prelude.{codes}
use Rattle.map_gen.specs.Make.{cell_text, ring_text}
use Rattle.map_gen.proofs.lattice.Lattice.write_cell.Goals as goal

pub returns-clause-value : goal.returns-clause-value
unfolding cell_text
returns-clause-value c =
    let first : c.extend_from_slice.new.self.items ≡ c.args.out.now.items ++ codes "{\"type\":\"Polygon\",\"arcs\":[" =
    c.in_ok-extend_from_slice.ensures.items in
    let ring : c.write_ring.new.out.items ≡ c.extend_from_slice.new.self.items
    ++ ring_text c.args.self.now.rows c.args.self.now.cols c.args.cell = c.in_ok-write_ring.ensures.value in
    let last : c.extend_from_slice-2.new.self.items ≡ c.write_ring.new.out.items ++ codes "]}" =
    c.in_ok-extend_from_slice-2.ensures.items in
    rw (last, ring, first) (simp append_assoc refl)
