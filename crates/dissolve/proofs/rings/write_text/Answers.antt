use Rattle.std.proofs.Common.{◌≡◌, ◌++◌, ℕ, List, map, refl, append_assoc}
use Rattle.std.specs.Prelude.{codes}
use Rattle.topo_writer.specs.Texts.{list_text}
use Rattle.dissolve.specs.Texts.{ring_text, rings_text}
use Rattle.dissolve.specs.Walk.{rings_of}
use Rattle.dissolve.proofs.rings.write_text.Goals as goal

pub returns : goal.returns
unfolding rings_text
returns c =
    let begun : c.extend_from_slice.new.self.items ≡ c.args.out.now.items ++ codes "{\"type\":\"MultiLineString\",\"arcs\":" =
    c.in_ok-extend_from_slice.ensures.items in
    let listed : c.write_rings.new.out.items ≡ c.extend_from_slice.new.self.items ++ list_text (map ring_text (rings_of c.args.rings.now)) =
    c.in_ok-write_rings.ensures in
    let ended : c.push.new.self.items ≡ c.write_rings.new.out.items ++ codes "}" = c.in_ok-push.ensures.items in
    rw (ended, listed, begun) (simp append_assoc (refl {A = List ℕ}))
