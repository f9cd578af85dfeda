use Rattle.std.proofs.Common.{◌≡◌, ◌++◌, ℕ, List, map, refl, append_assoc}
use Rattle.std.specs.Prelude.{codes}
use Rattle.std.specs.Fmt.{signed_decimal}
use Rattle.topo_writer.specs.Texts.{list_text}
use Rattle.pyramid.specs.Places.{lists_of}
use Rattle.pyramid.specs.Texts.{numbers_text, ranks_text}
use Rattle.pyramid.proofs.text.write_text.Goals as goal

pub returns : goal.returns
unfolding ranks_text
returns c =
    let begun : c.extend_from_slice.new.self.items ≡ c.args.out.now.items ++ codes "{\"bounds\":" =
    c.in_ok-extend_from_slice.ensures.items in
    let first : c.write_bounds.new.out.items ≡ c.extend_from_slice.new.self.items ++ list_text (map signed_decimal c.args.bounds.now) =
    c.in_ok-write_bounds.ensures in
    let between : c.extend_from_slice-2.new.self.items ≡ c.write_bounds.new.out.items ++ codes ",\"ranks\":" =
    c.in_ok-extend_from_slice-2.ensures.items in
    let second : c.write_ranks.new.out.items ≡ c.extend_from_slice-2.new.self.items
    ++ list_text (map numbers_text (lists_of c.args.ranks.now)) = c.in_ok-write_ranks.ensures in
    let ended : c.push.new.self.items ≡ c.write_ranks.new.out.items ++ codes "}" = c.in_ok-push.ensures.items in
    rw (ended, second, between, first, begun) (simp append_assoc (refl {A = List ℕ}))
