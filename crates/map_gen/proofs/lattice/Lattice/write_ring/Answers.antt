use Rattle.std.proofs.Common.{◌≡◌, ℕ, List, ◌+◌, ◌++◌, ap, ◌∙◌, rules}
use Rattle.std.specs.Prelude.{codes, pos, negsuc}
use Rattle.std.specs.Fmt.{signed_decimal}
use Rattle.map_gen.specs.Make.{ring_text, left_side}
use Rattle.map_gen.proofs.Lists.{four-joined}
use Rattle.map_gen.proofs.lattice.Lattice.write_ring.Goals as goal

pub returns-clause-value : goal.returns-clause-value
unfolding ring_text
returns-clause-value c =
    let rows = c.args.self.now.rows in
    let cols = c.args.self.now.cols in
    let e0 : c.push.new.self.items ≡ c.args.out.now.items ++ codes "[" = c.in_ok-push.ensures.items in
    let e1 : c.write_number.new.out.items ≡ c.push.new.self.items ++ signed_decimal (pos c.args.cell) = search rules in
    let e2 : c.push-2.new.self.items ≡ c.write_number.new.out.items ++ codes "," = c.in_ok-push-2.ensures.items in
    let e3 : c.write_number-2.new.out.items ≡ c.push-2.new.self.items ++ signed_decimal (pos (left_side rows cols c.args.cell + 1)) =
    search rules in
    let e4 : c.push-3.new.self.items ≡ c.write_number-2.new.out.items ++ codes "," = c.in_ok-push-3.ensures.items in
    let e5 : c.write_number-3.new.out.items ≡ c.push-3.new.self.items ++ signed_decimal (negsuc (c.args.cell + cols)) = search rules in
    let e6 : c.push-4.new.self.items ≡ c.write_number-3.new.out.items ++ codes "," = c.in_ok-push-4.ensures.items in
    let e7 : c.write_number-4.new.out.items ≡ c.push-4.new.self.items ++ signed_decimal (negsuc (left_side rows cols c.args.cell)) =
    search rules in
    let e8 : c.push-5.new.self.items ≡ c.write_number-4.new.out.items ++ codes "]" = c.in_ok-push-5.ensures.items in
    let joined = four-joined c.args.out.now.items (signed_decimal (pos c.args.cell))
    (signed_decimal (pos (left_side rows cols c.args.cell + 1))) (signed_decimal (negsuc (c.args.cell + cols)))
    (signed_decimal (negsuc (left_side rows cols c.args.cell))) in
    e8 ∙ ap (λ (w : List ℕ). w ++ codes "]") (e7 ∙ ap (λ (w : List ℕ). w ++ signed_decimal (negsuc (left_side rows cols c.args.cell))) (e6
    ∙ ap (λ (w : List ℕ). w ++ codes ",") (e5 ∙ ap (λ (w : List ℕ). w ++ signed_decimal (negsuc (c.args.cell + cols))) (e4
    ∙ ap (λ (w : List ℕ). w ++ codes ",") (e3 ∙ ap (λ (w : List ℕ). w ++ signed_decimal (pos (left_side rows cols c.args.cell + 1))) (e2
    ∙ ap (λ (w : List ℕ). w ++ codes ",") (e1 ∙ ap (λ (w : List ℕ). w ++ signed_decimal (pos c.args.cell)) e0))))))) ∙ joined
