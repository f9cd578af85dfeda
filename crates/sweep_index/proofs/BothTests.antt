-- A test after a test that passed.
use Rattle.std.proofs.Common.{◌≡◌, ◌∙◌, sym, ap, Bool, true, ◌&&◌}

pub and_first : (a b r : Bool) → a ≡ true → r ≡ b → r ≡ (a && b)
and_first a b r passes same = same ∙ ap (λ x. x && b) (sym passes)
