-- Laws of two truth values.
use Rattle.std.proofs.Common.{◌≡◌, ◌∙◌, ℕ, zero, suc, ◌+◌, Bool, true, false, refl, sym, ap, arith}
use Rattle.std.specs.Prelude.{not, ◌&&◌}
use Rattle.grid_exact.specs.Walks.{is_odd, differ}
use Rattle.grid_exact.proofs.Walks.{differ_itself}

-- what is counted twice drops out
pub differ-between : (a b c : Bool) → differ (differ a b) (differ c a) ≡ differ c b
differ-between true true true = refl
differ-between true true false = refl
differ-between true false true = refl
differ-between true false false = refl
differ-between false true true = refl
differ-between false true false = refl
differ-between false false true = refl
differ-between false false false = refl

-- a part is what the other part leaves of the whole
pub differ-part : (a b whole : Bool) → whole ≡ differ a b → b ≡ differ a whole
differ-part true true true is = is
differ-part true true false is = refl
differ-part true false true is = refl
differ-part true false false is = is
differ-part false b whole is = sym is

pub and-true : (a : Bool) → (a && true) ≡ a
and-true true = refl
and-true false = refl

pub and-false : (a : Bool) → (a && false) ≡ false
and-false true = refl
and-false false = refl

pub odd-sum : (a b : ℕ) → is_odd (a + b) ≡ differ (is_odd a) (is_odd b)
odd-sum zero b = let e : 0 + b ≡ b = omega arith in ap is_odd e
odd-sum (suc a) b =
    let e : suc a + b ≡ suc (a + b) = omega arith in
    ap is_odd e ∙ ap not (odd-sum a b) ∙ not-differ (is_odd a) (is_odd b)
  where
    not-differ : (x y : Bool) → not (differ x y) ≡ differ (not x) y
    not-differ true true = refl
    not-differ true false = refl
    not-differ false y = refl

not-odd : (n : ℕ) → is_odd (n + n) ≡ false
not-odd n = odd-sum n n ∙ differ_itself (is_odd n)

pub odd-even : (n half : ℕ) → n ≡ half + half → is_odd n ≡ false
odd-even n half is = ap is_odd is ∙ not-odd half
