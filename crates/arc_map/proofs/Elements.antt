-- What holds of each element of a mapped list, at the element of one place.
use Rattle.std.proofs.Common.{◌≡◌, ◌∙◌, ℕ, ◌<◌, ◌≤◌, List, All, map, length, get_or, sum_by, subst, sym, ap, arith}
use Rattle.std.proofs.lemmas.List.{get_or-map}
use Rattle.std.proofs.lemmas.List.Sums.{get_or-le-sum_by}
use Rattle.std.proofs.Math.ListN.{length-map}

pub mapped-at : {X Y : Type 0} (f : X → Y) (xs : List X) (k : ℕ) (x : X) (d : Y) → k < length xs → x ≡ get_or xs k x
    → get_or (map f xs) k d ≡ f x
mapped-at f xs k x d lt e = get_or-map f xs k x d lt ∙ ap f (sym e)

pub of_mapped : {X Y : Type 0} (P : Y → Type 0) (f : X → Y) (xs : List X) (k : ℕ) (x : X) → k < length (map f xs) → x ≡ get_or xs k x
    → All P (map f xs) → P (f x)
of_mapped P f xs k x lt e all = subst P (mapped-at f xs k x (f x) (omega (arith, length-map xs f)) e) (all k (f x) lt)

pub mapped_within_sum : {X Y : Type 0} (g : Y → ℕ) (f : X → Y) (xs : List X) (k : ℕ) (x : X) → k < length (map f xs) → x ≡ get_or xs k x
    → g (f x) ≤ sum_by g (map f xs)
mapped_within_sum g f xs k x lt e = subst (λ y. g y ≤ sum_by g (map f xs)) (mapped-at f xs k x (f x) (omega (arith, length-map xs f)) e)
    (get_or-le-sum_by g (map f xs) k (f x) lt)

pub of_item : {X : Type 0} (P : X → Type 0) (xs : List X) (k : ℕ) (x : X) → k < length xs → x ≡ get_or xs k x → All P xs → P x
of_item P xs k x lt e all = subst P (sym e) (all k x lt)
