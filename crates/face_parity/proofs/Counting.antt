-- Counts and parities of crossed edges, one edge after another.
use Rattle.std.proofs.Common.{◌≡◌, ℕ, suc, ◌+◌, ◌<◌, Bool, true, false, List, [], ◌∷◌, length, get_or, drop, sym, subst, arith, add-one}
use Rattle.std.proofs.Common.{drop-cons}
use Rattle.std.specs.Prelude.{if◌then◌else◌}
use Rattle.grid_exact.specs.Geometry.{Place}
use Rattle.grid_exact.specs.Walks.{count_edges, differ}
use Rattle.grid_exact.proofs.Walks.{differ_assoc}
use Rattle.arc_map.specs.Arcs.{is_list_crossed_oddly, is_inside_of}

count-cons : (test : Place → Place → Bool) (v w : Place) (ws : List Place)
    → count_edges test v (w ∷ ws) ≡ (if test v w then 1 else 0) + count_edges test w ws
count-cons test v w ws = elim (test v w) as (λ b.
    (elim b as (λ _. ℕ) [ true ↦ suc (count_edges test w ws) | false ↦ count_edges test w ws ])
    ≡ (if b then 1 else 0) + count_edges test w ws) [ true ↦ omega arith | false ↦ omega arith ]

pub count-at : (test : Place → Place → Bool) (v d : Place) (ws : List Place) (i : ℕ) → i < length ws
    → count_edges test v (drop i ws) ≡ (if test v (get_or ws i d) then 1 else 0) + count_edges test (get_or ws i d) (drop (i + 1) ws)
count-at test v d ws i h = rw (add-one, drop-cons ws i d h) (count-cons test v (get_or ws i d) (drop (suc i) ws))

pub count-next : (test : Place → Place → Bool) (v w : Place) (ws : List Place) (i : ℕ) → i < length ws → w ≡ get_or ws i w
    → count_edges test v (drop i ws) ≡ (if test v w then 1 else 0) + count_edges test w (drop (i + 1) ws)
count-next test v w ws i h e = subst (λ z. count_edges test v (drop i ws)
    ≡ (if test v z then 1 else 0) + count_edges test z (drop (i + 1) ws)) (sym e) (count-at test v w ws i h)

pub inside-at : (p : Place) (arcs : List (List Place)) (odd : Bool) (refs : List ℕ) (i : ℕ) → i < length refs
    → differ (differ odd (is_list_crossed_oddly p (get_or arcs (get_or refs i 0) []))) (is_inside_of p arcs (drop (i + 1) refs))
    ≡ differ odd (is_inside_of p arcs (drop i refs))
inside-at p arcs odd refs i h = rw (add-one, drop-cons refs i 0 h)
    (sym (differ_assoc odd (is_list_crossed_oddly p (get_or arcs (get_or refs i 0) [])) (is_inside_of p arcs (drop (suc i) refs))))
