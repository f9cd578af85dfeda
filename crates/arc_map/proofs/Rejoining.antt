-- The chains of an arc in memory, joined into it one after the other.
use Rattle.std.proofs.Common.{◌≡◌, ◌∙◌, ℕ, suc, ◌+◌, ◌-◌, ◌<◌, List, [], ◌∷◌, ◌++◌, cond, length, get_or, take, drop, ap, subst, arith}
use Rattle.std.proofs.Common.{drop-cons, append_assoc, length-append}
use Rattle.std.proofs.Common.{eq-eqb}
use Rattle.std.proofs.Common.{◌≢◌, ◌≤◌, false, nat_eq, map, set, slice_range, refl, sym, ne_eqb}
use Rattle.std.proofs.lemmas.List.{get_or_default, get_or-map, length-map, drop_all}
use Rattle.grid_exact.specs.Geometry.{Place}
use Rattle.grid_exact.specs.declared.frame.Frame.TheVariants.{Plain}
use Rattle.arc_map.specs.Live.{LiveChain, chain_of, IsPartOf}
use Rattle.arc_map.specs.Rejoin.{run_of, run_from, tails}
use Rattle.arc_map.specs.declared.work.Span.{Span}

pub run_of-cons : (number : ℕ) (c : LiveChain) (cs : List LiveChain) → c.place.arc ≡ number → run_of number (c ∷ cs) ≡ c ∷ run_of number cs
run_of-cons number c cs e = ap (λ b. cond b (c ∷ run_of number cs) []) (eq-eqb c.place.arc number e)

pub run_of-next : (number : ℕ) (cs : List LiveChain) (next : ℕ) (c d : LiveChain) → next < length cs → (get_or cs next c).place.arc ≡ number
    → run_of number (drop next cs) ≡ get_or cs next d ∷ run_of number (drop (next + 1) cs)
run_of-next number cs next c d inside arc =
    let first = drop-cons cs next d inside in
    let same = get_or_default cs next c d inside in
    let more : suc next ≡ next + 1 = omega arith in
    ap (run_of number) first
    ∙ run_of-cons number (get_or cs next d) (drop (suc next) cs) (subst (λ (x : LiveChain). x.place.arc ≡ number) same arc)
    ∙ ap (λ n. get_or cs next d ∷ run_of number (drop n cs)) more

-- one chain more is written
pub tails-written : (written : List Place) (c : LiveChain) (cs : List LiveChain)
    → (written ++ drop 1 c.vertices) ++ tails cs ≡ written ++ tails (c ∷ cs)
tails-written written c cs = append_assoc written (drop 1 c.vertices) (tails cs)

pub tails-length : (c : LiveChain) (cs : List LiveChain) → length (tails (c ∷ cs)) ≡ length (drop 1 c.vertices) + length (tails cs)
tails-length c cs = length-append (drop 1 c.vertices) (tails cs)

-- ---- the chains as parts of a list

-- what stands past the end of a list of parts
abbrev pub no_part : Span
no_part = record { place = record { arc = 0; «from» = 0; to = 0; frame = Plain }; start = 0; end = 0 }

pub run_of-other : (number : ℕ) (c : LiveChain) (cs : List LiveChain) → nat_eq c.place.arc number ≡ false → run_of number (c ∷ cs) ≡ []
run_of-other number c cs e = ap (λ b. cond b (c ∷ run_of number cs) []) e

pub run_from-end : (number start : ℕ) (vs : List Place) (ss : List Span) → start ≡ length ss → run_from number start vs ss ≡ []
run_from-end number start vs ss whole =
    ap (run_of number) (drop_all start (map (chain_of vs) ss) (omega (arith, length-map ss (chain_of vs))))

part_at : (vs : List Place) (ss : List Span) (k : ℕ) (d : LiveChain) → k < length ss
    → get_or (map (chain_of vs) ss) k d ≡ chain_of vs (get_or ss k no_part)
part_at vs ss k d inside = get_or-map (chain_of vs) ss k no_part d inside

pub run_from-other : (number start : ℕ) (vs : List Place) (ss : List Span) → start < length ss
    → (get_or ss start no_part).place.arc ≢ number → run_from number start vs ss ≡ []
run_from-other number start vs ss inside other =
    let c = chain_of vs (get_or ss start no_part) in
    let cs = map (chain_of vs) ss in
    let first = drop-cons cs start c (omega (arith, length-map ss (chain_of vs))) in
    ap (run_of number) (first ∙ ap (λ (d : LiveChain). d ∷ drop (suc start) cs) (part_at vs ss start c inside))
    ∙ run_of-other number c (drop (suc start) cs) (ne_eqb c.place.arc number other)

pub run_from-next : (number next : ℕ) (vs : List Place) (ss : List Span) → next < length ss
    → (get_or ss next no_part).place.arc ≡ number
    → run_from number next vs ss ≡ chain_of vs (get_or ss next no_part) ∷ run_from number (next + 1) vs ss
run_from-next number next vs ss inside arc =
    let c = chain_of vs (get_or ss next no_part) in
    let is = part_at vs ss next c inside in
    run_of-next number (map (chain_of vs) ss) next c c (omega (arith, length-map ss (chain_of vs)))
    (subst (λ (d : LiveChain). d.place.arc ≡ number) (sym is) arc)
    ∙ ap (λ (d : LiveChain). d ∷ run_from number (next + 1) vs ss) is

-- a part is its first position and the rest
pub part_opened : (vs : List Place) (s : Span) (d : Place) → IsPartOf vs s
    → (chain_of vs s).vertices ≡ get_or vs s.start d ∷ slice_range vs (s.start + 1) s.end
part_opened vs s d part =
    let some = part.some in
    let within = part.within in
    let more : s.end - s.start ≡ suc (s.end - (s.start + 1)) = omega arith in
    let next : suc s.start ≡ s.start + 1 = omega arith in
    ap (λ n. take n (drop s.start vs)) more
    ∙ ap (take (suc (s.end - (s.start + 1)))) (drop-cons vs s.start d (omega arith))
    ∙ ap (λ n. get_or vs s.start d ∷ take (s.end - (s.start + 1)) (drop n vs)) next

pub first_set : (ps : List Place) (p : Place) → 1 ≤ length ps → take 1 (set ps 0 p) ≡ p ∷ []
first_set [] p some = absurd (omega arith)
first_set (q ∷ qs) p some = refl
