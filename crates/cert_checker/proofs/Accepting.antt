-- A record that is accepted keeps a path with fewest entries.
use Rattle.std.proofs.Common.{◌≡◌, ◌∙◌, ◌+◌, ◌-◌, ◌<◌, ℕ, suc, List, [], ◌∷◌, length, get_or, drop, sym, ap, subst, arith, add-one}
use Rattle.grid_exact.specs.Paths.{Certifies, IsPath, LeadsTo}
use Rattle.grid_exact.proofs.Certificates.{no_shorter}
use Rattle.arc_map.specs.Chains.{Chain, chain_at}
use Rattle.arc_map.specs.Records.{Record}
use Rattle.arc_map.specs.Work.{AreKeptIn}
use Rattle.cert_checker.specs.Judged.{AllowedIn, AreSteps, IsAccepted}
use Rattle.cert_checker.specs.Laws.{AcceptedKeepFewest, KeepsFewest}

leads_along : (Pair : ℕ → ℕ → Type 0) (m x : ℕ) (xs : List ℕ) → ((s : ℕ) → suc s < length (x ∷ xs)
    → get_or (x ∷ xs) s 0 < get_or (x ∷ xs) (suc s) 0) → ((s : ℕ) → suc s < length (x ∷ xs)
    → Pair (get_or (x ∷ xs) s 0) (get_or (x ∷ xs) (suc s) 0)) → get_or (x ∷ xs) (length xs) 0 ≡ m → LeadsTo Pair m x xs
leads_along Pair m x [] rising steps last = last
leads_along Pair m x (y ∷ ys) rising steps last = (
  rising 0 (omega arith),
  steps 0 (omega arith),
  leads_along Pair m y ys (λ s within. rising (suc s) (omega (arith, within))) (λ s within. steps (suc s) (omega (arith, within))) last,
)

-- what rises from 0 to m by steps of the set is a path
pub path_from : (Pair : ℕ → ℕ → Type 0) (k : Chain) (path : List ℕ) → AreKeptIn k path → AreSteps Pair path
    → IsPath Pair (length k.rest) path
path_from Pair k [] kept steps = absurd (omega (arith, kept.some))
path_from Pair k (x ∷ xs) kept steps = (kept.first, subst (λ n. LeadsTo Pair (length k.rest) n xs) kept.first leads)
  where
    leads : LeadsTo Pair (length k.rest) x xs
    leads = leads_along Pair (length k.rest) x xs
        (λ s within. let e : s + 1 ≡ suc s = add-one s in subst (λ n. get_or (x ∷ xs) s 0 < get_or (x ∷ xs) n 0) e
        (kept.rising s (omega (arith, within))))
        (λ s within. let e : s + 1 ≡ suc s = add-one s in subst (λ n. Pair (get_or (x ∷ xs) s 0) (get_or (x ∷ xs) n 0)) e
        (steps s (omega (arith, within))))
        (let e : length (x ∷ xs) - 1 ≡ length xs = omega arith in ap (λ n. get_or (x ∷ xs) n 0) (sym e) ∙ kept.last)

-- the steps after the first vertex
pub leads_from : (Pair : ℕ → ℕ → Type 0) (m : ℕ) (path : List ℕ) → IsPath Pair m path → LeadsTo Pair m 0 (drop 1 path)
leads_from Pair m [] none = absurd none
leads_from Pair m (x ∷ xs) path = path.1

keep_fewest : (Pair : ℕ → ℕ → Type 0) (k : Chain) (r : Record) → IsAccepted Pair k r → KeepsFewest Pair (length k.rest) r
keep_fewest Pair k r h =
    let sure : Certifies Pair (length k.rest) (length r.kept - 1) r.layers =
    record { count = h.ends.count; last = h.ends.last; start = h.ends.start; falls = h.falls } in
    record {
      path = path_from Pair k r.kept h.kept h.steps;
      fewest = λ other path. omega (arith, h.kept.some, no_shorter Pair (length k.rest) (length r.kept - 1) r.layers other sure path);
    }

pub accepted_keep_fewest : AcceptedKeepFewest
accepted_keep_fewest d points chains k r h = keep_fewest (AllowedIn d points chains k) (chain_at chains k) r h
