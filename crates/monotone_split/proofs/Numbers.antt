-- Paths by the numbers of the vertices.
use Rattle.std.proofs.Common.{◌≡◌, ℕ, ℤ, suc, ◌+◌, ◌<◌, List, [], ◌∷◌, ◌++◌, length, map, take, drop, get_or, refl, sym, ap, ◌∙◌, arith}
use Rattle.std.proofs.Common.{drop-cons}
use Rattle.std.proofs.lemmas.List.{take-append-drop, append_cancel_left, drop_all}
use Rattle.std.proofs.lemmas.List.Edits.{split_between}
use Rattle.std.specs.List.{between}
use Rattle.std.specs.Prelude.{Contains}
use Rattle.grid_exact.specs.Geometry.{Place}
use Rattle.grid_exact.specs.Paths.{LeadsTo}
use Rattle.grid_exact.proofs.Certificates.{LeadsTo-below}
use Rattle.arc_map.specs.Vertices.{Vertex}
use Rattle.arc_map.specs.Allowed.{IsAllowed, IsPath}
use Rattle.arc_map.specs.Chains.{Chain, chain_at, IsOtherEdge, IsWithinBound, IsPathIn}
use Rattle.arc_map.specs.Paths.{vertices_of, IsAllowedPair, vertices_at}
use Rattle.monotone_split.specs.Laws.{PathByNumbersKeepsMap}
use Rattle.monotone_split.proofs.Maps.{keeps_map}

-- what is left past i, cut at j
cut_at : (vs : List Vertex) (i j : ℕ) (d : Vertex) → i < j → j < length vs
    → drop (suc i) vs ≡ between (i + 1) j vs ++ get_or vs j d ∷ drop (suc j) vs
cut_at vs i j d ij within =
    let whole : vs ≡ take (suc i) vs ++ (between (suc i) j vs ++ drop j vs) = split_between vs (suc i) j (omega arith) in
    let past : drop (suc i) vs ≡ between (suc i) j vs ++ drop j vs =
    append_cancel_left (take (suc i) vs) (drop (suc i) vs) (between (suc i) j vs ++ drop j vs) (take-append-drop (suc i) vs ∙ whole) in
    let more : i + 1 ≡ suc i = omega arith in
    past
    ∙ ap (λ (us : List Vertex). between (suc i) j vs ++ us) (drop-cons vs j d within)
    ∙ ap (λ (n : ℕ). between n j vs ++ get_or vs j d ∷ drop (suc j) vs) (sym more)

path_by_numbers : (Allowed : Vertex → List Vertex → Vertex → Type 0) (vs : List Vertex) (d : Vertex) (m i : ℕ) (js : List ℕ)
    → length vs ≡ suc m → LeadsTo (λ i j. Allowed (get_or vs i d) (between (i + 1) j vs) (get_or vs j d)) m i js
    → IsPath Allowed (get_or vs i d) (drop (suc i) vs) (map (λ j. get_or vs j d) js)
path_by_numbers Allowed vs d m i [] size path = drop_all (suc i) vs (omega arith)
path_by_numbers Allowed vs d m i (j ∷ js) size path =
    let ij = path.0 in let jm = LeadsTo-below (λ i j. Allowed (get_or vs i d) (between (i + 1) j vs) (get_or vs j d)) m j js path.2 in
    (between (i + 1) j vs, drop (suc j) vs, cut_at vs i j d path.0 (omega arith), path.1, path_by_numbers Allowed vs d m j js size path.2)

-- a path by numbers is a path
pub path_in : (wx wy bound : ℤ) (chains : List Chain) (points : List Place) (k : ℕ) (numbers : List ℕ)
    → LeadsTo (IsAllowedPair (IsWithinBound wx wy bound) chains points k) (length (chain_at chains k).rest) 0 numbers
    → IsPathIn (IsWithinBound wx wy bound) chains points k (vertices_at (chain_at chains k) numbers)
path_in wx wy bound chains points k numbers path = path_by_numbers
    (IsAllowed (IsWithinBound wx wy bound) (IsOtherEdge chains k) (Contains points)) (vertices_of (chain_at chains k))
    (chain_at chains k).first (length (chain_at chains k).rest) 0 numbers refl path

pub path_by_numbers_keeps_map : PathByNumbersKeepsMap
path_by_numbers_keeps_map wx wy bound chains points k numbers within are clear path =
    keeps_map wx wy bound chains points k (vertices_at (chain_at chains k) numbers) within are clear
    (path_in wx wy bound chains points k numbers path)
